-- How many pieces a layer has where nothing is under way, and so how many may still be added.
use Rattle.std.proofs.Common.{◌≡◌, ℕ, zero, suc, ◌+◌, ◌-◌, ◌*◌, ◌<◌, ◌≤◌, ◌==◌, nat_lt, not, ◌&&◌, Bool, true, false, cond, List, [], ◌∷◌, length, refl, sym, ◌∙◌, ap, subst, inl, inr, arith}
use Rattle.std.proofs.lemmas.Bool.{and_parts, cases_eq, cond-true, cond-false, eq-eqb, eqb-true, ne_eqb, lt-ltb, le-ltb, false_from_ne_true, false≢true}
use Rattle.cckd_shelf.specs.World.{World, file_of}
use Rattle.cckd_base.specs.declared.geometry.Layout.{Layout}
use Rattle.cckd_base.specs.declared.space.Extent.{Extent}
use Rattle.cckd_base.specs.Geometry.{track_count}
use Rattle.cckd_base.specs.Entry.{word_at, entry_at}
use Rattle.cckd_space.specs.declared.piece.Kind.{Kind}
use Rattle.cckd_space.specs.declared.piece.Kind.TheVariants.{Used, Free, Reserved, Leaving, Pending}
use Rattle.cckd_space.specs.declared.piece.Piece.{Piece}
use Rattle.cckd_space.specs.Pieces.{Has, taken_kind, pending_kind, is_taken, is_pending, used_piece, counted, IsLaid}
use Rattle.cckd_space.specs.Plan.{Plan}
use Rattle.cckd_space.proofs.CallerLemmas.{laid_has}
use Rattle.cckd_space.proofs.CountLemmas.{one}
use Rattle.cckd_space.proofs.SpareLemmas.{pieces_bound}
use Rattle.cckd_tables.specs.Staging.{Stages}
use Rattle.cckd_layer.specs.Current.{IsInUse, IsReplaced, IsPlaced, Current}
use Rattle.cckd_layer.specs.Stands.{nothing_staged}
use Rattle.cckd_layer.specs.Mounted.{LayerState, reserve, IsRoomy}
use Rattle.cckd_layer.specs.Writes.{Agrees}

-- ---- how many pieces pass a test

-- none, where no piece does
none_counted : (test : Piece → Bool) (ps : List Piece) → ((p : Piece) → Has p ps → test p ≡ true → ⊥) → counted test ps ≡ 0
none_counted test [] none = refl
none_counted test (p ∷ ps) none =
    let r = none_counted test ps (λ q h. none q (inr h)) in
    let z = ap one (false_from_ne_true (test p) (none p (inl refl))) in
    omega (arith, r, z)

-- at most one stands at a place
one_counted : (pos at : ℕ) (ps : List Piece) (end : ℕ) → IsLaid at ps end → counted (λ p. p.pos == pos) ps ≤ 1
one_counted pos at [] end laid = omega arith
one_counted pos at (p ∷ ps) end laid = elim (cases_eq p.pos pos) [
  | inl here ↦
      let n = none_counted (λ q. q.pos == pos) ps (λ q h t.
      let far = laid_has (at + p.size) ps end q laid.2 h in
      let there = eqb-true q.pos pos t in
      omega (arith, far, there, here, laid.0.place, laid.0.some)) in
      let z = ap one (eq-eqb p.pos pos here) in
      omega (arith, n, z)
  | inr away ↦
      let r = one_counted pos (at + p.size) ps end laid.2 in
      let z = ap one (ne_eqb p.pos pos away) in
      omega (arith, r, z)
]

-- no more pass a test than pass two others together, where each that passes it passes one of them
split_counted : (a b c : Piece → Bool) → ((p : Piece) → one (a p) ≤ one (b p) + one (c p)) → (ps : List Piece) → counted a ps ≤ counted b ps + counted c ps
split_counted a b c each [] = omega arith
split_counted a b c each (p ∷ ps) = let r = split_counted a b c each ps in let e = each p in omega (arith, r, e)

here_or_not : (t h : Bool) → one t ≤ one (t && not h) + one h
here_or_not true true = omega arith
here_or_not true false = omega arith
here_or_not false h = omega arith

-- no more pass a test than there are places, where each that passes stands at one of these
pub places_bound : (place : ℕ → ℕ) (n : ℕ) (test : Piece → Bool) (ps : List Piece) (end : ℕ) → IsLaid 0 ps end
    → ((p : Piece) → Has p ps → test p ≡ true → (c : ℕ) × (c < n) × (p.pos ≡ place c)) → counted test ps ≤ n
places_bound place zero test ps end laid at = let z = none_counted test ps (λ p h t. let r = at p h t in omega (arith, r.1)) in omega (arith, z)
places_bound place (suc n) test ps end laid at =
    let rest : Piece → Bool = λ p. test p && not (p.pos == place n) in
    let few = places_bound place n rest ps end laid (λ p h t.
    let both = and_parts (test p) (not (p.pos == place n)) t in
    let r = at p h both.0 in
    let away : r.0 ≡ n → ⊥ = λ e. (let s : (p.pos == place n) ≡ true = eq-eqb p.pos (place n) (r.2 ∙ ap place e) in let g : false ≡ true = sym (ap not s) ∙ both.1 in cc) in
    elim (cases_eq r.0 n) [ inl e ↦ absurd (away e) | inr e ↦ (r.0, omega (arith, r.1, e), r.2) ]) in
    let last = one_counted (place n) 0 ps end laid in
    let s = split_counted test rest (λ p. p.pos == place n) (λ p. here_or_not (test p) (p.pos == place n)) ps in
    omega (arith, few, last, s)

-- ---- the spaces in use

-- the places of the header area, the tables and the stored bytes of a file, by number
place_by : Layout → List ℕ → ℕ → ℕ
place_by l file n = cond (n == 0) 0 (cond (nat_lt l.groups n) (entry_at l file (n - 1 - l.groups)).pos (word_at l file (n - 1)))

table_by : (l : Layout) (file : List ℕ) (g : ℕ) → g < l.groups → place_by l file (1 + g) ≡ word_at l file g
unfolding place_by
table_by l file g low =
    let e : 1 + g - 1 ≡ g = omega arith in
    cond-false (1 + g == 0) 0 (cond (nat_lt l.groups (1 + g)) (entry_at l file (1 + g - 1 - l.groups)).pos (word_at l file (1 + g - 1))) (ne_eqb (1 + g) 0 (λ z. omega (arith, z)))
    ∙ (cond-false (nat_lt l.groups (1 + g)) (entry_at l file (1 + g - 1 - l.groups)).pos (word_at l file (1 + g - 1)) (le-ltb l.groups (1 + g) (omega (arith, low))) ∙ ap (word_at l file) e)

track_by : (l : Layout) (file : List ℕ) (t : ℕ) → place_by l file (1 + l.groups + t) ≡ (entry_at l file t).pos
unfolding place_by
track_by l file t =
    let n = 1 + l.groups + t in
    let e : n - 1 - l.groups ≡ t = omega arith in
    cond-false (n == 0) 0 (cond (nat_lt l.groups n) (entry_at l file (n - 1 - l.groups)).pos (word_at l file (n - 1))) (ne_eqb n 0 (λ z. omega (arith, z)))
    ∙ (cond-true (nat_lt l.groups n) (entry_at l file (n - 1 - l.groups)).pos (word_at l file (n - 1)) (lt-ltb l.groups n (omega arith)) ∙ ap (λ (u : ℕ). (entry_at l file u).pos) e)

in_use_by : (l : Layout) (s : Stages) (file : List ℕ) (e : Extent) → IsInUse l s file e → (c : ℕ) × (c < 1 + l.groups + track_count l.geo) × (e.pos ≡ place_by l file c)
unfolding place_by
in_use_by l s file e (inl area) = (0, omega arith, ap (λ (x : Extent). x.pos) area)
in_use_by l s file e (inr (inl table)) =
    let h = table.2 in
    (1 + table.0, omega (arith, h.low), ap (λ (x : Extent). x.pos) h.is ∙ sym (table_by l file table.0 h.low))
in_use_by l s file e (inr (inr track)) =
    let h = track.2 in
    (1 + l.groups + track.0, omega (arith, h.low), ap (λ (x : Extent). x.pos) h.is ∙ sym (track_by l file track.0))

none_replaced : (l : Layout) (file : List ℕ) (e : Extent) → IsReplaced l nothing_staged file e → ⊥
none_replaced l file e (inl table) = false≢true table.1
none_replaced l file e (inr track) = false≢true track.1

none_placed : (e : Extent) → IsPlaced nothing_staged [] e → ⊥
none_placed e (inl (inl table)) = let h = table.1.named in cc
none_placed e (inl (inr track)) = let h = track.1.named in cc
none_placed e (inr claimed) = claimed

-- where nothing is staged or claimed, a piece that is neither Free nor Pending is a space in use
module _ (l : Layout) (plan : Plan) (file : List ℕ) (now : Current l nothing_staged [] plan file) where
  taken_used : (p : Piece) (k : Kind) → p.kind ≡ k → Has p plan.pieces → (taken_kind k && not (pending_kind k)) ≡ true → (e : Extent) × IsInUse l nothing_staged file e × (p ≡ used_piece e)
  taken_used p Used k h t = now.accounts.used.named p h k
  taken_used p Free k h t = absurd (false≢true t)
  taken_used p Pending k h t = absurd (false≢true t)
  taken_used p Leaving k h t = let r = now.accounts.leaving.named p h k in absurd (none_replaced l file r.0 r.1)
  taken_used p Reserved k h t = let r = now.accounts.reserved.named p h k in absurd (none_placed r.0 r.1)

  -- so there are no more of these than the header area, the tables and the tracks
  pub taken_bound : counted is_taken plan.pieces ≤ 1 + l.groups + track_count l.geo + counted is_pending plan.pieces
  taken_bound =
      let busy : Piece → Bool = λ p. is_taken p && not (is_pending p) in
      let few = places_bound (place_by l file) (1 + l.groups + track_count l.geo) busy plan.pieces plan.size now.spans.laid (λ p h t.
      let u = taken_used p p.kind refl h t in
      let c = in_use_by l nothing_staged file u.0 u.1 in
      (c.0, c.1, ap (λ (x : Piece). x.pos) u.2 ∙ c.2)) in
      let s = split_counted is_taken busy is_pending (λ p. here_or_not (is_taken p) (is_pending p)) plan.pieces in
      omega (arith, few, s)

  -- and with so many pieces as a layer has room for, many may still be added
  pub spare_bound : reserve l ≤ plan.spare + length plan.pieces → 2046 ≤ plan.spare + 2 * counted is_pending plan.pieces
  spare_bound room =
      let few = taken_bound in
      let r = pieces_bound 0 plan.pieces plan.size now.spans.laid in
      omega (arith, few, r, room)

-- so it is of a layer that agrees with its file: two more places can be added
pub agrees_roomy : (s : LayerState) (w : World) → Agrees s w → s.tables.stages ≡ nothing_staged → counted is_pending s.plan.pieces ≡ 0
    → IsRoomy s.tables s.plan → 4 ≤ s.plan.spare
agrees_roomy s w agrees none still room =
    let now : Current s.tables.layout nothing_staged [] s.plan (file_of w s.slot) = subst (λ (x : Stages). Current s.tables.layout x [] s.plan (file_of w s.slot)) none agrees.stands.now in
    let r = spare_bound s.tables.layout s.plan (file_of w s.slot) now room in
    omega (arith, r, still)
