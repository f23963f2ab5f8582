-- What each act keeps of held bytes, and of how pieces and file go together.
use Rattle.std.proofs.Common.{◌≡◌, ◌⊎◌, ℕ, ◌+◌, ◌<◌, ◌≤◌, ◌&&◌, ◌==◌, nat_le, max, Bool, true, false, cond, List, [], ◌∷◌, length, map, Option, Some, None, refl, sym, ◌∙◌, ap, subst, inl, inr, arith, ◌%◌, ◌-◌}
use Rattle.std.specs.Option.{option_map, unwrap_or}
use Rattle.std.proofs.lemmas.Bool.{cases_eq, cases_lt, cond_both, cond-true, cond-false, ne_eqb, leb-false}
use Rattle.cckd_base.specs.declared.geometry.Layout.{Layout}
use Rattle.cckd_base.specs.declared.space.Extent.{Extent}
use Rattle.cckd_base.specs.declared.space.Owner.{Owner}
use Rattle.cckd_base.specs.declared.space.Owner.TheVariants.{Nobody}
use Rattle.cckd_base.specs.Geometry.{area_of}
use Rattle.cckd_base.specs.Entry.{word_at, entry_at}
use Rattle.cckd_space.specs.declared.piece.Kind.{Kind}
use Rattle.cckd_space.specs.declared.piece.Kind.TheVariants.{Used, Free, Reserved, Leaving, Pending}
use Rattle.cckd_space.specs.declared.piece.Piece.{Piece}
use Rattle.cckd_space.specs.Pieces.{Has, IsLaid, IsFormedAs, is_free, is_used_at, is_reserved_at, reserved_kind, free_kind, first, replaced, settled, left, freed, merged, retired, retired_as, released, reserved_piece, used_end, cut, has_room, aligned_up, end_place, piece_end}
use Rattle.cckd_space.specs.Plan.{Plan, Becomes, place_of, with_reserved, size_with, size_at}
use Rattle.cckd_space.proofs.LaidLemmas.{up, used_end_within, laid_freed, room_facts}
use Rattle.cckd_space.proofs.CallerLemmas.{first_has, found, has_replaced, has_new, has_map, has_merged, has_trimmed, has_of_replaced, has_of_merged, placed_found, placed_keeps}
use Rattle.cckd_space.proofs.SearchLemmas.{used_there}
use Rattle.cckd_space.proofs.CountLemmas.{found_used}
use Rattle.cckd_space.proofs.PlaceLemmas.{laid_apart, has_within}
use Rattle.cckd_layer.specs.Sits.{held_kind, IsHeld, Rests, Sits}
use Rattle.cckd_layer.specs.Current.{placed_piece, IsReservedAt, Spans}
use Rattle.cckd_layer.specs.Acts.{given_back, GivesBack, EndsBefore}
use Rattle.cckd_layer.proofs.AccountLemmas.{has_of_map, has_of_placed, has_of_cut, has_some, unreleased, placed_at, replaced_gone}

-- ---- held bytes

pub held_busy : (k : Kind) → held_kind k ≡ true → free_kind k ≡ false
held_busy Used h = refl
held_busy Leaving h = refl
held_busy Pending h = refl
held_busy Free h = absurd cc
held_busy Reserved h = absurd cc

held_named : (k : Kind) → held_kind k ≡ true → reserved_kind k ≡ false
held_named Used h = refl
held_named Leaving h = refl
held_named Pending h = refl
held_named Free h = absurd cc
held_named Reserved h = absurd cc

-- what is held in one list is held in the other
pub record KeepsHeld (ps qs : List Piece) : Type 0 where
  pub each : (pos n : ℕ) → IsHeld ps pos n → IsHeld qs pos n

pub keeps_twice : (ps qs rs : List Piece) → KeepsHeld ps qs → KeepsHeld qs rs → KeepsHeld ps rs
keeps_twice ps qs rs f g = record { each = λ pos n h. g.each pos n (f.each pos n h) }

pub keeps_in : (ps qs : List Piece) → ((p : Piece) → held_kind p.kind ≡ true → Has p ps → Has p qs) → KeepsHeld ps qs
keeps_in ps qs stays = record { each = λ pos n h. record { piece = h.piece; there = stays h.piece h.kind h.there; kind = h.kind; low = h.low; high = h.high } }

pub keeps_rests : (l : Layout) (ps qs : List Piece) (file : List ℕ) → KeepsHeld ps qs → Rests l ps file → Rests l qs file
keeps_rests l ps qs file keeps r = record {
  area = keeps.each 0 (area_of l.groups) r.area;
  tables = λ g low place. keeps.each (word_at l file g) 2048 (r.tables g low place);
  tracks = λ t low place. keeps.each (entry_at l file t).pos (entry_at l file t).size (r.tracks t low place);
}

pub keeps_sits : (l : Layout) (ps qs : List Piece) (file : List ℕ) → KeepsHeld ps qs → Sits l ps file → Sits l qs file
keeps_sits l ps qs file keeps s = record { whole = s.whole; rests = keeps_rests l ps qs file keeps s.rests }

not_reserved : (pos : ℕ) (p : Piece) → held_kind p.kind ≡ true → is_reserved_at pos p ≡ false
not_reserved pos p h = ap (λ (b : Bool). b && (p.pos == pos)) (held_named p.kind h)

pub held_placed : (need : ℕ) (ps : List Piece) → KeepsHeld ps (with_reserved need ps)
held_placed need ps = keeps_in ps (with_reserved need ps) (λ p k h. placed_keeps need ps p (held_busy p.kind k) h)

pub held_given : (pos : ℕ) (ps : List Piece) → KeepsHeld ps (merged (replaced (is_reserved_at pos) (λ p. freed p ∷ []) ps))
held_given pos ps = keeps_in ps _ (λ p k h. has_merged _ p (held_busy p.kind k) (has_replaced (is_reserved_at pos) (λ q. freed q ∷ []) ps p (not_reserved pos p k) h))

pub held_settled : (pos len : ℕ) (owner : Owner) (ps : List Piece) → KeepsHeld ps (replaced (is_reserved_at pos) (λ p. settled len owner p ∷ []) ps)
held_settled pos len owner ps = keeps_in ps _ (λ p k h. has_replaced (is_reserved_at pos) (λ q. settled len owner q ∷ []) ps p (not_reserved pos p k) h)

pub held_cut : (len size : ℕ) (ps : List Piece) → KeepsHeld ps (cut len size ps)
held_cut len size ps = keeps_in ps (cut len size ps) (λ p k h. has_trimmed ps _ p (held_busy p.kind k) h)

used_once : (pos : ℕ) (ps : List Piece) (end : ℕ) (p : Piece) → IsLaid 0 ps end → Has p ps → is_used_at pos p ≡ true → first (is_used_at pos) ps ≡ Some p
used_once pos ps end p laid there e = found (is_used_at pos) pos (used_there pos) 0 ps end p laid there e

pub held_left : (pos : ℕ) (ps : List Piece) (end : ℕ) → IsLaid 0 ps end → KeepsHeld ps (replaced (is_used_at pos) (λ p. left p ∷ []) ps)
held_left pos ps end laid = record { each = λ at n h. by at n h (is_used_at pos h.piece) refl }
  where
    by : (at n : ℕ) (h : IsHeld ps at n) (b : Bool) → is_used_at pos h.piece ≡ b → IsHeld (replaced (is_used_at pos) (λ p. left p ∷ []) ps) at n
    by at n h false e = record { piece = h.piece; there = has_replaced (is_used_at pos) (λ q. left q ∷ []) ps h.piece e h.there; kind = h.kind; low = h.low; high = h.high }
    by at n h true e = record {
      piece = left h.piece;
      there = has_new (is_used_at pos) (λ q. left q ∷ []) ps h.piece (left h.piece) (used_once pos ps end h.piece laid h.there e) (inl refl);
      kind = refl;
      low = h.low;
      high = h.high;
    }

retired_held : (p : Piece) (k : Kind) → p.kind ≡ k → held_kind k ≡ true → held_kind (retired p).kind ≡ true
retired_held p Used e h = ap (λ (x : Kind). held_kind (retired_as x p).kind) e ∙ ap held_kind e
retired_held p Leaving e h = ap (λ (x : Kind). held_kind (retired_as x p).kind) e
retired_held p Pending e h = ap (λ (x : Kind). held_kind (retired_as x p).kind) e ∙ ap held_kind e
retired_held p Free e h = absurd cc
retired_held p Reserved e h = absurd cc

retired_pos : (p : Piece) (k : Kind) → p.kind ≡ k → (retired p).pos ≡ p.pos
retired_pos p Used e = ap (λ (x : Kind). (retired_as x p).pos) e
retired_pos p Leaving e = ap (λ (x : Kind). (retired_as x p).pos) e
retired_pos p Pending e = ap (λ (x : Kind). (retired_as x p).pos) e
retired_pos p Free e = ap (λ (x : Kind). (retired_as x p).pos) e
retired_pos p Reserved e = ap (λ (x : Kind). (retired_as x p).pos) e

retired_size : (p : Piece) (k : Kind) → p.kind ≡ k → (retired p).size ≡ p.size
retired_size p Used e = ap (λ (x : Kind). (retired_as x p).size) e
retired_size p Leaving e = ap (λ (x : Kind). (retired_as x p).size) e
retired_size p Pending e = ap (λ (x : Kind). (retired_as x p).size) e
retired_size p Free e = ap (λ (x : Kind). (retired_as x p).size) e
retired_size p Reserved e = ap (λ (x : Kind). (retired_as x p).size) e

pub held_retired : (ps : List Piece) → KeepsHeld ps (map retired ps)
held_retired ps = record {
  each = λ pos n h.
      let p = h.piece in
      let at = retired_pos p p.kind refl in
      let long = retired_size p p.kind refl in
      record {
        piece = retired p;
        there = has_map retired ps p h.there;
        kind = retired_held p p.kind refl h.kind;
        low = omega (arith, at, h.low);
        high = omega (arith, at, long, h.high);
      };
}

-- ---- where what is held ends

-- what is held ends at or below a place
pub record EndsBy (n : ℕ) (ps : List Piece) : Type 0 where
  pub each : (p : Piece) → Has p ps → held_kind p.kind ≡ true → piece_end p ≤ n

pub ends_placed : (n need : ℕ) (ps : List Piece) → EndsBy n ps → EndsBy n (with_reserved need ps)
ends_placed n need ps x = record {
  each = λ p h k. elim (has_of_placed need ps p (held_busy p.kind k) h) [
    | inl old ↦ x.each p old k
    | inr new ↦ absurd (let e : true ≡ false = sym k ∙ ap (λ (y : Piece). held_kind y.kind) new in cc)
  ];
}

pub ends_given : (n pos : ℕ) (ps : List Piece) → EndsBy n ps → EndsBy n (merged (replaced (is_reserved_at pos) (λ p. freed p ∷ []) ps))
ends_given n pos ps x = record {
  each = λ p h k. elim (has_of_replaced (is_reserved_at pos) (λ q. freed q ∷ []) ps p (has_of_merged _ p (held_busy p.kind k) h)) [
    | inl old ↦ x.each p old k
    | inr new ↦ elim new.2 [ inl e ↦ absurd (let f : true ≡ false = sym k ∙ sym (ap (λ (y : Piece). held_kind y.kind) e) in cc) | inr none ↦ absurd none ]
  ];
}

pub ends_cut : (n len size : ℕ) (ps : List Piece) → EndsBy n ps → EndsBy n (cut len size ps)
ends_cut n len size ps x = record { each = λ p h k. x.each p (has_of_cut len size ps p (held_busy p.kind k) h) k }

pub ends_left : (n pos : ℕ) (ps : List Piece) → EndsBy n ps → EndsBy n (replaced (is_used_at pos) (λ p. left p ∷ []) ps)
ends_left n pos ps x = record {
  each = λ p h k. elim (has_of_replaced (is_used_at pos) (λ q. left q ∷ []) ps p h) [
    | inl old ↦ x.each p old k
    | inr new ↦ elim new.2 [
      | inl e ↦
          let f = first_has (is_used_at pos) ps new.0 new.1 in
          let y = x.each new.0 f.0 (ap held_kind (found_used pos new.0 f.1)) in
          let s = ap piece_end e in
          omega (arith, y, s)
      | inr none ↦ absurd none
    ]
  ];
}

pub ends_settled : (n : ℕ) (x : Extent) (ps : List Piece) (end : ℕ) → IsLaid 0 ps end → Has (placed_piece x) ps → x.pos + x.size ≤ n → EndsBy n ps
    → EndsBy n (replaced (is_reserved_at x.pos) (λ p. settled x.len x.owner p ∷ []) ps)
ends_settled n x ps end laid there within h = record {
  each = λ p m k. elim (has_of_replaced (is_reserved_at x.pos) (λ q. settled x.len x.owner q ∷ []) ps p m) [
    | inl old ↦ h.each p old k
    | inr new ↦ elim new.2 [
      | inl e ↦
          let f = placed_at x ps end laid there in
          let same : placed_piece x ≡ new.0 = (let g : Some (placed_piece x) ≡ Some new.0 = sym f ∙ new.1 in cc) in
          let s = ap piece_end e in
          let t = ap piece_end same in
          omega (arith, s, t, within)
      | inr none ↦ absurd none
    ]
  ];
}

back_retired : (p q : Piece) (k : Kind) → q.kind ≡ k → retired q ≡ p → held_kind p.kind ≡ true → held_kind k ≡ true
back_retired p q Used e r h = refl
back_retired p q Leaving e r h = refl
back_retired p q Pending e r h = refl
back_retired p q Free e r h = absurd (let f : true ≡ false = sym h ∙ (sym (ap (λ (y : Piece). held_kind y.kind) r) ∙ (ap (λ (x : Kind). held_kind (retired_as x q).kind) e ∙ ap held_kind e)) in cc)
back_retired p q Reserved e r h = absurd (let f : true ≡ false = sym h ∙ (sym (ap (λ (y : Piece). held_kind y.kind) r) ∙ (ap (λ (x : Kind). held_kind (retired_as x q).kind) e ∙ ap held_kind e)) in cc)

pub ends_retired : (n : ℕ) (ps : List Piece) → EndsBy n ps → EndsBy n (map retired ps)
ends_retired n ps x = record {
  each = λ p h k.
      let o = has_of_map retired ps p h in
      let y = x.each o.0 o.1 (back_retired p o.0 o.0.kind refl o.2 k) in
      let at = retired_pos o.0 o.0.kind refl in
      let long = retired_size o.0 o.0.kind refl in
      let s = ap piece_end o.2 in
      omega (arith, y, at, long, s);
}

pub ends_released : (n : ℕ) (ps : List Piece) → EndsBy n ps → EndsBy n (merged (map released ps))
ends_released n ps x = record {
  each = λ p h k.
      let busy = held_busy p.kind k in
      let o = has_of_map released ps p (has_of_merged (map released ps) p busy h) in
      x.each p (subst (λ (y : Piece). Has y ps) (unreleased p o.0 o.2 busy) o.1) k;
}

-- ---- how pieces and file go together

-- an act that changes no size, and leaves each Reserved piece or ends it inside the file
pub spans_by : (old new : Plan) (file : List ℕ) → IsLaid 0 new.pieces new.size → new.size ≡ old.size → new.limit ≡ old.limit → EndsBy (length file) new.pieces
    → ((pos n : ℕ) → Has (reserved_piece pos n) old.pieces → (pos + n ≤ length file) ⊎ Has (reserved_piece pos n) new.pieces)
    → Spans old file → Spans new file
spans_by old new file laid sized limit ends stays s = record {
  laid = laid;
  covers = omega (arith, s.covers, sized);
  ends = elim s.ends [
    | inl low ↦ inl (omega (arith, low, sized))
    | inr r ↦ elim (stays r.0 r.1 r.2) [
      | inl inside ↦ inl (omega (arith, inside, r.3, sized))
      | inr there ↦ inr (r.0, r.1, there, r.3 ∙ sym sized)
    ]
  ];
  inside = ends.each;
  tight = λ at past low.
      let r = s.tight at past (omega (arith, low, sized)) in
      elim (stays r.pos r.size r.there) [
        | inl inside ↦ absurd (let k = up (length file) in let h = r.high in omega (arith, k, past, inside, h))
        | inr there ↦ record { pos = r.pos; size = r.size; there = there; low = r.low; high = r.high; even = r.even }
      ];
  short = omega (arith, s.short, sized);
  limited = omega (arith, s.limited, limit);
}

spans_ends : (plan : Plan) (file : List ℕ) → Spans plan file → EndsBy (length file) plan.pieces
spans_ends plan file s = record { each = s.inside }

kept_reserved : (test : Piece → Bool) (f : Piece → Piece) (ps : List Piece) (pos n : ℕ) → test (reserved_piece pos n) ≡ false → Has (reserved_piece pos n) ps → Has (reserved_piece pos n) (replaced test (λ p. f p ∷ []) ps)
kept_reserved test f ps pos n other h = has_replaced test (λ q. f q ∷ []) ps (reserved_piece pos n) other h

-- a Used piece leaves
pub spans_left : (old new : Plan) (file : List ℕ) (pos : ℕ) → Becomes old new (replaced (is_used_at pos) (λ p. left p ∷ []) old.pieces) old.size → IsLaid 0 new.pieces new.size
    → Spans old file → Spans new file
spans_left old new file pos b laid s =
    spans_by old new file laid b.sized b.limit (subst (EndsBy (length file)) (sym b.made) (ends_left (length file) pos old.pieces (spans_ends old file s)))
    (λ at n h. inr (subst (Has (reserved_piece at n)) (sym b.made) (kept_reserved (is_used_at pos) left old.pieces at n refl h))) s

-- Pending becomes Free
pub spans_released : (old new : Plan) (file : List ℕ) → Becomes old new (merged (map released old.pieces)) old.size → IsLaid 0 new.pieces new.size → Spans old file → Spans new file
spans_released old new file b laid s =
    spans_by old new file laid b.sized b.limit (subst (EndsBy (length file)) (sym b.made) (ends_released (length file) old.pieces (spans_ends old file s)))
    (λ at n h. inr (subst (Has (reserved_piece at n)) (sym b.made) (has_merged (map released old.pieces) (reserved_piece at n) refl (has_map released old.pieces (reserved_piece at n) h)))) s

-- bytes are placed at the end where they fit nowhere else, and then the file is no shorter
grows_to : (need at : ℕ) (ps : List Piece) (end : ℕ) → IsLaid at ps end → first (has_room need) ps ≡ None → 0 < length ps → end ≤ end_place ps + need
grows_to need at [] end laid none some = absurd (omega (arith, some))
grows_to need at (p ∷ []) end laid none some = by (is_free p) refl
  where
    by : (b : Bool) → is_free p ≡ b → end ≤ end_place (p ∷ []) + need
    by false e =
        let u : used_end (p ∷ []) ≡ piece_end p = cond-false (is_free p) p.pos (piece_end p) e in
        let k = up (used_end (p ∷ [])) in
        omega (arith, u, k, laid.0.place, laid.2)
    by true e =
        let u : used_end (p ∷ []) ≡ p.pos = cond-true (is_free p) p.pos (piece_end p) e in
        let n : has_room need p ≡ false = none_first need p none in
        let low : nat_le (aligned_up p.pos + need) (piece_end p) ≡ false = sym (ap (λ (b : Bool). b && nat_le (aligned_up p.pos + need) (piece_end p)) e) ∙ n in
        let c = leb-false (aligned_up p.pos + need) (piece_end p) low in
        let a : end_place (p ∷ []) ≡ aligned_up p.pos = ap aligned_up u in
        omega (arith, a, c, laid.0.place, laid.2)
      where
        none_first : (need : ℕ) (p : Piece) → first (has_room need) (p ∷ []) ≡ None → has_room need p ≡ false
        none_first need p none = one (has_room need p) p none
          where
            one : (b : Bool) (p : Piece) → cond b (Some p) None ≡ None → b ≡ false
            one true p e = absurd cc
            one false p e = refl
grows_to need at (p ∷ q ∷ ps) end laid none some = grows_to need (at + p.size) (q ∷ ps) end laid.2 (rest (has_room need p) p (first (has_room need) (q ∷ ps)) none) (omega arith)
  where
    rest : (b : Bool) (p : Piece) (o : Option Piece) → cond b (Some p) o ≡ None → o ≡ None
    rest true p o e = absurd cc
    rest false p o e = e

some_pieces : (at : ℕ) (ps : List Piece) (end : ℕ) → IsLaid at ps end → at < end → 0 < length ps
some_pieces at [] end laid low = absurd (omega (arith, laid, low))
some_pieces at (p ∷ ps) end laid low = omega arith

-- the size of the file once bytes are placed
pub placed_size : (need : ℕ) (plan : Plan) → 0 < need → IsLaid 0 plan.pieces plan.size → 0 < plan.size
    → (plan.size ≤ size_with need plan) × ((size_with need plan ≡ plan.size) ⊎ (size_with need plan ≡ place_of need plan.pieces + need))
placed_size need plan some laid full = by (first (has_room need) plan.pieces) refl
  where
    by : (o : Option Piece) → first (has_room need) plan.pieces ≡ o
        → (plan.size ≤ size_with need plan) × ((size_with need plan ≡ plan.size) ⊎ (size_with need plan ≡ place_of need plan.pieces + need))
    by (Some q) e =
        let s : size_with need plan ≡ plan.size = ap (λ (o : Option Piece). size_at (option_map (λ p. aligned_up p.pos) o) need plan) e in
        (omega (arith, s), inl s)
    by None e =
        let s : size_with need plan ≡ end_place plan.pieces + need = ap (λ (o : Option Piece). size_at (option_map (λ p. aligned_up p.pos) o) need plan) e in
        let p : place_of need plan.pieces ≡ end_place plan.pieces = ap (λ (o : Option Piece). unwrap_or (option_map (λ p. aligned_up p.pos) o) (end_place plan.pieces)) e in
        let g = grows_to need 0 plan.pieces plan.size laid e (some_pieces 0 plan.pieces plan.size laid full) in
        (omega (arith, s, g), inr (omega (arith, s, p)))

-- where a file would end without a Free piece at its end, a piece ends that isn't Free
used_end_there : (at : ℕ) (ps : List Piece) (end : ℕ) → IsLaid at ps end → 0 < length ps → (used_end ps ≡ at) ⊎ ((p : Piece) × Has p ps × (is_free p ≡ false) × (piece_end p ≡ used_end ps))
used_end_there at [] end laid some = absurd (omega (arith, some))
used_end_there at (p ∷ []) end laid some = by (is_free p) refl
  where
    by : (b : Bool) → is_free p ≡ b → (used_end (p ∷ []) ≡ at) ⊎ ((q : Piece) × Has q (p ∷ []) × (is_free q ≡ false) × (piece_end q ≡ used_end (p ∷ [])))
    by true e = inl (cond-true (is_free p) p.pos (piece_end p) e ∙ laid.0.place)
    by false e = inr (p, inl refl, e, sym (cond-false (is_free p) p.pos (piece_end p) e))
used_end_there at (p ∷ q ∷ ps) end laid some = elim (used_end_there (at + p.size) (q ∷ ps) end laid.2 (omega arith)) [
  | inr r ↦ inr (r.0, inr r.1, r.2, r.3)
  | inl here ↦ by (is_free p) refl here
]
  where
    by : (b : Bool) → is_free p ≡ b → used_end (q ∷ ps) ≡ at + p.size → (used_end (q ∷ ps) ≡ at) ⊎ ((r : Piece) × Has r (p ∷ q ∷ ps) × (is_free r ≡ false) × (piece_end r ≡ used_end (q ∷ ps)))
    by false e here = inr (p, inl refl, e, omega (arith, here, laid.0.place))
    by true e here = absurd (not_two (used_end_busy (at + p.size) q ps end laid.2 (let n : is_free q ≡ false = sym (ap (λ (b : Bool). b && is_free q) e) ∙ laid.1 in n)) here)
      where
        not_two : at + p.size < used_end (q ∷ ps) → used_end (q ∷ ps) ≡ at + p.size → ⊥
        not_two low same = omega (arith, low, same)

        used_end_busy : (at : ℕ) (q : Piece) (ps : List Piece) (end : ℕ) → IsLaid at (q ∷ ps) end → is_free q ≡ false → at < used_end (q ∷ ps)
        used_end_busy at q [] end laid busy = let u = cond-false (is_free q) q.pos (piece_end q) busy in omega (arith, u, laid.0.place, laid.0.some)
        used_end_busy at q (r ∷ rs) end laid busy = let k = used_end_low (at + q.size) r rs end laid.2 in omega (arith, k, laid.0.some)
          where
            used_end_low : (at : ℕ) (p : Piece) (ps : List Piece) (end : ℕ) → IsLaid at (p ∷ ps) end → at ≤ used_end (p ∷ ps)
            used_end_low at p [] end l = cond_both (is_free p) p.pos (piece_end p) (λ n. at ≤ n) (λ e. omega (arith, l.0.place)) (λ e. omega (arith, l.0.place))
            used_end_low at p (q ∷ qs) end l = let r = used_end_low (at + p.size) q qs end l.2 in omega (arith, r)

busy_kinds : (p : Piece) (k : Kind) → p.kind ≡ k → is_free p ≡ false → (held_kind p.kind ≡ true) ⊎ (k ≡ Reserved)
busy_kinds p Used e busy = inl (ap held_kind e)
busy_kinds p Leaving e busy = inl (ap held_kind e)
busy_kinds p Pending e busy = inl (ap held_kind e)
busy_kinds p Reserved e busy = inr refl
busy_kinds p Free e busy = absurd (let f : true ≡ false = sym (ap free_kind e) ∙ busy in cc)

-- a Reserved piece of a laid list is a reserved piece
reserved_form : (at : ℕ) (ps : List Piece) (end : ℕ) (p : Piece) → IsLaid at ps end → Has p ps → p.kind ≡ Reserved → p ≡ reserved_piece p.pos p.size
reserved_form at [] end p laid h k = absurd h
reserved_form at (q ∷ qs) end p laid h k = elim h [
  | inr m ↦ reserved_form (at + q.size) qs end p laid.2 m k
  | inl e ↦ subst (λ (x : Piece). x ≡ reserved_piece x.pos x.size) e (
      let f : IsFormedAs Reserved q = subst (λ (x : Kind). IsFormedAs x q) (ap (λ (x : Piece). x.kind) e ∙ k) laid.0.formed in
      let a : q ≡ record { pos = q.pos; len = q.size; size = q.size; kind = q.kind; owner = q.owner } = ap (λ (n : ℕ). record { pos = q.pos; len = n; size = q.size; kind = q.kind; owner = q.owner }) f.0 in
      let b : record { pos = q.pos; len = q.size; size = q.size; kind = q.kind; owner = q.owner } ≡ record { pos = q.pos; len = q.size; size = q.size; kind = q.kind; owner = Nobody } = ap (λ (o : Owner). record { pos = q.pos; len = q.size; size = q.size; kind = q.kind; owner = o }) f.1 in
      let c : record { pos = q.pos; len = q.size; size = q.size; kind = q.kind; owner = Nobody } ≡ reserved_piece q.pos q.size = ap (λ (x : Kind). record { pos = q.pos; len = q.size; size = q.size; kind = x; owner = Nobody }) (ap (λ (x : Piece). x.kind) e ∙ k) in
      a ∙ (b ∙ c))
]

-- past the file, the end without a Free piece is at a multiple of 8
pub tight_end : (plan : Plan) (file : List ℕ) → Spans plan file → 0 < length plan.pieces → aligned_up (length file) < used_end plan.pieces → used_end plan.pieces % 8 ≡ 0
tight_end plan file s some past = elim (used_end_there 0 plan.pieces plan.size s.laid some) [
  | inl none ↦ absurd (omega (arith, none, past))
  | inr r ↦ elim (busy_kinds r.0 r.0.kind refl r.2) [
    | inl held ↦ absurd (let e = s.inside r.0 r.1 held in let k = up (length file) in let same = r.3 in omega (arith, e, k, same, past))
    | inr kept ↦
        let within = used_end_within plan.pieces plan.size s.laid in
        let at = used_end plan.pieces - 1 in
        let o = s.tight at (omega (arith, past)) (omega (arith, past, within)) in
        let big = has_some 0 plan.pieces plan.size r.0 s.laid r.1 in
        let same = r.3 in
        let high = o.high in
        let low = o.low in
        elim (laid_apart 0 plan.pieces plan.size (reserved_piece o.pos o.size) r.0 s.laid o.there r.1) [
          | inl one ↦ let e = ap piece_end one in subst (λ (n : ℕ). n % 8 ≡ 0) (e ∙ same) o.even
          | inr (inl before) ↦ absurd (omega (arith, before, high, same, big, past))
          | inr (inr behind) ↦ absurd (omega (arith, behind, low, same, past))
        ]
  ]
]

-- where so many bytes are placed, if the file grows
pub placed_end : (need : ℕ) (plan : Plan) → (size_with need plan ≡ plan.size) ⊎ ((size_with need plan ≡ end_place plan.pieces + need) × (place_of need plan.pieces ≡ end_place plan.pieces))
placed_end need plan = by (first (has_room need) plan.pieces) refl
  where
    by : (o : Option Piece) → first (has_room need) plan.pieces ≡ o → (size_with need plan ≡ plan.size) ⊎ ((size_with need plan ≡ end_place plan.pieces + need) × (place_of need plan.pieces ≡ end_place plan.pieces))
    by (Some q) e = inl (ap (λ (o : Option Piece). size_at (option_map (λ p. aligned_up p.pos) o) need plan) e)
    by None e = inr (
      ap (λ (o : Option Piece). size_at (option_map (λ p. aligned_up p.pos) o) need plan) e,
      ap (λ (o : Option Piece). unwrap_or (option_map (λ p. aligned_up p.pos) o) (end_place plan.pieces)) e,
    )

-- a Free piece ends by the file's end, or by the multiple of 8 behind it
pub free_ends : (plan : Plan) (file : List ℕ) (p : Piece) → Spans plan file → Has p plan.pieces → is_free p ≡ true → piece_end p ≤ aligned_up (length file)
free_ends plan file p s here free = elim (cases_lt (aligned_up (length file)) (piece_end p)) [
  | inr low ↦ low
  | inl past ↦ absurd (
      let within = has_within 0 plan.pieces plan.size p s.laid here in
      let big = has_some 0 plan.pieces plan.size p s.laid here in
      let o = s.tight (piece_end p - 1) (omega (arith, past)) (omega (arith, past, within)) in
      let high = o.high in
      let low = o.low in
      elim (laid_apart 0 plan.pieces plan.size (reserved_piece o.pos o.size) p s.laid o.there here) [
        | inl one ↦ (let f : false ≡ true = ap is_free one ∙ free in cc)
        | inr (inl before) ↦ omega (arith, before, high, big, past)
        | inr (inr behind) ↦ omega (arith, behind, low, past, big)
      ])
]

-- what was placed at the first fit or at the end may be given back
pub placed_before : (old new : Plan) (file : List ℕ) (need : ℕ) → Spans old file → new.size ≡ size_with need old → EndsBefore (place_of need old.pieces + need) (length file) new
placed_before old new file need s sized = by (first (has_room need) old.pieces) refl
  where
    by : (o : Option Piece) → first (has_room need) old.pieces ≡ o → EndsBefore (place_of need old.pieces + need) (length file) new
    by (Some p) e =
        let k = first_has (has_room need) old.pieces p e in
        let r = room_facts need p k.1 in
        let end = free_ends old file p s k.0 r.free in
        let fits = r.fits in
        let place : place_of need old.pieces ≡ aligned_up p.pos = ap (λ (o : Option Piece). unwrap_or (option_map (λ (p : Piece). aligned_up p.pos) o) (end_place old.pieces)) e in
        inl (omega (arith, end, fits, place))
    by None e =
        let size : size_with need old ≡ end_place old.pieces + need = ap (λ (o : Option Piece). size_at (option_map (λ (p : Piece). aligned_up p.pos) o) need old) e in
        let place : place_of need old.pieces ≡ end_place old.pieces = ap (λ (o : Option Piece). unwrap_or (option_map (λ (p : Piece). aligned_up p.pos) o) (end_place old.pieces)) e in
        inr (omega (arith, size, place, sized))

-- a byte past the file is Reserved once bytes are placed
placed_tight : (plan : Plan) (file : List ℕ) (need : ℕ) → 0 < need → need % 8 ≡ 0 → 0 < plan.size → Spans plan file → (at : ℕ) → aligned_up (length file) ≤ at → at < size_with need plan
    → IsReservedAt (with_reserved need plan.pieces) at
placed_tight plan file need some even full s at past low = elim (cases_lt at plan.size) [
  | inl within ↦ let r = s.tight at past within in record {
    pos = r.pos;
    size = r.size;
    there = placed_keeps need plan.pieces (reserved_piece r.pos r.size) refl r.there;
    low = r.low;
    high = r.high;
    even = r.even;
  }
  | inr grown ↦ elim (placed_end need plan) [
    | inl same ↦ absurd (omega (arith, grown, same, low))
    | inr at_end ↦
        let pos = place_of need plan.pieces in
        let place = at_end.1 in
        let sized = at_end.0 in
        let within = used_end_within plan.pieces plan.size s.laid in
        let begins : pos ≤ at = elim (cases_lt at pos) [
          | inr high ↦ high
          | inl below ↦ absurd (elim (cases_lt (aligned_up (length file)) (used_end plan.pieces)) [
            | inl far ↦ let e = tight_end plan file s (some_pieces 0 plan.pieces plan.size s.laid full) far in omega (arith, e, below, place, within, grown)
            | inr near ↦ omega (arith, near, below, place, past)
          ])
        ] in
        record {
          pos = pos;
          size = need;
          there = (first_has (is_reserved_at pos) (with_reserved need plan.pieces) (reserved_piece pos need) (placed_found need plan.pieces plan.size some s.laid)).0;
          low = begins;
          high = omega (arith, low, sized, place);
          even = omega (arith, place, even);
        }
  ]
]

-- bytes are placed, and the file is as it was
pub spans_placed : (old new : Plan) (file : List ℕ) (need : ℕ) → 0 < need → need % 8 ≡ 0 → 0 < old.size → Becomes old new (with_reserved need old.pieces) (size_with need old)
    → IsLaid 0 new.pieces new.size → place_of need old.pieces + need ≤ max old.limit old.size → Spans old file → Spans new file
spans_placed old new file need some even full b laid within s =
    let size = placed_size need old some s.laid full in
    let there : Has (reserved_piece (place_of need old.pieces) need) new.pieces =
    subst (Has (reserved_piece (place_of need old.pieces) need)) (sym b.made)
    (first_has (is_reserved_at (place_of need old.pieces)) (with_reserved need old.pieces) (reserved_piece (place_of need old.pieces) need) (placed_found need old.pieces old.size some s.laid)).0 in
    record {
      laid = laid;
      covers = omega (arith, s.covers, size.0, b.sized);
      ends = elim size.1 [
        | inr at_end ↦ inr (place_of need old.pieces, need, there, sym (b.sized ∙ at_end))
        | inl same ↦ elim s.ends [
          | inl low ↦ inl (omega (arith, low, same, b.sized))
          | inr r ↦ inr (r.0, r.1, subst (Has (reserved_piece r.0 r.1)) (sym b.made) (placed_keeps need old.pieces (reserved_piece r.0 r.1) refl r.2), omega (arith, r.3, same, b.sized))
        ]
      ];
      inside = (subst (EndsBy (length file)) (sym b.made) (ends_placed (length file) need old.pieces (spans_ends old file s))).each;
      tight = λ at past low.
          let sized = b.sized in
          subst (λ (ps : List Piece). IsReservedAt ps at) (sym b.made) (placed_tight old file need some even full s at past (omega (arith, low, sized)));
      short = elim size.1 [
        | inl same ↦ omega (arith, same, b.sized, s.short)
        | inr at_end ↦ omega (arith, at_end, b.sized, within, s.short, s.limited)
      ];
      limited = omega (arith, b.limit, s.limited);
    }

-- the file grows within the pieces
pub spans_grown : (plan : Plan) (was file : List ℕ) → length was ≤ length file → length file ≤ plan.size → Spans plan was → Spans plan file
spans_grown plan was file longer within s = record {
  laid = s.laid;
  covers = within;
  ends = elim s.ends [ inl low ↦ inl (omega (arith, low, longer)) | inr r ↦ inr r ];
  inside = λ p h k. let e = s.inside p h k in omega (arith, e, longer);
  tight = λ at past low. s.tight at (omega (arith, past, longer)) low;
  short = s.short;
  limited = s.limited;
}

-- a byte past the file is still Reserved once a piece was given back
given_tight : (old : Plan) (file : List ℕ) (pos n : ℕ) → Has (reserved_piece pos n) old.pieces → EndsBefore (pos + n) (length file) old → Spans old file
    → (at : ℕ) → aligned_up (length file) ≤ at → at < used_end (given_back pos old.pieces) → IsLaid 0 (given_back pos old.pieces) old.size → 0 < length (given_back pos old.pieces)
    → IsReservedAt (cut (length file) old.size (given_back pos old.pieces)) at
given_tight old file pos n here well s at past used laid_mid some =
    let within = used_end_within mid old.size laid_mid in
    let r = s.tight at past (omega (arith, used, within)) in
    let high = r.high in
    let low = r.low in
    elim (cases_eq r.pos pos) [
      | inr other ↦ record {
        pos = r.pos;
        size = r.size;
        there = has_trimmed mid _ (reserved_piece r.pos r.size) refl
            (has_merged _ (reserved_piece r.pos r.size) refl (has_replaced (is_reserved_at pos) (λ q. freed q ∷ []) old.pieces (reserved_piece r.pos r.size) (ne_eqb r.pos pos other) r.there));
        low = r.low;
        high = r.high;
        even = r.even;
      }
      | inl same ↦ absurd (elim well [ inl near ↦ not_here r.pos r.size same r.there high near | inr last ↦ not_last r.pos r.size same r.there low high last ])
    ]
  where
    mid : List Piece
    mid = given_back pos old.pieces

    z : Piece
    z = reserved_piece pos n

    one : (at m : ℕ) → at ≡ pos → Has (reserved_piece at m) old.pieces → m ≡ n
    one at m same there =
        let y : Extent = record { pos = at; len = m; size = m; owner = Nobody } in
        let x : Extent = record { pos = pos; len = n; size = n; owner = Nobody } in
        let f = placed_at y old.pieces old.size s.laid there in
        let g = placed_at x old.pieces old.size s.laid here in
        let e : Some (placed_piece y) ≡ Some (placed_piece x) = sym f ∙ (ap (λ (k : ℕ). first (is_reserved_at k) old.pieces) same ∙ g) in
        let d : placed_piece y ≡ placed_piece x = cc in
        ap (λ (p : Piece). p.size) d

    not_here : (q m : ℕ) → q ≡ pos → Has (reserved_piece q m) old.pieces → at < q + m → pos + n ≤ aligned_up (length file) → ⊥
    not_here q m same there high near = let e = one q m same there in omega (arith, e, same, high, near, past)

    gone : Has z mid → ⊥
    gone h =
        let x : Extent = record { pos = pos; len = n; size = n; owner = Nobody } in
        elim (replaced_gone (is_reserved_at pos) (λ q. freed q ∷ []) 0 old.pieces old.size z s.laid (placed_at x old.pieces old.size s.laid here) (has_of_merged _ z refl h)) [
          | inl e ↦ (let f : true ≡ false = ap (λ (p : Piece). is_free p) e in cc)
          | inr none ↦ none
        ]

    not_last : (q m : ℕ) → q ≡ pos → Has (reserved_piece q m) old.pieces → q ≤ at → at < q + m → pos + n ≡ old.size → ⊥
    not_last q m same there low high last = elim (used_end_there 0 mid old.size laid_mid some) [
      | inl none ↦ omega (arith, none, used)
      | inr b ↦
          let end = b.3 in
          let kept : Has b.0 old.pieces = elim (has_of_replaced (is_reserved_at pos) (λ q. freed q ∷ []) old.pieces b.0 (has_of_merged _ b.0 b.2 b.1)) [
            | inl old_one ↦ old_one
            | inr new ↦ elim new.2 [ inl e ↦ absurd (let f : true ≡ false = ap is_free e ∙ b.2 in cc) | inr none ↦ absurd none ]
          ] in
          let within = used_end_within mid old.size laid_mid in
          let big = has_some 0 old.pieces old.size b.0 s.laid kept in
          elim (laid_apart 0 old.pieces old.size b.0 z s.laid kept here) [
            | inl is_z ↦ gone (subst (λ (p : Piece). Has p mid) is_z b.1)
            | inr (inl before) ↦ omega (arith, before, end, used, low, same)
            | inr (inr behind) ↦ omega (arith, behind, end, within, last, big)
          ]
    ]

-- a Reserved piece is given back, and the end is cut back to the file's length
pub spans_given : (old new : Plan) (file : List ℕ) (pos n : ℕ) → Has (reserved_piece pos n) old.pieces → EndsBefore (pos + n) (length file) old → GivesBack pos (length file) old new → IsLaid 0 new.pieces new.size → 0 < old.size
    → Spans old file → Spans new file
spans_given old new file pos size here well c laid full s =
    let mid = given_back pos old.pieces in
    let laid_mid : IsLaid 0 mid old.size = laid_freed (is_reserved_at pos) old.pieces old.size s.laid in
    let within = used_end_within mid old.size laid_mid in
    let ends_mid = ends_given (length file) pos old.pieces (spans_ends old file s) in
    let some = some_pieces 0 mid old.size laid_mid full in
    record {
      laid = laid;
      covers = omega (arith, s.covers, c.sized);
      ends = elim (used_end_there 0 mid old.size laid_mid some) [
        | inl none ↦ inl (omega (arith, none, c.sized))
        | inr r ↦ elim (busy_kinds r.0 r.0.kind refl r.2) [
          | inl held ↦ let e = ends_mid.each r.0 r.1 held in inl (omega (arith, e, r.3, c.sized))
          | inr kept ↦ elim (cases_le (used_end mid) (length file)) [
            | inl low ↦ inl (omega (arith, low, c.sized))
            | inr high ↦ inr (
              r.0.pos,
              r.0.size,
              subst (Has (reserved_piece r.0.pos r.0.size)) (sym c.made) (has_trimmed mid _ (reserved_piece r.0.pos r.0.size) refl
                  (subst (λ (p : Piece). Has p mid) (reserved_form 0 mid old.size r.0 laid_mid r.1 kept) r.1)),
              omega (arith, high, c.sized, r.3),
            )
          ]
        ]
      ];
      inside = (subst (EndsBy (length file)) (sym c.made) (ends_cut (length file) (length file) old.size mid ends_mid)).each;
      tight = λ at past low.
          let sized = c.sized in
          let k = up (length file) in
          let used : at < used_end mid = omega (arith, low, sized, past, k) in
          subst (λ (ps : List Piece). IsReservedAt ps at) (sym c.made)
          (given_tight old file pos size here well s at past used laid_mid some);
      short = omega (arith, s.short, c.sized, within);
      limited = omega (arith, s.limited, c.limit);
    }
  where
    cases_le : (a b : ℕ) → (a ≤ b) ⊎ (b < a)
    cases_le a b = elim (cases_lt b a) [ inl low ↦ inr low | inr high ↦ inl high ]

-- the pieces are as they were
pub spans_same : (old new : Plan) (file : List ℕ) → new.pieces ≡ old.pieces → new.size ≡ old.size → new.limit ≡ old.limit → Spans old file → Spans new file
spans_same old new file same sized limit s =
    spans_by old new file (subst (λ (n : ℕ). IsLaid 0 new.pieces n) (sym sized) (subst (λ (ps : List Piece). IsLaid 0 ps old.size) (sym same) s.laid)) sized limit
    (subst (EndsBy (length file)) (sym same) (spans_ends old file s)) (λ pos n h. inr (subst (Has (reserved_piece pos n)) (sym same) h)) s
