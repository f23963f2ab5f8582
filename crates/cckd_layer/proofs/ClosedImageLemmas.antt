-- The pieces of a layer under which nothing is under way are those of its file; and so the file is closed once it says so.
use Rattle.std.proofs.Common.{◌≡◌, ℕ, ◌+◌, ◌/◌, ◌%◌, ◌≤◌, ◌||◌, Bool, true, false, cond, List, [], ◌∷◌, length, refl, sym, ◌∙◌, ap, subst, inl, inr, arith}
use Rattle.std.proofs.lemmas.Bool.{and_parts}
use Rattle.std.specs.Prelude.{nat_le}
use Rattle.cckd_shelf.specs.World.{IsSure, file_of}
use Rattle.cckd_shelf.specs.Outcomes.{EachOutcome}
use Rattle.cckd_shelf.specs.Seen.{Seen, Tells}
use Rattle.cckd_base.specs.declared.geometry.Layout.{Layout}
use Rattle.cckd_base.specs.Header.{headers_of}
use Rattle.cckd_base.specs.Survey.{header_space, used_spaces}
use Rattle.cckd_image.specs.declared.header.CckdHeader.{CckdHeader}
use Rattle.cckd_image.specs.Image.{cckd_header_of}
use Rattle.cckd_space.specs.declared.piece.Kind.{Kind}
use Rattle.cckd_space.specs.declared.piece.Kind.TheVariants.{Used, Free, Reserved, Leaving, Pending}
use Rattle.cckd_space.specs.declared.piece.Piece.{Piece}
use Rattle.cckd_space.specs.Pieces.{Has, IsLaid, AreUsedOrFree, counted, is_free, is_used, is_leaving, is_pending, free_kind, used_kind, leaving_kind, pending_kind, used_piece, pieces_of}
use Rattle.cckd_space.specs.Plan.{Plan, totals_of}
use Rattle.cckd_space.proofs.PlaceLemmas.{laid_apart}
use Rattle.cckd_space.proofs.SameLemmas.{UsedIn, same_laid}
use Rattle.cckd_space.proofs.UsedLemmas.{pieces_both}
use Rattle.cckd_tables.specs.Staging.{Stages}
use Rattle.cckd_layer.specs.Held.{NullBytes}
use Rattle.cckd_layer.specs.Current.{Current}
use Rattle.cckd_layer.specs.Chain.{chained, first_place, roomy_from, roomy_pieces, IsClosedFrom}
use Rattle.cckd_layer.specs.Closed.{roomy_runs, said_totals, file_totals, IsChain, IsClosed}
use Rattle.cckd_layer.specs.Stands.{nothing_staged, LayerView, Stands}
use Rattle.cckd_layer.specs.Mounted.{LayerState, kept_view}
use Rattle.cckd_layer.specs.Writes.{Agrees, KeepsMap, IsSameLayer, IsSettled, StaysClosed, closed_layer}
use Rattle.cckd_layer.proofs.MountLemmas.{IsFound, mounted_current, not_placed}
use Rattle.cckd_layer.proofs.StandLemmas.{stands_sits}
use Rattle.cckd_layer.proofs.ChainLemmas.{changes_nothing, roomy_all}
use Rattle.cckd_layer.proofs.ClosedLemmas.{AreRoomy, are_roomy, chained_changes, stands_closed}
use Rattle.cckd_layer.proofs.SurveyedLemmas.{found_whole}
use Rattle.cckd_layer.proofs.TotalsLemmas.{roomy_made, free_place, totals_same}
use Rattle.cckd_layer.proofs.LinkLemmas.{AreInOrder, HasLinks, roomy_in_order, chained_links, headed_links, chain_read}
use Rattle.cckd_layer.proofs.ClosedLayerLemmas.{closed_fits, last_second, closed_keeps, ends_with, current_of}

-- ---- pieces where nothing is under way

none_counted : (test : Piece → Bool) (ps : List Piece) (p : Piece) → counted test ps ≡ 0 → Has p ps → test p ≡ false
none_counted test [] p none there = absurd there
none_counted test (q ∷ qs) p none there = by (test q) refl (λ none later. none_counted test qs p none later)
  where
    by : (b : Bool) → test q ≡ b → (counted test qs ≡ 0 → Has p qs → test p ≡ false) → test p ≡ false
    by true e more = absurd (let n : cond true 1 0 + counted test qs ≡ 0 = rw e at none in omega (arith, n))
    by false e more = elim there [
      | inl same ↦ ap test (sym same) ∙ e
      | inr later ↦ more (let n : cond false 1 0 + counted test qs ≡ 0 = rw e at none in omega (arith, n)) later
    ]

both_of : (k : Kind) → leaving_kind k ≡ false → pending_kind k ≡ false → (k ≡ Reserved → ⊥) → (used_kind k || free_kind k) ≡ true
both_of Used a b c = refl
both_of Free a b c = refl
both_of Reserved a b c = absurd (c refl)
both_of Leaving a b c = absurd (let e : true ≡ false = a in cc)
both_of Pending a b c = absurd (let e : true ≡ false = b in cc)

all_both : (ps : List Piece) → ((p : Piece) → Has p ps → (is_used p || is_free p) ≡ true) → AreUsedOrFree ps
all_both [] f = tt
all_both (p ∷ ps) f = (f p (inl refl), all_both ps (λ q there. f q (inr there)))

settled_both : (l : Layout) (plan : Plan) (file : List ℕ) → Current l nothing_staged [] plan file → counted is_leaving plan.pieces ≡ 0 → counted is_pending plan.pieces ≡ 0 → AreUsedOrFree plan.pieces
settled_both l plan file c leaving pending = all_both plan.pieces (λ p there.
    both_of p.kind (none_counted is_leaving plan.pieces p leaving there) (none_counted is_pending plan.pieces p pending there)
    (λ kind. let named = c.accounts.reserved.named p there kind in not_placed named.0 named.1))

used_is : (k : Kind) → used_kind k ≡ true → k ≡ Used
used_is Used e = refl
used_is Free e = absurd (let f : false ≡ true = e in cc)
used_is Reserved e = absurd (let f : false ≡ true = e in cc)
used_is Leaving e = absurd (let f : false ≡ true = e in cc)
used_is Pending e = absurd (let f : false ≡ true = e in cc)

-- two plans of one file have the same Used pieces
same_used : (l : Layout) (a b : Plan) (file : List ℕ) → Current l nothing_staged [] a file → Current l nothing_staged [] b file → UsedIn a.pieces b.pieces
same_used l a b file x y p there used =
    let named = x.accounts.used.named p there (used_is p.kind used) in
    subst (λ (q : Piece). Has q b.pieces) (sym named.2) (y.accounts.used.there named.0 named.1)

-- so the pieces are exactly those of the spaces that the survey of the file finds in use
pub pieces_are : (l : Layout) (plan : Plan) (file : List ℕ) → IsFound l file → plan.size ≡ length file → Current l nothing_staged [] plan file → counted is_leaving plan.pieces ≡ 0 → counted is_pending plan.pieces ≡ 0
    → plan.pieces ≡ pieces_of 0 (used_spaces l file) (length file)
pieces_are l plan file found size c leaving pending =
    let n = length file in
    let used = used_spaces l file in
    let made : Plan = record { pieces = pieces_of 0 used n; size = n; limit = plan.limit; spare = plan.spare } in
    let other : Current l nothing_staged [] made file = mounted_current l file found plan.limit plan.spare c.spans.limited in
    same_laid 0 plan.pieces (pieces_of 0 used n) n (subst (IsLaid 0 plan.pieces) size c.spans.laid) found.laid (settled_both l plan file c leaving pending) (pieces_both 0 used n)
    (same_used l plan made file c other) (same_used l made plan file other c)

-- ---- the chain

-- the free spaces stand behind the headers
behind_headers : (l : Layout) (ps rs : List Piece) (end : ℕ) → IsLaid 0 ps end → Has (used_piece (header_space l.groups)) ps → 1024 ≤ end → AreRoomy ps rs → AreInOrder 0 rs end → AreInOrder 1024 rs end
behind_headers l ps [] end laid area long roomy h = long
behind_headers l ps (r ∷ rs) end laid area long roomy h = elim (laid_apart 0 ps end (used_piece (header_space l.groups)) r laid area roomy.0) [
  | inl same ↦ absurd (let e : true ≡ false = sym (and_parts (is_free r) (nat_le 8 r.size) roomy.1).0 ∙ sym (ap is_free same) in cc)
  | inr (inl behind) ↦ (omega (arith, behind), h.1, h.2)
  | inr (inr before) ↦ absurd (omega (arith, before, h.1))
]

-- the chain of a file that was closed is read back
chain_there : (v : LayerView) (slot : ℕ) (old new : Seen) (c : CckdHeader) → Stands v slot old.world → 1024 ≤ v.plan.size → v.plan.size ≤ length (file_of old.world slot) → Has (used_piece (header_space v.layout.groups)) v.plan.pieces
    → IsClosedFrom v.layout.order v.plan.pieces c (file_of old.world slot) (file_of new.world slot)
    → IsChain v.layout.order (file_of new.world slot) (first_place (roomy_from 0 v.plan.pieces)) (roomy_from 0 v.plan.pieces)
chain_there v slot old new c h long ends area closed =
    let ps = v.plan.pieces in
    let end = v.plan.size in
    let rs = roomy_from 0 ps in
    let was = file_of old.world slot in
    let mid = chained v.layout.order rs was in
    let laid = h.now.spans.laid in
    let changes = chained_changes ps end v.layout.order rs was was laid (are_roomy 0 ps) (changes_nothing ps end was) in
    let low : AreInOrder 0 rs end = subst (λ (qs : List Piece). AreInOrder 0 qs end) (sym (roomy_all ps end laid)) (roomy_in_order 0 ps end laid) in
    let order = behind_headers v.layout ps rs end laid area long (are_roomy 0 ps) low in
    let links = headed_links v.layout.order 1024 rs end mid closed.0 (omega arith) (omega (arith, ends, changes.no_shorter)) closed.1.long order (chained_links v.layout.order 1024 rs end was order) in
    chain_read v.layout.order 1024 rs end (file_of new.world slot) h.now.spans.short order (subst (λ (f : List ℕ). HasLinks v.layout.order f rs) (sym closed.2) links)

-- ---- the image

-- A layer under which nothing is under way leaves a closed image, once its chain and its second header are written.
pub image_closed : (s : LayerState) (old new : Seen) → IsSettled s → IsSure new.world
    → IsClosedFrom s.tables.layout.order s.plan.pieces (last_second s) (file_of old.world s.slot) (file_of new.world s.slot)
    → EachOutcome s.slot (λ f. f ≡ file_of new.world s.slot) new.world.events → Agrees s old.world → IsClosed s.tables.layout (file_of new.world s.slot)
image_closed s old new settled sure closed alone a =
    let l = s.tables.layout in
    let v = kept_view s in
    let ps = s.plan.pieces in
    let was = file_of old.world s.slot in
    let file = file_of new.world s.slot in
    let fits = closed_fits l (totals_of s.plan) s.header.cckd a.fits in
    let before = current_of s old.world settled.stages a in
    let ends = ends_with l s.plan was before in
    let final = closed_keeps v s.slot old new (last_second s) fits a.stands closed ends in
    let stands = stands_closed v s.slot old.world new.world (last_second s) fits a.stands sure closed alone in
    let whole = (stands_sits (record v { marked = false }) s.slot new.world stands).whole in
    let now : Current l nothing_staged [] s.plan file = subst (λ (st : Stages). Current l st [] s.plan file) settled.stages stands.now in
    let size : s.plan.size ≡ length file = omega (arith, ends_with l s.plan file now, now.spans.covers) in
    let is = pieces_are l s.plan file (found_whole l file whole) size now settled.leaving settled.pending in
    let totals : totals_of s.plan ≡ file_totals l file = totals_same (used_spaces l file) (length file) s.plan is size in
    let runs : roomy_pieces ps ≡ roomy_runs l file = ap roomy_pieces is ∙ roomy_made 0 (used_spaces l file) (length file) in
    let all = roomy_all ps s.plan.size a.stands.now.spans.laid in
    let chain = chain_there v s.slot old new (last_second s) a.stands (omega (arith, size, whole.image.area)) ends (before.accounts.used.there (header_space l.groups) (inl refl)) closed in
    let free : (cckd_header_of (headers_of file)).free ≡ first_place (roomy_pieces ps) = ap (λ (c : CckdHeader). c.free) final.second ∙ free_place ps in
    record {
      unmarked = ap (λ (c : CckdHeader). c.options / 128 % 2) final.second ∙ omega arith;
      totals = ap said_totals final.second ∙ totals;
      chain = subst (λ (n : ℕ). IsChain l.order file n (roomy_runs l file)) (sym free)
          (subst (λ (rs : List Piece). IsChain l.order file (first_place (roomy_pieces ps)) rs) runs
          (subst (λ (rs : List Piece). IsChain l.order file (first_place rs) rs) all chain));
    }

-- so does a layer that is hardened first
pub stays_closed : (null : NullBytes) (s m n : LayerState) (a b c : Seen) → (Tells a → Tells b) → IsSameLayer s m → n ≡ closed_layer m → m.hardened ≡ true → KeepsMap null s m a b → KeepsMap null m n b c
    → (Tells b → Agrees m b.world → IsClosed m.tables.layout (file_of c.world m.slot)) → Tells a → Agrees s a.world → StaysClosed s.tables.layout s.slot c.world
stays_closed null s m n a b c tells same is hard first then closed told agrees =
    let k = first told agrees in
    let z = then (tells told) k.agrees in
    let slot : n.slot ≡ s.slot = ap (λ (x : LayerState). x.slot) is ∙ same.slot in
    record {
      closed = subst (λ (l : Layout). IsClosed l (file_of c.world s.slot)) same.layout
          (subst (λ (i : ℕ). IsClosed m.tables.layout (file_of c.world i)) same.slot (closed (tells told) k.agrees));
      alone = subst (λ (i : ℕ). EachOutcome i (λ f. f ≡ file_of c.world i) c.world.events) slot (z.agrees.alone (ap (λ (x : LayerState). x.hardened) is ∙ hard));
    }
