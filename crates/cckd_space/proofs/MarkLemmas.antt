-- The marks of a `Space` stay true.
use Rattle.std.proofs.Common.{◌≡◌, ℕ, ◌+◌, nat_lt, Bool, true, false, cond, List, [], ◌∷◌, map, Option, Some, None, IsSome, refl, subst, sym, ◌∙◌, ap, arith}
use Rattle.std.proofs.lemmas.Bool.{lt-ltb, ltb-true, ltb-false}
use Rattle.cckd_base.specs.declared.space.Extent.{Extent}
use Rattle.cckd_space.specs.declared.piece.Kind.{Kind}
use Rattle.cckd_space.specs.declared.piece.Kind.TheVariants.{Used, Free, Reserved, Leaving, Pending}
use Rattle.cckd_space.specs.declared.piece.Piece.{Piece}
use Rattle.cckd_space.specs.Pieces.{first, replaced, reserved_in, is_reserved_at, is_used_at, has_room, left, appended, cut, retired, retired_as, released, released_as, merged, counted, pieces_of, is_leaving, is_pending, leaving_kind, pending_kind}
use Rattle.cckd_space.specs.Inside.{AreMerged, IsMarked}
use Rattle.cckd_space.proofs.LaidLemmas.{room_facts}
use Rattle.cckd_space.proofs.MergeLemmas.{merged_same}
use Rattle.cckd_space.proofs.CountLemmas.{one, free_kinds, count_even, count_reserved_in, count_merged, count_used, count_left, count_retired, count_released, count_cut, count_appended, found_reserved}

-- with as many of both, the marks stay true
pub marked_even : (old new : List Piece) (leaving pending : Bool) → counted is_leaving new ≡ counted is_leaving old → counted is_pending new ≡ counted is_pending old → IsMarked old leaving pending → IsMarked new leaving pending
marked_even old new leaving pending a b m = record {
  some_leaving = m.some_leaving ∙ ap (nat_lt 0) (sym a);
  some_pending = m.some_pending ∙ ap (nat_lt 0) (sym b);
}

pub marked_used : (es : List Extent) (size : ℕ) → IsMarked (pieces_of 0 es size) false false
marked_used es size = record {
  some_leaving = ap (nat_lt 0) (sym (count_used leaving_kind refl 0 es size));
  some_pending = ap (nat_lt 0) (sym (count_used pending_kind refl 0 es size));
}

-- bytes reserved in a free piece
pub marked_filled : (test : Piece → Bool) (need : ℕ) → ((p : Piece) → test p ≡ true → has_room need p ≡ true) → (ps : List Piece) (leaving pending : Bool) → IsMarked ps leaving pending → IsMarked (replaced test (reserved_in need) ps) leaving pending
marked_filled test need fits ps leaving pending m =
    marked_even ps (replaced test (reserved_in need) ps) leaving pending
    (count_even leaving_kind refl test (reserved_in need) (λ p e. count_reserved_in leaving_kind refl need p ∙ sym (ap one (free_kinds p.kind (room_facts need p (fits p e)).free).0)) ps)
    (count_even pending_kind refl test (reserved_in need) (λ p e. count_reserved_in pending_kind refl need p ∙ sym (ap one (free_kinds p.kind (room_facts need p (fits p e)).free).1)) ps) m

-- one piece, of neither kind, in place of a Reserved one
pub marked_swapped : (pos : ℕ) (f : Piece → Piece) → ((p : Piece) → leaving_kind (f p).kind ≡ false) → ((p : Piece) → pending_kind (f p).kind ≡ false) → (ps : List Piece) (leaving pending : Bool)
    → IsMarked ps leaving pending → IsMarked (replaced (is_reserved_at pos) (λ p. f p ∷ []) ps) leaving pending
marked_swapped pos f a b ps leaving pending m =
    marked_even ps (replaced (is_reserved_at pos) (λ p. f p ∷ []) ps) leaving pending
    (count_even leaving_kind refl (is_reserved_at pos) (λ p. f p ∷ []) (λ p e. let n = ap one (a p) in let k = ap (λ (x : Kind). one (leaving_kind x)) (found_reserved pos p e) in omega (arith, n, k)) ps)
    (count_even pending_kind refl (is_reserved_at pos) (λ p. f p ∷ []) (λ p e. let n = ap one (b p) in let k = ap (λ (x : Kind). one (pending_kind x)) (found_reserved pos p e) in omega (arith, n, k)) ps) m

-- a Used piece that leaves
pub marked_left : (pos : ℕ) (ps : List Piece) (leaving pending : Bool) → IsSome (first (is_used_at pos) ps) → IsMarked ps leaving pending → IsMarked (replaced (is_used_at pos) (λ p. left p ∷ []) ps) true pending
marked_left pos ps leaving pending there m = by (first (is_used_at pos) ps) refl
  where
    by : (o : Option Piece) → first (is_used_at pos) ps ≡ o → IsMarked (replaced (is_used_at pos) (λ p. left p ∷ []) ps) true pending
    by None e = absurd (let n : false ≡ true = rw e at there in cc)
    by (Some p) e =
        let new = replaced (is_used_at pos) (λ q. left q ∷ []) ps in
        let a = count_left leaving_kind refl pos ps p e in
        let b = count_left pending_kind refl pos ps p e in
        let same : counted is_pending new ≡ counted is_pending ps = omega (arith, b) in
        record {
          some_leaving = sym (lt-ltb 0 (counted is_leaving new) (omega (arith, a)));
          some_pending = m.some_pending ∙ ap (nat_lt 0) (sym same);
        }

pub marked_merged : (ps : List Piece) (leaving pending : Bool) → IsMarked ps leaving pending → IsMarked (merged ps) leaving pending
marked_merged ps leaving pending m = marked_even ps (merged ps) leaving pending (count_merged leaving_kind refl ps) (count_merged pending_kind refl ps) m

-- another end
pub marked_cut : (len size : ℕ) (ps : List Piece) (leaving pending : Bool) → IsMarked ps leaving pending → IsMarked (cut len size ps) leaving pending
marked_cut len size ps leaving pending m = marked_even ps (cut len size ps) leaving pending (count_cut leaving_kind refl len size ps) (count_cut pending_kind refl len size ps) m

pub marked_appended : (need : ℕ) (ps : List Piece) (leaving pending : Bool) → IsMarked ps leaving pending → IsMarked (appended need ps) leaving pending
marked_appended need ps leaving pending m =
    let a = count_appended leaving_kind refl need ps in
    let b = count_appended pending_kind refl need ps in
    marked_even ps (appended need ps) leaving pending (omega (arith, a)) (omega (arith, b)) m

-- once all is retired or released, none is left

pub marked_retired : (ps : List Piece) (pending : Bool) → IsMarked ps true pending → IsMarked (map retired ps) false true
marked_retired ps pending m =
    let some = ltb-true 0 (counted is_leaving ps) (sym m.some_leaving) in
    let a = count_retired leaving_kind refl ps in
    let b = count_retired pending_kind refl ps in
    let none : counted is_leaving (map retired ps) ≡ 0 = omega (arith, a) in
    record {
      some_leaving = ap (nat_lt 0) (sym none);
      some_pending = sym (lt-ltb 0 (counted is_pending (map retired ps)) (omega (arith, b, some)));
    }

pub marked_released : (ps : List Piece) (leaving pending : Bool) → IsMarked ps leaving pending → IsMarked (merged (map released ps)) leaving false
marked_released ps leaving pending m =
    let a = count_released leaving_kind refl ps in
    let b = count_released pending_kind refl ps in
    let same : counted is_leaving (merged (map released ps)) ≡ counted is_leaving ps = omega (arith, a) in
    let none : counted is_pending (merged (map released ps)) ≡ 0 = omega (arith, b) in
    record {
      some_leaving = m.some_leaving ∙ ap (nat_lt 0) (sym same);
      some_pending = ap (nat_lt 0) (sym none);
    }

-- where a mark is false there is none
pub none_marked : (n : ℕ) (mark : Bool) → mark ≡ nat_lt 0 n → mark ≡ false → n ≡ 0
none_marked n mark m e = let l = ltb-false 0 n (sym m ∙ e) in omega (arith, l)

-- where there is none, all stays

retired_same : (p : Piece) → is_leaving p ≡ false → retired p ≡ p
retired_same p h = elim p.kind as (λ k. leaving_kind k ≡ false → retired_as k p ≡ p) [ Used ↦ λ e. refl | Free ↦ λ e. refl | Reserved ↦ λ e. refl | Leaving ↦ λ (e : true ≡ false). absurd cc | Pending ↦ λ e. refl ] h

pub released_same : (p : Piece) → is_pending p ≡ false → released p ≡ p
released_same p h = elim p.kind as (λ k. pending_kind k ≡ false → released_as k p ≡ p) [ Used ↦ λ e. refl | Free ↦ λ e. refl | Reserved ↦ λ e. refl | Leaving ↦ λ e. refl | Pending ↦ λ (e : true ≡ false). absurd cc ] h

none_first : (b : Bool) (n : ℕ) → cond b 1 0 + n ≡ 0 → (b ≡ false) × (n ≡ 0)
none_first true n h = absurd (omega (arith, h))
none_first false n h = (refl, omega (arith, h))

pub retired_none : (ps : List Piece) → counted is_leaving ps ≡ 0 → map retired ps ≡ ps
retired_none [] h = refl
retired_none (p ∷ ps) h =
    let n = none_first (is_leaving p) (counted is_leaving ps) h in
    rw (retired_same p n.0) (ap (λ (l : List Piece). p ∷ l) (retired_none ps n.1))

released_none_mapped : (ps : List Piece) → counted is_pending ps ≡ 0 → map released ps ≡ ps
released_none_mapped [] h = refl
released_none_mapped (p ∷ ps) h =
    let n = none_first (is_pending p) (counted is_pending ps) h in
    rw (released_same p n.0) (ap (λ (l : List Piece). p ∷ l) (released_none_mapped ps n.1))

pub released_none : (ps : List Piece) → AreMerged ps → counted is_pending ps ≡ 0 → merged (map released ps) ≡ ps
released_none ps a h = subst (λ (l : List Piece). merged l ≡ ps) (sym (released_none_mapped ps h)) (merged_same ps a)
