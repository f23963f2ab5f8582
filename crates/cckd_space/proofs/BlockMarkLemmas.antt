-- The marks of a block stay true.
use Rattle.std.proofs.Common.{◌≡◌, ℕ, ◌≤◌, Bool, true, false, List, [], ◌∷◌, drop, map, refl, sym, ◌∙◌, ap, arith}
use Rattle.cckd_space.specs.declared.piece.Kind.{Kind}
use Rattle.cckd_space.specs.declared.piece.Piece.{Piece}
use Rattle.cckd_space.specs.Pieces.{is_reserved_at, is_used_at, left, replaced, reserved_in, has_room, retired, released, merged, counted, is_leaving, is_pending, leaving_kind, pending_kind, cut, freed}
use Rattle.cckd_space.specs.Blocks.{AreMarked}
use Rattle.cckd_space.proofs.LaidLemmas.{room_facts}
use Rattle.cckd_space.proofs.CountLemmas.{one, found_reserved, found_used, count_even, count_reserved_in, count_merged, count_retired, count_released, count_cut, free_kinds}

-- with no more of both, the marks stay true
pub block_fewer : (old new : List Piece) (leaving pending : Bool) → counted is_leaving new ≤ counted is_leaving old → counted is_pending new ≤ counted is_pending old → AreMarked old leaving pending → AreMarked new leaving pending
block_fewer old new leaving pending a b m = record {
  none_leaving = λ e. let h = m.none_leaving e in omega (arith, h, a);
  none_pending = λ e. let h = m.none_pending e in omega (arith, h, b);
}

-- bytes reserved in a free piece
pub block_filled : (test : Piece → Bool) (need : ℕ) → ((p : Piece) → test p ≡ true → has_room need p ≡ true) → (ps : List Piece) (leaving pending : Bool) → AreMarked ps leaving pending → AreMarked (replaced test (reserved_in need) ps) leaving pending
block_filled test need fits ps leaving pending m =
    let a = count_even leaving_kind refl test (reserved_in need) (λ p e. count_reserved_in leaving_kind refl need p ∙ sym (ap one (free_kinds p.kind (room_facts need p (fits p e)).free).0)) ps in
    let b = count_even pending_kind refl test (reserved_in need) (λ p e. count_reserved_in pending_kind refl need p ∙ sym (ap one (free_kinds p.kind (room_facts need p (fits p e)).free).1)) ps in
    block_fewer ps (replaced test (reserved_in need) ps) leaving pending (omega (arith, a)) (omega (arith, b)) m

pub block_retired : (ps : List Piece) → AreMarked (map retired ps) false true
block_retired ps = record {
  none_leaving = λ e. let a = count_retired leaving_kind refl ps in omega (arith, a);
  none_pending = λ (e : true ≡ false). absurd cc;
}

pub block_released : (ps : List Piece) (leaving pending : Bool) → AreMarked ps leaving pending → AreMarked (merged (map released ps)) leaving false
block_released ps leaving pending m = record {
  none_leaving = λ e. let h = m.none_leaving e in let a = count_released leaving_kind refl ps in omega (arith, h, a);
  none_pending = λ e. let b = count_released pending_kind refl ps in omega (arith, b);
}

-- a piece, neither Leaving nor Pending, in place of a Reserved one
pub block_settled : (pos : ℕ) (f : Piece → Piece) → ((p : Piece) → leaving_kind (f p).kind ≡ false) → ((p : Piece) → pending_kind (f p).kind ≡ false) → (ps : List Piece) (leaving pending : Bool)
    → AreMarked ps leaving pending → AreMarked (replaced (is_reserved_at pos) (λ p. f p ∷ []) ps) leaving pending
block_settled pos f a b ps leaving pending m =
    let c = count_even leaving_kind refl (is_reserved_at pos) (λ p. f p ∷ []) (λ p e. let n = ap one (a p) in let k = ap (λ (x : Kind). one (leaving_kind x)) (found_reserved pos p e) in omega (arith, n, k)) ps in
    let d = count_even pending_kind refl (is_reserved_at pos) (λ p. f p ∷ []) (λ p e. let n = ap one (b p) in let k = ap (λ (x : Kind). one (pending_kind x)) (found_reserved pos p e) in omega (arith, n, k)) ps in
    block_fewer ps (replaced (is_reserved_at pos) (λ p. f p ∷ []) ps) leaving pending (omega (arith, c)) (omega (arith, d)) m

-- a Used piece that leaves
pub block_left : (pos : ℕ) (ps : List Piece) (leaving pending : Bool) → AreMarked ps leaving pending → AreMarked (replaced (is_used_at pos) (λ p. left p ∷ []) ps) true pending
block_left pos ps leaving pending m = record {
  none_leaving = λ (e : true ≡ false). absurd cc;
  none_pending = λ e.
      let h = m.none_pending e in
      let d = count_even pending_kind refl (is_used_at pos) (λ p. left p ∷ []) (λ p t. let k = ap (λ (x : Kind). one (pending_kind x)) (found_used pos p t) in omega (arith, k)) ps in
      omega (arith, h, d);
}

-- one piece, or one more
pub marked_one : (p : Piece) → AreMarked (p ∷ []) (is_leaving p) (is_pending p)
marked_one p = record { none_leaving = λ e. rw e (omega arith); none_pending = λ e. rw e (omega arith) }

-- another end
pub block_cut : (len size : ℕ) (ps : List Piece) (leaving pending : Bool) → AreMarked ps leaving pending → AreMarked (cut len size ps) leaving pending
block_cut len size ps leaving pending m =
    let a = count_cut leaving_kind refl len size ps in
    let b = count_cut pending_kind refl len size ps in
    block_fewer ps (cut len size ps) leaving pending (omega (arith, a)) (omega (arith, b)) m

-- a Reserved piece that is given back
pub block_given_back : (pos : ℕ) (ps : List Piece) (leaving pending : Bool) → AreMarked ps leaving pending → AreMarked (merged (replaced (is_reserved_at pos) (λ p. freed p ∷ []) ps)) leaving pending
block_given_back pos ps leaving pending m =
    let now = replaced (is_reserved_at pos) (λ p. freed p ∷ []) ps in
    let a = count_merged leaving_kind refl now in
    let b = count_merged pending_kind refl now in
    block_fewer now (merged now) leaving pending (omega (arith, a)) (omega (arith, b))
    (block_settled pos freed (λ p. refl) (λ p. refl) ps leaving pending m)

-- without its first piece
pub block_rest : (ps : List Piece) (leaving pending : Bool) → AreMarked ps leaving pending → AreMarked (drop 1 ps) leaving pending
block_rest [] leaving pending m = m
block_rest (p ∷ ps) leaving pending m = block_fewer (p ∷ ps) ps leaving pending (omega arith) (omega arith) m
