-- The pieces of a file as it was surveyed: which spaces they are.
use Rattle.std.proofs.Common.{◌≡◌, ◌⊎◌, ℕ, ◌+◌, ◌-◌, ◌≤◌, nat_lt, true, ◌||◌, List, [], ◌∷◌, ◌++◌, length, refl, sym, ◌∙◌, ap, inl, inr, arith}
use Rattle.std.proofs.lemmas.Bool.{cond_both, false≢true}
use Rattle.cckd_base.specs.declared.space.Extent.{Extent}
use Rattle.cckd_base.proofs.MemberLemmas.{In}
use Rattle.cckd_space.specs.declared.piece.Kind.{Kind}
use Rattle.cckd_space.specs.declared.piece.Kind.TheVariants.{Used, Free, Reserved, Leaving, Pending}
use Rattle.cckd_space.specs.declared.piece.Piece.{Piece}
use Rattle.cckd_space.specs.Pieces.{Has, free_piece, free_run, used_piece, pieces_of, piece_end, used_kind, free_kind, is_used, is_free, AreUsedOrFree, IsLaid}
use Rattle.cckd_space.proofs.LaidLemmas.{laid_le}
use Rattle.cckd_space.proofs.UsedLemmas.{pieces_both}

has_left : (p : Piece) (xs ys : List Piece) → Has p xs → Has p (xs ++ ys)
has_left p [] ys h = absurd h
has_left p (x ∷ xs) ys h = elim h [ inl e ↦ inl e | inr m ↦ inr (has_left p xs ys m) ]

has_right : (p : Piece) (xs ys : List Piece) → Has p ys → Has p (xs ++ ys)
has_right p [] ys h = h
has_right p (x ∷ xs) ys h = inr (has_right p xs ys h)

has_split : (p : Piece) (xs ys : List Piece) → Has p (xs ++ ys) → Has p xs ⊎ Has p ys
has_split p [] ys h = inr h
has_split p (x ∷ xs) ys h = elim h [ inl e ↦ inl (inl e) | inr m ↦ elim (has_split p xs ys m) [ inl k ↦ inl (inr k) | inr k ↦ inr k ] ]

run_is_free : (p : Piece) (from to : ℕ) → Has p (free_run from to) → p.kind ≡ Free
run_is_free p from to h =
    cond_both (nat_lt from to) (free_piece from (to - from) ∷ []) [] (λ (l : List Piece). Has p l → p.kind ≡ Free)
    (λ e k. elim k [ inl same ↦ ap (λ (q : Piece). q.kind) (sym same) | inr none ↦ absurd none ])
    (λ e k. absurd k) h

-- each space that is used is a piece
pub used_there : (e : Extent) (at : ℕ) (es : List Extent) (size : ℕ) → In e es → Has (used_piece e) (pieces_of at es size)
used_there e at [] size h = absurd h
used_there e at (x ∷ xs) size h = has_right (used_piece e) (free_run at x.pos) (used_piece x ∷ pieces_of (x.pos + x.size) xs size) (elim h [
  | inl same ↦ inl (ap used_piece same)
  | inr m ↦ inr (used_there e (x.pos + x.size) xs size m)
])

-- and each Used piece is such a space
pub used_from : (p : Piece) (at : ℕ) (es : List Extent) (size : ℕ) → Has p (pieces_of at es size) → p.kind ≡ Used → (e : Extent) × In e es × (p ≡ used_piece e)
used_from p at [] size h k = absurd (let f : Used ≡ Free = sym k ∙ run_is_free p at size h in cc)
used_from p at (x ∷ xs) size h k = elim (has_split p (free_run at x.pos) (used_piece x ∷ pieces_of (x.pos + x.size) xs size) h) [
  | inl run ↦ absurd (let f : Used ≡ Free = sym k ∙ run_is_free p at x.pos run in cc)
  | inr (inl same) ↦ (x, inl refl, sym same)
  | inr (inr m) ↦ let r = used_from p (x.pos + x.size) xs size m k in (r.0, inr r.1, r.2)
]

both_kinds : (p : Piece) (ps : List Piece) → AreUsedOrFree ps → Has p ps → (is_used p || is_free p) ≡ true
both_kinds p [] both h = absurd h
both_kinds p (q ∷ qs) both h = elim h [
  | inl same ↦ ap (λ (x : Piece). is_used x || is_free x) (sym same) ∙ both.0
  | inr m ↦ both_kinds p qs both.1 m
]

other_kind : (k kind : Kind) → (used_kind k || free_kind k) ≡ true → k ≡ kind → (used_kind kind || free_kind kind) ≡ true
other_kind k kind e same = ap (λ (x : Kind). used_kind x || free_kind x) (sym same) ∙ e

-- no other kind is there
pub none_leaving : (p : Piece) (es : List Extent) (size : ℕ) → Has p (pieces_of 0 es size) → p.kind ≡ Leaving → ⊥
none_leaving p es size h k = false≢true (other_kind p.kind Leaving (both_kinds p (pieces_of 0 es size) (pieces_both 0 es size) h) k)

pub none_reserved : (p : Piece) (es : List Extent) (size : ℕ) → Has p (pieces_of 0 es size) → p.kind ≡ Reserved → ⊥
none_reserved p es size h k = false≢true (other_kind p.kind Reserved (both_kinds p (pieces_of 0 es size) (pieces_both 0 es size) h) k)

pub none_pending : (p : Piece) (es : List Extent) (size : ℕ) → Has p (pieces_of 0 es size) → p.kind ≡ Pending → ⊥
none_pending p es size h k = false≢true (other_kind p.kind Pending (both_kinds p (pieces_of 0 es size) (pieces_both 0 es size) h) k)

-- each piece ends inside the file
pub ends_within : (p : Piece) (at : ℕ) (ps : List Piece) (end : ℕ) → IsLaid at ps end → Has p ps → piece_end p ≤ end
ends_within p at [] end laid h = absurd h
ends_within p at (q ∷ qs) end laid h = elim h [
  | inl same ↦ let far = laid_le (at + q.size) qs end laid.2 in let e = ap piece_end same in omega (arith, far, e, laid.0.place)
  | inr m ↦ ends_within p (at + q.size) qs end laid.2 m
]

-- there are at least as many pieces as used spaces
pub no_fewer : (at : ℕ) (es : List Extent) (size : ℕ) → length es ≤ length (pieces_of at es size)
no_fewer at [] size = omega arith
no_fewer at (e ∷ es) size = let r = no_fewer (e.pos + e.size) es size in let l = long (free_run at e.pos) (used_piece e ∷ pieces_of (e.pos + e.size) es size) in omega (arith, r, l)
  where
    long : (xs ys : List Piece) → length ys ≤ length (xs ++ ys)
    long [] ys = omega arith
    long (x ∷ xs) ys = let r = long xs ys in omega (arith, r)
