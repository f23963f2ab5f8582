-- For callers: two pieces share no byte, and what is placed shares none with a piece that isn't Free.
use Rattle.std.proofs.Common.{◌≡◌, ◌⊎◌, ℕ, ◌+◌, ◌≤◌, min, nat_le, true, false, List, [], ◌∷◌, Option, Some, None, IfSome, refl, sym, ◌∙◌, ap, subst, inl, inr, arith}
use Rattle.std.proofs.lemmas.Bool.{and_parts, cond_both, cond-false, leb-true}
use Rattle.cckd_base.specs.Image.{ShareNoByte}
use Rattle.cckd_space.specs.declared.piece.Piece.{Piece}
use Rattle.cckd_space.specs.Pieces.{Has, is_free, first, has_room, has_room_below, aligned_up, piece_end, used_end, end_place, reserved_piece, IsLaid}
use Rattle.cckd_space.specs.Plan.{IsClear, first_fit, first_fit_below, place_of}
use Rattle.cckd_space.proofs.LaidLemmas.{below_room, laid_le, room_facts}
use Rattle.cckd_space.proofs.CallerLemmas.{first_has, laid_has}

-- two pieces of a list are one, or share no byte
pub laid_apart : (at : ℕ) (ps : List Piece) (end : ℕ) (p q : Piece) → IsLaid at ps end → Has p ps → Has q ps → (p ≡ q) ⊎ ShareNoByte p.pos p.size q.pos q.size
laid_apart at [] end p q l h k = absurd h
laid_apart at (x ∷ xs) end p q l h k = elim h [
  | inl a ↦ elim k [
    | inl b ↦ inl (sym a ∙ b)
    | inr m ↦ let r = laid_has (at + x.size) xs end q l.2 m in let e = ap piece_end a in inr (inl (omega (arith, r, e, l.0.place)))
  ]
  | inr m ↦ elim k [
    | inl b ↦ let r = laid_has (at + x.size) xs end p l.2 m in let e = ap piece_end b in inr (inr (omega (arith, r, e, l.0.place)))
    | inr n ↦ laid_apart (at + x.size) xs end p q l.2 m n
  ]
]

-- two Reserved pieces at two places share no byte
pub two_reserved : (ps : List Piece) (end a n b m : ℕ) → IsLaid 0 ps end → Has (reserved_piece a n) ps → Has (reserved_piece b m) ps → (a ≡ b → ⊥) → ShareNoByte a n b m
two_reserved ps end a n b m laid h k differ = elim (laid_apart 0 ps end (reserved_piece a n) (reserved_piece b m) laid h k) [
  | inl same ↦ absurd (differ (ap (λ (p : Piece). p.pos) same))
  | inr far ↦ far
]

-- a piece ends inside the file
pub has_within : (at : ℕ) (ps : List Piece) (end : ℕ) (p : Piece) → IsLaid at ps end → Has p ps → piece_end p ≤ end
has_within at [] end p l h = absurd h
has_within at (q ∷ qs) end p l h = elim h [
  | inl e ↦ let s = ap piece_end e in let r = laid_le (at + q.size) qs end l.2 in omega (arith, s, r, l.0.place)
  | inr m ↦ has_within (at + q.size) qs end p l.2 m
]

used_end_low : (at : ℕ) (p : Piece) (ps : List Piece) (end : ℕ) → IsLaid at (p ∷ ps) end → at ≤ used_end (p ∷ ps)
used_end_low at p [] end l = cond_both (is_free p) p.pos (piece_end p) (λ n. at ≤ n) (λ e. omega (arith, l.0.place)) (λ e. omega (arith, l.0.place))
used_end_low at p (q ∷ qs) end l = let r = used_end_low (at + p.size) q qs end l.2 in omega (arith, r)

-- a piece that isn't Free ends at or below the place where the file would end
pub ends_before : (at : ℕ) (ps : List Piece) (end : ℕ) (p : Piece) → IsLaid at ps end → is_free p ≡ false → Has p ps → piece_end p ≤ used_end ps
ends_before at [] end p l n h = absurd h
ends_before at (q ∷ []) end p l n h = elim h [
  | inl e ↦
      let f : is_free q ≡ false = ap is_free e ∙ n in
      let s = ap piece_end e in
      let u : used_end (q ∷ []) ≡ piece_end q = cond-false (is_free q) q.pos (piece_end q) f in
      omega (arith, s, u)
  | inr m ↦ absurd m
]
ends_before at (q ∷ r ∷ rs) end p l n h = elim h [
  | inl e ↦
      let s = ap piece_end e in
      let u = used_end_low (at + q.size) r rs end l.2 in
      omega (arith, s, u, l.0.place)
  | inr m ↦ ends_before (at + q.size) (r ∷ rs) end p l.2 n m
]

-- a free piece with room
pub filled_clear : (need : ℕ) (ps : List Piece) (end : ℕ) (q : Piece) → IsLaid 0 ps end → Has q ps → has_room need q ≡ true → IsClear ps (aligned_up q.pos) need
filled_clear need ps end q l there fits =
    let room = room_facts need q fits in
    record {
      each = λ p h n. elim (laid_apart 0 ps end p q l h there) [
        | inl same ↦ absurd (let g : true ≡ false = sym room.free ∙ (sym (ap is_free same) ∙ n) in cc)
        | inr far ↦ elim far [ inl a ↦ inl (omega (arith, a)) | inr b ↦ inr (omega (arith, b, room.fits)) ]
      ];
    }

-- the end of the file
pub end_clear : (need : ℕ) (ps : List Piece) (end : ℕ) → IsLaid 0 ps end → IsClear ps (end_place ps) need
end_clear need ps end l = record { each = λ p h n. let e = ends_before 0 ps end p l n h in inl (omega (arith, e)) }

-- `place`
pub placed_clear : (need : ℕ) (ps : List Piece) (end : ℕ) → IsLaid 0 ps end → IsClear ps (place_of need ps) need
placed_clear need ps end l = by (first (has_room need) ps) refl
  where
    by : (o : Option Piece) → first (has_room need) ps ≡ o → IsClear ps (place_of need ps) need
    by None e = rw e (end_clear need ps end l)
    by (Some q) e = let f = first_has (has_room need) ps q e in rw e (filled_clear need ps end q l f.0 f.1)

-- the first fit lies inside the file
pub fit_within : (need : ℕ) (ps : List Piece) (end pos : ℕ) → IsLaid 0 ps end → first_fit need ps ≡ Some pos → pos + need ≤ end
fit_within need ps end pos l h = by (first (has_room need) ps) refl
  where
    by : (o : Option Piece) → first (has_room need) ps ≡ o → pos + need ≤ end
    by None e = absurd (let g : None ≡ Some pos = rw e at h in cc)
    by (Some q) e =
        let f = first_has (has_room need) ps q e in
        let r = room_facts need q f.1 in
        let w = has_within 0 ps end q l f.0 in
        let s : aligned_up q.pos ≡ pos = (let g : Some (aligned_up q.pos) ≡ Some pos = rw e at h in cc) in
        omega (arith, r.fits, w, s)

-- `place_below`
pub below_clear : (need before : ℕ) (ps : List Piece) (end : ℕ) (o : Option ℕ) → IsLaid 0 ps end → o ≡ first_fit_below need before ps → IfSome o (λ pos. IsClear ps pos need)
below_clear need before ps end o l h = subst (λ (x : Option ℕ). IfSome x (λ pos. IsClear ps pos need)) (sym h) (by (first (has_room_below need before) ps) refl)
  where
    by : (x : Option Piece) → first (has_room_below need before) ps ≡ x → IfSome (first_fit_below need before ps) (λ pos. IsClear ps pos need)
    by None e = rw e tt
    by (Some q) e = let f = first_has (has_room_below need before) ps q e in rw e (filled_clear need ps end q l f.0 (below_room need before q f.1))

pub below_within : (need before : ℕ) (ps : List Piece) (end : ℕ) (o : Option ℕ) → IsLaid 0 ps end → o ≡ first_fit_below need before ps → IfSome o (λ pos. pos + need ≤ min before end)
below_within need before ps end o l h = subst (λ (x : Option ℕ). IfSome x (λ pos. pos + need ≤ min before end)) (sym h) (by (first (has_room_below need before) ps) refl)
  where
    by : (x : Option Piece) → first (has_room_below need before) ps ≡ x → IfSome (first_fit_below need before ps) (λ pos. pos + need ≤ min before end)
    by None e = rw e tt
    by (Some q) e =
        let f = first_has (has_room_below need before) ps q e in
        let r = room_facts need q (below_room need before q f.1) in
        let b = leb-true (aligned_up q.pos + need) before (and_parts (has_room need q) (nat_le (aligned_up q.pos + need) before) f.1).1 in
        let w = has_within 0 ps end q l f.0 in
        rw e (omega (arith, r.fits, b, w))
