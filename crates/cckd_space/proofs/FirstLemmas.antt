-- The first piece that passes a test, by its index.
use Rattle.std.proofs.Common.{◌≡◌, ℕ, zero, suc, ◌+◌, ◌<◌, ◌≤◌, Bool, true, false, List, [], ◌∷◌, ◌++◌, length, take, drop, get_or, slice_set, Option, Some, None, refl, sym, ◌∙◌, ap, arith, add-one, position, nat_lt}
use Rattle.std.specs.Option.{option_map}
use Rattle.std.specs.List.{position_or_len}
use Rattle.std.proofs.lemmas.Bool.{ltb-false}
use Rattle.std.proofs.lemmas.List.{set_split}
use Rattle.std.proofs.lemmas.List.Quantifiers.{position-Some}
use Rattle.cckd_space.specs.declared.piece.Piece.{Piece}
use Rattle.cckd_space.specs.Pieces.{first, replaced}

module _ (test : Piece → Bool) where
  -- where the piece at an index is the first that passes
  pub record IsFirstAt (xs : List Piece) (i : ℕ) (d : Piece) : Type 0 where
    pub within : i < length xs
    pub here : test (get_or xs i d) ≡ true
    pub before : (k : ℕ) → k < i → test (get_or xs k d) ≡ false

  pub first_at : (xs : List Piece) (i : ℕ) (d : Piece) → IsFirstAt xs i d → first test xs ≡ Some (get_or xs i d)
  first_at [] i d h = absurd (omega (arith, h.within))
  first_at (x ∷ xs) zero d h = rw h.here refl
  first_at (x ∷ xs) (suc i) d h =
      rw (h.before 0 (omega arith)) (first_at xs i d (record { within = omega (arith, h.within); here = h.here; before = λ k l. h.before (suc k) (omega arith) }))

  pub replaced_at : (news : Piece → List Piece) (xs : List Piece) (i : ℕ) (d : Piece) → IsFirstAt xs i d
      → replaced test news xs ≡ take i xs ++ (news (get_or xs i d) ++ drop (suc i) xs)
  replaced_at news [] i d h = absurd (omega (arith, h.within))
  replaced_at news (x ∷ xs) zero d h = rw h.here refl
  replaced_at news (x ∷ xs) (suc i) d h =
      rw (h.before 0 (omega arith)) (ap (λ (l : List Piece). x ∷ l) (replaced_at news xs i d (record { within = omega (arith, h.within); here = h.here; before = λ k l. h.before (suc k) (omega arith) })))

  pub is_first : (xs : List Piece) (i : ℕ) (d : Piece) → position test xs ≡ Some i → IsFirstAt xs i d
  is_first xs i d e =
      let h = position-Some test xs i d e in
      record { within = h.0; here = h.1; before = h.2 }

  pub replaced_by : (news : Piece → Piece) (xs : List Piece) (i : ℕ) (d : Piece) → IsFirstAt xs i d
      → replaced test (λ p. news p ∷ []) xs ≡ slice_set xs i (news (get_or xs i d))
  replaced_by news xs i d h = replaced_at (λ p. news p ∷ []) xs i d h ∙ sym (set_split xs i (news (get_or xs i d)) h.within)

  none_first : (xs : List Piece) → length xs ≤ position_or_len test xs → first test xs ≡ None
  none_first [] h = refl
  none_first (x ∷ xs) h = passed (test x) refl (none_first xs)
    where
      passed : (b : Bool) → test x ≡ b → (length xs ≤ position_or_len test xs → first test xs ≡ None) → first test (x ∷ xs) ≡ None
      passed true e more = absurd (let l : suc (length xs) ≤ 0 = rw e at h in omega arith)
      passed false e more = rw e (more (let l : suc (length xs) ≤ 1 + position_or_len test xs = rw e at h in omega arith))

  pub none_passes : (xs : List Piece) → position test xs ≡ None → first test xs ≡ None
  none_passes xs e = none_first xs (far (nat_lt (position_or_len test xs) (length xs)) refl)
    where
      far : (b : Bool) → nat_lt (position_or_len test xs) (length xs) ≡ b → length xs ≤ position_or_len test xs
      far true f = absurd (let g = rw f at e in cc)
      far false f = ltb-false (position_or_len test xs) (length xs) f

  pub replaced_read : (news : Piece → Piece) (xs ys : List Piece) (i : ℕ) (x y : Piece) → position test ys ≡ Some i → ys ≡ xs → x ≡ get_or xs i x → y ≡ news x
      → slice_set xs i y ≡ replaced test (λ p. news p ∷ []) xs
  replaced_read news xs ys i x y e s r n =
      let f = is_first xs i x (rw (← s) e) in
      ap (λ (w : Piece). slice_set xs i w) (n ∙ ap news r) ∙ sym (replaced_by news xs i x f)

  pub mapped_first : (f : Piece → ℕ) (xs : List Piece) (i : ℕ) (d : Piece) → position test xs ≡ Some i → option_map f (first test xs) ≡ Some (f (get_or xs i d))
  mapped_first f xs i d e = ap (option_map f) (first_at xs i d (is_first xs i d e))

  pub mapped_none : (f : Piece → ℕ) (xs : List Piece) → position test xs ≡ None → option_map f (first test xs) ≡ None
  mapped_none f xs e = ap (option_map f) (none_passes xs e)

  pub replaced_none : (news : Piece → List Piece) (xs : List Piece) → first test xs ≡ None → replaced test news xs ≡ xs
  replaced_none news [] e = refl
  replaced_none news (x ∷ xs) e = passed (test x) refl (replaced_none news xs)
    where
      passed : (b : Bool) → test x ≡ b → (first test xs ≡ None → replaced test news xs ≡ xs) → replaced test news (x ∷ xs) ≡ x ∷ xs
      passed true f more = absurd (let g = rw f at e in cc)
      passed false f more = rw f (ap (λ (l : List Piece). x ∷ l) (more (rw f at e)))

  pub replaced_items : (news : Piece → List Piece) (xs ys : List Piece) (i : ℕ) (d : Piece) → position test xs ≡ Some i
      → ys ≡ take i xs ++ (news (get_or xs i d) ++ drop (i + 1) xs) → ys ≡ replaced test news xs
  replaced_items news xs ys i d e h =
      let s : ys ≡ take i xs ++ (news (get_or xs i d) ++ drop (suc i) xs) = rw (add-one i) at h in
      s ∙ sym (replaced_at news xs i d (is_first xs i d e))

  pub position_now : (xs ys : List Piece) (r v : Option ℕ) → ys ≡ xs → r ≡ position test ys → r ≡ v → position test xs ≡ v
  position_now xs ys r v s e i = ap (position test) (sym s) ∙ (sym e ∙ i)
