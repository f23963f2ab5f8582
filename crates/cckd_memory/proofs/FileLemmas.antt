-- What a file is after a write, and where files stand by their names.
use Rattle.std.proofs.Common.{◌≡◌, ℕ, zero, suc, ◌+◌, ◌-◌, ◌<◌, ◌≤◌, true, false, cond, List, [], ◌∷◌, ◌++◌, length, map, take, drop, replicate, set, get_or, Some, None, refl, sym, ◌∙◌, ap, subst, inl, inr, arith, add-zero, zero-add}
use native.Mathlib.Numerals.{unary_clauses}
use Rattle.std.specs.Str.{bytes_eq}
use Rattle.std.specs.List.{position_from}
use Rattle.std.proofs.lemmas.Bool.{cases_Bool, cond-true, cond-false, cond_both, both_ways, false_from_ne_true}
use Rattle.std.proofs.lemmas.Slice.Eq.{bytes_eq-Decides}
use Rattle.std.proofs.lemmas.List.{append-nil, append_assoc, drop_all, length-append, length-replicate, replicate-append-replicate, take_all, take-append-le}
use Rattle.cckd_shelf.specs.Files.{overlaid}
use Rattle.cckd_memory.specs.Files.{file_named}
use Rattle.cckd_shelf.specs.World.{with_file}
use Rattle.cckd_memory.specs.Inside.{place_in, IsFirst, HasNone}
use Rattle.cckd_memory.specs.declared.bytes.FileIn.{FileIn}

no_gap : (file : List ℕ) (position : ℕ) → position ≤ length file → file ++ replicate (position - length file) 0 ≡ file
no_gap file position h = let e : position - length file ≡ 0 = omega arith in ap (λ n. file ++ replicate n 0) e ∙ append-nil file

-- as the code makes it: where the file is long enough
pub overlaid_within : (file : List ℕ) (position : ℕ) (bytes : List ℕ) → position + length bytes ≤ length file
    → take position file ++ (bytes ++ drop (position + length bytes) file) ≡ overlaid file position bytes
unfolding overlaid
overlaid_within file position bytes h =
    ap (λ x. take position x ++ (bytes ++ drop (position + length bytes) file)) (sym (no_gap file position (omega arith)))

gap_more : (file : List ℕ) (a b : ℕ) → a ≤ b → file ++ replicate b 0 ≡ (file ++ replicate a 0) ++ replicate (b - a) 0
gap_more file a b h =
    let e : a + (b - a) ≡ b = omega arith in
    ap (λ n. file ++ replicate n 0) (sym e) ∙ (ap (λ x. file ++ x) (sym (replicate-append-replicate a (b - a) 0)) ∙ sym (append_assoc file (replicate a 0) (replicate (b - a) 0)))

-- and where it was made longer first
pub overlaid_past : (file : List ℕ) (position : ℕ) (bytes : List ℕ) (grown : List ℕ) → length file ≤ position + length bytes
    → grown ≡ take (position + length bytes) file ++ replicate (position + length bytes - length file) 0
    → take position grown ++ (bytes ++ drop (position + length bytes) grown) ≡ overlaid file position bytes
unfolding overlaid
overlaid_past file position bytes grown h e =
    let whole : take (position + length bytes) file ≡ file = take_all _ file h in
    let long : grown ≡ (file ++ replicate (position - length file) 0) ++ replicate (position + length bytes - length file - (position - length file)) 0 =
    e ∙ (ap (λ x. x ++ replicate (position + length bytes - length file) 0) whole ∙ gap_more file (position - length file) (position + length bytes - length file) (omega arith)) in
    let size : length (file ++ replicate (position - length file) 0) ≡ length file + (position - length file) =
    length-append file _ ∙ ap (λ n. length file + n) (length-replicate (position - length file) 0) in
    let front : take position grown ≡ take position (file ++ replicate (position - length file) 0) =
    ap (take position) long ∙ take-append-le position (file ++ replicate (position - length file) 0) _ (omega arith) in
    let total : length grown ≡ length file + (position + length bytes - length file) =
    ap length (e ∙ ap (λ x. x ++ replicate (position + length bytes - length file) 0) whole) ∙ (length-append file _ ∙ ap (λ n. length file + n) (length-replicate (position + length bytes - length file) 0)) in
    let none : drop (position + length bytes) grown ≡ [] = drop_all _ grown (omega arith) in
    let none_old : drop (position + length bytes) file ≡ [] = drop_all _ file h in
    ap (λ x. x ++ (bytes ++ drop (position + length bytes) grown)) front ∙ ap (λ x. take position (file ++ replicate (position - length file) 0) ++ (bytes ++ x)) (none ∙ sym none_old)

same_name : (a b : List ℕ) → bytes_eq a b ≡ true → a ≡ b
same_name a b e = (bytes_eq-Decides a b).0 e

-- two names that differ are not both a third
apart : (a b c : List ℕ) → bytes_eq a b ≡ false → bytes_eq a c ≡ true → bytes_eq b c ≡ false
apart a b c e h = false_from_ne_true (bytes_eq b c) (λ k.
    let same : a ≡ b = same_name a c h ∙ sym (same_name b c k) in
    both_ways (bytes_eq a b) e ((bytes_eq-Decides a b).1 same))

edited_first : (file : FileIn) (rest : List FileIn) (name bytes other : List ℕ) → file.name ≡ name
    → file_named (record file { bytes = bytes } ∷ rest) other ≡ with_file (file_named (file ∷ rest)) (Some name) bytes other
edited_first file rest name bytes other e =
    let P : List ℕ → Type 0 = λ n. cond (bytes_eq file.name other) (Some bytes) (file_named rest other) ≡ cond (bytes_eq n other) (Some bytes) (cond (bytes_eq file.name other) (Some file.bytes) (file_named rest other)) in
    subst P e (elim (bytes_eq file.name other) as (λ b. cond b (Some bytes) (file_named rest other) ≡ cond b (Some bytes) (cond b (Some file.bytes) (file_named rest other))) [ true ↦ refl | false ↦ refl ])

edited_later : (file : FileIn) (rest changed : List FileIn) (name bytes other : List ℕ) → bytes_eq file.name name ≡ false
    → file_named changed other ≡ with_file (file_named rest) (Some name) bytes other
    → file_named (file ∷ changed) other ≡ with_file (file_named (file ∷ rest)) (Some name) bytes other
edited_later file rest changed name bytes other e h =
    cond_both (bytes_eq file.name other) (Some file.bytes) (file_named changed other)
    (λ x. x ≡ cond (bytes_eq name other) (Some bytes) (cond (bytes_eq file.name other) (Some file.bytes) (file_named rest other)))
    (λ k. sym (cond-false (bytes_eq name other) (Some bytes) _ (apart file.name name other e k) ∙ cond-true (bytes_eq file.name other) (Some file.bytes) (file_named rest other) k))
    (λ k. h ∙ ap (λ x. cond (bytes_eq name other) (Some bytes) x) (sym (cond-false (bytes_eq file.name other) (Some file.bytes) (file_named rest other) k)))

first_from : (files : List FileIn) (name : List ℕ) (low found : ℕ)
    → position_from (λ (file : FileIn). bytes_eq file.name name) low files ≡ Some found → (place : ℕ) × (found ≡ low + place) × IsFirst files name place
first_from [] name low found e = cc
first_from (file ∷ rest) name low found e =
    elim (cases_Bool (bytes_eq file.name name)) [
      | inl k ↦ let here : Some low ≡ Some found = sym (cond-true (bytes_eq file.name name) (Some low) (position_from (λ (file : FileIn). bytes_eq file.name name) (low + 1) rest) k) ∙ e in
          let at : low ≡ found = cc in (
            0,
            sym at ∙ sym (add-zero low),
            record {
              within = omega arith;
              named = λ d. cond-true (bytes_eq file.name name) (Some file.bytes) (file_named rest name) k;
              edited = λ d bytes other. edited_first file rest name bytes other (same_name file.name name k);
            },
          )
      | inr k ↦ let there : position_from (λ (file : FileIn). bytes_eq file.name name) (low + 1) rest ≡ Some found = sym (cond-false (bytes_eq file.name name) (Some low) (position_from (λ (file : FileIn). bytes_eq file.name name) (low + 1) rest) k) ∙ e in
          let later = first_from rest name (low + 1) found there in (
            suc later.0,
            omega (arith, later.1),
            record {
              within = omega (arith, later.2.within);
              named = λ d. cond-false (bytes_eq file.name name) (Some file.bytes) (file_named rest name) k ∙ later.2.named d;
              edited = λ d bytes other. edited_later file rest (set rest later.0 (record (get_or rest later.0 d) { bytes = bytes })) name bytes other k (later.2.edited d bytes other);
            },
          )
    ]

pub first_at : (files : List FileIn) (name : List ℕ) (found : ℕ) → place_in files name ≡ Some found → IsFirst files name found
first_at files name found e = let it = first_from files name 0 found e in let same : found ≡ it.0 = it.1 ∙ zero-add it.0 in subst (IsFirst files name) (sym same) it.2

none_from : (files : List FileIn) (name : List ℕ) (low : ℕ)
    → position_from (λ (file : FileIn). bytes_eq file.name name) low files ≡ None → HasNone files name
none_from [] name low e = record { named = refl; added = λ bytes other. refl }
none_from (file ∷ rest) name low e =
    elim (cases_Bool (bytes_eq file.name name)) [
      | inl k ↦ let here : Some low ≡ None = sym (cond-true (bytes_eq file.name name) (Some low) (position_from (λ (file : FileIn). bytes_eq file.name name) (low + 1) rest) k) ∙ e in cc
      | inr k ↦ let there : position_from (λ (file : FileIn). bytes_eq file.name name) (low + 1) rest ≡ None = sym (cond-false (bytes_eq file.name name) (Some low) (position_from (λ (file : FileIn). bytes_eq file.name name) (low + 1) rest) k) ∙ e in
          let later = none_from rest name (low + 1) there in
          record {
            named = cond-false (bytes_eq file.name name) (Some file.bytes) (file_named rest name) k ∙ later.named;
            added = λ bytes other. edited_later file rest (rest ++ record { name = name; bytes = bytes } ∷ []) name bytes other k (later.added bytes other);
          }
    ]

pub none_at : (files : List FileIn) (name : List ℕ) → place_in files name ≡ None → HasNone files name
none_at files name e = none_from files name 0 e

-- a loop that changes each element
pub mapped_more : {X : Type 0} (f : X → X) (xs : List X) (i : ℕ) (d : X) → i < length xs
    → set (map f (take i xs) ++ drop i xs) i (f (get_or xs i d)) ≡ map f (take (i + 1) xs) ++ drop (i + 1) xs
mapped_more f [] i d h = absurd (omega arith)
mapped_more f (x ∷ xs) zero d h = refl
mapped_more f (x ∷ xs) (suc i) d h = simp unary_clauses (ap (λ ys. f x ∷ ys) (simp unary_clauses at (mapped_more f xs i d (omega arith))))

mapped_get : {X : Type 0} (f : X → X) (xs : List X) (i : ℕ) (d : X) → i < length xs → get_or (map f (take i xs) ++ drop i xs) i d ≡ get_or xs i d
mapped_get f [] i d h = absurd (omega arith)
mapped_get f (x ∷ xs) zero d h = refl
mapped_get f (x ∷ xs) (suc i) d h = mapped_get f xs i d (omega arith)

pub mapped_step : {X : Type 0} (f : X → X) (xs ys : List X) (i : ℕ) (d new : X) → i < length xs
    → ys ≡ map f (take i xs) ++ drop i xs → new ≡ f (get_or ys i d) → set ys i new ≡ map f (take (i + 1) xs) ++ drop (i + 1) xs
mapped_step {X} f xs ys i d new h e k =
    let value : new ≡ f (get_or xs i d) = k ∙ ap f (ap (λ (s : List X). get_or s i d) e ∙ mapped_get f xs i d h) in
    ap (λ (s : List X). set s i new) e ∙ (ap (λ (y : X). set (map f (take i xs) ++ drop i xs) i y) value ∙ mapped_more f xs i d h)

-- a slice of a whole `Vec` that is written, and given back
pub given_back : {X : Type 0} (n : ℕ) (written items : List X) → n ≡ length items → length written ≡ length items → take n (written ++ drop (length written) items) ≡ written
given_back n written items e h =
    let none : drop (length written) items ≡ [] = drop_all _ items (omega arith) in
    let same : written ++ drop (length written) items ≡ written = ap (λ x. written ++ x) none ∙ append-nil written in
    ap (take n) same ∙ take_all n written (omega arith)
