-- What a write may change of a file, and parts of files that stay.
use Rattle.std.proofs.Common.{◌≡◌, ◌⊎◌, ℕ, ◌+◌, ◌<◌, ◌≤◌, List, length, drop, get_or, sym, ◌∙◌, inl, inr, arith}
use Rattle.std.proofs.lemmas.List.{length-take, length-drop, get_or-take, get_or-drop, ext_get_or}
use Rattle.cckd_shelf.specs.Files.{bytes_at}
use Rattle.cckd_shelf.specs.Outcomes.{WriteLeaves}

-- only a range of a file is changed, and it gets no shorter
pub record Touches (position n : ℕ) (old new : List ℕ) : Type 0 where
  pub outside : (i : ℕ) → i < length old → (i < position) ⊎ (position + n ≤ i) → get_or new i 0 ≡ get_or old i 0
  pub no_shorter : length old ≤ length new

-- a write, made in whole, in part or not, touches its range
pub touches : (position : ℕ) (bytes old new : List ℕ) → WriteLeaves position bytes old new → Touches position (length bytes) old new
touches position bytes old new leaves = record {
  outside = λ i low far. elim far [ inl h ↦ leaves.before i low h | inr h ↦ leaves.behind i low h ];
  no_shorter = leaves.no_shorter;
}

-- a part of a file whose bytes stay
pub part_same : (old new : List ℕ) (position n : ℕ) → position + n ≤ length old → length old ≤ length new
    → ((i : ℕ) → position ≤ i → i < position + n → get_or new i 0 ≡ get_or old i 0) → bytes_at new position n ≡ bytes_at old position n
part_same old new position n within longer same =
    let size : length (bytes_at new position n) ≡ n = omega (arith, length-take n (drop position new), length-drop position new) in
    let old_size : length (bytes_at old position n) ≡ n = omega (arith, length-take n (drop position old), length-drop position old) in
    ext_get_or 0 (bytes_at new position n) (bytes_at old position n) (size ∙ sym old_size)
    (λ i low. let below : i < n = omega (arith, size) in
    get_or-take n (drop position new) i 0 below ∙ (get_or-drop position new i 0
    ∙ (same (position + i) (omega arith) (omega arith) ∙ sym (get_or-take n (drop position old) i 0 below ∙ get_or-drop position old i 0))))

-- a part outside the range that is touched
pub part_untouched : (old new : List ℕ) (position n at count : ℕ) → Touches position n old new → at + count ≤ length old
    → (at + count ≤ position) ⊎ (position + n ≤ at) → bytes_at new at count ≡ bytes_at old at count
part_untouched old new position n at count h within apart =
    part_same old new at count within h.no_shorter (λ i a b.
    h.outside i (omega (arith, b, within)) (elim apart [ inl before ↦ inl (omega (arith, before, b)) | inr behind ↦ inr (omega (arith, behind, a)) ]))
