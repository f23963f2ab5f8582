-- How a file reads after the writes of an update, whole or torn.
use Rattle.std.proofs.Common.{◌≡◌, ◌⊎◌, ℕ, ◌+◌, ◌≤◌, List, length, take, drop, sym, ◌∙◌, ap, subst, inl, inr, arith}
use Rattle.std.specs.Int.{w64, to_le_bytes}
use Rattle.cckd_shelf.specs.Files.{overlaid}
use Rattle.cckd_shelf.specs.Outcomes.{WriteLeaves}
use Rattle.cckd_shelf.proofs.OutcomeLemmas.{write_made, length_overlaid, overlaid_within_range}
use Rattle.cckd_shelf.proofs.SectorLemmas.{part_same}
use Rattle.cckd_record_example.specs.Records.{Has, Shows, ShowsBeside, ShowsEither, LieApart}

-- the record at p stays where another range is written
has_stays : (p place : ℕ) (old bytes was file : List ℕ) → Has p old was → WriteLeaves place bytes was file
    → (p + 600 ≤ place) ⊎ (place + length bytes ≤ p) → Has p old file
has_stays p place old bytes was file h leaves (inl apart) = record {
  behind = h.behind;
  within = omega (arith, h.within, leaves.no_shorter);
  bytes = part_same was file p 600 h.within leaves.no_shorter (λ i low high. leaves.before i (omega (arith, h.within)) (omega arith)) ∙ h.bytes;
}
has_stays p place old bytes was file h leaves (inr apart) = record {
  behind = h.behind;
  within = omega (arith, h.within, leaves.no_shorter);
  bytes = part_same was file p 600 h.within leaves.no_shorter (λ i low high. leaves.behind i (omega (arith, h.within)) (omega arith)) ∙ h.bytes;
}

-- the entry stays where something behind it is written
entry_stays : (place : ℕ) (bytes was file : List ℕ) → 8 ≤ length was → 8 ≤ place → WriteLeaves place bytes was file → take 8 file ≡ take 8 was
entry_stays place bytes was file long behind leaves =
    part_same was file 0 8 long leaves.no_shorter (λ i low high. leaves.before i (omega arith) (omega arith))

-- a record beside the one that is shown, whole or torn
pub shows_stays : (p place : ℕ) (old value was file : List ℕ) → length value ≡ 600 → 8 ≤ place → LieApart p place
    → Shows p old was → WriteLeaves place value was file → Shows p old file
shows_stays p place old value was file size behind (inl apart) h leaves = record {
  points = entry_stays place value was file (omega (arith, h.has.within, h.has.behind)) behind leaves ∙ h.points;
  has = has_stays p place old value was file h.has leaves (inl apart);
}
shows_stays p place old value was file size behind (inr apart) h leaves = record {
  points = entry_stays place value was file (omega (arith, h.has.within, h.has.behind)) behind leaves ∙ h.points;
  has = has_stays p place old value was file h.has leaves (inr (omega (arith, size)));
}

-- the record was written beside the one that is shown
pub placed_beside : (p place : ℕ) (old value was : List ℕ) → length value ≡ 600 → 8 ≤ place → LieApart p place
    → Shows p old was → ShowsBeside p old place value (overlaid was place value)
placed_beside p place old value was size behind apart h = record {
  shows = shows_stays p place old value was (overlaid was place value) size behind apart h (write_made place value was);
  beside = record {
    behind = behind;
    within = omega (arith, length_overlaid was place value, size);
    bytes = ap (λ n. take n (drop place (overlaid was place value))) (sym size) ∙ overlaid_within_range was place value;
  };
}

-- the entry was written
pub pointed : (p place : ℕ) (old value entry was : List ℕ) → entry ≡ to_le_bytes w64 place → length entry ≡ 8
    → ShowsBeside p old place value was → Shows place value (overlaid was 0 entry)
pointed p place old value entry was e size h = record {
  points = ap (λ n. take n (overlaid was 0 entry)) (sym size) ∙ (overlaid_within_range was 0 entry ∙ e);
  has = has_stays place 0 value entry was (overlaid was 0 entry) h.beside (write_made 0 entry was) (inr (omega (arith, size, h.beside.behind)));
}

-- the entry lies inside a sector, so that it was written or not
pub pointed_or_not : (p place : ℕ) (old value entry was file : List ℕ) → entry ≡ to_le_bytes w64 place → length entry ≡ 8
    → ShowsBeside p old place value was → WriteLeaves 0 entry was file → ShowsEither p old place value file
pointed_or_not p place old value entry was file e size h leaves =
    elim (leaves.whole (omega (arith, size))) [
      | inl same ↦ inl (subst (Shows p old) (sym same) h.shows)
      | inr made ↦ inr (subst (Shows place value) (sym made) (pointed p place old value entry was e size h))
    ]
