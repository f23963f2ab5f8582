-- An image after one level-one word, or one entry of a table, was written.
use Rattle.std.proofs.Common.{◌≡◌, ◌≢◌, ℕ, ◌+◌, ◌*◌, ◌/◌, ◌%◌, ◌<◌, ◌≤◌, List, length, take, drop, get_or, sym, ◌∙◌, ap, subst, inl, inr, arith}
use Rattle.std.specs.Int.{w32}
use Rattle.std.proofs.lemmas.Bool.{cases_eq, cases_lt}
use Rattle.cckd_shelf.specs.Files.{overlaid}
use Rattle.cckd_shelf.proofs.OutcomeLemmas.{length_overlaid, overlaid_within_range, overlaid_before, overlaid_behind}
use Rattle.cckd_base.specs.declared.geometry.Layout.{Layout}
use Rattle.cckd_base.specs.declared.entry.L2Entry.{L2Entry}
use Rattle.cckd_base.specs.Numbers.{bytes_at, number_of}
use Rattle.cckd_base.specs.Geometry.{track_count, area_of, IsLayout}
use Rattle.cckd_base.specs.Entry.{word_at, entry_at, entry_of, entry_by_word, entry_in_table}
use Rattle.cckd_base.specs.Image.{IsPlace, ShareNoByte, IsImage}
use Rattle.cckd_base.proofs.PlaceLemmas.{part_same, inside_first, inside_second, table_inside, by_word_same, by_table}

-- the group of a track
pub group_low : (l : Layout) (t : ℕ) → IsLayout l → t < track_count l.geo → t / 256 < l.groups
group_low l t layout low = omega (arith, layout.groups, low)

-- a byte beside what was written stays
pub byte_stays : (old bytes : List ℕ) (place n i : ℕ) → length bytes ≡ n → i < length old → ShareNoByte i 1 place n → get_or (overlaid old place bytes) i 0 ≡ get_or old i 0
byte_stays old bytes place n i size low (inl before) = overlaid_before old place bytes i low (omega (arith, before))
byte_stays old bytes place n i size low (inr behind) = overlaid_behind old place bytes i (omega (arith, behind, size))

-- so do n bytes
pub part_stays : (old bytes : List ℕ) (place n a m : ℕ) → length bytes ≡ n → a + m ≤ length old → ShareNoByte a m place n → bytes_at (overlaid old place bytes) a m ≡ bytes_at old a m
part_stays old bytes place n a m size within far =
    part_same old (overlaid old place bytes) a m within (omega (arith, length_overlaid old place bytes))
    (λ i low high. byte_stays old bytes place n i size (omega (arith, high, within)) (elim far [
      | inl h ↦ inl (omega (arith, high, h))
      | inr h ↦ inr (omega (arith, low, h))
    ]))

-- what was written is there
pub part_written : (old bytes : List ℕ) (place n : ℕ) → length bytes ≡ n → bytes_at (overlaid old place bytes) place n ≡ bytes
part_written old bytes place n size = ap (λ (k : ℕ). take k (drop place (overlaid old place bytes))) (sym size) ∙ overlaid_within_range old place bytes

-- the word of a group was written, and nothing else
pub record Reworded (l : Layout) (old : List ℕ) (g pos : ℕ) (new : List ℕ) : Type 0 where
  pub size : length new ≡ length old
  pub outside : (i : ℕ) → i < length old → ShareNoByte i 1 (1024 + 4 * g) 4 → get_or new i 0 ≡ get_or old i 0
  pub word : word_at l new g ≡ pos
  pub others : (h : ℕ) → h < l.groups → g ≢ h → word_at l new h ≡ word_at l old h
  pub entries : (t : ℕ) → t < track_count l.geo → g ≢ t / 256 → entry_at l new t ≡ entry_at l old t
  pub moved : IsPlace pos → area_of l.groups ≤ pos → pos + 2048 ≤ length old → (t : ℕ) → t / 256 ≡ g → entry_at l new t ≡ entry_in_table l old pos t

pub reworded : (l : Layout) (old bytes : List ℕ) (g pos : ℕ) → IsLayout l → IsImage l old → g < l.groups → length bytes ≡ 4 → number_of l.order w32 bytes ≡ pos
    → Reworded l old g pos (overlaid old (1024 + 4 * g) bytes)
reworded l old bytes g pos layout image low four spelled =
    let place = 1024 + 4 * g in
    let new = overlaid old place bytes in
    let size : length new ≡ length old = omega (arith, length_overlaid old place bytes, four, low, image.area) in
    let others : (h : ℕ) → h < l.groups → g ≢ h → word_at l new h ≡ word_at l old h = λ h inside differ.
    ap (number_of l.order w32) (part_stays old bytes place 4 (1024 + 4 * h) 4 four (omega (arith, inside, image.area)) (elim (cases_lt h g) [
      | inl lt ↦ inl (omega (arith, lt))
      | inr ge ↦ inr (omega (arith, ge, differ))
    ])) in
    let here : word_at l new g ≡ pos = ap (number_of l.order w32) (part_written old bytes place 4 four) ∙ spelled in
    record {
      size = size;
      outside = λ i inside far. byte_stays old bytes place 4 i four inside far;
      word = here;
      others = others;
      entries = λ t there differ.
          let w = word_at l old (t / 256) in
          let group = group_low l t layout there in
          ap (λ (v : ℕ). entry_by_word l new v t) (others (t / 256) group differ)
          ∙ by_word_same l old new w t (λ named.
          let k = table_inside l (length old) (t / 256) w (image.words (t / 256) group) named in
          part_stays old bytes place 4 (w + 8 * (t % 256)) 8 four (omega (arith, k.1)) (inr (omega (arith, k.0, low))));
      moved = λ named behind within t same.
          ap (λ (h : ℕ). entry_by_word l new (word_at l new h) t) same
          ∙ (ap (λ (v : ℕ). entry_by_word l new v t) here
          ∙ (by_table l new pos t named ∙ ap (entry_of l.order) (part_stays old bytes place 4 (pos + 8 * (t % 256)) 8 four (omega (arith, within)) (inr (omega (arith, behind, low))))));
    }

-- the entry of a track was written into its table, and nothing else
pub record Reentered (l : Layout) (old : List ℕ) (t : ℕ) (e : L2Entry) (new : List ℕ) : Type 0 where
  pub size : length new ≡ length old
  pub outside : (i : ℕ) → i < length old → ShareNoByte i 1 (word_at l old (t / 256) + 8 * (t % 256)) 8 → get_or new i 0 ≡ get_or old i 0
  pub words : (g : ℕ) → g < l.groups → word_at l new g ≡ word_at l old g
  pub here : entry_at l new t ≡ e
  pub others : (u : ℕ) → u < track_count l.geo → t ≢ u → entry_at l new u ≡ entry_at l old u

pub two_cells : (w t u : ℕ) → t / 256 ≡ u / 256 → t ≢ u → ShareNoByte (w + 8 * (u % 256)) 8 (w + 8 * (t % 256)) 8
two_cells w t u same differ = elim (cases_lt (u % 256) (t % 256)) [
  | inl lt ↦ inl (omega (arith, lt))
  | inr ge ↦ inr (omega (arith, ge, same, differ))
]

pub reentered : (l : Layout) (old bytes : List ℕ) (t : ℕ) (e : L2Entry) → IsLayout l → IsImage l old → t < track_count l.geo → IsPlace (word_at l old (t / 256)) → length bytes ≡ 8 → entry_of l.order bytes ≡ e
    → Reentered l old t e (overlaid old (word_at l old (t / 256) + 8 * (t % 256)) bytes)
reentered l old bytes t e layout image low named eight spelled =
    let w = word_at l old (t / 256) in
    let at = w + 8 * (t % 256) in
    let new = overlaid old at bytes in
    let group = group_low l t layout low in
    let k = table_inside l (length old) (t / 256) w (image.words (t / 256) group) named in
    let size : length new ≡ length old = omega (arith, length_overlaid old at bytes, eight, k.1) in
    let words : (h : ℕ) → h < l.groups → word_at l new h ≡ word_at l old h = λ h inside.
    ap (number_of l.order w32) (part_stays old bytes at 8 (1024 + 4 * h) 4 eight (omega (arith, inside, image.area)) (inl (omega (arith, inside, k.0)))) in
    record {
      size = size;
      outside = λ i inside far. byte_stays old bytes at 8 i eight inside far;
      words = words;
      here = ap (λ (v : ℕ). entry_by_word l new v t) (words (t / 256) group)
          ∙ (by_table l new w t named ∙ (ap (entry_of l.order) (part_written old bytes at 8 eight) ∙ spelled));
      others = λ u there differ.
          let v = word_at l old (u / 256) in
          let own = group_low l u layout there in
          ap (λ (x : ℕ). entry_by_word l new x u) (words (u / 256) own)
          ∙ by_word_same l old new v u (λ placed.
          let ok = table_inside l (length old) (u / 256) v (image.words (u / 256) own) placed in
          part_stays old bytes at 8 (v + 8 * (u % 256)) 8 eight (omega (arith, ok.1)) (elim (cases_eq (t / 256) (u / 256)) [
            | inl same ↦ subst (λ (x : ℕ). ShareNoByte (x + 8 * (u % 256)) 8 at 8) (ap (word_at l old) same) (two_cells w t u same differ)
            | inr far ↦ inside_second (v + 8 * (u % 256)) 8 w 2048
                (inside_first v 2048 w 2048 (image.tables_apart (u / 256) (t / 256) own group (λ e. far (sym e)) placed named) (v + 8 * (u % 256)) 8 (omega arith) (omega arith)) at 8 (omega arith) (omega arith)
          ]));
    }
