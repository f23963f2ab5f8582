-- Tables with staged entries put over, one after another.
use Rattle.std.proofs.Common.{◌≡◌, ◌≢◌, ℕ, ◌+◌, ◌-◌, ◌*◌, ◌/◌, ◌%◌, ◌<◌, ◌≤◌, ◌==◌, List, [], ◌∷◌, ◌++◌, length, take, drop, get_or, refl, sym, ◌∙◌, ap, inl, inr, arith}
use Rattle.std.proofs.lemmas.Bool.{cases_lt, cond-true, cond-false, eq-eqb, ne_eqb}
use Rattle.std.proofs.lemmas.List.{ext_get_or, length-take, length-drop, get_or-take, get_or-drop}
use Rattle.cckd_shelf.specs.Files.{overlaid}
use Rattle.cckd_shelf.proofs.OutcomeLemmas.{length_overlaid, overlaid_within_range, overlaid_before, overlaid_behind}
use Rattle.cckd_base.specs.declared.order.Order.{Order}
use Rattle.cckd_base.specs.Numbers.{bytes_at}
use Rattle.cckd_base.specs.Entry.{entry_bytes}
use Rattle.cckd_tables.specs.declared.staged.StagedEntry.{StagedEntry}
use Rattle.cckd_tables.specs.Blend.{with_put, put_over}
use Rattle.cckd_tables.proofs.WordLoopLemmas.{one_more}

pub with_put_own : (order : Order) (g : ℕ) (s : StagedEntry) (table : List ℕ) → s.track / 256 ≡ g → with_put order g s table ≡ overlaid table (8 * (s.track % 256)) (entry_bytes order s.entry)
with_put_own order g s table same = cond-true (s.track / 256 == g) (overlaid table (8 * (s.track % 256)) (entry_bytes order s.entry)) table (eq-eqb (s.track / 256) g same)

pub with_put_other : (order : Order) (g : ℕ) (s : StagedEntry) (table : List ℕ) → s.track / 256 ≢ g → with_put order g s table ≡ table
with_put_other order g s table other = cond-false (s.track / 256 == g) (overlaid table (8 * (s.track % 256)) (entry_bytes order s.entry)) table (ne_eqb (s.track / 256) g other)

put_over_push : (order : Order) (g : ℕ) (front : List StagedEntry) (s : StagedEntry) (table : List ℕ) → put_over order g (front ++ s ∷ []) table ≡ with_put order g s (put_over order g front table)
put_over_push order g [] s table = refl
put_over_push order g (x ∷ front) s table = put_over_push order g front s (with_put order g x table)

-- one entry more
pub put_over_next : (order : Order) (g : ℕ) (entries : List StagedEntry) (i : ℕ) (d : StagedEntry) (table : List ℕ) → i < length entries
    → put_over order g (take (i + 1) entries) table ≡ with_put order g (get_or entries i d) (put_over order g (take i entries) table)
put_over_next order g entries i d table low = ap (λ (ss : List StagedEntry). put_over order g ss table) (one_more entries i d low) ∙ put_over_push order g (take i entries) (get_or entries i d) table

-- a byte that was written
overlaid_in : (file : List ℕ) (at : ℕ) (bytes : List ℕ) (j : ℕ) → j < length bytes → get_or (overlaid file at bytes) (at + j) 0 ≡ get_or bytes j 0
overlaid_in file at bytes j low =
    sym (get_or-drop at (overlaid file at bytes) j 0)
    ∙ (sym (get_or-take (length bytes) (drop at (overlaid file at bytes)) j 0 low) ∙ ap (λ (s : List ℕ). get_or s j 0) (overlaid_within_range file at bytes))

byte_of_part : (file : List ℕ) (p n i : ℕ) → i < n → get_or (bytes_at file p n) i 0 ≡ get_or file (p + i) 0
byte_of_part file p n i low = get_or-take n (drop p file) i 0 low ∙ get_or-drop p file i 0

part_length : (file : List ℕ) (p n : ℕ) → p + n ≤ length file → length (bytes_at file p n) ≡ n
part_length file p n within = omega (arith, length-take n (drop p file), length-drop p file, within)

-- a part of a file into which a write falls
pub part_overlaid : (file : List ℕ) (p n k : ℕ) (bytes : List ℕ) → p + n ≤ length file → k + length bytes ≤ n → bytes_at (overlaid file (p + k) bytes) p n ≡ overlaid (bytes_at file p n) k bytes
part_overlaid file p n k bytes within inside =
    let new = overlaid file (p + k) bytes in
    let old = bytes_at file p n in
    let size : length (bytes_at new p n) ≡ n = part_length new p n (omega (arith, length_overlaid file (p + k) bytes, within)) in
    let old_size : length old ≡ n = part_length file p n within in
    let new_size : length (overlaid old k bytes) ≡ n = omega (arith, length_overlaid old k bytes, old_size, inside) in
    ext_get_or 0 (bytes_at new p n) (overlaid old k bytes) (size ∙ sym new_size)
    (λ i low. let below : i < n = omega (arith, size) in
    byte_of_part new p n i below
    ∙ elim (cases_lt i k) [
      | inl before ↦
          overlaid_before file (p + k) bytes (p + i) (omega (arith, below, within)) (omega (arith, before))
          ∙ (sym (byte_of_part file p n i below) ∙ sym (overlaid_before old k bytes i (omega (arith, below, old_size)) before))
      | inr from ↦ elim (cases_lt i (k + length bytes)) [
        | inl lt ↦
            let there : p + i ≡ p + k + (i - k) = omega arith in
            let here : i ≡ k + (i - k) = omega arith in
            ap (λ (m : ℕ). get_or new m 0) there ∙ (overlaid_in file (p + k) bytes (i - k) (omega (arith, from, lt))
            ∙ (sym (overlaid_in old k bytes (i - k) (omega (arith, from, lt))) ∙ sym (ap (λ (m : ℕ). get_or (overlaid old k bytes) m 0) here)))
        | inr behind ↦
            overlaid_behind file (p + k) bytes (p + i) (omega (arith, behind))
            ∙ (sym (byte_of_part file p n i below) ∙ sym (overlaid_behind old k bytes i behind))
      ]
    ])
