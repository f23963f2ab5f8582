-- The tables that a commit leaves, at all 256 places of a group.
use Rattle.std.proofs.Common.{◌≡◌, ◌≢◌, ℕ, ◌*◌, ◌/◌, ◌%◌, ◌<◌, ◌≤◌, ◌==◌, List, [], ◌∷◌, length, drop, Some, None, refl, sym, ◌∙◌, ap, subst, inl, inr, arith}
use Rattle.std.specs.Prelude.{is_some}
use Rattle.std.specs.List.{AllByRecursion}
use Rattle.std.proofs.lemmas.Bool.{cases_eq, cases_lt, cond-false, ne_eqb}
use Rattle.std.proofs.lemmas.List.{length-take, length-drop}
use Rattle.cckd_shelf.proofs.OutcomeLemmas.{length_overlaid}
use Rattle.cckd_base.specs.declared.order.Order.{Order}
use Rattle.cckd_base.specs.declared.order.Order.TheVariants.{Little, Big}
use Rattle.cckd_base.specs.declared.geometry.Layout.{Layout}
use Rattle.cckd_base.specs.declared.entry.L2Entry.{L2Entry}
use Rattle.cckd_base.specs.Geometry.{track_count, IsLayout}
use Rattle.cckd_base.specs.Numbers.{bytes_at}
use Rattle.cckd_base.specs.Entry.{word_at, entry_at, entry_of, entry_bytes, entry_in_table}
use Rattle.cckd_base.specs.Image.{IsPlace, ShareNoByte}
use Rattle.cckd_base.proofs.PlaceLemmas.{turned, table_inside, by_table}
use Rattle.cckd_tables.specs.declared.staged.StagedEntry.{StagedEntry}
use Rattle.cckd_tables.specs.Staging.{Stages, entry_for, IsMoved, new_entry, new_word}
use Rattle.cckd_tables.specs.Tables.{HasTables}
use Rattle.cckd_tables.specs.Blend.{HasNewTables, with_put, put_over, IsCommitted}
use Rattle.cckd_tables.specs.Commit.{AreInOrder, IsSynced}
use Rattle.cckd_tables.specs.Cells.{entry_among}
use Rattle.cckd_tables.proofs.StagedLemmas.{new_word_at, new_entry_plain, new_word_plain, moved_word, same_entry, moved_or_not}
use Rattle.cckd_tables.proofs.WrittenLemmas.{part_stays}
use Rattle.cckd_tables.proofs.FreshLemmas.{near_part, beside_each}
use Rattle.cckd_tables.proofs.PutOverLemmas.{with_put_own, with_put_other}
use Rattle.cckd_tables.proofs.TableLemmas.{entry_read}

-- an entry is spelled by eight bytes
pub entry_length : (order : Order) (e : L2Entry) → length (entry_bytes order e) ≡ 8
entry_length Little e = refl
entry_length Big e = refl

-- ---- places that no staged entry is of

with_put_length : (order : Order) (g : ℕ) (s : StagedEntry) (table : List ℕ) → length table ≡ 2048 → length (with_put order g s table) ≡ 2048
with_put_length order g s table size = elim (cases_eq (s.track / 256) g) [
  | inl same ↦ ap length (with_put_own order g s table same) ∙ omega (arith, length_overlaid table (8 * (s.track % 256)) (entry_bytes order s.entry), entry_length order s.entry, size)
  | inr other ↦ ap length (with_put_other order g s table other) ∙ size
]

with_put_beside : (order : Order) (g t : ℕ) (s : StagedEntry) (table : List ℕ) → length table ≡ 2048 → t / 256 ≡ g → s.track ≢ t → entry_among order (with_put order g s table) t ≡ entry_among order table t
with_put_beside order g t s table size mine differ = elim (cases_eq (s.track / 256) g) [
  | inl same ↦
      ap (λ (x : List ℕ). entry_among order x t) (with_put_own order g s table same)
      ∙ ap (entry_of order) (part_stays table (entry_bytes order s.entry) (8 * (s.track % 256)) 8 (8 * (t % 256)) 8 (entry_length order s.entry) (omega (arith, size))
      (elim (cases_lt (t % 256) (s.track % 256)) [
        | inl lt ↦ inl (omega (arith, lt))
        | inr ge ↦ inr (omega (arith, ge, differ, same, mine))
      ]))
  | inr other ↦ ap (λ (x : List ℕ). entry_among order x t) (with_put_other order g s table other)
]

pub put_over_beside : (order : Order) (g t : ℕ) (entries : List StagedEntry) (table : List ℕ) → length table ≡ 2048 → t / 256 ≡ g → AllByRecursion (λ s. s.track ≢ t) entries
    → entry_among order (put_over order g entries table) t ≡ entry_among order table t
put_over_beside order g t [] table size mine none = refl
put_over_beside order g t (s ∷ ss) table size mine none =
    put_over_beside order g t ss (with_put order g s table) (with_put_length order g s table size) mine none.1 ∙ with_put_beside order g t s table size mine none.0

below_none : (n t : ℕ) (entries : List StagedEntry) → n ≤ t → AllByRecursion (λ s. s.track < n) entries → AllByRecursion (λ s. s.track ≢ t) entries
below_none n t [] past h = tt
below_none n t (s ∷ ss) past h = (λ same. omega (arith, past, h.0, same), below_none n t ss past h.1)

past_none : (n t : ℕ) (entries : List StagedEntry) → n ≤ t → AllByRecursion (λ s. s.track < n) entries → entry_for t entries ≡ None
past_none n t [] past h = refl
past_none n t (s ∷ ss) past h =
    let other : s.track ≢ t = λ same. omega (arith, past, h.0, same) in
    cond-false (s.track == t) (Some s.entry) (entry_for t ss) (ne_eqb s.track t other) ∙ past_none n t ss past h.1

-- ---- all places of a table

module _ (l : Layout) (stages : Stages) (was mid file : List ℕ) (layout : IsLayout l) (order : AreInOrder l stages) (s : IsSynced l stages was mid) (c : IsCommitted l mid stages file)
    (has : HasNewTables l stages was file) (inside_was : HasTables l was) where
  -- an old table stays while the new ones are written
  table_stays : (g : ℕ) → g < l.groups → IsPlace (word_at l was g) → bytes_at mid (word_at l was g) 2048 ≡ bytes_at was (word_at l was g) 2048
  table_stays g low named =
      let w = word_at l was g in
      let same : word_at l mid g ≡ w = s.words g low in
      near_part stages was mid w 2048 w 2048 s.near
      (beside_each l stages w 2048 order (λ h p there own.
      turned p 2048 w 2048
      (subst (λ (v : ℕ). ShareNoByte p 2048 v 2048) same
      (subst (λ (q : ℕ). ShareNoByte q 2048 (word_at l mid g) 2048) (new_word_at l stages mid h p own) (s.can_blend.apart h g there low (ap is_some own) (subst IsPlace (sym same) named))))))
      (omega arith) (omega arith) (inside_was g low named)

  -- of a group that isn't moved
  plain_places : (g t : ℕ) → g < l.groups → (IsMoved g stages → ⊥) → IsPlace (word_at l was g) → t / 256 ≡ g → entry_in_table l file (word_at l was g) t ≡ new_entry l stages was t
  plain_places g t low not named mine =
      let w = word_at l was g in
      let same : word_at l mid g ≡ w = s.words g low in
      let named_mid : IsPlace (word_at l mid g) = subst IsPlace (sym same) named in
      let inside = table_inside l (length mid) g (word_at l mid g) (s.image.words g low) named_mid in
      let word : word_at l file g ≡ w = c.words g low ∙ (new_word_plain l stages mid g not ∙ same) in
      let old : entry_at l was t ≡ entry_in_table l was w t =
      by_table l was (word_at l was (t / 256)) t (subst (λ (h : ℕ). IsPlace (word_at l was h)) (sym mine) named) ∙ ap (λ (h : ℕ). entry_in_table l was (word_at l was h) t) mine in
      elim (cases_lt t (track_count l.geo)) [
        | inl there ↦
            let own : word_at l file (t / 256) ≡ w = ap (word_at l file) mine ∙ word in
            sym (by_table l file (word_at l file (t / 256)) t (subst IsPlace (sym own) named) ∙ ap (λ (v : ℕ). entry_in_table l file v t) own)
            ∙ (c.entries t there ∙ same_entry l stages was mid t (s.entries t there))
        | inr past ↦
            let bytes : bytes_at file w 2048 ≡ put_over l.order g stages.entries (bytes_at was w 2048) =
            ap (λ (v : ℕ). bytes_at file v 2048) (sym same) ∙ (c.tables g low not named_mid
            ∙ ap (put_over l.order g stages.entries) (ap (λ (v : ℕ). bytes_at mid v 2048) same ∙ table_stays g low named)) in
            let size : length (bytes_at was w 2048) ≡ 2048 =
            sym (ap length (table_stays g low named)) ∙ omega (arith, length-take 2048 (drop w mid), length-drop w mid, inside.1, same) in
            sym (entry_read l file (bytes_at file w 2048) w t refl)
            ∙ (ap (λ (x : List ℕ). entry_among l.order x t) bytes
            ∙ (put_over_beside l.order g t stages.entries (bytes_at was w 2048) size mine (below_none (track_count l.geo) t stages.entries past order.tracks_there)
            ∙ (entry_read l was (bytes_at was w 2048) w t refl
            ∙ (sym old ∙ sym (new_entry_plain l stages was t (past_none (track_count l.geo) t stages.entries past order.tracks_there))))))
      ]

  -- each table that the file names has the new entries
  pub all_places : (g t : ℕ) → g < l.groups → IsPlace (word_at l file g) → t / 256 ≡ g → entry_in_table l file (word_at l file g) t ≡ new_entry l stages was t
  all_places g t low named mine = elim (moved_or_not g stages) [
    | inl moved ↦
        let word : word_at l file g ≡ new_word l stages was g = c.words g low ∙ moved_word l stages was mid g moved in
        ap (λ (v : ℕ). entry_in_table l file v t) (word ∙ ap (new_word l stages was) (sym mine))
        ∙ has.spelled t (subst (λ (h : ℕ). IsMoved h stages) (sym mine) moved)
    | inr not ↦
        let word : word_at l file g ≡ word_at l was g = c.words g low ∙ (new_word_plain l stages mid g not ∙ s.words g low) in
        ap (λ (v : ℕ). entry_in_table l file v t) word ∙ plain_places g t low not (subst IsPlace word named) mine
  ]

-- ---- for callers
