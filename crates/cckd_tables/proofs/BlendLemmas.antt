-- A blend of a file with staged words and entries: writing one more keeps it one, and it is an image whose tracks are the old or the new ones.
use Rattle.std.proofs.Common.{◌≡◌, ◌⊎◌, ℕ, ◌+◌, ◌*◌, ◌/◌, ◌%◌, ◌<◌, ◌≤◌, List, length, Some, None, refl, sym, ◌∙◌, ap, subst, inl, inr, arith}
use Rattle.std.specs.Int.{w32}
use Rattle.std.specs.Prelude.{is_some}
use Rattle.std.proofs.lemmas.Bool.{cases_eq}
use Rattle.cckd_shelf.specs.Files.{overlaid}
use Rattle.cckd_base.specs.declared.geometry.Layout.{Layout}
use Rattle.cckd_base.specs.declared.entry.L2Entry.{L2Entry}
use Rattle.cckd_base.specs.Numbers.{bytes_at, number_of}
use Rattle.cckd_base.specs.Geometry.{track_count, area_of, IsLayout}
use Rattle.cckd_base.specs.Entry.{word_at, entry_at, entry_of, entry_in_table}
use Rattle.cckd_base.specs.Misfit.{table_misfit, entry_misfit}
use Rattle.cckd_base.specs.Image.{IsPlace, ShareNoByte, IsImage}
use Rattle.cckd_base.proofs.PlaceLemmas.{part_same, turned, table_inside, stored_inside}
use Rattle.cckd_tables.specs.Staging.{Stages, entry_for, place_for, IsMoved, new_entry, new_word}
use Rattle.cckd_tables.specs.Blend.{IsStill, Blend}
use Rattle.cckd_tables.specs.Commit.{AreApart, IsBeside, AreTablesApart, CanMove}
use Rattle.cckd_tables.specs.Cells.{IsReady}
use Rattle.cckd_tables.proofs.StagedLemmas.{new_entry_at, new_word_at, new_word_plain}
use Rattle.cckd_tables.proofs.WrittenLemmas.{group_low, reworded, Reentered, reentered}

-- what holds of both, holds of one that is one of them
pub pick : {X : Type 0} (P : X → Type 0) (a b x : X) → (x ≡ a) ⊎ (x ≡ b) → P a → P b → P x
pick P a b x (inl e) pa pb = subst P (sym e) pa
pick P a b x (inr e) pa pb = subst P (sym e) pb

-- nothing is written yet
pub blend_self : (l : Layout) (was : List ℕ) (stages : Stages) → Blend l was stages was
blend_self l was stages = record { size = refl; still = λ i low still. refl; words = λ g low. inl refl; entries = λ t low. inl refl }

-- a blend is an image
pub blend_image : (l : Layout) (was : List ℕ) (stages : Stages) (file : List ℕ) → IsImage l was → CanMove l stages was → Blend l was stages file → IsImage l file
blend_image l was stages file image can b = record {
  area = omega (arith, image.area, b.size);
  words = λ g low. subst (λ (n : ℕ). table_misfit l n g (word_at l file g) ≡ None) (sym b.size)
      (pick (λ (w : ℕ). table_misfit l (length was) g w ≡ None) (word_at l was g) (new_word l stages was g) (word_at l file g) (b.words g low) (image.words g low) (can.words g low));
  entries = λ t low. subst (λ (n : ℕ). entry_misfit l n t (entry_at l file t) ≡ None) (sym b.size)
      (pick (λ (e : L2Entry). entry_misfit l (length was) t e ≡ None) (entry_at l was t) (new_entry l stages was t) (entry_at l file t) (b.entries t low) (image.entries t low) (can.entries t low));
  snug = λ t low. subst (λ (n : ℕ). IsPlace (entry_at l file t).pos → (entry_at l file t).pos + (entry_at l file t).size ≤ n) (sym b.size)
      (pick (λ (e : L2Entry). IsPlace e.pos → e.pos + e.size ≤ length was) (entry_at l was t) (new_entry l stages was t) (entry_at l file t) (b.entries t low) (image.snug t low) (can.snug t low));
  tables_apart = λ g h low there differ.
      pick (λ (v : ℕ). AreTablesApart v (word_at l file h)) (word_at l was g) (new_word l stages was g) (word_at l file g) (b.words g low)
      (pick (λ (w : ℕ). AreTablesApart (word_at l was g) w) (word_at l was h) (new_word l stages was h) (word_at l file h) (b.words h there)
      (image.tables_apart g h low there differ) (can.old_tables g h low there differ))
      (pick (λ (w : ℕ). AreTablesApart (new_word l stages was g) w) (word_at l was h) (new_word l stages was h) (word_at l file h) (b.words h there)
      (λ p q. turned (word_at l was h) 2048 (new_word l stages was g) 2048 (can.old_tables h g there low (λ e. differ (sym e)) q p)) (can.new_tables g h low there differ));
  beside = λ t g low there.
      pick (λ (e : L2Entry). IsBeside e (word_at l file g)) (entry_at l was t) (new_entry l stages was t) (entry_at l file t) (b.entries t low)
      (pick (λ (w : ℕ). IsBeside (entry_at l was t) w) (word_at l was g) (new_word l stages was g) (word_at l file g) (b.words g there)
      (image.beside t g low there) (can.old_beside_new t g low there))
      (pick (λ (w : ℕ). IsBeside (new_entry l stages was t) w) (word_at l was g) (new_word l stages was g) (word_at l file g) (b.words g there)
      (can.new_beside_old t g low there) (can.new_beside_new t g low there));
  tracks_apart = λ t u low there differ.
      pick (λ (e : L2Entry). AreApart e (entry_at l file u)) (entry_at l was t) (new_entry l stages was t) (entry_at l file t) (b.entries t low)
      (pick (λ (f : L2Entry). AreApart (entry_at l was t) f) (entry_at l was u) (new_entry l stages was u) (entry_at l file u) (b.entries u there)
      (image.tracks_apart t u low there differ) (can.old_tracks t u low there differ))
      (pick (λ (f : L2Entry). AreApart (new_entry l stages was t) f) (entry_at l was u) (new_entry l stages was u) (entry_at l file u) (b.entries u there)
      (λ p q. turned (entry_at l was u).pos (entry_at l was u).size (new_entry l stages was t).pos (new_entry l stages was t).size (can.old_tracks u t there low (λ e. differ (sym e)) q p))
      (can.new_tracks t u low there differ));
}

-- ---- bytes that stay

-- a range behind the header area and beside all tables that there were
pub still_range : (l : Layout) (was : List ℕ) (stages : Stages) (a n i : ℕ) → IsLayout l → area_of l.groups ≤ a → ((g : ℕ) → g < l.groups → IsPlace (word_at l was g) → ShareNoByte a n (word_at l was g) 2048)
    → a ≤ i → i < a + n → IsStill l was stages i
still_range l was stages a n i layout behind far low high = record {
  words = λ g there moved. inr (omega (arith, behind, low, there));
  entries = λ t there staged not named. elim (far (t / 256) (group_low l t layout there) named) [
    | inl h ↦ inl (omega (arith, h, high))
    | inr h ↦ inr (omega (arith, h, low))
  ];
}

pub still_part : (l : Layout) (was : List ℕ) (stages : Stages) (file : List ℕ) (a n c m : ℕ) → IsLayout l → Blend l was stages file → area_of l.groups ≤ a
    → ((g : ℕ) → g < l.groups → IsPlace (word_at l was g) → ShareNoByte a n (word_at l was g) 2048) → a ≤ c → c + m ≤ a + n → c + m ≤ length was
    → bytes_at file c m ≡ bytes_at was c m
still_part l was stages file a n c m layout b behind far low high within =
    part_same was file c m within (omega (arith, b.size))
    (λ i from to. b.still i (omega (arith, to, within)) (still_range l was stages a n i layout behind far (omega (arith, low, from)) (omega (arith, high, to))))

-- what stands in a new table
new_inside : (l : Layout) (stages : Stages) (was : List ℕ) (g : ℕ) → IsReady l stages was → g < l.groups → IsMoved g stages
    → (area_of l.groups ≤ new_word l stages was g) × (new_word l stages was g + 2048 ≤ length was)
new_inside l stages was g ready low moved =
    table_inside l (length was) g (new_word l stages was g) (ready.can_move.words g low) (ready.can_blend.places g low moved)

pub new_table_bytes : (l : Layout) (stages : Stages) (was file : List ℕ) (g : ℕ) → IsReady l stages was → Blend l was stages file → g < l.groups → IsMoved g stages
    → bytes_at file (new_word l stages was g) 2048 ≡ bytes_at was (new_word l stages was g) 2048
new_table_bytes l stages was file g ready b low moved =
    let p = new_word l stages was g in
    let k = new_inside l stages was g ready low moved in
    still_part l was stages file p 2048 p 2048 ready.layout b k.0 (λ h there named. ready.can_blend.apart g h low there moved named) (omega arith) (omega arith) k.1

pub new_table_stays : (l : Layout) (stages : Stages) (was file : List ℕ) (t : ℕ) → IsReady l stages was → Blend l was stages file → t < track_count l.geo → IsMoved (t / 256) stages
    → entry_in_table l file (new_word l stages was (t / 256)) t ≡ new_entry l stages was t
new_table_stays l stages was file t ready b low moved =
    let group = group_low l t ready.layout low in
    let p = new_word l stages was (t / 256) in
    let k = new_inside l stages was (t / 256) ready group moved in
    ap (entry_of l.order) (still_part l was stages file p 2048 (p + 8 * (t % 256)) 8 ready.layout b k.0
    (λ g there named. ready.can_blend.apart (t / 256) g group there moved named) (omega arith) (omega arith) (omega (arith, k.1)))
    ∙ ready.can_blend.spelled t low moved

-- ---- one word more

pub blend_word : (l : Layout) (was bytes : List ℕ) (stages : Stages) (file : List ℕ) (g p : ℕ) → IsReady l stages was → g < l.groups → place_for g stages.words ≡ Some p → length bytes ≡ 4
    → number_of l.order w32 bytes ≡ p → Blend l was stages file → Blend l was stages (overlaid file (1024 + 4 * g) bytes)
blend_word l was bytes stages file g p ready low own four spelled b =
    let new = overlaid file (1024 + 4 * g) bytes in
    let moved : IsMoved g stages = ap is_some own in
    let is : new_word l stages was g ≡ p = new_word_at l stages was g p own in
    let k = new_inside l stages was g ready low moved in
    let r = reworded l file bytes g p ready.layout (blend_image l was stages file ready.image ready.can_move b) low four spelled in
    record {
      size = r.size ∙ b.size;
      still = λ i inside still. r.outside i (omega (arith, inside, b.size)) (still.words g low moved) ∙ b.still i inside still;
      words = λ h there. elim (cases_eq g h) [
        | inl same ↦ subst (λ (x : ℕ). (word_at l new x ≡ word_at l was x) ⊎ (word_at l new x ≡ new_word l stages was x)) same (inr (r.word ∙ sym is))
        | inr other ↦ elim (b.words h there) [
          | inl e ↦ inl (r.others h there other ∙ e)
          | inr e ↦ inr (r.others h there other ∙ e)
        ]
      ];
      entries = λ t there. elim (cases_eq g (t / 256)) [
        | inl same ↦
            let here : IsMoved (t / 256) stages = subst (λ (x : ℕ). IsMoved x stages) same moved in
            inr (r.moved (subst IsPlace is (ready.can_blend.places g low moved)) (omega (arith, k.0, is)) (omega (arith, k.1, is, b.size)) t (sym same)
            ∙ (ap (λ (w : ℕ). entry_in_table l file w t) (sym is ∙ ap (new_word l stages was) same)
            ∙ new_table_stays l stages was file t ready b there here))
        | inr other ↦ elim (b.entries t there) [
          | inl e ↦ inl (r.entries t there other ∙ e)
          | inr e ↦ inr (r.entries t there other ∙ e)
        ]
      ];
    }

-- ---- one entry more

-- the word of a group that isn't moved stays
pub plain_word : (l : Layout) (was : List ℕ) (stages : Stages) (file : List ℕ) (g : ℕ) → Blend l was stages file → g < l.groups → (IsMoved g stages → ⊥) → word_at l file g ≡ word_at l was g
plain_word l was stages file g b low not = elim (b.words g low) [ inl e ↦ e | inr e ↦ e ∙ new_word_plain l stages was g not ]

pub entry_written : (l : Layout) (was bytes : List ℕ) (stages : Stages) (file : List ℕ) (t : ℕ) (e : L2Entry) → IsReady l stages was → t < track_count l.geo → entry_for t stages.entries ≡ Some e
    → (IsMoved (t / 256) stages → ⊥) → length bytes ≡ 8 → entry_of l.order bytes ≡ e → Blend l was stages file
    → Reentered l file t e (overlaid file (word_at l was (t / 256) + 8 * (t % 256)) bytes)
entry_written l was bytes stages file t e ready low own not eight spelled b =
    let same = plain_word l was stages file (t / 256) b (group_low l t ready.layout low) not in
    let k = ready.can_blend.tabled t low (ap is_some own) not in
    subst (λ (w : ℕ). Reentered l file t e (overlaid file (w + 8 * (t % 256)) bytes)) same
    (reentered l file bytes t e ready.layout (blend_image l was stages file ready.image ready.can_move b) low (subst IsPlace (sym same) k.0) eight spelled)

pub blend_entry : (l : Layout) (was bytes : List ℕ) (stages : Stages) (file : List ℕ) (t : ℕ) (e : L2Entry) → IsReady l stages was → t < track_count l.geo → entry_for t stages.entries ≡ Some e
    → (IsMoved (t / 256) stages → ⊥) → length bytes ≡ 8 → entry_of l.order bytes ≡ e → Blend l was stages file
    → Blend l was stages (overlaid file (word_at l was (t / 256) + 8 * (t % 256)) bytes)
blend_entry l was bytes stages file t e ready low own not eight spelled b =
    let new = overlaid file (word_at l was (t / 256) + 8 * (t % 256)) bytes in
    let group = group_low l t ready.layout low in
    let same = plain_word l was stages file (t / 256) b group not in
    let k = ready.can_blend.tabled t low (ap is_some own) not in
    let r = entry_written l was bytes stages file t e ready low own not eight spelled b in
    record {
      size = r.size ∙ b.size;
      still = λ i inside still. r.outside i (omega (arith, inside, b.size))
          (subst (λ (w : ℕ). ShareNoByte i 1 (w + 8 * (t % 256)) 8) (sym same) (still.entries t low (ap is_some own) not k.0)) ∙ b.still i inside still;
      words = λ h there. elim (b.words h there) [
        | inl x ↦ inl (r.words h there ∙ x)
        | inr x ↦ inr (r.words h there ∙ x)
      ];
      entries = λ u there. elim (cases_eq t u) [
        | inl here ↦ subst (λ (x : ℕ). (entry_at l new x ≡ entry_at l was x) ⊎ (entry_at l new x ≡ new_entry l stages was x)) here
            (inr (r.here ∙ sym (new_entry_at l stages was t e own)))
        | inr other ↦ elim (b.entries u there) [
          | inl x ↦ inl (r.others u there other ∙ x)
          | inr x ↦ inr (r.others u there other ∙ x)
        ]
      ];
    }

-- ---- the bytes of tracks

-- the bytes at the place of an old entry stay, and those at the place of a new one
pub blend_old_bytes : (l : Layout) (was : List ℕ) (stages : Stages) (file : List ℕ) (t : ℕ) → IsReady l stages was → Blend l was stages file → t < track_count l.geo → IsPlace (entry_at l was t).pos
    → bytes_at file (entry_at l was t).pos (entry_at l was t).len ≡ bytes_at was (entry_at l was t).pos (entry_at l was t).len
blend_old_bytes l was stages file t ready b low place =
    let e = entry_at l was t in
    let s = stored_inside l (length was) t e (ready.image.entries t low) place in
    still_part l was stages file e.pos e.size e.pos e.len ready.layout b s.behind (λ g there named. ready.image.beside t g low there place named) (omega arith) (omega (arith, s.holds)) s.within

pub blend_new_bytes : (l : Layout) (was : List ℕ) (stages : Stages) (file : List ℕ) (t : ℕ) → IsReady l stages was → Blend l was stages file → t < track_count l.geo → IsPlace (new_entry l stages was t).pos
    → bytes_at file (new_entry l stages was t).pos (new_entry l stages was t).len ≡ bytes_at was (new_entry l stages was t).pos (new_entry l stages was t).len
blend_new_bytes l was stages file t ready b low place =
    let e = new_entry l stages was t in
    let s = stored_inside l (length was) t e (ready.can_move.entries t low) place in
    still_part l was stages file e.pos e.size e.pos e.len ready.layout b s.behind (λ g there named. ready.can_move.new_beside_old t g low there place named) (omega arith) (omega (arith, s.holds)) s.within
