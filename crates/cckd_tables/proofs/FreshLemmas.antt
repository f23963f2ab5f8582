-- What new tables leave of an image, and when a commit can be made: where what is staged shares no byte with what the file has.
use Rattle.std.proofs.Common.{◌≡◌, ◌≢◌, ℕ, suc, ◌+◌, ◌*◌, ◌/◌, ◌%◌, ◌<◌, ◌≤◌, List, [], ◌∷◌, length, get_or, Some, None, sym, ◌∙◌, ap, subst, inl, inr, arith}
use Rattle.std.specs.Int.{w32}
use Rattle.std.specs.Prelude.{is_some}
use Rattle.std.specs.List.{AllByRecursion}
use Rattle.cckd_base.specs.declared.geometry.Layout.{Layout}
use Rattle.cckd_base.specs.declared.entry.L2Entry.{L2Entry}
use Rattle.cckd_base.specs.Numbers.{bytes_at, number_of}
use Rattle.cckd_base.specs.Geometry.{track_count, area_of, IsLayout}
use Rattle.cckd_base.specs.Entry.{word_at, entry_at, entry_by_word, entry_in_table, bytes_by_entry}
use Rattle.cckd_base.specs.Misfit.{table_misfit, entry_misfit}
use Rattle.cckd_base.specs.Image.{IsPlace, ShareNoByte, IsImage}
use Rattle.cckd_base.proofs.PlaceLemmas.{part_same, turned, table_inside, table_can_be, stored_inside, entry_longer, table_longer, by_word_same, bytes_stay}
use Rattle.cckd_base.proofs.WriteLemmas.{StaysImage}
use Rattle.cckd_tables.specs.declared.staged.StagedWord.{StagedWord}
use Rattle.cckd_tables.specs.Staging.{Stages, entry_for, place_for, IsStaged, IsMoved, new_entry, new_word}
use Rattle.cckd_tables.specs.Blend.{AreBesideNew, Near}
use Rattle.cckd_tables.specs.Commit.{AreInOrder, AreApart, IsBeside, AreTablesApart, CanMove, CanBlend, CanCommit}
use Rattle.cckd_tables.proofs.StagedLemmas.{some_of, new_word_at, moved_word, same_entry, entry_case, word_case, place_own, place_index, all_at}
use Rattle.cckd_tables.proofs.WrittenLemmas.{group_low}

-- ---- what new tables leave

byte_beside : (words : List StagedWord) (a n i : ℕ) → AreBesideNew words a n → a ≤ i → i < a + n → AreBesideNew words i 1
byte_beside [] a n i h low high = tt
byte_beside (s ∷ ss) a n i h low high = (elim h.0 [ inl k ↦ inl (omega (arith, k, high)) | inr k ↦ inr (omega (arith, k, low)) ], byte_beside ss a n i h.1 low high)

-- bytes in a range that shares none with a new table stay
pub near_part : (stages : Stages) (was file : List ℕ) (a n c m : ℕ) → Near stages was file → AreBesideNew stages.words a n → a ≤ c → c + m ≤ a + n → c + m ≤ length was
    → bytes_at file c m ≡ bytes_at was c m
near_part stages was file a n c m near beside low high within =
    part_same was file c m within near.no_shorter
    (λ i from to. near.outside i (omega (arith, to, within)) (byte_beside stages.words a n i beside (omega (arith, low, from)) (omega (arith, high, to))))

-- the new tables share no byte with what an image names
pub record IsClear (l : Layout) (stages : Stages) (file : List ℕ) : Type 0 where
  pub area : AreBesideNew stages.words 0 (area_of l.groups)
  pub tables : (g : ℕ) → g < l.groups → IsPlace (word_at l file g) → AreBesideNew stages.words (word_at l file g) 2048
  pub tracks : (t : ℕ) → t < track_count l.geo → IsPlace (entry_at l file t).pos → AreBesideNew stages.words (entry_at l file t).pos (entry_at l file t).size

-- then it stays that image: words, entries and the bytes of tracks
pub near_image : (l : Layout) (stages : Stages) (was file : List ℕ) → IsLayout l → IsImage l was → IsClear l stages was → Near stages was file → StaysImage l was file
near_image l stages was file layout image clear near =
    let word : (g : ℕ) → g < l.groups → word_at l file g ≡ word_at l was g = λ g low.
    ap (number_of l.order w32) (near_part stages was file 0 (area_of l.groups) (1024 + 4 * g) 4 near clear.area (omega arith) (omega (arith, low)) (omega (arith, low, image.area))) in
    let entry : (t : ℕ) → t < track_count l.geo → entry_at l file t ≡ entry_at l was t = λ t low.
    let w = word_at l was (t / 256) in
    let group = group_low l t layout low in
    ap (λ (x : ℕ). entry_by_word l file x t) (word (t / 256) group)
    ∙ by_word_same l was file w t (λ place.
    let k = table_inside l (length was) (t / 256) w (image.words (t / 256) group) place in
    near_part stages was file w 2048 (w + 8 * (t % 256)) 8 near (clear.tables (t / 256) group place) (omega arith) (omega arith) (omega (arith, k.1))) in
    record {
      image = record {
        area = omega (arith, image.area, near.no_shorter);
        words = λ g low. subst (λ (w : ℕ). table_misfit l (length file) g w ≡ None) (sym (word g low)) (table_longer l (length was) (length file) g (word_at l was g) near.no_shorter (image.words g low));
        entries = λ t low. subst (λ (e : L2Entry). entry_misfit l (length file) t e ≡ None) (sym (entry t low)) (entry_longer l (length was) (length file) t (entry_at l was t) near.no_shorter (image.entries t low));
        snug = λ t low. subst (λ (e : L2Entry). IsPlace e.pos → e.pos + e.size ≤ length file) (sym (entry t low)) (λ place. let s = image.snug t low place in omega (arith, s, near.no_shorter));
        tables_apart = λ g h a b differ. subst (λ (x : ℕ). AreTablesApart x (word_at l file h)) (sym (word g a)) (subst (λ (y : ℕ). AreTablesApart (word_at l was g) y) (sym (word h b)) (image.tables_apart g h a b differ));
        beside = λ t g a b. subst (λ (e : L2Entry). IsBeside e (word_at l file g)) (sym (entry t a)) (subst (λ (y : ℕ). IsBeside (entry_at l was t) y) (sym (word g b)) (image.beside t g a b));
        tracks_apart = λ t u a b differ. subst (λ (e : L2Entry). AreApart e (entry_at l file u)) (sym (entry t a)) (subst (λ (e : L2Entry). AreApart (entry_at l was t) e) (sym (entry u b)) (image.tracks_apart t u a b differ));
      };
      word = word;
      entry = entry;
      stored = λ null t low.
          ap (bytes_by_entry null l file t) (entry t low)
          ∙ bytes_stay null l was file t (entry_at l was t) (λ place.
          let f = stored_inside l (length was) t (entry_at l was t) (image.entries t low) place in
          near_part stages was file (entry_at l was t).pos (entry_at l was t).size (entry_at l was t).pos (entry_at l was t).len near (clear.tracks t low place) (omega arith) (omega (arith, f.holds)) f.within);
    }

-- ---- what is staged stands free

-- The spaces of staged tracks and of new tables can be in the file, and share no byte with those that the file has and with each other. A
-- staged track of a group that isn't moved has a table, at a multiple of 8.
pub record IsFresh (l : Layout) (stages : Stages) (file : List ℕ) : Type 0 where
  pub fits : (t : ℕ) (e : L2Entry) → t < track_count l.geo → entry_for t stages.entries ≡ Some e → entry_misfit l (length file) t e ≡ None
  pub snug : (t : ℕ) (e : L2Entry) → t < track_count l.geo → entry_for t stages.entries ≡ Some e → IsPlace e.pos → e.pos + e.size ≤ length file
  pub tracks : (t u : ℕ) (e : L2Entry) → t < track_count l.geo → u < track_count l.geo → t ≢ u → entry_for u stages.entries ≡ Some e → AreApart (entry_at l file t) e
  pub news : (t u : ℕ) (e f : L2Entry) → t < track_count l.geo → u < track_count l.geo → t ≢ u → entry_for t stages.entries ≡ Some e → entry_for u stages.entries ≡ Some f → AreApart e f
  pub beside_table : (t g : ℕ) (e : L2Entry) → t < track_count l.geo → g < l.groups → entry_for t stages.entries ≡ Some e → IsBeside e (word_at l file g)
  pub places : (g p : ℕ) → g < l.groups → place_for g stages.words ≡ Some p → IsPlace p × (area_of l.groups ≤ p)
  pub tables : (g h p : ℕ) → g < l.groups → h < l.groups → place_for g stages.words ≡ Some p → IsPlace (word_at l file h) → ShareNoByte p 2048 (word_at l file h) 2048
  pub new_tables : (g h p q : ℕ) → g < l.groups → h < l.groups → g ≢ h → place_for g stages.words ≡ Some p → place_for h stages.words ≡ Some q → ShareNoByte p 2048 q 2048
  pub beside_new : (t g p : ℕ) → t < track_count l.geo → g < l.groups → place_for g stages.words ≡ Some p → IsBeside (entry_at l file t) p
  pub new_beside_new : (t g p : ℕ) (e : L2Entry) → t < track_count l.geo → g < l.groups → entry_for t stages.entries ≡ Some e → place_for g stages.words ≡ Some p → IsBeside e p
  pub tabled : (t : ℕ) → t < track_count l.geo → IsStaged t stages → (IsMoved (t / 256) stages → ⊥) → IsPlace (word_at l file (t / 256)) × (word_at l file (t / 256) % 8 ≡ 0)

-- so words and entries can move, where the new tables end inside the file
pub move_of_fresh : (l : Layout) (stages : Stages) (file : List ℕ) → IsImage l file → IsFresh l stages file
    → ((g p : ℕ) → g < l.groups → place_for g stages.words ≡ Some p → p + 2048 ≤ length file) → CanMove l stages file
move_of_fresh l stages file image fresh within =
    let old_tables : (g h : ℕ) → g < l.groups → h < l.groups → g ≢ h → AreTablesApart (word_at l file g) (new_word l stages file h) = λ g h a b differ.
    word_case l stages file h (AreTablesApart (word_at l file g)) (λ p own named there. turned p 2048 (word_at l file g) 2048 (fresh.tables h g p b a own named)) (image.tables_apart g h a b differ) in
    let old_tracks : (t u : ℕ) → t < track_count l.geo → u < track_count l.geo → t ≢ u → AreApart (entry_at l file t) (new_entry l stages file u) = λ t u a b differ.
    entry_case l stages file u (AreApart (entry_at l file t)) (λ e own. fresh.tracks t u e a b differ own) (image.tracks_apart t u a b differ) in
    let old_beside_new : (t g : ℕ) → t < track_count l.geo → g < l.groups → IsBeside (entry_at l file t) (new_word l stages file g) = λ t g a b.
    word_case l stages file g (IsBeside (entry_at l file t)) (λ p own. fresh.beside_new t g p a b own) (image.beside t g a b) in
    let new_beside_old : (t g : ℕ) → t < track_count l.geo → g < l.groups → IsBeside (new_entry l stages file t) (word_at l file g) = λ t g a b.
    entry_case l stages file t (λ (e : L2Entry). IsBeside e (word_at l file g)) (λ e own. fresh.beside_table t g e a b own) (image.beside t g a b) in
    record {
      words = λ g low. word_case l stages file g (λ (w : ℕ). table_misfit l (length file) g w ≡ None)
          (λ p own. let k = fresh.places g p low own in table_can_be l (length file) g p k.0 k.1 (within g p low own)) (image.words g low);
      entries = λ t low. entry_case l stages file t (λ (e : L2Entry). entry_misfit l (length file) t e ≡ None) (λ e own. fresh.fits t e low own) (image.entries t low);
      snug = λ t low. entry_case l stages file t (λ (e : L2Entry). IsPlace e.pos → e.pos + e.size ≤ length file) (λ e own. fresh.snug t e low own) (image.snug t low);
      old_tables = old_tables;
      new_tables = λ g h a b differ. word_case l stages file g (λ (v : ℕ). AreTablesApart v (new_word l stages file h))
          (λ p own. word_case l stages file h (AreTablesApart p) (λ q other named there. fresh.new_tables g h p q a b differ own other)
          (λ named there. fresh.tables g h p a b own there))
          (old_tables g h a b differ);
      old_tracks = old_tracks;
      new_tracks = λ t u a b differ. entry_case l stages file t (λ (e : L2Entry). AreApart e (new_entry l stages file u))
          (λ e own. entry_case l stages file u (AreApart e) (λ f other. fresh.news t u e f a b differ own other)
          (λ here there. turned (entry_at l file u).pos (entry_at l file u).size e.pos e.size (fresh.tracks u t e b a (λ same. differ (sym same)) own there here)))
          (old_tracks t u a b differ);
      old_beside_new = old_beside_new;
      new_beside_old = new_beside_old;
      new_beside_new = λ t g a b. entry_case l stages file t (λ (e : L2Entry). IsBeside e (new_word l stages file g))
          (λ e own. word_case l stages file g (IsBeside e) (λ p other. fresh.new_beside_new t g p e a b own other) (fresh.beside_table t g e a b own))
          (old_beside_new t g a b);
    }

-- the place of a moved group
placed : (l : Layout) (stages : Stages) (file : List ℕ) (g : ℕ) → IsMoved g stages → place_for g stages.words ≡ Some (new_word l stages file g)
placed l stages file g moved = let p = some_of (place_for g stages.words) moved in p.1 ∙ ap (λ (x : ℕ). Some x) (sym (new_word_at l stages file g p.0 p.1))

pub blend_of_fresh : (l : Layout) (stages : Stages) (file : List ℕ) → IsFresh l stages file
    → ((t : ℕ) → t < track_count l.geo → IsMoved (t / 256) stages → entry_in_table l file (new_word l stages file (t / 256)) t ≡ new_entry l stages file t) → CanBlend l stages file
blend_of_fresh l stages file fresh spelled = record {
  places = λ g low moved. (fresh.places g (new_word l stages file g) low (placed l stages file g moved)).0;
  apart = λ g h low there moved named. fresh.tables g h (new_word l stages file g) low there (placed l stages file g moved) named;
  spelled = spelled;
  tabled = fresh.tabled;
}

-- ---- a commit can be made

all_by : {X : Type 0} (P : X → Type 0) (xs : List X) (d : X) → ((i : ℕ) → i < length xs → P (get_or xs i d)) → AllByRecursion P xs
all_by P [] d h = tt
all_by P (x ∷ xs) d h = (h 0 (omega arith), all_by P xs d (λ i low. h (suc i) (omega (arith, low))))

abbrev blank : StagedWord
blank = record { group = 0; pos = 0 }

-- a range that shares no byte with the new table of any group
pub beside_each : (l : Layout) (stages : Stages) (a n : ℕ) → AreInOrder l stages → ((g p : ℕ) → g < l.groups → place_for g stages.words ≡ Some p → ShareNoByte a n p 2048) → AreBesideNew stages.words a n
beside_each l stages a n order far =
    all_by (λ (s : StagedWord). ShareNoByte a n s.pos 2048) stages.words blank
    (λ i low. far (get_or stages.words i blank).group (get_or stages.words i blank).pos (all_at (λ (s : StagedWord). s.group < l.groups) stages.words i blank order.groups_there low) (place_own stages.words i blank order.groups low))

pub moved_low : (l : Layout) (stages : Stages) (g : ℕ) → AreInOrder l stages → IsMoved g stages → g < l.groups
moved_low l stages g order moved =
    let p = some_of (place_for g stages.words) moved in
    let r = place_index stages.words g p.0 blank p.1 in
    subst (λ (n : ℕ). n < l.groups) r.2 (all_at (λ (s : StagedWord). s.group < l.groups) stages.words r.0 blank order.groups_there r.1)

pub clear_of_fresh : (l : Layout) (stages : Stages) (file : List ℕ) → AreInOrder l stages → IsFresh l stages file → IsClear l stages file
clear_of_fresh l stages file order fresh = record {
  area = beside_each l stages 0 (area_of l.groups) order (λ g p low own. inl (omega (arith, (fresh.places g p low own).1)));
  tables = λ h low named. beside_each l stages (word_at l file h) 2048 order (λ g p there own. turned p 2048 (word_at l file h) 2048 (fresh.tables g h p there low own named));
  tracks = λ t low named. beside_each l stages (entry_at l file t).pos (entry_at l file t).size order (λ g p there own. fresh.beside_new t g p low there own named (fresh.places g p there own).0);
}

-- with the new tables all that is staged stands free as before
fresh_near : (l : Layout) (stages : Stages) (was mid : List ℕ) → IsLayout l → StaysImage l was mid → length was ≤ length mid → IsFresh l stages was → IsFresh l stages mid
fresh_near l stages was mid layout stays longer fresh = record {
  fits = λ t e low own. entry_longer l (length was) (length mid) t e longer (fresh.fits t e low own);
  snug = λ t e low own place. let s = fresh.snug t e low own place in omega (arith, s, longer);
  tracks = λ t u e a b differ own. subst (λ (x : L2Entry). AreApart x e) (sym (stays.entry t a)) (fresh.tracks t u e a b differ own);
  news = fresh.news;
  beside_table = λ t g e a b own. subst (IsBeside e) (sym (stays.word g b)) (fresh.beside_table t g e a b own);
  places = fresh.places;
  tables = λ g h p a b own. subst (λ (w : ℕ). IsPlace w → ShareNoByte p 2048 w 2048) (sym (stays.word h b)) (fresh.tables g h p a b own);
  new_tables = fresh.new_tables;
  beside_new = λ t g p a b own. subst (λ (x : L2Entry). IsBeside x p) (sym (stays.entry t a)) (fresh.beside_new t g p a b own);
  new_beside_new = fresh.new_beside_new;
  tabled = λ t low staged not. subst (λ (w : ℕ). IsPlace w × (w % 8 ≡ 0)) (sym (stays.word (t / 256) (group_low l t layout low))) (fresh.tabled t low staged not);
}

-- the bytes at the place of a new entry
new_bytes_near : (l : Layout) (stages : Stages) (was mid : List ℕ) (t : ℕ) → AreInOrder l stages → IsImage l was → IsFresh l stages was → Near stages was mid → t < track_count l.geo
    → IsPlace (new_entry l stages was t).pos → bytes_at mid (new_entry l stages was t).pos (new_entry l stages was t).len ≡ bytes_at was (new_entry l stages was t).pos (new_entry l stages was t).len
new_bytes_near l stages was mid t order image fresh near low =
    let clear = clear_of_fresh l stages was order fresh in
    entry_case l stages was t (λ (e : L2Entry). IsPlace e.pos → bytes_at mid e.pos e.len ≡ bytes_at was e.pos e.len)
    (λ e own place.
    let f = stored_inside l (length was) t e (fresh.fits t e low own) place in
    near_part stages was mid e.pos e.size e.pos e.len near (beside_each l stages e.pos e.size order (λ g p there moved. fresh.new_beside_new t g p e low there own moved place (fresh.places g p there moved).0))
    (omega arith) (omega (arith, f.holds)) f.within)
    (λ place.
    let e = entry_at l was t in
    let f = stored_inside l (length was) t e (image.entries t low) place in
    near_part stages was mid e.pos e.size e.pos e.len near (clear.tracks t low place) (omega arith) (omega (arith, f.holds)) f.within)

pub can_commit : (l : Layout) (stages : Stages) (was : List ℕ) → IsLayout l → AreInOrder l stages → IsImage l was → IsFresh l stages was → CanCommit l stages was
can_commit l stages was layout order image fresh = record {
  apart = λ g h a b differ. fresh.new_tables g h (new_word l stages was g) (new_word l stages was h) (moved_low l stages g order a) (moved_low l stages h order b) differ (placed l stages was g a) (placed l stages was h b);
  synced = λ mid near has.
      let stays = near_image l stages was mid layout image (clear_of_fresh l stages was order fresh) near in
      let there = fresh_near l stages was mid layout stays near.no_shorter fresh in
      record {
        near = near;
        has = has;
        image = stays.image;
        can_move = move_of_fresh l stages mid stays.image there
            (λ g p low own. subst (λ (w : ℕ). w + 2048 ≤ length mid) (new_word_at l stages was g p own) (has.within g (ap is_some own)));
        can_blend = blend_of_fresh l stages mid there
            (λ t low moved. ap (λ (w : ℕ). entry_in_table l mid w t) (moved_word l stages was mid (t / 256) moved) ∙ (has.spelled t moved ∙ sym (same_entry l stages was mid t (stays.entry t low))));
        words = stays.word;
        entries = stays.entry;
        bytes = λ t low. new_bytes_near l stages was mid t order image fresh near low;
      };
}
