-- Tables in memory, once a commit is done, against the file that it left.
use Rattle.std.proofs.Common.{◌≡◌, ◌≢◌, inl, inr, ℕ, zero, suc, ◌+◌, ◌-◌, ◌*◌, ◌/◌, ◌%◌, ◌<◌, ◌≤◌, List, [], ◌∷◌, length, map, drop, get_or, slice_index, slice_set, min, Option, None, IsSome, is_some, unwrap_or, refl, sym, ◌∙◌, ap, subst, arith, get_or-set_same, get_or-set_other, length-take, length-drop}
use Rattle.std.proofs.Math.ListN.{length-set}
use Rattle.std.specs.List.{AllByRecursion}
use Rattle.std.specs.List.Sorted.{IsStrictlyIncreasing}
use Rattle.std.proofs.lemmas.Bool.Decides.{eqb_tells}
use Rattle.std.proofs.lemmas.Bool.{cases_lt}
use Rattle.cckd_shelf.proofs.OutcomeLemmas.{length_overlaid}
use Rattle.cckd_base.specs.declared.order.Order.{Order}
use Rattle.cckd_base.specs.declared.order.Order.TheVariants.{Little, Big}
use Rattle.cckd_base.specs.declared.geometry.Layout.{Layout}
use Rattle.cckd_base.specs.declared.entry.L2Entry.{L2Entry}
use Rattle.cckd_base.specs.Geometry.{track_count}
use Rattle.cckd_base.specs.Numbers.{bytes_at}
use Rattle.cckd_base.specs.Entry.{word_at, entry_of, entry_bytes, entry_in_table}
use Rattle.cckd_base.specs.Image.{IsPlace, IsImage, ShareNoByte}
use Rattle.cckd_base.proofs.PlaceLemmas.{table_inside}
use Rattle.cckd_tables.specs.declared.staged.StagedEntry.{StagedEntry}
use Rattle.cckd_tables.specs.declared.staged.StagedWord.{StagedWord}
use Rattle.cckd_tables.specs.Staging.{Stages, IsMoved, entry_for, place_for, new_entry, new_word}
use Rattle.cckd_tables.specs.Stages.{RiseFrom, AreStaged, none_staged}
use Rattle.cckd_tables.specs.Tables.{CachedTable, TableView, IsCachedOf, AreOf}
use Rattle.cckd_tables.specs.Looking.{IsTables, AreThere}
use Rattle.cckd_tables.specs.Blend.{IsCommitted, with_put, put_over}
use Rattle.cckd_tables.specs.Commit.{AreInOrder, IsSynced}
use Rattle.cckd_tables.specs.Cells.{ArePutOver, entry_among, IsReady}
use Rattle.cckd_tables.specs.Settling.{with_words, AreAllPutOver}
use Rattle.cckd_tables.proofs.PlacedLemmas.{none_below}
use Rattle.cckd_tables.proofs.StageLemmas.{group_of, place_is_value}
use Rattle.cckd_tables.proofs.StagedLemmas.{new_word_at, new_word_plain, moved_word, some_or_none}
use Rattle.cckd_tables.proofs.WrittenLemmas.{part_stays, two_cells}
use Rattle.cckd_tables.proofs.BlendLemmas.{blend_image, new_table_bytes}
use Rattle.cckd_tables.proofs.CommitLemmas.{ready_of}
use Rattle.cckd_tables.proofs.FreshLemmas.{near_part, beside_each}
use Rattle.cckd_tables.proofs.PutOverLemmas.{with_put_own, with_put_other}
use Rattle.cckd_tables.proofs.LookLemmas.{word_gives_table}
use Rattle.cckd_tables.proofs.TableLemmas.{entry_read}

-- words that are put one by one: each group has the staged one, or else its own
pub with_words_at : (n : ℕ) (ss : List StagedWord) (words : List ℕ) (g : ℕ) → RiseFrom n (map group_of ss) → g < length words → slice_index (with_words ss words) g ≡ unwrap_or (place_for g ss) (slice_index words g)
with_words_at n [] words g rises low = refl
with_words_at n (s ∷ ss) words g rises low =
    let low_now : g < length (slice_set words s.group s.pos) = (let same = length-set words s.group s.pos in omega arith) in
    let rest = with_words_at (suc s.group) ss (slice_set words s.group s.pos) g rises.1 low_now in
    elim (eqb_tells s.group g) [
      | inl t ↦ rw t.0 (
          let none : place_for g ss ≡ None = sym (place_is_value g ss) ∙ none_below group_of (λ w. w.pos) g (suc s.group) ss (let e = t.1 in omega arith) rises.1 in
          let low_own : s.group < length words = (let e = t.1 in omega arith) in
          rest ∙ ap (λ (o : Option ℕ). unwrap_or o (slice_index (slice_set words s.group s.pos) g)) none
          ∙ ap (λ k. slice_index (slice_set words s.group s.pos) k) (sym t.1) ∙ get_or-set_same words s.group s.pos 0 low_own)
      | inr t ↦ rw t.0 (
          rest ∙ ap (λ k. unwrap_or (place_for g ss) k) (let other : g ≢ s.group = (let ne = t.1 in omega arith) in rw get_or-set_other refl))
    ]

-- an entry has eight bytes
entry_size : (order : Order) (e : L2Entry) → length (entry_bytes order e) ≡ 8
entry_size Little e = refl
entry_size Big e = refl

-- entries that are put over keep the bytes of every other place
pub put_over_apart : (order : Order) (g : ℕ) (entries : List StagedEntry) (table : List ℕ) (t : ℕ) → length table ≡ 2048 → t / 256 ≡ g → AllByRecursion (λ s. s.track ≢ t) entries
    → bytes_at (put_over order g entries table) (8 * (t % 256)) 8 ≡ bytes_at table (8 * (t % 256)) 8
put_over_apart order g [] table t size own apart = refl
put_over_apart order g (s ∷ ss) table t size own apart = elim (eqb_tells (s.track / 256) g) [
  | inl u ↦ (
      let put = with_put_own order g s table u.1 in
      let bytes = entry_bytes order s.entry in
      let eight = entry_size order s.entry in
      let long : length (with_put order g s table) ≡ 2048 = ap (λ (l : List ℕ). length l) put ∙ (let n = length_overlaid table (8 * (s.track % 256)) bytes in omega arith) in
      let far = two_cells 0 s.track t (u.1 ∙ sym own) apart.0 in
      put_over_apart order g ss (with_put order g s table) t long own apart.1
      ∙ ap (λ (l : List ℕ). bytes_at l (8 * (t % 256)) 8) put
      ∙ part_stays table bytes (8 * (s.track % 256)) 8 (8 * (t % 256)) 8 eight (omega arith) (elim far [ inl k ↦ inl (omega (arith, k)) | inr k ↦ inr (omega (arith, k)) ]))
  | inr u ↦ (
      let put = with_put_other order g s table u.1 in
      put_over_apart order g ss (with_put order g s table) t (ap (λ (l : List ℕ). length l) put ∙ size) own apart.1
      ∙ ap (λ (l : List ℕ). bytes_at l (8 * (t % 256)) 8) put)
]

-- numbers that rise are in order
rises_strictly : (n : ℕ) (ns : List ℕ) → RiseFrom n ns → (k : ℕ) → suc k < length ns → get_or ns k 0 < get_or ns (suc k) 0
rises_strictly n [] rises k low = absurd (omega arith)
rises_strictly n (a ∷ []) rises k low = absurd (omega arith)
rises_strictly n (a ∷ b ∷ ns) rises zero low = let h = rises.1.0 in omega arith
rises_strictly n (a ∷ b ∷ ns) rises (suc k) low = rises_strictly (suc a) (b ∷ ns) rises.1 k (omega arith)

pub strictly_of : (n : ℕ) (ns : List ℕ) → RiseFrom n ns → IsStrictlyIncreasing ns
strictly_of n ns rises = λ k low.
    let next : suc k ≡ k + 1 = omega arith in
    subst (λ m. get_or ns k 0 < get_or ns m 0) next (rises_strictly n ns rises k (omega arith))

pub order_of : (l : Layout) (s : Stages) → AreStaged s → AreThere l s → AreInOrder l s
order_of l s staged there = record {
  tracks = strictly_of 0 (map (λ e. e.track) s.entries) staged.entries;
  groups = strictly_of 0 (map (λ w. w.group) s.words) staged.words;
  tracks_there = there.tracks;
  groups_there = there.groups;
}

-- no more words are staged than there are groups
rise_count : (n b : ℕ) (ss : List StagedWord) → RiseFrom n (map group_of ss) → AllByRecursion (λ w. w.group < b) ss → length ss ≤ b - n
rise_count n b [] rises all = omega arith
rise_count n b (s ∷ ss) rises all =
    let rest = rise_count (suc s.group) b ss rises.1 all.1 in let low = rises.0 in let high = all.0 in omega arith

pub words_few : (l : Layout) (s : Stages) → AreStaged s → AreThere l s → length s.words ≤ min 256 l.groups
words_few l s staged there = let few = staged.few in let count = rise_count 0 l.groups s.words staged.words there.groups in omega arith

-- no entry is staged past the last track
apart_past : (count t : ℕ) (ss : List StagedEntry) → count ≤ t → AllByRecursion (λ s. s.track < count) ss → AllByRecursion (λ s. s.track ≢ t) ss
apart_past count t [] past all = tt
apart_past count t (s ∷ ss) past all = ((λ same. let low = all.0 in omega (arith, same)), apart_past count t ss past all.1)

none_past : (count t : ℕ) (ss : List StagedEntry) → count ≤ t → AllByRecursion (λ s. s.track < count) ss → entry_for t ss ≡ None
none_past count t [] past all = refl
none_past count t (s ∷ ss) past all = elim (eqb_tells s.track t) [
  | inl u ↦ absurd (let low = all.0 in let e = u.1 in omega arith)
  | inr u ↦ rw u.0 (none_past count t ss past all.1)
]

-- a part inside a file has its length
part_size : (file : List ℕ) (p n : ℕ) → p + n ≤ length file → length (bytes_at file p n) ≡ n
part_size file p n within = omega (arith, length-take n (drop p file), length-drop p file)

-- what is read at the same bytes is the same entry
table_same : (l : Layout) (a b : List ℕ) (p t : ℕ) → bytes_at a p 2048 ≡ bytes_at b p 2048 → entry_in_table l a p t ≡ entry_in_table l b p t
table_same l a b p t same = sym (entry_read l a (bytes_at a p 2048) p t refl) ∙ ap (λ (bs : List ℕ). entry_among l.order bs t) same ∙ entry_read l b (bytes_at b p 2048) p t refl

module _ (v : TableView) (was file mid : List ℕ) (tables : IsTables v) (of : AreOf v was) (synced : IsSynced v.layout v.stages was mid) (done : IsCommitted v.layout mid v.stages file) where
  order_is : AreInOrder v.layout v.stages
  order_is = order_of v.layout v.stages tables.staged tables.there

  ready_is : IsReady v.layout v.stages mid
  ready_is = ready_of v.layout v.stages was mid tables.layout synced

  -- the entry in the file's table, where the group's is another one now
  moved_entry : (g t : ℕ) → g < v.layout.groups → IsMoved g v.stages → t / 256 ≡ g → entry_in_table v.layout file (word_at v.layout file g) t ≡ new_entry v.layout v.stages was t
  moved_entry g t low moved own =
      let l = v.layout in
      let to : word_at l file g ≡ new_word l v.stages mid g = done.words g low in
      let same = new_table_bytes l v.stages mid file g ready_is done.blend low moved in
      let moved_t : IsMoved (t / 256) v.stages = subst (λ n. IsMoved n v.stages) (sym own) moved in
      ap (λ w. entry_in_table l file w t) to
      ∙ table_same l file mid (new_word l v.stages mid g) t same
      ∙ ap (λ w. entry_in_table l mid w t) (moved_word l v.stages was mid g moved ∙ ap (new_word l v.stages was) (sym own))
      ∙ synced.has.spelled t moved_t

  -- and where it is the one that it was
  stayed_entry : (g t : ℕ) → g < v.layout.groups → (IsMoved g v.stages → ⊥) → IsPlace (word_at v.layout was g) → t / 256 ≡ g
      → entry_in_table v.layout file (word_at v.layout file g) t ≡ unwrap_or (entry_for t v.stages.entries) (entry_in_table v.layout was (word_at v.layout was g) t)
  stayed_entry g t low not place own =
      let l = v.layout in
      let at_mid : word_at l mid g ≡ word_at l was g = synced.words g low in
      let to : word_at l file g ≡ word_at l was g = done.words g low ∙ new_word_plain l v.stages mid g not ∙ at_mid in
      let named : IsPlace (word_at l mid g) = subst IsPlace (sym at_mid) place in
      let beside = beside_each l v.stages (word_at l was g) 2048 order_is (λ h p high own_h.
      let apart = synced.can_blend.apart h g high low (ap is_some own_h) named in
      let both : ShareNoByte p 2048 (word_at l was g) 2048
      = subst (λ w. ShareNoByte p 2048 w 2048) at_mid (subst (λ q. ShareNoByte q 2048 (word_at l mid g) 2048) (new_word_at l v.stages mid h p own_h) apart) in
      elim both [ inl k ↦ inr k | inr k ↦ inl k ]) in
      let bytes : bytes_at mid (word_at l was g) 2048 ≡ bytes_at was (word_at l was g) 2048
      = near_part v.stages was mid (word_at l was g) 2048 (word_at l was g) 2048 synced.near beside (omega arith) (omega arith) (of.tables g low place) in
      elim (cases_lt t (track_count l.geo)) [
        | inl there ↦ (
            let at : word_at l file (t / 256) ≡ word_at l was g = ap (word_at l file) own ∙ to in
            let file_place : IsPlace (word_at l file (t / 256)) = subst IsPlace (sym at) place in
            let was_at : word_at l was (t / 256) ≡ word_at l was g = ap (word_at l was) own in
            let was_place : IsPlace (word_at l was (t / 256)) = subst IsPlace (sym was_at) place in
            ap (λ w. entry_in_table l file w t) (to ∙ sym at)
            ∙ sym (word_gives_table l file (word_at l file (t / 256)) t file_place)
            ∙ done.entries t there
            ∙ ap (λ (e : L2Entry). unwrap_or (entry_for t v.stages.entries) e)
            (synced.entries t there ∙ word_gives_table l was (word_at l was (t / 256)) t was_place ∙ ap (λ w. entry_in_table l was w t) was_at))
        | inr past ↦ (
            let none = none_past (track_count l.geo) t v.stages.entries past tables.there.tracks in
            let far = apart_past (track_count l.geo) t v.stages.entries past tables.there.tracks in
            let w = word_at l mid g in
            let inside = table_inside l (length mid) g w (synced.image.words g low) named in
            let size = part_size mid w 2048 inside.1 in
            ap (λ x. entry_in_table l file x t) (to ∙ sym at_mid)
            ∙ sym (entry_read l file (put_over l.order g v.stages.entries (bytes_at mid w 2048)) w t (sym (done.tables g low not named)))
            ∙ ap (entry_of l.order) (put_over_apart l.order g v.stages.entries (bytes_at mid w 2048) t size own far)
            ∙ entry_read l mid (bytes_at mid w 2048) w t refl
            ∙ ap (λ x. entry_in_table l mid x t) at_mid
            ∙ table_same l mid was (word_at l was g) t bytes
            ∙ ap (λ (o : Option L2Entry). unwrap_or o (entry_in_table l was (word_at l was g) t)) (sym none))
      ]

  -- a cached table, with the staged entries put over
  pub cached_committed : (c d : CachedTable) → IsCachedOf v.layout was c → d.group ≡ c.group → ArePutOver v.layout.order c.group v.stages.entries c.bytes d.bytes → IsCachedOf v.layout file d
  cached_committed c d known same put =
      let l = v.layout in
      let g = c.group in
      let low : g < l.groups = known.group in
      let named : IsPlace (word_at l file g) = (elim (some_or_none (place_for g v.stages.words)) [
        | inl p ↦ subst IsPlace (sym (done.words g low)) (synced.can_blend.places g low (ap is_some p.1))
        | inr none ↦ (
            let not : IsMoved g v.stages → ⊥ = λ moved. (let h = subst (λ (o : Option ℕ). IsSome o) none moved in cc) in
            subst IsPlace (sym (done.words g low ∙ new_word_plain l v.stages mid g not ∙ synced.words g low)) known.named)
      ]) in
      let entry : (t : ℕ) → t / 256 ≡ g → entry_among l.order d.bytes t ≡ entry_in_table l file (word_at l file g) t = λ t own.
      (elim (some_or_none (place_for g v.stages.words)) [
        | inl p ↦ (
            let was_at : word_at l was (t / 256) ≡ word_at l was g = ap (word_at l was) own in
            let was_place : IsPlace (word_at l was (t / 256)) = subst IsPlace (sym was_at) known.named in
            put t own
            ∙ ap (λ (e : L2Entry). unwrap_or (entry_for t v.stages.entries) e)
            (known.entries t own ∙ ap (λ w. entry_in_table l was w t) (sym was_at) ∙ sym (word_gives_table l was (word_at l was (t / 256)) t was_place))
            ∙ sym (moved_entry g t low (ap is_some p.1) own))
        | inr none ↦ (
            let not : IsMoved g v.stages → ⊥ = λ moved. (let h = subst (λ (o : Option ℕ). IsSome o) none moved in cc) in
            put t own
            ∙ ap (λ (e : L2Entry). unwrap_or (entry_for t v.stages.entries) e) (known.entries t own)
            ∙ sym (stayed_entry g t low not known.named own))
      ]) in
      record {
        group = subst (λ n. n < l.groups) (sym same) low;
        named = subst (λ n. IsPlace (word_at l file n)) (sym same) named;
        entries = λ t own. subst (λ n. entry_among l.order d.bytes t ≡ entry_in_table l file (word_at l file n) t) (sym same) (entry t (own ∙ same));
      }

  all_committed : (cs ds : List CachedTable) → AllByRecursion (IsCachedOf v.layout was) cs → AreAllPutOver v.layout.order v.stages.entries cs ds → AllByRecursion (IsCachedOf v.layout file) ds
  all_committed [] [] known put = tt
  all_committed [] (d ∷ ds) known put = absurd put
  all_committed (c ∷ cs) [] known put = absurd put
  all_committed (c ∷ cs) (d ∷ ds) known put = (cached_committed c d known.0 put.0 put.2, all_committed cs ds known.1 put.3)

  -- words and cached tables are those of the file that a commit left
  pub tables_committed : (new : List CachedTable) → AreAllPutOver v.layout.order v.stages.entries v.cached new
      → AreOf (record { layout = v.layout; words = with_words v.stages.words v.words; stages = none_staged; cached = new }) file
  tables_committed new put =
      let l = v.layout in
      let image : IsImage l file = blend_image l mid v.stages file synced.image synced.can_move done.blend in
      record {
        area = image.area;
        words = λ g low.
            (let within : g < length v.words = (let n = tables.words in omega arith) in
            done.words g low
            ∙ ap (unwrap_or (place_for g v.stages.words)) (synced.words g low ∙ of.words g low)
            ∙ sym (with_words_at 0 v.stages.words v.words g tables.staged.words within));
        tables = λ g low place. (table_inside l (length file) g (word_at l file g) (image.words g low) place).1;
        cached = all_committed v.cached new of.cached put;
      }
