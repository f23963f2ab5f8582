-- What is read of a file, against what the file has: words, tables and entries.
use Rattle.std.proofs.Common.{◌≡◌, ◌≢◌, ◌⊎◌, inl, inr, ℕ, zero, suc, ◌*◌, ◌/◌, ◌%◌, ◌<◌, ◌≤◌, List, [], ◌∷◌, length, take, slice_index, Option, Some, None, IsNone, IsSome, Result, Ok, Err, OnOk, OnErr, IfOk, refl, sym, ◌∙◌, ap, subst, arith}
use Rattle.std.specs.List.{AllByRecursion}
use Rattle.std.specs.Option.{unwrap_or}
use Rattle.std.specs.Int.{w32}
use Rattle.std.proofs.lemmas.Bool.Decides.{eqb_tells}
use Rattle.cckd_base.specs.declared.geometry.Layout.{Layout}
use Rattle.cckd_base.specs.declared.entry.L2Entry.{L2Entry}
use Rattle.cckd_base.specs.Numbers.{number_of, number_at, bytes_at}
use Rattle.cckd_base.specs.Entry.{see_parent, word_at, entry_of, entry_at, entry_by_word, entry_in_table, group_entry}
use Rattle.cckd_base.specs.Image.{IsPlace}
use Rattle.cckd_base.specs.Geometry.{track_count, IsLayout}
use Rattle.cckd_tables.specs.declared.device.Device.{Device}
use Rattle.cckd_tables.specs.Staging.{entry_for, new_entry}
use Rattle.cckd_tables.specs.Tables.{CachedTable, TableView, HasWords, IsCachedOf, AreOf}
use Rattle.cckd_tables.specs.Cached.{table_of, IsCached, tables_but, UsesTable, KeepsCached}
use Rattle.cckd_tables.specs.Looking.{with_cached}
use Rattle.cckd_tables.proofs.FileLemmas.{part_of_part}
use Rattle.cckd_tables.proofs.TableLemmas.{entry_read}
use Rattle.cckd_tables.proofs.CacheLemmas.{but_fewer}
use Rattle.std.proofs.lemmas.List.{take_all}

pub words_read : (l : Layout) (file bytes words : List ℕ) (at n : ℕ) → bytes ≡ bytes_at file at n → at ≡ 1024 → n ≡ 4 * l.groups
    → ((g : ℕ) → g < l.groups → slice_index words g ≡ number_at l.order w32 bytes (4 * g)) → HasWords l words file
words_read l file bytes words at n is here count spelled = λ g low.
    let part : bytes ≡ bytes_at file 1024 (4 * l.groups) = is ∙ ap (λ a. bytes_at file a n) here ∙ ap (λ m. bytes_at file 1024 m) count in
    sym (spelled g low ∙ ap (λ (bs : List ℕ). number_of l.order w32 bs) (ap (λ (bs : List ℕ). bytes_at bs (4 * g) 4) part ∙ part_of_part file 1024 (4 * l.groups) (4 * g) 4 (omega arith)))

-- the groups of tracks
pub group_there : (l : Layout) (t : ℕ) → IsLayout l → t < track_count l.geo → t / 256 < l.groups
group_there l t layout there = let n = layout.groups in omega arith

-- a table of a group that is cached stands in the list, and so does what holds of each
pub cached_has : (P : CachedTable → Type 0) (g : ℕ) (bytes : List ℕ) (cs : List CachedTable) → table_of g cs ≡ Some bytes → AllByRecursion P cs → P (record { group = g; bytes = bytes })
cached_has P g bytes [] some all = absurd cc
cached_has P g bytes (c ∷ cs) some all = elim (eqb_tells c.group g) [
  | inl t ↦ (
      let h : Some c.bytes ≡ Some bytes = (let s = rw t.0 at some in s) in
      let same : c.bytes ≡ bytes = cc in
      let own : c.group ≡ g = t.1 in
      let is : c ≡ record { group = g; bytes = bytes } = λ i. record { group = own i; bytes = same i } in
      subst P is all.0)
  | inr t ↦ cached_has P g bytes cs (let s = rw t.0 at some in s) all.1
]

others_have : (P : CachedTable → Type 0) (g : ℕ) (cs : List CachedTable) → AllByRecursion P cs → AllByRecursion P (tables_but g cs)
others_have P g [] all = tt
others_have P g (c ∷ cs) all = elim (eqb_tells c.group g) [ inl t ↦ rw t.0 (others_have P g cs all.1) | inr t ↦ rw t.0 (all.0, others_have P g cs all.1) ]

front_has : (P : CachedTable → Type 0) (n : ℕ) (cs : List CachedTable) → AllByRecursion P cs → AllByRecursion P (take n cs)
front_has P zero cs all = tt
front_has P (suc n) [] all = tt
front_has P (suc n) (c ∷ cs) all = (all.0, front_has P n cs all.1)

-- what holds of each cached table, and of the one that was used, holds of each from then on
pub used_has : (P : CachedTable → Type 0) (g : ℕ) (old new : List CachedTable) (used : UsesTable g old new) → P (record { group = g; bytes = used.bytes }) → AllByRecursion P old → AllByRecursion P new
used_has P g old new used own all =
    subst (AllByRecursion P) (sym used.first)
    (front_has P 64 ((let c : CachedTable = record { group = g; bytes = used.bytes } in c) ∷ tables_but g old) (own, others_have P g old all))

-- the table that was used is found
pub used_there : (g : ℕ) (old new : List CachedTable) (used : UsesTable g old new) → table_of g new ≡ Some used.bytes
used_there g old new used =
    ap (λ (cs : List CachedTable). table_of g cs) used.first ∙ (elim (eqb_tells g g) [ inl t ↦ rw t.0 refl | inr t ↦ absurd (t.1 refl) ])

-- the table that was used has the entries of the file's
pub used_is : (v : TableView) (file : List ℕ) (g : ℕ) (new : List CachedTable) (used : UsesTable g v.cached new) → AreOf v file → g < v.layout.groups → IsPlace (slice_index v.words g)
    → (IsNone (table_of g v.cached) → unwrap_or (table_of g new) [] ≡ bytes_at file (slice_index v.words g) 2048)
    → (t : ℕ) → t / 256 ≡ g → entry_of v.layout.order (bytes_at used.bytes (8 * (t % 256)) 8) ≡ entry_in_table v.layout file (slice_index v.words g) t
used_is v file g new used of low place read t own = by (table_of g v.cached) refl where
  by : (o : Option (List ℕ)) → table_of g v.cached ≡ o → entry_of v.layout.order (bytes_at used.bytes (8 * (t % 256)) 8) ≡ entry_in_table v.layout file (slice_index v.words g) t
  by None is =
      let got = read (subst (λ (o : Option (List ℕ)). IsNone o) (sym is) refl) in
      entry_read v.layout file used.bytes (slice_index v.words g) t
      (sym (ap (λ (o : Option (List ℕ)). unwrap_or o []) (used_there g v.cached new used)) ∙ got)
  by (Some bytes) is =
      let same = used.same (subst (λ (o : Option (List ℕ)). IsSome o) (sym is) refl) in
      let known = cached_has (IsCachedOf v.layout file) g used.bytes v.cached same of.cached in
      known.entries t own ∙ ap (λ w. entry_in_table v.layout file w t) (of.words g low)

-- the tables still are those of the file
pub used_of : (v : TableView) (file : List ℕ) (g : ℕ) (new : List CachedTable) (used : UsesTable g v.cached new) → AreOf v file → g < v.layout.groups → IsPlace (slice_index v.words g)
    → ((t : ℕ) → t / 256 ≡ g → entry_of v.layout.order (bytes_at used.bytes (8 * (t % 256)) 8) ≡ entry_in_table v.layout file (slice_index v.words g) t) → AreOf (with_cached v new) file
used_of v file g new used of low place is = record {
  area = of.area;
  words = of.words;
  tables = of.tables;
  cached = used_has (IsCachedOf v.layout file) g v.cached new used (record {
    group = low;
    named = subst IsPlace (sym (of.words g low)) place;
    entries = λ t own. is t own ∙ ap (λ w. entry_in_table v.layout file w t) (sym (of.words g low));
  }) of.cached;
}

-- a word that names a table gives the entry in it, and any other word gives one to its whole group
pub word_gives_table : (l : Layout) (file : List ℕ) (word t : ℕ) → IsPlace word → entry_by_word l file word t ≡ entry_in_table l file word t
word_gives_table l file word t place = elim (eqb_tells word 0) [
  | inl a ↦ absurd (place.0 a.1)
  | inr a ↦ elim (eqb_tells word see_parent) [ inl b ↦ absurd (place.1 b.1) | inr b ↦ rw (a.0, b.0) refl ]
]

pub word_is_place : (l : Layout) (word : ℕ) → None ≡ group_entry l word → IsPlace word
word_is_place l word none = elim (eqb_tells word 0) [
  | inl a ↦ absurd (let h = rw a.0 at none in cc)
  | inr a ↦ elim (eqb_tells word see_parent) [
    | inl b ↦ absurd (let h = rw (a.0, b.0) at none in cc)
    | inr b ↦ (a.1, b.1)
  ]
]

-- Of which groups the tables stay cached.
but_same : (g h : ℕ) (cs : List CachedTable) → h ≢ g → table_of h (tables_but g cs) ≡ table_of h cs
but_same g h [] ne = refl
but_same g h (c ∷ cs) ne = elim (eqb_tells c.group g) [
  | inl t ↦ (elim (eqb_tells c.group h) [ inl u ↦ absurd (ne (sym u.1 ∙ t.1)) | inr u ↦ rw (t.0, u.0) (but_same g h cs ne) ])
  | inr t ↦ (elim (eqb_tells c.group h) [ inl u ↦ rw (t.0, u.0) refl | inr u ↦ rw (t.0, u.0) (but_same g h cs ne) ])
]

front_cached : (n h : ℕ) (cs : List CachedTable) → IsCached h (take n cs) → IsCached h cs
front_cached zero h cs some = absurd (cc some)
front_cached (suc n) h [] some = absurd (cc some)
front_cached (suc n) h (c ∷ cs) some = elim (eqb_tells c.group h) [ inl t ↦ rw t.0 refl | inr t ↦ rw t.0 (front_cached n h cs (let s = rw t.0 at some in s)) ]

-- a list that is one longer loses one at most
one_leaves : (n h k : ℕ) (cs : List CachedTable) → length cs ≤ suc n → h ≢ k → IsCached h cs → IsCached k cs → IsCached h (take n cs) ⊎ IsCached k (take n cs)
one_leaves n h k [] few ne one other = absurd (cc one)
one_leaves zero h k (c ∷ []) few ne one other = elim (eqb_tells c.group h) [
  | inl t ↦ elim (eqb_tells c.group k) [ inl u ↦ absurd (ne (sym t.1 ∙ u.1)) | inr u ↦ absurd (let s = rw u.0 at other in cc s) ]
  | inr t ↦ absurd (let s = rw t.0 at one in cc s)
]
one_leaves zero h k (c ∷ d ∷ cs) few ne one other = absurd (omega arith)
one_leaves (suc n) h k (c ∷ cs) few ne one other = elim (eqb_tells c.group h) [
  | inl t ↦ inl (rw t.0 refl)
  | inr t ↦ elim (eqb_tells c.group k) [
    | inl u ↦ inr (rw u.0 refl)
    | inr u ↦ (elim (one_leaves n h k cs (omega arith) ne (let s = rw t.0 at one in s) (let s = rw u.0 at other in s)) [
      | inl a ↦ inl (rw t.0 a)
      | inr a ↦ inr (rw u.0 a)
    ])
  ]
]

-- behind a table of another group a group finds what it found
behind_other : (g h : ℕ) (bytes : List ℕ) (cs : List CachedTable) → h ≢ g → table_of h ((let c : CachedTable = record { group = g; bytes = bytes } in c) ∷ tables_but g cs) ≡ table_of h cs
behind_other g h bytes cs ne = elim (eqb_tells g h) [ inl t ↦ absurd (ne (sym t.1)) | inr t ↦ rw t.0 (but_same g h cs ne) ]

pub used_keeps : (g : ℕ) (old new : List CachedTable) → length old ≤ 64 → UsesTable g old new → KeepsCached g old new
used_keeps g old new few used =
    let first : CachedTable = record { group = g; bytes = used.bytes } in
    let all : List CachedTable = first ∷ tables_but g old in
    let count = but_fewer g old in
    let back : (h : ℕ) → IsCached h (take 64 all) → IsCached h new = λ h some. subst (λ (cs : List CachedTable). IsCached h cs) (sym used.first) some in
    let stands : (h : ℕ) → h ≢ g → IsCached h old → IsCached h all = λ h ne some. subst (λ (o : Option (List ℕ)). IsSome o) (sym (behind_other g h used.bytes old ne)) some in
    let there : IsCached g new = subst (λ (o : Option (List ℕ)). IsSome o) (sym (used_there g old new used)) refl in
    record {
      own = λ some. there;
      others = λ h ne some.
          (let at : IsCached h all = front_cached 64 h all (subst (λ (cs : List CachedTable). IsCached h cs) used.first some) in
          subst (λ (o : Option (List ℕ)). IsSome o) (behind_other g h used.bytes old ne) at);
      one = λ h k hg kg ne a b.
          (elim (one_leaves 64 h k all (omega arith) ne (stands h hg a) (stands k kg b)) [ inl x ↦ inl (back h x) | inr x ↦ inr (back k x) ]);
      none = λ room h some.
          (elim (eqb_tells h g) [
            | inl t ↦ subst (λ m. IsCached m new) (sym t.1) there
            | inr t ↦ back h (subst (λ (cs : List CachedTable). IsCached h cs) (sym (take_all 64 all (omega arith))) (stands h t.1 some))
          ]);
    }

pub same_keeps : (g : ℕ) (cs : List CachedTable) → KeepsCached g cs cs
same_keeps g cs = record { own = λ some. some; others = λ h ne some. some; one = λ h k hg kg ne a b. inl a; none = λ room h some. some }

-- What a look-up in a group with a table leaves. Here r is its answer.
module _ (v : TableView) (file : List ℕ) (t word : ℕ) (new : List CachedTable) (r : Result L2Entry Device) where
  pub entry_looked : AreOf v file → t / 256 < v.layout.groups → word ≡ slice_index v.words (t / 256) → IsPlace word → entry_for t v.stages.entries ≡ None
      → OnOk r (UsesTable (t / 256) v.cached new)
      → (IsNone (table_of (t / 256) v.cached) → OnOk r (unwrap_or (table_of (t / 256) new) [] ≡ bytes_at file word 2048))
      → IfOk r (λ e. e ≡ entry_of v.layout.order (bytes_at (unwrap_or (table_of (t / 256) new) []) (8 * (t % 256)) 8))
      → IfOk r (λ e. e ≡ new_entry v.layout v.stages file t)
  entry_looked of low is place none used read got = by r used read got where
    by : (o : Result L2Entry Device) → OnOk o (UsesTable (t / 256) v.cached new)
        → (IsNone (table_of (t / 256) v.cached) → OnOk o (unwrap_or (table_of (t / 256) new) [] ≡ bytes_at file word 2048))
        → IfOk o (λ e. e ≡ entry_of v.layout.order (bytes_at (unwrap_or (table_of (t / 256) new) []) (8 * (t % 256)) 8))
        → IfOk o (λ e. e ≡ new_entry v.layout v.stages file t)
    by (Err fault) used read got = tt
    by (Ok e) used read got =
        let there : IsPlace (slice_index v.words (t / 256)) = subst IsPlace is place in
        let mine = used_is v file (t / 256) new used of low there (λ absent. read absent ∙ ap (λ w. bytes_at file w 2048) is) t refl in
        let named : IsPlace (word_at v.layout file (t / 256)) = subst IsPlace (sym (of.words (t / 256) low)) there in
        got ∙ ap (λ (o : Option (List ℕ)). entry_of v.layout.order (bytes_at (unwrap_or o []) (8 * (t % 256)) 8)) (used_there (t / 256) v.cached new used) ∙ mine
        ∙ ap (λ w. entry_in_table v.layout file w t) (sym (of.words (t / 256) low))
        ∙ sym (word_gives_table v.layout file (word_at v.layout file (t / 256)) t named)
        ∙ ap (λ (o : Option L2Entry). unwrap_or o (entry_at v.layout file t)) (sym none)

  pub of_looked : AreOf v file → t / 256 < v.layout.groups → word ≡ slice_index v.words (t / 256) → IsPlace word
      → OnOk r (UsesTable (t / 256) v.cached new) → OnErr r (new ≡ v.cached)
      → (IsNone (table_of (t / 256) v.cached) → OnOk r (unwrap_or (table_of (t / 256) new) [] ≡ bytes_at file word 2048))
      → AreOf (with_cached v new) file
  of_looked of low is place used same read = by r used same read where
    by : (o : Result L2Entry Device) → OnOk o (UsesTable (t / 256) v.cached new) → OnErr o (new ≡ v.cached)
        → (IsNone (table_of (t / 256) v.cached) → OnOk o (unwrap_or (table_of (t / 256) new) [] ≡ bytes_at file word 2048))
        → AreOf (with_cached v new) file
    by (Err fault) used same read = subst (λ (cs : List CachedTable). AreOf (with_cached v cs) file) (sym same) of
    by (Ok e) used same read =
        let there : IsPlace (slice_index v.words (t / 256)) = subst IsPlace is place in
        let bytes = used_is v file (t / 256) new used of low there (λ absent. read absent ∙ ap (λ w. bytes_at file w 2048) is) in
        used_of v file (t / 256) new used of low there bytes

  pub keeps_looked : length v.cached ≤ 64 → OnOk r (UsesTable (t / 256) v.cached new) → OnErr r (new ≡ v.cached) → KeepsCached (t / 256) v.cached new
  keeps_looked few used same = by r used same where
    by : (o : Result L2Entry Device) → OnOk o (UsesTable (t / 256) v.cached new) → OnErr o (new ≡ v.cached) → KeepsCached (t / 256) v.cached new
    by (Err fault) used same = subst (λ (cs : List CachedTable). KeepsCached (t / 256) v.cached cs) (sym same) (same_keeps (t / 256) v.cached)
    by (Ok e) used same = used_keeps (t / 256) v.cached new few used

-- what holds at Ok where something is told holds, where it is told, at Ok
pub ok_where : {A E : Type 0} (r : Result A E) (T S P : Type 0) → OnOk r (T → S → P) → T → S → OnOk r P
ok_where (Ok x) T S P h told sure = h told sure
ok_where (Err e) T S P h told sure = tt

pub if_ok_where : {A E : Type 0} (r : Result A E) (T S : Type 0) (P : A → Type 0) → (T → S → IfOk r P) → IfOk r (λ x. T → S → P x)
if_ok_where (Ok x) T S P h = h
if_ok_where (Err e) T S P h = tt

pub on_err : {A E : Type 0} (r : Result A E) (P Q : Type 0) → (P → Q) → OnErr r P → OnErr r Q
on_err (Ok x) P Q f h = tt
on_err (Err e) P Q f h = f h

pub on_ok_where : {A E : Type 0} (r : Result A E) (T S P Q : Type 0) → (T → S → P → Q) → OnOk r (T → S → P) → OnOk r (T → S → Q)
on_ok_where (Ok x) T S P Q f h = λ told sure. f told sure (h told sure)
on_ok_where (Err e) T S P Q f h = tt
