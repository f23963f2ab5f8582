-- What staged words and entries make of words and cached tables.
use Rattle.std.proofs.Common.{◌≡◌, ◌≢◌, ◌⊎◌, inl, inr, ℕ, ◌+◌, ◌*◌, ◌/◌, ◌%◌, ◌<◌, true, false, List, [], ◌∷◌, ◌++◌, length, take, get_or, Some, None, refl, sym, ◌∙◌, ap, subst, arith}
use Rattle.std.specs.List.{AllByRecursion, IsDistinct}
use Rattle.std.specs.List.Sorted.{IsStrictlyIncreasing}
use Rattle.std.specs.Bool.{nat_eq}
use Rattle.std.proofs.lemmas.Bool.Decides.{eqb_tells}
use Rattle.std.proofs.lemmas.List.{take_all, drop_all}
use Rattle.cckd_base.specs.declared.order.Order.{Order}
use Rattle.cckd_frames.specs.Frames.{Entry, Kept, entry_of, frame_of, frames, keys, refilled, with_entries, with_writes}
use Rattle.cckd_frames.proofs.CallerLemmas.{kept_written}
use Rattle.cckd_tables.specs.declared.staged.StagedEntry.{StagedEntry}
use Rattle.cckd_tables.specs.Tables.{CachedTable}
use Rattle.cckd_tables.specs.Cached.{IsCache, tables_in}
use Rattle.cckd_tables.specs.Commit.{staged_tracks}
use Rattle.cckd_base.specs.Put.{IsPut}
use Rattle.cckd_base.specs.Entry.{entry_bytes}
use Rattle.cckd_tables.specs.Cells.{ArePutOver}
use Rattle.cckd_tables.specs.Settling.{PutsEntry, AreAllPutOver}
use Rattle.cckd_tables.proofs.CacheLemmas.{entry_among_all, entry_of_frame, no_entry}
use Rattle.cckd_tables.proofs.TableLemmas.{put_over_more, put_over_skip}

-- as many other bytes come in the place of all
append_none : (xs : List ℕ) → xs ++ [] ≡ xs
append_none [] = refl
append_none (x ∷ xs) = ap (λ (l : List ℕ). x ∷ l) (append_none xs)

refilled_whole : (old new : List ℕ) → length new ≡ length old → refilled old new ≡ new
refilled_whole old new same =
    ap (λ (l : List ℕ). take (length old) (new ++ l)) (drop_all (length new) old (omega arith))
    ∙ ap (take (length old)) (append_none new)
    ∙ take_all (length old) new (omega arith)

-- an entry is that of a frame and a key, and has these bytes, or is of another frame and another key
abbrev IsOneOf : ℕ → ℕ → List ℕ → Entry → Type 0
IsOneOf f g body e = ((e.frame ≡ f) × (e.key ≡ g) × (e.body ≡ body)) ⊎ ((e.frame ≢ f) × (e.key ≢ g))

differ : (a b : ℕ) → nat_eq a b ≡ false → b ≢ a
differ a b apart same = elim (eqb_tells a b) [ inl t ↦ (let h : true ≡ false = sym t.0 ∙ apart in cc) | inr t ↦ t.1 (sym same) ]

all_others : (f g : ℕ) (body : List ℕ) (es : List Entry) → AllByRecursion (λ k. nat_eq f k ≡ false) (frames es) → AllByRecursion (λ k. nat_eq g k ≡ false) (keys es) → AllByRecursion (IsOneOf f g body) es
all_others f g body [] a b = tt
all_others f g body (e ∷ es) a b = (inr (differ f e.frame a.0, differ g e.key b.0), all_others f g body es a.1 b.1)

-- where keys and frames are distinct, each entry is the one of this key, or of another frame and key
all_one : (g : ℕ) (es : List Entry) (e : Entry) → IsDistinct nat_eq (frames es) → IsDistinct nat_eq (keys es) → entry_of g es ≡ Some e → AllByRecursion (IsOneOf e.frame g e.body) es
unfolding IsDistinct
all_one g [] e apart own some = absurd cc
all_one g (x ∷ xs) e apart own some = elim (eqb_tells x.key g) [
  | inl t ↦ (
      let is : Some x ≡ Some e = (let s = rw t.0 at some in s) in
      let same : x ≡ e = cc in
      let others : AllByRecursion (IsOneOf x.frame x.key x.body) xs = all_others x.frame x.key x.body xs apart.0 own.0 in
      let mine : AllByRecursion (IsOneOf x.frame g x.body) xs = subst (λ k. AllByRecursion (IsOneOf x.frame k x.body) xs) t.1 others in
      let all : AllByRecursion (IsOneOf x.frame g x.body) (x ∷ xs) = (inl (refl, t.1, refl), mine) in
      subst (λ (y : Entry). AllByRecursion (IsOneOf y.frame g y.body) (x ∷ xs)) same all)
  | inr t ↦ (
      let rest = let s = rw t.0 at some in s in
      let other = differ x.frame e.frame (entry_among_all (λ (y : Entry). y.frame) (λ f. nat_eq x.frame f ≡ false) g xs e rest apart.0) in
      (inr ((λ is. other (sym is)), t.1), all_one g xs e apart.1 own.1 rest))
]

all_without : (g : ℕ) (es : List Entry) → entry_of g es ≡ None → AllByRecursion (λ e. e.key ≢ g) es
all_without g [] none = tt
all_without g (e ∷ es) none = elim (eqb_tells e.key g) [
  | inl t ↦ absurd (let h = rw t.0 at none in cc)
  | inr t ↦ (t.1, all_without g es (let h = rw t.0 at none in h))
]

-- nothing is put over yet
pub all_put_first : (order : Order) (cs : List CachedTable) → AreAllPutOver order [] cs cs
all_put_first order [] = tt
all_put_first order (c ∷ cs) = (refl, refl, (λ t own. refl), all_put_first order cs)

module _ (order : Order) (entries : List StagedEntry) (i : ℕ) (d : StagedEntry) (rising : IsStrictlyIncreasing (staged_tracks entries)) (low : i < length entries) where
  -- one more, into the table of its group
  pub all_put_more : (f g : ℕ) (body new : List ℕ) (cs : List CachedTable) (es : List Entry) → AllByRecursion (IsOneOf f g body) es → AllByRecursion (λ e. length e.body ≡ 2048) es
      → (get_or entries i d).track / 256 ≡ g → PutsEntry order (get_or entries i d) body new → length new ≡ 2048
      → AreAllPutOver order (take i entries) cs (tables_in es) → AreAllPutOver order (take (i + 1) entries) cs (tables_in (with_writes f new es))
  all_put_more f g body new [] [] one whole own puts long so = tt
  all_put_more f g body new [] (e ∷ es) one whole own puts long so = absurd so
  all_put_more f g body new (c ∷ cs) [] one whole own puts long so = absurd so
  all_put_more f g body new (c ∷ cs) (e ∷ es) one whole own puts long so =
      let rest = all_put_more f g body new cs es one.1 whole.1 own puts long so.3 in
      elim one.0 [
        | inl is ↦ (
            let bytes : refilled e.body new ≡ new = refilled_whole e.body new (long ∙ sym whole.0) in
            let mine : (get_or entries i d).track / 256 ≡ c.group = own ∙ sym is.1 ∙ so.0 in
            let put = put_over_more order c.group entries i d c.bytes e.body rising low (record { bytes = so.1; entries_are = so.2 }) puts.end new whole.0 mine puts.encoded
            (subst (λ (b : List ℕ). IsPut (8 * ((get_or entries i d).track % 256)) puts.end (entry_bytes order (get_or entries i d).entry) b new) (sym is.2) puts.put) in
            elim (eqb_tells e.frame f) [
              | inl u ↦ rw u.0 (so.0, bytes ∙ put.bytes, subst (λ (b : List ℕ). ArePutOver order c.group (take (i + 1) entries) c.bytes b) (sym bytes) put.entries_are, rest)
              | inr u ↦ absurd (u.1 is.0)
            ])
        | inr is ↦ (
            let skip = put_over_skip order c.group entries i d c.bytes e.body rising low (record { bytes = so.1; entries_are = so.2 }) (λ same. is.1 (so.0 ∙ sym same ∙ own)) in
            elim (eqb_tells e.frame f) [
              | inl u ↦ absurd (is.0 u.1)
              | inr u ↦ rw u.0 (so.0, skip.bytes, skip.entries_are, rest)
            ])
      ]

  -- one more, whose group has no cached table
  pub all_put_on : (g : ℕ) (cs : List CachedTable) (es : List Entry) → AllByRecursion (λ e. e.key ≢ g) es → (get_or entries i d).track / 256 ≡ g
      → AreAllPutOver order (take i entries) cs (tables_in es) → AreAllPutOver order (take (i + 1) entries) cs (tables_in es)
  all_put_on g [] [] none own so = tt
  all_put_on g [] (e ∷ es) none own so = absurd so
  all_put_on g (c ∷ cs) [] none own so = absurd so
  all_put_on g (c ∷ cs) (e ∷ es) none own so =
      let skip = put_over_skip order c.group entries i d c.bytes e.body rising low (record { bytes = so.1; entries_are = so.2 }) (λ same. none.0 (so.0 ∙ sym same ∙ own)) in
      (so.0, skip.bytes, skip.entries_are, all_put_on g cs es none.1 own so.3)

whole_written : (f : ℕ) (new : List ℕ) (es : List Entry) → length new ≡ 2048 → AllByRecursion (λ e. length e.body ≡ 2048) es → AllByRecursion (λ e. length e.body ≡ 2048) (with_writes f new es)
whole_written f new [] long whole = tt
whole_written f new (e ∷ es) long whole =
    let rest = whole_written f new es long whole.1 in
    elim (eqb_tells e.frame f) [
      | inl u ↦ rw u.0 (ap (λ (l : List ℕ). length l) (refilled_whole e.body new (long ∙ sym whole.0)) ∙ long, rest)
      | inr u ↦ rw u.0 (whole.0, rest)
    ]

pub cache_written : (k : Kept) (f : ℕ) (new : List ℕ) → IsCache k → length new ≡ 2048 → IsCache (with_entries k (with_writes f new k.entries))
cache_written k f new cache long = record {
  count = cache.count;
  frame_len = cache.frame_len;
  kept = kept_written f new k cache.kept;
  whole = whole_written f new k.entries long cache.whole;
}

-- into a cache
pub put_in_frame : (order : Order) (entries : List StagedEntry) (i : ℕ) (d s : StagedEntry) (first : List CachedTable) (k : Kept) (f g : ℕ) (body new : List ℕ) → IsCache k → Some f ≡ frame_of g k.entries
    → ((e : Entry) → entry_of g k.entries ≡ Some e → e.frame ≡ f → body ≡ e.body) → length new ≡ 2048 → s.track / 256 ≡ g → PutsEntry order s body new
    → IsStrictlyIncreasing (staged_tracks entries) → i < length entries → get_or entries i d ≡ s
    → AreAllPutOver order (take i entries) first (tables_in k.entries) → AreAllPutOver order (take (i + 1) entries) first (tables_in (with_writes f new k.entries))
put_in_frame order entries i d s first k f g body new cache found bodied long own puts rising low is so =
    let p = entry_of_frame f g k.entries found in
    let all = all_one g k.entries p.0 cache.kept.one_frame_each cache.kept.one_key_each p.1 in
    let here : AllByRecursion (IsOneOf f g body) k.entries
    = subst (λ (b : List ℕ). AllByRecursion (IsOneOf f g b) k.entries) (sym (bodied p.0 p.1 p.2)) (subst (λ n. AllByRecursion (IsOneOf n g p.0.body) k.entries) p.2 all) in
    let mine : (get_or entries i d).track / 256 ≡ g = ap (λ (e : StagedEntry). e.track / 256) is ∙ own in
    all_put_more order entries i d rising low f g body new first k.entries here cache.whole mine (subst (λ (e : StagedEntry). PutsEntry order e body new) (sym is) puts) long so

pub put_in_none : (order : Order) (entries : List StagedEntry) (i : ℕ) (d s : StagedEntry) (first : List CachedTable) (k : Kept) (g : ℕ) → None ≡ frame_of g k.entries → s.track / 256 ≡ g
    → IsStrictlyIncreasing (staged_tracks entries) → i < length entries → get_or entries i d ≡ s
    → AreAllPutOver order (take i entries) first (tables_in k.entries) → AreAllPutOver order (take (i + 1) entries) first (tables_in k.entries)
put_in_none order entries i d s first k g none own rising low is so =
    all_put_on order entries i d rising low g first k.entries (all_without g k.entries (no_entry g k.entries none)) (ap (λ (e : StagedEntry). e.track / 256) is ∙ own) so
