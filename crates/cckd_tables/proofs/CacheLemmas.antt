-- The cached tables as entries of a list by recency.
use Rattle.std.proofs.Common.{◌≡◌, inl, inr, ℕ, zero, suc, ◌-◌, ◌≤◌, true, false, List, [], ◌∷◌, length, map, take, Option, Some, None, IsSome, IfSome, refl, sym, ◌∙◌, ap, subst, arith}
use Rattle.std.specs.List.{AllByRecursion, IsDistinct}
use Rattle.std.specs.Bool.{nat_eq}
use Rattle.std.specs.Option.{option_map, is_some}
use Rattle.std.proofs.lemmas.List.{take_all, take-map}
use Rattle.std.proofs.lemmas.Bool.Decides.{eqb_tells}
use Rattle.cckd_frames.specs.Frames.{Entry, Kept, IsKept, frames, entry_of, entry_in, frame_of, without, IsUsed, promoted, holding, with_entries}
use Rattle.cckd_frames.proofs.CallerLemmas.{key_of_entry}
use Rattle.cckd_tables.specs.Tables.{CachedTable}
use Rattle.cckd_tables.specs.Cached.{table_of, IsCached, tables_but, UsesTable, tables_in, IsCache}

-- an entry as a table
abbrev pub table_in : Entry → CachedTable
table_in e = record { group = e.key; bytes = e.body }

pub table_of_entries : (g : ℕ) (es : List Entry) → table_of g (tables_in es) ≡ option_map (λ e. e.body) (entry_of g es)
table_of_entries g [] = refl
table_of_entries g (e ∷ es) = elim (eqb_tells e.key g) [ inl t ↦ rw t.0 refl | inr t ↦ rw t.0 (table_of_entries g es) ]

pub but_entries : (g : ℕ) (es : List Entry) → tables_but g (tables_in es) ≡ tables_in (without g es)
but_entries g [] = refl
but_entries g (e ∷ es) = elim (eqb_tells e.key g) [
  | inl t ↦ rw t.0 (but_entries g es)
  | inr t ↦ rw t.0 (ap (λ (l : List CachedTable). table_in e ∷ l) (but_entries g es))
]

-- where a group has no table, no other is left out
pub but_none : (g : ℕ) (cs : List CachedTable) → table_of g cs ≡ None → tables_but g cs ≡ cs
but_none g [] none = refl
but_none g (c ∷ cs) none = elim (eqb_tells c.group g) [
  | inl t ↦ absurd (let e = rw t.0 at none in cc)
  | inr t ↦ rw t.0 (ap (λ (l : List CachedTable). c ∷ l) (but_none g cs (let e = rw t.0 at none in e)))
]

-- where it has one, fewer are
pub but_fewer : (g : ℕ) (cs : List CachedTable) → length (tables_but g cs) ≤ length cs
but_fewer g [] = omega arith
but_fewer g (c ∷ cs) = let rest = but_fewer g cs in elim (eqb_tells c.group g) [ inl t ↦ rw t.0 (omega arith) | inr t ↦ rw t.0 (omega arith) ]

pub but_one : (g : ℕ) (cs : List CachedTable) (bytes : List ℕ) → table_of g cs ≡ Some bytes → suc (length (tables_but g cs)) ≤ length cs
but_one g [] bytes some = absurd cc
but_one g (c ∷ cs) bytes some = elim (eqb_tells c.group g) [
  | inl t ↦ rw t.0 (let rest = but_fewer g cs in omega arith)
  | inr t ↦ rw t.0 (let rest = but_one g cs bytes (let e = rw t.0 at some in e) in omega arith)
]

-- the entry of a frame that a key has
pub entry_of_frame : (f g : ℕ) (es : List Entry) → Some f ≡ frame_of g es → (e : Entry) × (entry_of g es ≡ Some e) × (e.frame ≡ f)
entry_of_frame f g es is = by (entry_of g es) refl where
  by : (o : Option Entry) → entry_of g es ≡ o → (e : Entry) × (entry_of g es ≡ Some e) × (e.frame ≡ f)
  by None e = absurd (let h : Some f ≡ None = is ∙ ap (λ (o : Option Entry). option_map (λ (x : Entry). x.frame) o) e in cc)
  by (Some x) e = (x, e, (let h : Some f ≡ Some x.frame = is ∙ ap (λ (o : Option Entry). option_map (λ (y : Entry). y.frame) o) e in cc))

pub no_entry : (g : ℕ) (es : List Entry) → None ≡ frame_of g es → entry_of g es ≡ None
no_entry g es is = by (entry_of g es) refl where
  by : (o : Option Entry) → entry_of g es ≡ o → entry_of g es ≡ None
  by None e = e
  by (Some x) e = absurd (let h : None ≡ Some x.frame = is ∙ ap (λ (o : Option Entry). option_map (λ (y : Entry). y.frame) o) e in cc)

-- nothing comes first where there is no such entry
pub promoted_none : (g : ℕ) (es : List Entry) → entry_of g es ≡ None → promoted g es ≡ es
promoted_none g es none = rw (none, promoted) refl

pub promoted_some : (g : ℕ) (es : List Entry) (e : Entry) → entry_of g es ≡ Some e → promoted g es ≡ e ∷ without g es
promoted_some g es e some = rw (some, promoted) refl

-- a table that is found comes first
pub found_used : (g : ℕ) (es : List Entry) (e : Entry) → length es ≤ 64 → entry_of g es ≡ Some e → UsesTable g (tables_in es) (tables_in (promoted g es))
found_used g es e few some =
    let mine = key_of_entry g es e some in
    let here : table_of g (tables_in es) ≡ Some e.body = table_of_entries g es ∙ ap (λ (o : Option Entry). option_map (λ (x : Entry). x.body) o) some in
    let count = but_one g (tables_in es) e.body here in
    let first : CachedTable = record { group = g; bytes = e.body } in
    let same_count : length (tables_in es) ≡ length es = length_tables es in
    let whole : take 64 (first ∷ tables_but g (tables_in es)) ≡ first ∷ tables_but g (tables_in es) = take_all 64 (first ∷ tables_but g (tables_in es)) (omega arith) in
    record {
      bytes = e.body;
      first =
          ap tables_in (promoted_some g es e some)
          ∙ ap (λ k. (let c : CachedTable = record { group = k; bytes = e.body } in c) ∷ tables_in (without g es)) mine
          ∙ ap (λ (l : List CachedTable). first ∷ l) (sym (but_entries g es))
          ∙ sym whole;
      same = λ cached. here;
    }
  where
    length_tables : (xs : List Entry) → length (tables_in xs) ≡ length xs
    length_tables [] = refl
    length_tables (x ∷ xs) = ap (λ n. suc n) (length_tables xs)

-- a table that is put in comes first
pub put_used : (f g : ℕ) (bytes : List ℕ) (es : List Entry) → entry_of g es ≡ None → UsesTable g (tables_in es) (tables_in (holding f g bytes ∷ take 63 es))
put_used f g bytes es none =
    let absent : table_of g (tables_in es) ≡ None = table_of_entries g es ∙ ap (λ (o : Option Entry). option_map (λ (x : Entry). x.body) o) none in
    let first : CachedTable = record { group = g; bytes = bytes } in
    record {
      bytes = bytes;
      first = ap (λ (l : List CachedTable). first ∷ l) (sym (take-map table_in 63 es) ∙ ap (λ (l : List CachedTable). take 63 l) (sym (but_none g (tables_in es) absent)));
      same = λ cached. absurd (let h = subst (λ (o : Option (List ℕ)). IsSome o) absent cached in cc);
    }

entry_has : (P : Entry → Type 0) (g : ℕ) (es : List Entry) (e : Entry) → entry_of g es ≡ Some e → AllByRecursion P es → P e
entry_has P g [] e some all = absurd cc
entry_has P g (x ∷ xs) e some all = elim (eqb_tells x.key g) [
  | inl t ↦ (let h : Some x ≡ Some e = (let s = rw t.0 at some in s) in let same : x ≡ e = cc in subst P same all.0)
  | inr t ↦ entry_has P g xs e (let s = rw t.0 at some in s) all.1
]

others_have : (P : Entry → Type 0) (g : ℕ) (es : List Entry) → AllByRecursion P es → AllByRecursion P (without g es)
others_have P g [] all = tt
others_have P g (x ∷ xs) all = elim (eqb_tells x.key g) [ inl t ↦ rw t.0 (others_have P g xs all.1) | inr t ↦ rw t.0 (all.0, others_have P g xs all.1) ]

front_has : (P : Entry → Type 0) (n : ℕ) (es : List Entry) → AllByRecursion P es → AllByRecursion P (take n es)
front_has P zero es all = tt
front_has P (suc n) [] all = tt
front_has P (suc n) (x ∷ xs) all = (all.0, front_has P n xs all.1)

-- it stays a cache
pub found_cache : (k : Kept) (g : ℕ) (e : Entry) → IsCache k → entry_of g k.entries ≡ Some e → IsKept (with_entries k (promoted g k.entries)) → IsCache (with_entries k (promoted g k.entries))
found_cache k g e cache some kept = record {
  count = cache.count;
  frame_len = cache.frame_len;
  kept = kept;
  whole = subst (λ (es : List Entry). AllByRecursion (λ x. length x.body ≡ 2048) es) (sym (promoted_some g k.entries e some))
      (entry_has (λ x. length x.body ≡ 2048) g k.entries e some cache.whole, others_have (λ x. length x.body ≡ 2048) g k.entries cache.whole);
}

pub put_cache : (k : Kept) (f g : ℕ) (bytes : List ℕ) → IsCache k → length bytes ≡ 2048 → IsKept (with_entries k (holding f g bytes ∷ take 63 k.entries)) → IsCache (with_entries k (holding f g bytes ∷ take 63 k.entries))
put_cache k f g bytes cache long kept = record {
  count = cache.count;
  frame_len = cache.frame_len;
  kept = kept;
  whole = (long, front_has (λ x. length x.body ≡ 2048) 63 k.entries cache.whole);
}

-- the first entry is found by its frame and by its key
pub first_by_frame : (f : ℕ) (e : Entry) (es : List Entry) → e.frame ≡ f → entry_in f (e ∷ es) ≡ Some e
first_by_frame f e es is = elim (eqb_tells e.frame f) [ inl t ↦ rw t.0 refl | inr t ↦ absurd (t.1 is) ]

pub first_by_key : (g : ℕ) (e : Entry) (es : List Entry) → e.key ≡ g → table_of g (tables_in (e ∷ es)) ≡ Some e.body
first_by_key g e es is = elim (eqb_tells e.key g) [ inl t ↦ rw t.0 refl | inr t ↦ absurd (t.1 is) ]

-- what is known once a table was found or put into the cache
pub record TableFirst (k new : Kept) (g f : ℕ) : Type 0 where
  pub cache : IsCache new
  pub table : option_map (λ e. e.body) (entry_in f new.entries) ≡ table_of g (tables_in new.entries)
  pub used : UsesTable g (tables_in k.entries) (tables_in new.entries)

pub is_found : (k new : Kept) (g f : ℕ) → IsCache k → new ≡ with_entries k (promoted g k.entries) → IsKept new → Some f ≡ frame_of g k.entries → TableFirst k new g f
is_found k new g f cache is kept found =
    let p = entry_of_frame f g k.entries found in
    let es : new.entries ≡ p.0 ∷ without g k.entries = ap (λ (n : Kept). n.entries) is ∙ promoted_some g k.entries p.0 p.1 in
    let few : length k.entries ≤ 64 = (let b = cache.kept.bounded in let n = cache.count in omega arith) in
    record {
      cache = subst IsCache (sym is) (found_cache k g p.0 cache p.1 (subst IsKept is kept));
      table = subst (λ (l : List Entry). option_map (λ (e : Entry). e.body) (entry_in f l) ≡ table_of g (tables_in l)) (sym es)
          (ap (λ (o : Option Entry). option_map (λ (e : Entry). e.body) o) (first_by_frame f p.0 (without g k.entries) p.2)
          ∙ sym (first_by_key g p.0 (without g k.entries) (key_of_entry g k.entries p.0 p.1)));
      used = subst (λ (n : Kept). UsesTable g (tables_in k.entries) (tables_in n.entries)) (sym is) (found_used g k.entries p.0 few p.1);
    }

pub is_cached : (k : Kept) (g f : ℕ) → Some f ≡ frame_of g k.entries → IsCached g (tables_in k.entries)
is_cached k g f found =
    let p = entry_of_frame f g k.entries found in
    subst (λ (o : Option (List ℕ)). IsSome o)
    (sym (table_of_entries g k.entries ∙ ap (λ (o : Option Entry). option_map (λ (e : Entry). e.body) o) p.1)) refl

pub is_absent : (k : Kept) (g : ℕ) → None ≡ frame_of g k.entries → table_of g (tables_in k.entries) ≡ None
is_absent k g none = table_of_entries g k.entries ∙ ap (λ (o : Option Entry). option_map (λ (e : Entry). e.body) o) (no_entry g k.entries none)

pub still_there : (k mid : Kept) (g : ℕ) → None ≡ frame_of g k.entries → mid ≡ with_entries k (promoted g k.entries) → mid ≡ k
still_there k mid g none is = is ∙ ap (λ (es : List Entry). with_entries k es) (promoted_none g k.entries (no_entry g k.entries none))

pub is_put : (k mid new : Kept) (g f : ℕ) (bytes : List ℕ) → IsCache k → None ≡ frame_of g k.entries → mid ≡ with_entries k (promoted g k.entries) → length bytes ≡ 2048
    → new ≡ with_entries mid (holding f g bytes ∷ take (mid.count - 1) mid.entries) → IsKept new → TableFirst k new g f × (table_of g (tables_in new.entries) ≡ Some bytes)
is_put k mid new g f bytes cache none is long put kept =
    let same = still_there k mid g none is in
    let now : new ≡ with_entries k (holding f g bytes ∷ take 63 k.entries)
    = put ∙ ap (λ (n : Kept). with_entries n (holding f g bytes ∷ take (n.count - 1) n.entries)) same
    ∙ ap (λ n. with_entries k (holding f g bytes ∷ take (n - 1) k.entries)) cache.count in
    let es : new.entries ≡ holding f g bytes ∷ take 63 k.entries = ap (λ (n : Kept). n.entries) now in
    let here : table_of g (tables_in new.entries) ≡ Some bytes
    = ap (λ (l : List Entry). table_of g (tables_in l)) es ∙ first_by_key g (holding f g bytes) (take 63 k.entries) refl in (
      record {
        cache = subst IsCache (sym now) (put_cache k f g bytes cache long (subst IsKept now kept));
        table = ap (λ (l : List Entry). option_map (λ (e : Entry). e.body) (entry_in f l)) es
            ∙ ap (λ (o : Option Entry). option_map (λ (e : Entry). e.body) o) (first_by_frame f (holding f g bytes) (take 63 k.entries) refl)
            ∙ sym here;
        used = subst (λ (l : List Entry). UsesTable g (tables_in k.entries) (tables_in l)) (sym es) (put_used f g bytes k.entries (no_entry g k.entries none));
      },
      here,
    )

-- what a look for the key of a group tells
pub cached_tells : {F : Type 0} (number : F → ℕ) (r : Option F) (k : Kept) (g : ℕ) → option_map number r ≡ frame_of g k.entries
    → (is_some r ≡ true → IsCached g (tables_in k.entries)) × (IsCached g (tables_in k.entries) → is_some r ≡ true)
cached_tells number None k g found = ((λ (e : false ≡ true). absurd cc), λ some. absurd (let h = subst (λ (o : Option (List ℕ)). IsSome o) (is_absent k g found) some in cc))
cached_tells number (Some f) k g found = ((λ e. is_cached k g (number f) found), λ some. refl)

-- the bytes of a frame in use are a whole table
pub frame_whole : (f : ℕ) (es : List Entry) (bytes : List ℕ) → IfSome (entry_in f es) (λ e. bytes ≡ e.body) → IsUsed f es → AllByRecursion (λ e. length e.body ≡ 2048) es → length bytes ≡ 2048
frame_whole f [] bytes is used all = absurd (cc used)
frame_whole f (e ∷ es) bytes is used all = elim (eqb_tells e.frame f) [
  | inl t ↦ (let h = rw t.0 at is in ap (λ (l : List ℕ). length l) h ∙ all.0)
  | inr t ↦ frame_whole f es bytes (let h = rw t.0 at is in h) (let h = rw t.0 at used in h) all.1
]

-- the entry of a key has a value in each list of what its entries have
pub entry_among_all : {X : Type 0} (h : Entry → X) (P : X → Type 0) (g : ℕ) (es : List Entry) (e : Entry) → entry_of g es ≡ Some e → AllByRecursion P (map h es) → P (h e)
entry_among_all h P g [] e some all = absurd cc
entry_among_all h P g (x ∷ xs) e some all = elim (eqb_tells x.key g) [
  | inl t ↦ (let is : Some x ≡ Some e = (let s = rw t.0 at some in s) in let same : x ≡ e = cc in subst (λ (u : Entry). P (h u)) same all.0)
  | inr t ↦ entry_among_all h P g xs e (let s = rw t.0 at some in s) all.1
]

-- where frames are distinct, the entry of a key is found by its frame
found_frame : (g : ℕ) (es : List Entry) (e : Entry) → IsDistinct nat_eq (frames es) → entry_of g es ≡ Some e → entry_in e.frame es ≡ Some e
unfolding IsDistinct
found_frame g [] e distinct some = absurd cc
found_frame g (x ∷ xs) e distinct some = elim (eqb_tells x.key g) [
  | inl t ↦ (
      let is : Some x ≡ Some e = (let s = rw t.0 at some in s) in
      let same : x ≡ e = cc in
      elim (eqb_tells x.frame e.frame) [ inl u ↦ rw u.0 is | inr u ↦ absurd (u.1 (ap (λ (y : Entry). y.frame) same)) ])
  | inr t ↦ (
      let rest = let s = rw t.0 at some in s in
      let apart = entry_among_all (λ (y : Entry). y.frame) (λ f. nat_eq x.frame f ≡ false) g xs e rest distinct.0 in
      elim (eqb_tells x.frame e.frame) [
        | inl u ↦ absurd (let b : true ≡ false = sym u.0 ∙ apart in cc)
        | inr u ↦ rw u.0 (found_frame g xs e distinct.1 rest)
      ])
]

-- the bytes in the frame of a key are the table of its group
pub table_peeked : (k : Kept) (g f : ℕ) (bytes : List ℕ) → IsCache k → Some f ≡ frame_of g k.entries → IfSome (entry_in f k.entries) (λ e. bytes ≡ e.body)
    → table_of g (tables_in k.entries) ≡ Some bytes
table_peeked k g f bytes cache found is =
    let p = entry_of_frame f g k.entries found in
    let there : entry_in f k.entries ≡ Some p.0 = ap (λ n. entry_in n k.entries) (sym p.2) ∙ found_frame g k.entries p.0 cache.kept.one_frame_each p.1 in
    let same : bytes ≡ p.0.body = (let h = subst (λ (o : Option Entry). IfSome o (λ (e : Entry). bytes ≡ e.body)) there is in h) in
    table_of_entries g k.entries ∙ ap (λ (o : Option Entry). option_map (λ (e : Entry). e.body) o) p.1 ∙ ap Some (sym same)

-- the bytes in a frame are those of the entry of its key
pub body_peeked : (k : Kept) (g f : ℕ) (bytes : List ℕ) → IsCache k → IfSome (entry_in f k.entries) (λ e. bytes ≡ e.body)
    → (e : Entry) → entry_of g k.entries ≡ Some e → e.frame ≡ f → bytes ≡ e.body
body_peeked k g f bytes cache is e some own =
    let there : entry_in f k.entries ≡ Some e = ap (λ n. entry_in n k.entries) (sym own) ∙ found_frame g k.entries e cache.kept.one_frame_each some in
    let h = subst (λ (o : Option Entry). IfSome o (λ (x : Entry). bytes ≡ x.body)) there is in h
