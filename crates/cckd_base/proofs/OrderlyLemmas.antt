-- Where each item can be, and no two spaces share a byte, the survey has no misfit.
use Rattle.std.proofs.Common.{◌≡◌, ◌⊎◌, ℕ, zero, suc, ◌+◌, ◌-◌, ◌*◌, ◌<◌, ◌≤◌, min, Bool, false, cond, List, [], ◌∷◌, ◌++◌, length, map, Some, None, Ok, Err, refl, sym, ◌∙◌, ap, subst, inl, inr, arith}
use Rattle.std.specs.List.{flat_map, range_with_len}
use Rattle.std.specs.Option.{option_map}
use Rattle.cckd_base.specs.declared.geometry.Layout.{Layout}
use Rattle.cckd_base.specs.declared.space.Extent.{Extent}
use Rattle.cckd_base.specs.declared.space.Owner.{Owner}
use Rattle.cckd_base.specs.declared.space.Owner.TheVariants.{Nobody, Header, Table, Track}
use Rattle.cckd_base.specs.declared.misfit.Misfit.TheVariants.{Overlap}
use Rattle.cckd_base.specs.Geometry.{track_count}
use Rattle.cckd_base.specs.Entry.{word_at, entry_in_table}
use Rattle.cckd_base.specs.Survey.{Item, header_space, table_space, table_item, entry_item, share_a_byte, lower, met, table_items, tracks_of, entry_items_in, entry_items, items, misfits, HasNoMisfit}
use Rattle.cckd_base.proofs.MemberLemmas.{In}
use Rattle.cckd_base.proofs.CleanLemmas.{IsClean, kept_one, spaces, all_kept, no_misfit}

-- the order of the survey
abbrev pub key_of : ℕ → Owner → ℕ
key_of groups Nobody = 0
key_of groups Header = 0
key_of groups (Table g) = 1 + g
key_of groups (Track t) = 1 + groups + t

abbrev pub key : ℕ → Extent → ℕ
key groups e = key_of groups e.owner

-- the items are no misfits, known, and stand in the order of the survey
abbrev pub AreOrderly : (Extent → Type 0) → ℕ → ℕ → List Item → ℕ → Type 0
AreOrderly Known groups n [] m = n ≤ m
AreOrderly Known groups n (Err x ∷ is) m = ⊥
AreOrderly Known groups n (Ok None ∷ is) m = AreOrderly Known groups n is m
AreOrderly Known groups n (Ok (Some s) ∷ is) m = Known s × (n ≤ key groups s) × AreOrderly Known groups (key groups s + 1) is m

pub orderly_from : (Known : Extent → Type 0) (groups k n : ℕ) (is : List Item) (m : ℕ) → k ≤ n → AreOrderly Known groups n is m → AreOrderly Known groups k is m
orderly_from Known groups k n [] m low h = omega (arith, low, h)
orderly_from Known groups k n (Err x ∷ is) m low h = h
orderly_from Known groups k n (Ok None ∷ is) m low h = orderly_from Known groups k n is m low h
orderly_from Known groups k n (Ok (Some s) ∷ is) m low h = (h.0, omega (arith, low, h.1), h.2)

pub orderly_append : (Known : Extent → Type 0) (groups n : ℕ) (is js : List Item) (m r : ℕ) → AreOrderly Known groups n is m → AreOrderly Known groups m js r → AreOrderly Known groups n (is ++ js) r
orderly_append Known groups n [] js m r h k = orderly_from Known groups n m js r h k
orderly_append Known groups n (Err x ∷ is) js m r h k = absurd h
orderly_append Known groups n (Ok None ∷ is) js m r h k = orderly_append Known groups n is js m r h k
orderly_append Known groups n (Ok (Some s) ∷ is) js m r h k = (h.0, h.1, orderly_append Known groups (key groups s + 1) is js m r h.2 k)

-- an item is nothing, or a known space of this key
abbrev pub IsGood : (Extent → Type 0) → ℕ → ℕ → Item → Type 0
IsGood Known groups k i = (i ≡ Ok None) ⊎ ((s : Extent) × (i ≡ Ok (Some s)) × Known s × (key groups s ≡ k))

orderly_one : (Known : Extent → Type 0) (groups k : ℕ) (i : Item) (is : List Item) (m : ℕ) → IsGood Known groups k i → AreOrderly Known groups (k + 1) is m → AreOrderly Known groups k (i ∷ is) m
orderly_one Known groups k i is m (inl e) h = subst (λ (j : Item). AreOrderly Known groups k (j ∷ is) m) (sym e) (orderly_from Known groups k (k + 1) is m (omega arith) h)
orderly_one Known groups k i is m (inr g) h = subst (λ (j : Item). AreOrderly Known groups k (j ∷ is) m) (sym g.1)
    (g.2, omega (arith, g.3), subst (λ (n : ℕ). AreOrderly Known groups n is m) (sym (ap (λ n. n + 1) g.3)) h)

pub orderly_range : (Known : Extent → Type 0) (groups c : ℕ) (f : ℕ → Item) (a n : ℕ) → ((k : ℕ) → a ≤ k → k < a + n → IsGood Known groups (c + k) (f k)) → AreOrderly Known groups (c + a) (map f (range_with_len a n)) (c + a + n)
orderly_range Known groups c f a zero good = omega arith
orderly_range Known groups c f a (suc n) good =
    let one : c + a + 1 ≡ c + (a + 1) = omega arith in
    let all : c + (a + 1) + n ≡ c + a + suc n = omega arith in
    orderly_one Known groups (c + a) (f a) (map f (range_with_len (a + 1) n)) (c + a + suc n) (good a (omega arith) (omega arith))
    (subst (λ (k : ℕ). AreOrderly Known groups k (map f (range_with_len (a + 1) n)) (c + a + suc n)) (sym one)
    (subst (λ (m : ℕ). AreOrderly Known groups (c + (a + 1)) (map f (range_with_len (a + 1) n)) m) all
    (orderly_range Known groups c f (a + 1) n (λ k low high. good k (omega (arith, low)) (omega (arith, high))))))

met_none : (kept : List Extent) (s : Extent) → ((k : Extent) → In k kept → share_a_byte k s ≡ false) → met kept s ≡ None
met_none [] s h = refl
met_none (k ∷ kept) s h =
    ap (λ (b : Bool). lower (cond b (Some k) None) (met kept s)) (h k (inl refl)) ∙ met_none kept s (λ x m. h x (inr m))

in_split_last : (s : Extent) (xs : List Extent) (k : Extent) → In k (xs ++ s ∷ []) → In k xs ⊎ (s ≡ k)
in_split_last s [] k (inl e) = inr e
in_split_last s [] k (inr x) = absurd x
in_split_last s (y ∷ xs) k (inl e) = inl (inl e)
in_split_last s (y ∷ xs) k (inr x) = elim (in_split_last s xs k x) [ inl a ↦ inl (inr a) | inr e ↦ inr e ]

-- whatever is known and stands before has been found apart
pub orderly_clean : (Known : Extent → Type 0) (groups : ℕ) → ((a b : Extent) → Known a → Known b → key groups a < key groups b → share_a_byte a b ≡ false) → (kept : List Extent) (n : ℕ) (is : List Item) (m : ℕ)
    → ((k : Extent) → In k kept → Known k × (key groups k < n)) → AreOrderly Known groups n is m → IsClean kept is
orderly_clean Known groups sep kept n [] m before h = tt
orderly_clean Known groups sep kept n (Err x ∷ is) m before h = absurd h
orderly_clean Known groups sep kept n (Ok None ∷ is) m before h = (refl, orderly_clean Known groups sep kept n is m before h)
orderly_clean Known groups sep kept n (Ok (Some s) ∷ is) m before h =
    let none : met kept s ≡ None = met_none kept s (λ k has. let b = before k has in sep k s b.0 h.0 (omega (arith, b.1, h.1))) in (
      ap (option_map (λ first. Overlap first s)) none,
      subst (λ (ks : List Extent). IsClean ks is) (sym (kept_one kept s none))
          (orderly_clean Known groups sep (kept ++ s ∷ []) (key groups s + 1) is m (λ k has. before_more k has) h.2),
    )
  where
    before_more : (k : Extent) → In k (kept ++ s ∷ []) → Known k × (key groups k < key groups s + 1)
    before_more k has = elim (in_split_last s kept k has) [
      | inl old ↦ let b = before k old in (b.0, omega (arith, b.1, h.1))
      | inr e ↦ (subst Known e h.0, omega (arith, ap (key groups) e))
    ]

orderly_to : (Known : Extent → Type 0) (groups n : ℕ) (is : List Item) (m r : ℕ) → m ≤ r → AreOrderly Known groups n is m → AreOrderly Known groups n is r
orderly_to Known groups n [] m r more h = omega (arith, more, h)
orderly_to Known groups n (Err x ∷ is) m r more h = h
orderly_to Known groups n (Ok None ∷ is) m r more h = orderly_to Known groups n is m r more h
orderly_to Known groups n (Ok (Some s) ∷ is) m r more h = (h.0, h.1, orderly_to Known groups (key groups s + 1) is m r more h.2)

-- the entries of the tables in order
flat_range : (Known : Extent → Type 0) (groups c : ℕ) (F : Extent → List Item) (f : ℕ → Item) (a n : ℕ)
    → ((k : ℕ) → a ≤ k → k < a + n → (f k ≡ Ok None) ⊎ ((s : Extent) × (f k ≡ Ok (Some s)) × AreOrderly Known groups (c + 256 * k) (F s) (c + 256 * (k + 1))))
    → AreOrderly Known groups (c + 256 * a) (flat_map F (spaces (map f (range_with_len a n)))) (c + 256 * (a + n))
flat_range Known groups c F f a zero good = omega arith
flat_range Known groups c F f a (suc n) good =
    let end : c + 256 * (a + 1 + n) ≡ c + 256 * (a + suc n) = omega arith in
    let rest : AreOrderly Known groups (c + 256 * (a + 1)) (flat_map F (spaces (map f (range_with_len (a + 1) n)))) (c + 256 * (a + suc n)) =
    subst (λ (m : ℕ). AreOrderly Known groups (c + 256 * (a + 1)) (flat_map F (spaces (map f (range_with_len (a + 1) n)))) m) end
    (flat_range Known groups c F f (a + 1) n (λ k low high. good k (omega (arith, low)) (omega (arith, high)))) in
    elim (good a (omega arith) (omega arith)) [
      | inl e ↦ subst (λ (i : Item). AreOrderly Known groups (c + 256 * a) (flat_map F (spaces (i ∷ map f (range_with_len (a + 1) n)))) (c + 256 * (a + suc n))) (sym e)
          (orderly_from Known groups (c + 256 * a) (c + 256 * (a + 1)) (flat_map F (spaces (map f (range_with_len (a + 1) n)))) (c + 256 * (a + suc n)) (omega arith) rest)
      | inr g ↦ subst (λ (i : Item). AreOrderly Known groups (c + 256 * a) (flat_map F (spaces (i ∷ map f (range_with_len (a + 1) n)))) (c + 256 * (a + suc n))) (sym g.1)
          (orderly_append Known groups (c + 256 * a) (F g.0) (flat_map F (spaces (map f (range_with_len (a + 1) n)))) (c + 256 * (a + 1)) (c + 256 * (a + suc n)) g.2 rest)
    ]

-- a group's item is nothing or the space of its table, which is known
abbrev pub IsGoodTable : (Extent → Type 0) → Layout → List ℕ → ℕ → Type 0
IsGoodTable Known l file g = (table_item l (length file) g (word_at l file g) ≡ Ok None)
    ⊎ ((w : ℕ) × (table_item l (length file) g (word_at l file g) ≡ Ok (Some (table_space g w))) × Known (table_space g w)
    × ((t : ℕ) → 256 * g ≤ t → t < 256 * g + 256 → t < track_count l.geo → IsGood Known l.groups (1 + l.groups + t) (entry_item l (length file) t (entry_in_table l file w t))))

tables_orderly : (Known : Extent → Type 0) (l : Layout) (file : List ℕ) → ((g : ℕ) → g < l.groups → IsGoodTable Known l file g) → AreOrderly Known l.groups 1 (table_items l file) (1 + l.groups)
unfolding table_items
tables_orderly Known l file good = orderly_range Known l.groups 1 (λ g. table_item l (length file) g (word_at l file g)) 0 l.groups
    (λ g low high. elim (good g (omega (arith, high))) [ inl e ↦ inl e | inr h ↦ inr (table_space g h.0, h.1, h.2, refl) ])

entries_orderly : (Known : Extent → Type 0) (l : Layout) (file : List ℕ) → ((g : ℕ) → g < l.groups → IsGoodTable Known l file g) → IsClean (header_space l.groups ∷ []) (table_items l file)
    → AreOrderly Known l.groups (1 + l.groups) (entry_items l file) (1 + l.groups + 256 * l.groups)
unfolding entry_items table_items tracks_of
entries_orderly Known l file good clean =
    let c = 1 + l.groups in
    let F = entry_items_in l file in
    let list = flat_map F (spaces (table_items l file)) in
    let first : c + 256 * 0 ≡ c = omega arith in
    let last : c + 256 * (0 + l.groups) ≡ c + 256 * l.groups = omega arith in
    subst (λ (es : List Extent). AreOrderly Known l.groups c (flat_map F es) (c + 256 * l.groups)) (sym (all_kept (header_space l.groups ∷ []) (table_items l file) clean))
    (subst (λ (n : ℕ). AreOrderly Known l.groups n list (c + 256 * l.groups)) first (subst (λ (m : ℕ). AreOrderly Known l.groups (c + 256 * 0) list m) last
    (flat_range Known l.groups c F (λ g. table_item l (length file) g (word_at l file g)) 0 l.groups
    (λ g low high. elim (good g (omega (arith, high))) [
      | inl e ↦ inl e
      | inr h ↦ inr (
        table_space g h.0,
        h.1,
        orderly_to Known l.groups (c + 256 * g) (map (λ t. entry_item l (length file) t (entry_in_table l file h.0 t)) (range_with_len (256 * g) (min 256 (track_count l.geo - 256 * g))))
            (c + 256 * g + min 256 (track_count l.geo - 256 * g)) (c + 256 * (g + 1)) (omega arith)
            (orderly_range Known l.groups c (λ t. entry_item l (length file) t (entry_in_table l file h.0 t)) (256 * g) (min 256 (track_count l.geo - 256 * g))
            (λ t a b. h.3 t a (omega (arith, b)) (omega (arith, a, b)))),
      )
    ]))))

-- so nothing is wrong with the image
pub survey_of : (Known : Extent → Type 0) (l : Layout) (file : List ℕ) → ((a b : Extent) → Known a → Known b → key l.groups a < key l.groups b → share_a_byte a b ≡ false)
    → Known (header_space l.groups) → ((g : ℕ) → g < l.groups → IsGoodTable Known l file g) → HasNoMisfit l file
unfolding misfits
survey_of Known l file sep header good =
    let head : (k : Extent) → In k (header_space l.groups ∷ []) → Known k × (key l.groups k < 1) = λ k h. elim h [
      | inl e ↦ (subst Known e header, omega (arith, ap (key l.groups) e))
      | inr n ↦ absurd n
    ] in
    let tables = tables_orderly Known l file good in
    let clean = orderly_clean Known l.groups sep (header_space l.groups ∷ []) 1 (table_items l file) (1 + l.groups) head tables in
    no_misfit (header_space l.groups ∷ []) (items l file)
    (orderly_clean Known l.groups sep (header_space l.groups ∷ []) 1 (items l file) (1 + l.groups + 256 * l.groups) head
    (orderly_append Known l.groups 1 (table_items l file) (entry_items l file) (1 + l.groups) (1 + l.groups + 256 * l.groups) tables (entries_orderly Known l file good clean)))
