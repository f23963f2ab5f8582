-- Items in a row.
use Rattle.std.proofs.Common.{◌≡◌, ℕ, zero, suc, ◌+◌, ◌-◌, ◌*◌, ◌%◌, ◌≤◌, List, [], ◌∷◌, ◌++◌, map, refl, sym, ◌∙◌, ap, arith}
use Rattle.std.specs.List.{range_with_len}
use Rattle.std.specs.Int.{w32}
use Rattle.cckd_base.specs.declared.geometry.Layout.{Layout}
use Rattle.cckd_base.specs.declared.entry.L2Entry.{L2Entry}
use Rattle.cckd_base.specs.Numbers.{number_at, bytes_at}
use Rattle.cckd_base.specs.Entry.{entry_of}
use Rattle.cckd_base.specs.Survey.{Item, table_item, entry_item}
use Rattle.cckd_tables.specs.Inside.{items_of_words, items_of_table}

row_more : (f : ℕ → Item) (a n : ℕ) → map f (range_with_len a (n + 1)) ≡ map f (range_with_len a n) ++ f (a + n) ∷ []
row_more f a zero = let e : a ≡ a + 0 = omega arith in ap (λ (k : ℕ). f k ∷ []) e
row_more f a (suc n) =
    let e : suc n + 1 ≡ suc (n + 1) = omega arith in
    let k : a + 1 + n ≡ a + suc n = omega arith in
    ap (λ (m : ℕ). map f (range_with_len a m)) e
    ∙ ap (λ (is : List Item). f a ∷ is) (row_more f (a + 1) n ∙ ap (λ (m : ℕ). map f (range_with_len (a + 1) n) ++ f m ∷ []) k)

pub no_words : (l : Layout) (n : ℕ) (words : List ℕ) → items_of_words l n words 0 ≡ []
unfolding items_of_words
no_words l n words = refl

pub next_word : (l : Layout) (n : ℕ) (words : List ℕ) (group word : ℕ) (item : Item) → word ≡ number_at l.order w32 words (4 * group)
    → item ≡ table_item l n group word → items_of_words l n words group ++ item ∷ [] ≡ items_of_words l n words (group + 1)
unfolding items_of_words
next_word l n words group word item e f =
    let g : group ≡ 0 + group = omega arith in
    ap (λ (i : Item). map (λ (k : ℕ). table_item l n k (number_at l.order w32 words (4 * k))) (range_with_len 0 group) ++ i ∷ [])
    (f ∙ ap (table_item l n group) e ∙ ap (λ (k : ℕ). table_item l n k (number_at l.order w32 words (4 * k))) g)
    ∙ sym (row_more (λ (k : ℕ). table_item l n k (number_at l.order w32 words (4 * k))) 0 group)

pub no_tracks : (l : Layout) (n : ℕ) (bytes : List ℕ) (from to : ℕ) → to ≤ from → items_of_table l n bytes from to ≡ []
unfolding items_of_table
no_tracks l n bytes from to h =
    let e : to - from ≡ 0 = omega arith in
    ap (λ (m : ℕ). map (λ (t : ℕ). entry_item l n t (entry_of l.order (bytes_at bytes (8 * (t % 256)) 8))) (range_with_len from m)) e

pub next_track : (l : Layout) (n : ℕ) (bytes part : List ℕ) (from t : ℕ) (entry : L2Entry) (item : Item) → from ≤ t
    → part ≡ bytes_at bytes (8 * (t % 256)) 8 → entry ≡ entry_of l.order part → item ≡ entry_item l n t entry
    → items_of_table l n bytes from t ++ item ∷ [] ≡ items_of_table l n bytes from (t + 1)
unfolding items_of_table
next_track l n bytes part from t entry item h e f g =
    let at : t ≡ from + (t - from) = omega arith in
    let more : (t - from) + 1 ≡ (t + 1) - from = omega arith in
    let row = λ (k : ℕ). entry_item l n k (entry_of l.order (bytes_at bytes (8 * (k % 256)) 8)) in
    ap (λ (i : Item). map row (range_with_len from (t - from)) ++ i ∷ [])
    (g ∙ ap (entry_item l n t) (f ∙ ap (entry_of l.order) e) ∙ ap row at)
    ∙ sym (row_more row from (t - from))
    ∙ ap (λ (m : ℕ). map row (range_with_len from m)) more
