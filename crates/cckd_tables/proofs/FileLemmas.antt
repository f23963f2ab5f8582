-- The items of a file, from the bytes that were read of it.
use Rattle.std.proofs.Common.{◌≡◌, ℕ, zero, suc, ◌+◌, ◌-◌, ◌*◌, ◌%◌, ◌<◌, ◌≤◌, min, List, length, take, drop, map, refl, sym, ◌∙◌, ap, arith}
use Rattle.std.specs.List.{range_with_len}
use Rattle.std.specs.Int.{w32}
use Rattle.std.proofs.lemmas.List.{drop-take, take-take, drop-drop}
use Rattle.cckd_base.specs.declared.geometry.Layout.{Layout}
use Rattle.cckd_base.specs.declared.space.Extent.{Extent}
use Rattle.cckd_base.specs.declared.space.Owner.TheVariants.{Table}
use Rattle.cckd_base.specs.Geometry.{track_count}
use Rattle.cckd_base.specs.Numbers.{number_of, number_at, bytes_at}
use Rattle.cckd_base.specs.Entry.{entry_of, entry_in_table, word_at}
use Rattle.cckd_base.specs.Survey.{Item, table_item, entry_item, table_items, tracks_of, entry_items_at, entry_items_in}
use Rattle.cckd_tables.specs.Inside.{items_of_words, items_of_table, tracks_end}

-- bytes of a part of a file
pub part_of_part : (file : List ℕ) (p n q m : ℕ) → q + m ≤ n → bytes_at (bytes_at file p n) q m ≡ bytes_at file (p + q) m
part_of_part file p n q m h =
    let e : n ≡ q + (n - q) = omega arith in
    ap (λ (k : ℕ). take m (drop q (take k (drop p file)))) e
    ∙ ap (take m) (drop-take q (n - q) (drop p file))
    ∙ take-take m (n - q) (drop q (drop p file)) (omega arith)
    ∙ ap (take m) (drop-drop q p file)

same_items : (f h : ℕ → Item) (a n : ℕ) → ((k : ℕ) → k < a + n → f k ≡ h k) → map f (range_with_len a n) ≡ map h (range_with_len a n)
same_items f h a zero e = refl
same_items f h a (suc n) e =
    let here = e a (omega arith) in
    let rest = same_items f h (a + 1) n (λ k l. e k (omega arith)) in
    cc

pub words_of_file : (l : Layout) (n : ℕ) (file words : List ℕ) → n ≡ length file → words ≡ bytes_at file 1024 (4 * l.groups)
    → items_of_words l n words l.groups ≡ table_items l file
unfolding items_of_words table_items
words_of_file l n file words e f =
    same_items (λ (g : ℕ). table_item l n g (number_at l.order w32 words (4 * g))) (λ (g : ℕ). table_item l (length file) g (word_at l file g)) 0 l.groups
    (λ g h. ap (λ (k : ℕ). table_item l k g (number_at l.order w32 words (4 * g))) e
    ∙ ap (λ (bytes : List ℕ). table_item l (length file) g (number_of l.order w32 bytes))
    (ap (λ (ws : List ℕ). bytes_at ws (4 * g) 4) f ∙ part_of_part file 1024 (4 * l.groups) (4 * g) 4 (omega arith)))

tracks_of_file : (l : Layout) (n : ℕ) (file bytes : List ℕ) (pos group : ℕ) → n ≡ length file → bytes ≡ bytes_at file pos 2048
    → items_of_table l n bytes (256 * group) (tracks_end l group) ≡ entry_items_at l file pos (Table group)
unfolding items_of_table tracks_of
tracks_of_file l n file bytes pos group e f =
    let count : tracks_end l group - 256 * group ≡ min 256 (track_count l.geo - 256 * group) = omega arith in
    ap (λ (k : ℕ). map (λ (t : ℕ). entry_item l n t (entry_of l.order (bytes_at bytes (8 * (t % 256)) 8))) (range_with_len (256 * group) k)) count
    ∙ same_items (λ (t : ℕ). entry_item l n t (entry_of l.order (bytes_at bytes (8 * (t % 256)) 8)))
    (λ (t : ℕ). entry_item l (length file) t (entry_in_table l file pos t)) (256 * group) (min 256 (track_count l.geo - 256 * group))
    (λ t h. ap (λ (k : ℕ). entry_item l k t (entry_of l.order (bytes_at bytes (8 * (t % 256)) 8))) e
    ∙ ap (λ (part : List ℕ). entry_item l (length file) t (entry_of l.order part))
    (ap (λ (bs : List ℕ). bytes_at bs (8 * (t % 256)) 8) f ∙ part_of_part file pos 2048 (8 * (t % 256)) 8 (omega arith)))

pub table_of_file : (l : Layout) (n : ℕ) (file bytes : List ℕ) (space : Extent) (group : ℕ) → n ≡ length file → bytes ≡ bytes_at file space.pos 2048
    → space.owner ≡ Table group → items_of_table l n bytes (256 * group) (tracks_end l group) ≡ entry_items_in l file space
table_of_file l n file bytes space group e f o =
    tracks_of_file l n file bytes space.pos group e f ∙ ap (entry_items_at l file space.pos) (sym o)
