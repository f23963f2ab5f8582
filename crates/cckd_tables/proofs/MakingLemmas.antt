-- The old and the new entries of a table that is made.
use Rattle.std.proofs.Common.{◌≡◌, inl, inr, ℕ, zero, suc, ◌+◌, ◌*◌, ◌/◌, ◌%◌, ◌<◌, ◌≤◌, List, [], ◌∷◌, ◌++◌, length, slice_index, Some, unwrap_or, refl, sym, ◌∙◌, ap, subst, arith}
use Rattle.std.proofs.lemmas.Bool.Decides.{eqb_tells}
use Rattle.cckd_base.specs.declared.geometry.Layout.{Layout}
use Rattle.cckd_base.specs.declared.entry.L2Entry.{L2Entry}
use Rattle.cckd_base.specs.Numbers.{bytes_at}
use Rattle.cckd_base.specs.Entry.{word_at, entry_of, entry_at, entry_in_table}
use Rattle.cckd_base.specs.Image.{IsPlace}
use Rattle.cckd_shelf.specs.Seen.{Seen, Tells, Stays}
use Rattle.cckd_shelf.specs.World.{World, IsSure, file_of}
use Rattle.cckd_tables.specs.Staging.{Stages, entry_for}
use Rattle.cckd_tables.specs.Commit.{staged_groups}
use Rattle.cckd_tables.specs.Making.{AddsTable, AreMade}
use Rattle.cckd_tables.specs.Tables.{TableView, AreOf, IsCachedOf}
use Rattle.cckd_tables.specs.Cached.{table_of}
use Rattle.cckd_tables.specs.Cells.{entry_among}
use Rattle.cckd_tables.proofs.LookLemmas.{cached_has, word_gives_table}
use Rattle.cckd_tables.proofs.TableLemmas.{entry_read}

-- a table that has the entries in the file's table has those that the file gives
pub old_entry : (v : TableView) (file : List ℕ) (g word t : ℕ) (e : L2Entry) → AreOf v file → g < v.layout.groups → word ≡ slice_index v.words g → IsPlace word → t / 256 ≡ g
    → e ≡ entry_in_table v.layout file word t → e ≡ entry_at v.layout file t
old_entry v file g word t e of low is place own has =
    let at : word ≡ word_at v.layout file (t / 256) = is ∙ sym (of.words g low) ∙ ap (word_at v.layout file) (sym own) in
    has ∙ ap (λ w. entry_in_table v.layout file w t) at ∙ sym (word_gives_table v.layout file (word_at v.layout file (t / 256)) t (subst IsPlace at place))

-- so does a cached one
pub old_cached : (v : TableView) (file bytes : List ℕ) (g word t : ℕ) → AreOf v file → g < v.layout.groups → word ≡ slice_index v.words g → IsPlace word → table_of g v.cached ≡ Some bytes → t / 256 ≡ g
    → entry_among v.layout.order bytes t ≡ entry_at v.layout file t
old_cached v file bytes g word t of low is place cached own =
    let known = cached_has (IsCachedOf v.layout file) g bytes v.cached cached of.cached in
    old_entry v file g word t (entry_among v.layout.order bytes t) of low is place own
    (known.entries t own ∙ ap (λ w. entry_in_table v.layout file w t) (of.words g low ∙ sym is))

-- one that was read
pub old_read : (v : TableView) (file bytes : List ℕ) (g word t : ℕ) → AreOf v file → g < v.layout.groups → word ≡ slice_index v.words g → IsPlace word → bytes ≡ bytes_at file word 2048 → t / 256 ≡ g
    → entry_among v.layout.order bytes t ≡ entry_at v.layout file t
old_read v file bytes g word t of low is place read own =
    old_entry v file g word t (entry_among v.layout.order bytes t) of low is place own (entry_read v.layout file bytes word t read)

-- a part of joined lists
part_front : (xs ys : List ℕ) (at m : ℕ) → at + m ≤ length xs → bytes_at (xs ++ ys) at m ≡ bytes_at xs at m
part_front [] ys zero zero l = refl
part_front [] ys zero (suc m) l = absurd (omega arith)
part_front [] ys (suc at) m l = absurd (omega arith)
part_front (x ∷ xs) ys zero zero l = refl
part_front (x ∷ xs) ys zero (suc m) l = ap (λ (r : List ℕ). x ∷ r) (part_front xs ys zero m (omega arith))
part_front (x ∷ xs) ys (suc at) m l = part_front xs ys at m (omega arith)

part_behind : (xs ys : List ℕ) (at k m : ℕ) → at ≡ length xs + k → bytes_at (xs ++ ys) at m ≡ bytes_at ys k m
part_behind [] ys at k m is = let e : at ≡ k = omega arith in ap (λ n. bytes_at ys n m) e
part_behind (x ∷ xs) ys zero k m is = absurd (omega arith)
part_behind (x ∷ xs) ys (suc at) k m is = part_behind xs ys at k m (omega arith)

-- one more table behind those that are made
pub made_more : (l : Layout) (stages : Stages) (n group slot : ℕ) (old new : List ℕ) (first now : Seen) → AreMade l stages n old slot first → length old ≡ 2048 * n → (Tells first → Tells now) → Stays first now
    → AddsTable l stages.entries group slot now old new → group ≡ slice_index (staged_groups stages.words) n → AreMade l stages (n + 1) new slot first
made_more l stages n group slot old new first now made count tells stays adds own = λ told sure i low t mine.
    let same = stays told in
    let sure_now : IsSure now.world = subst IsSure (sym same) sure in
    let file = file_of first.world slot in
    elim (eqb_tells i n) [
      | inl e ↦ (
          let in_group : t / 256 ≡ group = mine ∙ ap (λ k. slice_index (staged_groups stages.words) k) e.1 ∙ sym own in
          ap (λ (bs : List ℕ). entry_of l.order (bytes_at bs (2048 * i + 8 * (t % 256)) 8)) adds.added
          ∙ ap (entry_of l.order) (part_behind old adds.table (2048 * i + 8 * (t % 256)) (8 * (t % 256)) 8 (let k = e.1 in omega arith))
          ∙ adds.spelled (tells told) sure_now t in_group
          ∙ ap (λ (w : World). unwrap_or (entry_for t stages.entries) (entry_at l (file_of w slot) t)) same)
      | inr e ↦ (
          let before : i < n = (let ne = e.1 in omega arith) in
          ap (λ (bs : List ℕ). entry_of l.order (bytes_at bs (2048 * i + 8 * (t % 256)) 8)) adds.added
          ∙ ap (entry_of l.order) (part_front old adds.table (2048 * i + 8 * (t % 256)) 8 (omega arith))
          ∙ made told sure i before t mine)
    ]
