-- What callers know of tables and the file of their slot.
use Rattle.std.proofs.Common.{◌≡◌, ℕ, ◌+◌, ◌<◌, ◌≤◌, List, [], ◌∷◌, length, unwrap_or, refl, sym, ◌∙◌, ap, subst, arith}
use Rattle.std.specs.List.{AllByRecursion}
use Rattle.cckd_base.specs.declared.geometry.Layout.{Layout}
use Rattle.cckd_base.specs.Geometry.{area_of}
use Rattle.cckd_base.specs.Numbers.{bytes_at}
use Rattle.cckd_base.specs.Entry.{word_at, entry_in_table}
use Rattle.cckd_base.specs.Image.{IsPlace}
use Rattle.cckd_base.specs.Survey.{HasNoMisfit}
use Rattle.cckd_base.proofs.PlaceLemmas.{table_inside}
use Rattle.cckd_base.proofs.ImageLemmas.{word_fits}
use Rattle.cckd_shelf.specs.Seen.{Seen, Tells, HasBytes}
use Rattle.cckd_shelf.specs.World.{IsSure, file_of}
use Rattle.cckd_tables.specs.Staging.{place_for, new_word}
use Rattle.cckd_tables.specs.Tables.{CachedTable, TableView, HasTables, IsCachedOf, AreOf}
use Rattle.cckd_tables.specs.Looking.{LoadsWords, IsOfSlot, word_of}
use Rattle.cckd_tables.proofs.TableLemmas.{entry_read}

-- the tables of a file without misfits end inside it
pub sound_tables : (l : Layout) (file : List ℕ) → HasNoMisfit l file → HasTables l file
sound_tables l file clean = λ g low place. (table_inside l (length file) g (word_at l file g) (word_fits l file clean g low) place).1

-- words that were loaded are of the slot's file, where each table that they name ends inside it
pub loaded_of : (slot : ℕ) (s : Seen) (old new : TableView) → LoadsWords slot s old new → HasBytes slot (area_of old.layout.groups) s
    → (Tells s → IsSure s.world → HasTables old.layout (file_of s.world slot)) → IsOfSlot new slot s
loaded_of slot s old new loads area tables = λ told sure.
    let file = file_of s.world slot in
    subst (λ (v : TableView). AreOf v file) (sym loads.rest) (record { area = area told sure; words = loads.words told sure; tables = tables told sure; cached = tt })

-- the word that `word` answers is the file's, with the staged ones put over
pub word_is : (v : TableView) (file : List ℕ) (g : ℕ) → AreOf v file → g < v.layout.groups → word_of v g ≡ new_word v.layout v.stages file g
word_is v file g of low = ap (unwrap_or (place_for g v.stages.words)) (sym (of.words g low))

same_table : (l : Layout) (old new : List ℕ) (p t : ℕ) → bytes_at new p 2048 ≡ bytes_at old p 2048 → entry_in_table l old p t ≡ entry_in_table l new p t
same_table l old new p t same = sym (entry_read l old (bytes_at new p 2048) p t same) ∙ entry_read l new (bytes_at new p 2048) p t refl

-- tables stay those of a file whose words and tables keep their bytes
pub same_of : (v : TableView) (old new : List ℕ) → AreOf v old → length old ≤ length new → ((g : ℕ) → g < v.layout.groups → word_at v.layout new g ≡ word_at v.layout old g)
    → ((g : ℕ) → g < v.layout.groups → IsPlace (word_at v.layout old g) → bytes_at new (word_at v.layout old g) 2048 ≡ bytes_at old (word_at v.layout old g) 2048) → AreOf v new
same_of v old new of longer words tables = record {
  area = (let a = of.area in omega arith);
  words = λ g low. words g low ∙ of.words g low;
  tables = λ g low place.
      (let was : IsPlace (word_at v.layout old g) = subst IsPlace (words g low) place in
      let inside = of.tables g low was in
      subst (λ w. w + 2048 ≤ length new) (sym (words g low)) (omega arith));
  cached = each v.cached of.cached;
} where
  one : (c : CachedTable) → IsCachedOf v.layout old c → IsCachedOf v.layout new c
  one c known = record {
    group = known.group;
    named = subst IsPlace (sym (words c.group known.group)) known.named;
    entries = λ t own.
        known.entries t own ∙ same_table v.layout old new (word_at v.layout old c.group) t (tables c.group known.group known.named)
        ∙ ap (λ w. entry_in_table v.layout new w t) (sym (words c.group known.group));
  }

  each : (cs : List CachedTable) → AllByRecursion (IsCachedOf v.layout old) cs → AllByRecursion (IsCachedOf v.layout new) cs
  each [] known = tt
  each (c ∷ cs) known = (one c known.0, each cs known.1)
