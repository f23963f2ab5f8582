-- An image after bytes were written beside all that it names, in any number of places.
use Rattle.std.proofs.Common.{◌≡◌, ℕ, ◌+◌, ◌*◌, ◌/◌, ◌%◌, ◌<◌, ◌≤◌, List, length, None, sym, ◌∙◌, ap, subst, arith}
use Rattle.std.specs.Int.{w32}
use Rattle.cckd_base.specs.declared.geometry.Layout.{Layout}
use Rattle.cckd_base.specs.declared.entry.L2Entry.{L2Entry}
use Rattle.cckd_base.specs.Numbers.{bytes_at, number_of}
use Rattle.cckd_base.specs.Geometry.{track_count, area_of, IsLayout}
use Rattle.cckd_base.specs.Entry.{word_at, entry_at, entry_by_word, bytes_by_entry}
use Rattle.cckd_base.specs.Misfit.{table_misfit, entry_misfit}
use Rattle.cckd_base.specs.Image.{IsPlace, ShareNoByte, IsImage}
use Rattle.cckd_base.proofs.PlaceLemmas.{stored_inside, table_longer, entry_longer, by_word_same, bytes_stay}
use Rattle.cckd_base.proofs.WriteLemmas.{StaysImage}

-- the bytes of what an image names are the same in another file, which is no shorter
pub record KeepsNamed (l : Layout) (old new : List ℕ) : Type 0 where
  pub no_shorter : length old ≤ length new
  pub area : (p m : ℕ) → 1024 ≤ p → p + m ≤ area_of l.groups → bytes_at new p m ≡ bytes_at old p m
  pub tables : (g : ℕ) → g < l.groups → IsPlace (word_at l old g) → (p m : ℕ) → word_at l old g ≤ p → p + m ≤ word_at l old g + 2048 → bytes_at new p m ≡ bytes_at old p m
  pub tracks : (t : ℕ) → t < track_count l.geo → IsPlace (entry_at l old t).pos → (p m : ℕ) → (entry_at l old t).pos ≤ p → p + m ≤ (entry_at l old t).pos + (entry_at l old t).size
      → bytes_at new p m ≡ bytes_at old p m

pub named_stays : (l : Layout) (old new : List ℕ) → IsLayout l → IsImage l old → KeepsNamed l old new → StaysImage l old new
named_stays l old new layout image k =
    let word : (g : ℕ) → g < l.groups → word_at l new g ≡ word_at l old g = λ g low. ap (number_of l.order w32) (k.area (1024 + 4 * g) 4 (omega arith) (omega (arith, low))) in
    let group : (t : ℕ) → t < track_count l.geo → t / 256 < l.groups = λ t low. omega (arith, layout.groups, low) in
    let entry : (t : ℕ) → t < track_count l.geo → entry_at l new t ≡ entry_at l old t = λ t low.
    ap (λ x. entry_by_word l new x t) (word (t / 256) (group t low))
    ∙ by_word_same l old new (word_at l old (t / 256)) t (λ place. k.tables (t / 256) (group t low) place (word_at l old (t / 256) + 8 * (t % 256)) 8 (omega arith) (omega arith)) in
    record {
      image = record {
        area = omega (arith, image.area, k.no_shorter);
        words = λ g low. subst (λ (w : ℕ). table_misfit l (length new) g w ≡ None) (sym (word g low)) (table_longer l (length old) (length new) g (word_at l old g) k.no_shorter (image.words g low));
        entries = λ t low. subst (λ (e : L2Entry). entry_misfit l (length new) t e ≡ None) (sym (entry t low)) (entry_longer l (length old) (length new) t (entry_at l old t) k.no_shorter (image.entries t low));
        snug = λ t low. subst (λ (e : L2Entry). IsPlace e.pos → e.pos + e.size ≤ length new) (sym (entry t low)) (λ place. let s = image.snug t low place in omega (arith, s, k.no_shorter));
        tables_apart = λ g h a b differ. subst (λ (x : ℕ). IsPlace x → IsPlace (word_at l new h) → ShareNoByte x 2048 (word_at l new h) 2048) (sym (word g a))
            (subst (λ (y : ℕ). IsPlace (word_at l old g) → IsPlace y → ShareNoByte (word_at l old g) 2048 y 2048) (sym (word h b)) (image.tables_apart g h a b differ));
        beside = λ t g a b. subst (λ (e : L2Entry). IsPlace e.pos → IsPlace (word_at l new g) → ShareNoByte e.pos e.size (word_at l new g) 2048) (sym (entry t a))
            (subst (λ (y : ℕ). IsPlace (entry_at l old t).pos → IsPlace y → ShareNoByte (entry_at l old t).pos (entry_at l old t).size y 2048) (sym (word g b)) (image.beside t g a b));
        tracks_apart = λ t u a b differ.
            subst (λ (e : L2Entry). IsPlace e.pos → IsPlace (entry_at l new u).pos → ShareNoByte e.pos e.size (entry_at l new u).pos (entry_at l new u).size) (sym (entry t a))
            (subst (λ (e : L2Entry). IsPlace (entry_at l old t).pos → IsPlace e.pos → ShareNoByte (entry_at l old t).pos (entry_at l old t).size e.pos e.size) (sym (entry u b)) (image.tracks_apart t u a b differ));
      };
      word = word;
      entry = entry;
      stored = λ null t low.
          ap (bytes_by_entry null l new t) (entry t low)
          ∙ bytes_stay null l old new t (entry_at l old t) (λ place.
          let f = stored_inside l (length old) t (entry_at l old t) (image.entries t low) place in
          k.tracks t low place (entry_at l old t).pos (entry_at l old t).len (omega arith) (omega (arith, f.holds)));
    }
