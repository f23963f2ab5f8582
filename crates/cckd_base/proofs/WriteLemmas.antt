-- An image after bytes were written beside all that it names.
use Rattle.std.proofs.Common.{◌≡◌, ◌⊎◌, ℕ, ◌+◌, ◌*◌, ◌/◌, ◌%◌, ◌<◌, ◌≤◌, List, length, None, get_or, sym, ◌∙◌, ap, subst, inl, inr, arith}
use Rattle.std.specs.Int.{w32}
use Rattle.cckd_base.specs.declared.geometry.Geometry.{Geometry}
use Rattle.cckd_base.specs.declared.geometry.Layout.{Layout}
use Rattle.cckd_base.specs.declared.entry.L2Entry.{L2Entry}
use Rattle.cckd_base.specs.Numbers.{bytes_at, number_of}
use Rattle.cckd_base.specs.Geometry.{track_count, area_of, IsLayout}
use Rattle.cckd_base.specs.Entry.{word_at, entry_at, entry_by_word, bytes_by_entry, stored_bytes}
use Rattle.cckd_base.specs.Misfit.{table_misfit, entry_misfit}
use Rattle.cckd_base.specs.Image.{IsPlace, ShareNoByte, IsImage}
use Rattle.cckd_base.proofs.PlaceLemmas.{part_same, inside_first, table_inside, stored_inside, table_longer, entry_longer, by_word_same, bytes_stay}

-- one range of a file was written, in whole or in part or not at all
pub record Touches (position n : ℕ) (old new : List ℕ) : Type 0 where
  pub outside : (i : ℕ) → i < length old → (i < position) ⊎ (position + n ≤ i) → get_or new i 0 ≡ get_or old i 0
  pub no_shorter : length old ≤ length new

-- the range shares no byte with the header area, a table or a stored track
pub record IsFree (l : Layout) (position n : ℕ) (file : List ℕ) : Type 0 where
  pub area : area_of l.groups ≤ position
  pub tables : (g : ℕ) → g < l.groups → IsPlace (word_at l file g) → ShareNoByte (word_at l file g) 2048 position n
  pub tracks : (t : ℕ) → t < track_count l.geo → IsPlace (entry_at l file t).pos → ShareNoByte (entry_at l file t).pos (entry_at l file t).size position n

-- words, entries and the bytes of tracks are the same
pub record StaysImage (l : Layout) (old new : List ℕ) : Type 0 where
  pub image : IsImage l new
  pub word : (g : ℕ) → g < l.groups → word_at l new g ≡ word_at l old g
  pub entry : (t : ℕ) → t < track_count l.geo → entry_at l new t ≡ entry_at l old t
  pub stored : (null : Geometry → ℕ → ℕ → List ℕ) (t : ℕ) → t < track_count l.geo → stored_bytes null l new t ≡ stored_bytes null l old t

pub free_write : (l : Layout) (old new : List ℕ) (position n : ℕ) → IsLayout l → IsImage l old → IsFree l position n old → Touches position n old new → StaysImage l old new
free_write l old new position n layout image free touch =
    let part : (p m : ℕ) → p + m ≤ length old → ShareNoByte p m position n → bytes_at new p m ≡ bytes_at old p m = λ p m within far.
    part_same old new p m within touch.no_shorter (λ i a b. touch.outside i (omega (arith, b, within)) (elim far [
      | inl h ↦ inl (omega (arith, b, h))
      | inr h ↦ inr (omega (arith, a, h))
    ])) in
    let word : (g : ℕ) → g < l.groups → word_at l new g ≡ word_at l old g = λ g low.
    ap (number_of l.order w32) (part (1024 + 4 * g) 4 (omega (arith, low, image.area)) (inl (omega (arith, low, free.area)))) in
    let group : (t : ℕ) → t < track_count l.geo → t / 256 < l.groups = λ t low. omega (arith, layout.groups, low) in
    let entry : (t : ℕ) → t < track_count l.geo → entry_at l new t ≡ entry_at l old t = λ t low.
    ap (λ x. entry_by_word l new x t) (word (t / 256) (group t low))
    ∙ by_word_same l old new (word_at l old (t / 256)) t (λ place.
    let k = table_inside l (length old) (t / 256) (word_at l old (t / 256)) (image.words (t / 256) (group t low)) place in
    part (word_at l old (t / 256) + 8 * (t % 256)) 8 (omega (arith, k.1))
    (inside_first (word_at l old (t / 256)) 2048 position n (free.tables (t / 256) (group t low) place) (word_at l old (t / 256) + 8 * (t % 256)) 8 (omega arith) (omega arith))) in
    record {
      image = record {
        area = omega (arith, image.area, touch.no_shorter);
        words = λ g low. subst (λ (w : ℕ). table_misfit l (length new) g w ≡ None) (sym (word g low)) (table_longer l (length old) (length new) g (word_at l old g) touch.no_shorter (image.words g low));
        entries = λ t low. subst (λ (e : L2Entry). entry_misfit l (length new) t e ≡ None) (sym (entry t low)) (entry_longer l (length old) (length new) t (entry_at l old t) touch.no_shorter (image.entries t low));
        snug = λ t low. subst (λ (e : L2Entry). IsPlace e.pos → e.pos + e.size ≤ length new) (sym (entry t low)) (λ place. let s = image.snug t low place in omega (arith, s, touch.no_shorter));
        tables_apart = λ g h a b differ. subst (λ (x : ℕ). IsPlace x → IsPlace (word_at l new h) → ShareNoByte x 2048 (word_at l new h) 2048) (sym (word g a))
            (subst (λ (y : ℕ). IsPlace (word_at l old g) → IsPlace y → ShareNoByte (word_at l old g) 2048 y 2048) (sym (word h b)) (image.tables_apart g h a b differ));
        beside = λ t g a b. subst (λ (e : L2Entry). IsPlace e.pos → IsPlace (word_at l new g) → ShareNoByte e.pos e.size (word_at l new g) 2048) (sym (entry t a))
            (subst (λ (y : ℕ). IsPlace (entry_at l old t).pos → IsPlace y → ShareNoByte (entry_at l old t).pos (entry_at l old t).size y 2048) (sym (word g b)) (image.beside t g a b));
        tracks_apart = λ t u a b differ.
            subst (λ (e : L2Entry). IsPlace e.pos → IsPlace (entry_at l new u).pos → ShareNoByte e.pos e.size (entry_at l new u).pos (entry_at l new u).size) (sym (entry t a))
            (subst (λ (e : L2Entry). IsPlace (entry_at l old t).pos → IsPlace e.pos → ShareNoByte (entry_at l old t).pos (entry_at l old t).size e.pos e.size) (sym (entry u b)) (image.tracks_apart t u a b differ));
      };
      word = word;
      entry = entry;
      stored = λ null t low.
          ap (bytes_by_entry null l new t) (entry t low)
          ∙ bytes_stay null l old new t (entry_at l old t) (λ place.
          let f = stored_inside l (length old) t (entry_at l old t) (image.entries t low) place in
          part (entry_at l old t).pos (entry_at l old t).len f.within
          (inside_first (entry_at l old t).pos (entry_at l old t).size position n (free.tracks t low place) (entry_at l old t).pos (entry_at l old t).len (omega arith) (omega (arith, f.holds))));
    }
