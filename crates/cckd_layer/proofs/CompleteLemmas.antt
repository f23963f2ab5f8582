-- A layer whose file is made snug: the entry of the space that passes the file's end was written with the size up to that end.
use Rattle.std.proofs.Common.{◌≡◌, ℕ, ◌+◌, ◌*◌, ◌/◌, ◌%◌, ◌<◌, ◌≤◌, List, [], length, refl, sym, ◌∙◌, ap, subst, inl, inr, arith, unwrap_or, slice_index}
use Rattle.std.proofs.lemmas.Bool.{cases_eq, cases_lt}
use Rattle.cckd_shelf.specs.Files.{overlaid}
use Rattle.cckd_shelf.specs.World.{World, IsSure, file_of, after_write, after_sync}
use Rattle.cckd_shelf.specs.Seen.{Seen}
use Rattle.cckd_shelf.specs.Outcomes.{EachOutcome}
use Rattle.cckd_shelf.proofs.OutcomeLemmas.{sync_leaves_now}
use Rattle.cckd_shelf.proofs.WorldLemmas.{now_wrote, sure_wrote}
use Rattle.cckd_base.specs.declared.geometry.Layout.{Layout}
use Rattle.cckd_base.specs.declared.entry.L2Entry.{L2Entry}
use Rattle.cckd_base.specs.declared.space.Extent.{Extent}
use Rattle.cckd_base.specs.Geometry.{track_count, IsLayout}
use Rattle.cckd_base.specs.Entry.{word_at, entry_at, entry_of}
use Rattle.cckd_base.specs.Survey.{used_spaces}
use Rattle.cckd_base.specs.Image.{IsPlace, IsHeaded, IsSnug}
use Rattle.cckd_base.proofs.HeaderLemmas.{headed_layout, headed_short}
use Rattle.cckd_base.proofs.ImageLemmas.{entry_fits}
use Rattle.cckd_base.proofs.PlaceLemmas.{stored_inside}
use Rattle.cckd_space.specs.Pieces.{pieces_of}
use Rattle.cckd_tables.specs.Looking.{word_of}
use Rattle.cckd_tables.specs.Staging.{Stages, place_for}
use Rattle.cckd_tables.proofs.WrittenLemmas.{group_low}
use Rattle.cckd_tables.specs.Tables.{CachedTable, HasWords}
use Rattle.cckd_layer.specs.Held.{NullBytes, held}
use Rattle.cckd_layer.specs.Sits.{identifiers_for}
use Rattle.cckd_layer.specs.Mounted.{LayerState, with_tables}
use Rattle.cckd_layer.specs.Writes.{Agrees}
use Rattle.cckd_layer.specs.Loose.{Loose, PassesEnd, IsComplete, clipped_entry, bare_tables}
use Rattle.cckd_layer.proofs.ClippedLemmas.{Rewritten, rewritten, has_table, clipped_clean, clipped_spaces, clipped_here, clipped_others, clipped_stored}
use Rattle.cckd_layer.proofs.HeadLemmas.{headed_kept}
use Rattle.cckd_layer.proofs.TiedLemmas.{loose_agrees, one_past}

module _ (s : LayerState) (w new : World) (t : ℕ) (e : L2Entry) (bytes words : List ℕ) (h : PassesEnd s w t e) (eight : length bytes ≡ 8) (spelled : entry_of s.tables.layout.order bytes ≡ e)
    (has : HasWords s.tables.layout words (file_of w s.slot))
    (made : new ≡ after_sync s.slot (after_write s.slot (word_at s.tables.layout (file_of w s.slot) (t / 256) + 8 * (t % 256)) bytes w)) where
  abbrev l : Layout
  l = s.tables.layout

  abbrev was : List ℕ
  was = file_of w s.slot

  abbrev at : ℕ
  at = word_at l was (t / 256) + 8 * (t % 256)

  layout : IsLayout l
  layout = headed_layout (identifiers_for l) l was h.loose.sound.headed

  named : IsPlace (word_at l was (t / 256))
  named = has_table l was t h.place

  now : file_of new s.slot ≡ overlaid was at bytes
  now = ap (λ (x : World). file_of x s.slot) made ∙ now_wrote s.slot at bytes w (after_write s.slot at bytes w) refl

  done : Rewritten l was t (clipped_entry (length was) (entry_at l was t)) (file_of new s.slot)
  done = subst (Rewritten l was t (clipped_entry (length was) (entry_at l was t))) (sym now)
      (rewritten l was bytes t (clipped_entry (length was) (entry_at l was t)) layout h.loose.are.area h.loose.sound.clean h.low named eight (spelled ∙ h.clipped))

  past : length was ≤ (entry_at l was t).pos + (entry_at l was t).size
  past = omega (arith, h.past)

  abbrev next : LayerState
  next = with_tables s (bare_tables s.tables words)

  here : entry_at l (file_of new s.slot) t ≡ clipped_entry (length was) (entry_at l was t)
  here = clipped_here l was t (file_of new s.slot) layout h.loose.sound.clean h.low h.place past done named

  others : (u : ℕ) → u < track_count l.geo → (t ≡ u → ⊥) → entry_at l (file_of new s.slot) u ≡ entry_at l was u
  others = clipped_others l was t (file_of new s.slot) layout h.loose.sound.clean h.low h.place past done

  -- each space ends inside the file now
  snug : IsSnug l (file_of new s.slot)
  snug u there place = elim (cases_eq t u) [
    | inl same ↦
        let f = stored_inside l (length was) t (entry_at l was t) (entry_fits l was layout h.loose.sound.clean t h.low) h.place in
        let x : entry_at l (file_of new s.slot) u ≡ clipped_entry (length was) (entry_at l was t) = ap (entry_at l (file_of new s.slot)) (sym same) ∙ here in
        subst (λ (y : L2Entry). y.pos + y.size ≤ length (file_of new s.slot)) (sym x) (omega (arith, f.within, done.size))
    | inr other ↦
        let x = others u there other in
        let old : IsPlace (entry_at l was u).pos = subst (λ (y : L2Entry). IsPlace y.pos) x place in
        elim (cases_lt ((entry_at l was u).pos + (entry_at l was u).size) (length was + 1)) [
          | inl inside ↦ subst (λ (y : L2Entry). y.pos + y.size ≤ length (file_of new s.slot)) (sym x) (omega (arith, inside, done.size))
          | inr far ↦ absurd (other (one_past s w t u h.loose h.low there h.place old past (omega (arith, far))))
        ]
  ]

  -- the layer is as it would be mounted from it
  loose : Loose next new
  loose =
      let file = file_of new s.slot in
      let headed : IsHeaded (identifiers_for l) l file =
      headed_kept (identifiers_for l) l was file done.headers (omega (arith, done.size)) (omega (arith, done.size, headed_short (identifiers_for l) l was h.loose.sound.headed)) h.loose.sound.headed in
      let alone = sync_leaves_now s.slot (after_write s.slot at bytes w).events (sure_wrote s.slot at bytes w (after_write s.slot at bytes w) refl h.loose.sure) in
      record {
        sure = subst IsSure (sym made) (sure_wrote s.slot at bytes w (after_write s.slot at bytes w) refl h.loose.sure);
        sound = record { headed = headed; clean = clipped_clean l was t file layout h.loose.sound.clean h.low h.place past done };
        stages = h.loose.stages;
        marked = h.loose.marked;
        hardened = h.loose.hardened;
        are = record {
          area = omega (arith, h.loose.are.area, done.size);
          words = λ g low. done.words g low ∙ has g low;
          tables = λ g low. subst (λ (x : ℕ). IsPlace x → x + 2048 ≤ length file) (sym (done.words g low)) (λ place. let k = h.loose.are.tables g low place in omega (arith, k, done.size));
          cached = tt;
        };
        fits = h.loose.fits;
        pieces = h.loose.pieces ∙ (ap (λ (es : List Extent). pieces_of 0 es (length was)) (sym (clipped_spaces l was t file layout h.loose.sound.clean h.low h.place past done))
            ∙ ap (λ (n : ℕ). pieces_of 0 (used_spaces l file) n) (sym done.size));
        size = h.loose.size ∙ sym done.size;
        laid = h.loose.laid;
        limited = h.loose.limited;
        alone = subst (λ (x : World). EachOutcome s.slot (λ file. file ≡ file_of x s.slot) x.events) (sym made) alone;
      }

  -- it agrees with its file
  pub complete_agrees : Agrees next new
  complete_agrees = loose_agrees next new loose snug

  -- and has the bytes of each track that it had
  pub complete_same : (null : NullBytes) (u : ℕ) → u < track_count l.geo → held null l s.tables.stages (file_of new s.slot) u ≡ held null l s.tables.stages (file_of w s.slot) u
  complete_same null u there =
      subst (λ (st : Stages). held null l st (file_of new s.slot) u ≡ held null l st was u) (sym h.loose.stages)
      (clipped_stored l was t (file_of new s.slot) layout h.loose.sound.clean h.low h.place past done null named u there)

-- the level-one word of a group, where nothing is staged
word_is : (s : LayerState) (w : World) (g : ℕ) → Loose s w → g < s.tables.layout.groups → word_of s.tables g ≡ word_at s.tables.layout (file_of w s.slot) g
word_is s w g h low = ap (λ (st : Stages). unwrap_or (place_for g st.words) (slice_index s.tables.words g)) h.stages ∙ sym (h.are.words g low)

-- the entry was written and synced, and no table is in memory
pub put_complete : (null : NullBytes) (s : LayerState) (a b : Seen) (t word : ℕ) (e : L2Entry) (bytes : List ℕ) → PassesEnd s a.world t e → s.tables.cached ≡ [] → word ≡ word_of s.tables (t / 256)
    → length bytes ≡ 8 → entry_of s.tables.layout.order bytes ≡ e → b.world ≡ after_sync s.slot (after_write s.slot (word + 8 * (t % 256)) bytes a.world) → IsComplete null s s a b
put_complete null s a b t word e bytes p bare is eight spelled made =
    let l = s.tables.layout in
    let layout = headed_layout (identifiers_for l) l (file_of a.world s.slot) p.loose.sound.headed in
    let place : word ≡ word_at l (file_of a.world s.slot) (t / 256) = is ∙ word_is s a.world (t / 256) p.loose (group_low l t layout p.low) in
    let done : b.world ≡ after_sync s.slot (after_write s.slot (word_at l (file_of a.world s.slot) (t / 256) + 8 * (t % 256)) bytes a.world) =
    made ∙ ap (λ (n : ℕ). after_sync s.slot (after_write s.slot (n + 8 * (t % 256)) bytes a.world)) place in
    let same : with_tables s (bare_tables s.tables s.tables.words) ≡ s =
    ap (λ (cs : List CachedTable). with_tables s (record { layout = l; words = s.tables.words; stages = s.tables.stages; cached = cs })) (sym bare) in
    record {
      agrees = subst (λ (x : LayerState). Agrees x b.world) same (complete_agrees s a.world b.world t e bytes s.tables.words p eight spelled p.loose.are.words done);
      same = record { each = complete_same s a.world b.world t e bytes s.tables.words p eight spelled p.loose.are.words done null };
    }
