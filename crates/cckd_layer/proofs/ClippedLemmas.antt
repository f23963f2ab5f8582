-- A file without a misfit in which one entry was written anew, with a size that ends at the file's end.
use Rattle.std.proofs.Common.{◌≡◌, ◌≢◌, ℕ, zero, suc, ◌+◌, ◌-◌, ◌*◌, ◌/◌, ◌%◌, ◌<◌, ◌≤◌, min, List, [], ◌∷◌, ◌++◌, length, map, Some, None, Ok, refl, sym, ◌∙◌, ap, subst, inl, inr, arith}
use Rattle.std.specs.Int.{w32}
use Rattle.std.specs.List.{flat_map, range_with_len}
use Rattle.std.proofs.lemmas.Bool.{cases_eq}
use Rattle.cckd_shelf.specs.Files.{overlaid}
use Rattle.cckd_shelf.proofs.OutcomeLemmas.{length_overlaid, overlaid_before}
use Rattle.cckd_base.specs.declared.geometry.Layout.{Layout}
use Rattle.cckd_base.specs.declared.entry.L2Entry.{L2Entry}
use Rattle.cckd_base.specs.declared.space.Extent.{Extent}
use Rattle.cckd_base.specs.declared.space.Owner.TheVariants.{Table, Track}
use Rattle.cckd_base.specs.Numbers.{bytes_at, number_of}
use Rattle.cckd_base.specs.Geometry.{track_count, area_of, IsLayout}
use Rattle.cckd_base.specs.Entry.{word_at, entry_at, entry_of, entry_by_word, entry_in_table, bytes_by_entry}
use Rattle.cckd_base.specs.Header.{headers_of}
use Rattle.cckd_base.specs.Image.{IsPlace, ShareNoByte}
use Rattle.cckd_base.specs.Misfit.{table_misfit, entry_misfit}
use Rattle.cckd_base.specs.Survey.{Item, header_space, table_space, track_space, table_item, entry_item, kept_after, misfits_after, table_items, kept_tables, tracks_of, entry_items_at, entry_items_in, entry_items, items, misfits, by_position, used_spaces, HasNoMisfit}
use Rattle.cckd_base.proofs.MemberLemmas.{In, range_in}
use Rattle.cckd_base.proofs.CleanLemmas.{clean_parts, surveyed_clean, spaces, all_kept, in_spaces}
use Rattle.cckd_base.proofs.ImageLemmas.{surveyed_apart, word_fits, table_there, entry_fits, track_there}
use Rattle.cckd_base.proofs.PlaceLemmas.{place_or_not, inside_first, inside_second, table_inside, stored_inside, stored_can_be, IsStored, by_word_same, by_zero, by_parent, by_table, bytes_stay, item_is, item_named}
use Rattle.cckd_tables.proofs.WrittenLemmas.{group_low, part_stays, part_written, two_cells}
use Rattle.cckd_layer.specs.Held.{NullBytes}
use Rattle.cckd_layer.specs.Loose.{clipped_entry}
use Rattle.cckd_layer.proofs.HeadLemmas.{headers_kept}

-- ---- lists that are made alike

map_same : {X : Type 0} (f h : ℕ → X) (a n : ℕ) → ((k : ℕ) → a ≤ k → k < a + n → f k ≡ h k) → map f (range_with_len a n) ≡ map h (range_with_len a n)
map_same f h a zero same = refl
map_same f h a (suc n) same =
    let first : f a ≡ h a = same a (omega arith) (omega arith) in
    let rest : map f (range_with_len (a + 1) n) ≡ map h (range_with_len (a + 1) n) = map_same f h (a + 1) n (λ k low high. same k (omega (arith, low)) (omega (arith, high))) in
    cc

flat_same : {X Y : Type 0} (f h : X → List Y) (xs : List X) → ((x : X) → In x xs → f x ≡ h x) → flat_map f xs ≡ flat_map h xs
flat_same f h [] same = refl
flat_same f h (x ∷ xs) same =
    let first : f x ≡ h x = same x (inl refl) in
    let rest : flat_map f xs ≡ flat_map h xs = flat_same f h xs (λ y m. same y (inr m)) in
    cc

-- ---- an entry that is written

-- the entry of a track was written into its table, and nothing else that the file names
pub record Rewritten (l : Layout) (old : List ℕ) (t : ℕ) (e : L2Entry) (new : List ℕ) : Type 0 where
  pub size : length new ≡ length old
  pub headers : headers_of new ≡ headers_of old
  pub words : (g : ℕ) → g < l.groups → word_at l new g ≡ word_at l old g
  pub here : entry_in_table l new (word_at l old (t / 256)) t ≡ e
  pub others : (u : ℕ) → u < track_count l.geo → t ≢ u → IsPlace (word_at l old (u / 256)) → entry_in_table l new (word_at l old (u / 256)) u ≡ entry_in_table l old (word_at l old (u / 256)) u
  pub stored : (u : ℕ) → u < track_count l.geo → IsPlace (entry_at l old u).pos → bytes_at new (entry_at l old u).pos (entry_at l old u).len ≡ bytes_at old (entry_at l old u).pos (entry_at l old u).len

pub rewritten : (l : Layout) (old bytes : List ℕ) (t : ℕ) (e : L2Entry) → IsLayout l → area_of l.groups ≤ length old → HasNoMisfit l old → t < track_count l.geo → IsPlace (word_at l old (t / 256))
    → length bytes ≡ 8 → entry_of l.order bytes ≡ e → Rewritten l old t e (overlaid old (word_at l old (t / 256) + 8 * (t % 256)) bytes)
rewritten l old bytes t e layout area clean low named eight spelled =
    let w = word_at l old (t / 256) in
    let at = w + 8 * (t % 256) in
    let new = overlaid old at bytes in
    let group = group_low l t layout low in
    let k = table_inside l (length old) (t / 256) w (word_fits l old clean (t / 256) group) named in
    let size : length new ≡ length old = omega (arith, length_overlaid old at bytes, eight, k.1) in
    record {
      size = size;
      headers = headers_kept old new (omega (arith, area)) (omega (arith, size)) (λ i inside. overlaid_before old at bytes i (omega (arith, inside, area)) (omega (arith, inside, k.0)));
      words = λ h inside. ap (number_of l.order w32) (part_stays old bytes at 8 (1024 + 4 * h) 4 eight (omega (arith, inside, area)) (inl (omega (arith, inside, k.0))));
      here = ap (entry_of l.order) (part_written old bytes at 8 eight) ∙ spelled;
      others = λ u there differ placed.
          let v = word_at l old (u / 256) in
          let own = group_low l u layout there in
          let ok = table_inside l (length old) (u / 256) v (word_fits l old clean (u / 256) own) placed in
          ap (entry_of l.order) (part_stays old bytes at 8 (v + 8 * (u % 256)) 8 eight (omega (arith, ok.1)) (elim (cases_eq (t / 256) (u / 256)) [
            | inl same ↦ subst (λ (x : ℕ). ShareNoByte (x + 8 * (u % 256)) 8 at 8) (ap (word_at l old) same) (two_cells w t u same differ)
            | inr far ↦ inside_second (v + 8 * (u % 256)) 8 w 2048
                (inside_first v 2048 w 2048
                (surveyed_apart l old (table_space (u / 256) v) (table_space (t / 256) w) clean (table_there l old clean (u / 256) own placed) (table_there l old clean (t / 256) group named)
                (λ same. far (let x : Table (u / 256) ≡ Table (t / 256) = ap (λ (s : Extent). s.owner) same in cc)))
                (v + 8 * (u % 256)) 8 (omega arith) (omega arith)) at 8 (omega arith) (omega arith)
          ]));
      stored = λ u there placed.
          let x = entry_at l old u in
          let s = track_space (length old) u x in
          let f = stored_inside l (length old) u x (entry_fits l old layout clean u there) placed in
          let far = surveyed_apart l old s (table_space (t / 256) w) clean (track_there l old layout clean u there placed) (table_there l old clean (t / 256) group named)
          (λ same. let y : Track u ≡ Table (t / 256) = ap (λ (z : Extent). z.owner) same in cc) in
          part_stays old bytes at 8 x.pos x.len eight f.within
          (inside_second x.pos x.len w 2048 (inside_first x.pos s.size w 2048 far x.pos x.len (omega arith) (omega (arith, f.within, f.holds))) at 8 (omega arith) (omega arith));
    }

-- a track that has stored bytes has a table
pub has_table : (l : Layout) (file : List ℕ) (t : ℕ) → IsPlace (entry_at l file t).pos → IsPlace (word_at l file (t / 256))
has_table l file t place = elim (place_or_not (word_at l file (t / 256))) [
  | inl named ↦ named
  | inr (inl none) ↦ absurd (place.0 (ap (λ (x : L2Entry). x.pos) (by_zero l file (word_at l file (t / 256)) t none)))
  | inr (inr below) ↦ absurd (place.1 (ap (λ (x : L2Entry). x.pos) (by_parent l file (word_at l file (t / 256)) t below)))
]

module _ (l : Layout) (old : List ℕ) (t : ℕ) (new : List ℕ) (layout : IsLayout l) (clean : HasNoMisfit l old) (low : t < track_count l.geo) (place : IsPlace (entry_at l old t).pos)
    (past : length old ≤ (entry_at l old t).pos + (entry_at l old t).size) (done : Rewritten l old t (clipped_entry (length old) (entry_at l old t)) new) where
  group : t / 256 < l.groups
  group = group_low l t layout low

  -- the clipped entry can be, and has the same space
  fits : IsStored l (length old) (entry_at l old t)
  fits = stored_inside l (length old) t (entry_at l old t) (entry_fits l old layout clean t low) place

  pub clipped_fits : entry_misfit l (length old) t (clipped_entry (length old) (entry_at l old t)) ≡ None
  clipped_fits = stored_can_be l (length old) t (clipped_entry (length old) (entry_at l old t)) place
      (record { behind = fits.behind; within = fits.within; holds = omega (arith, fits.within); some = fits.some; short = fits.short })

  same_space : track_space (length old) t (clipped_entry (length old) (entry_at l old t)) ≡ track_space (length old) t (entry_at l old t)
  same_space =
      let e = entry_at l old t in
      let n : min (length old - e.pos) (length old - e.pos) ≡ min e.size (length old - e.pos) = omega (arith, past) in
      ap (λ (s : ℕ). record { pos = e.pos; len = e.len; size = s; owner = Track t }) n

  same_item : entry_item l (length old) t (clipped_entry (length old) (entry_at l old t)) ≡ entry_item l (length old) t (entry_at l old t)
  same_item =
      let e = entry_at l old t in
      let c = clipped_entry (length old) e in
      item_is (entry_misfit l (length old) t c) e.pos (track_space (length old) t c) clipped_fits place
      ∙ (ap (λ (s : Extent). Ok (Some s)) same_space
      ∙ sym (item_is (entry_misfit l (length old) t e) e.pos (track_space (length old) t e) (entry_fits l old layout clean t low) place))

  -- ---- the survey

  same_tables : table_items l new ≡ table_items l old
  unfolding table_items
  same_tables = map_same (λ g. table_item l (length new) g (word_at l new g)) (λ g. table_item l (length old) g (word_at l old g)) 0 l.groups
      (λ g from to. ap (λ (n : ℕ). table_item l n g (word_at l new g)) done.size ∙ ap (table_item l (length old) g) (done.words g (omega (arith, to))))

  named_table : (s : Extent) → In (Ok (Some s)) (table_items l old) → (g : ℕ) × (g < l.groups) × IsPlace (word_at l old g) × (s ≡ table_space g (word_at l old g))
  unfolding table_items
  named_table s m =
      let r = range_in (λ k. table_item l (length old) k (word_at l old k)) 0 l.groups (Ok (Some s)) m in
      let n = item_named (table_misfit l (length old) r.0 (word_at l old r.0)) (word_at l old r.0) (table_space r.0 (word_at l old r.0)) s r.3 in
      (r.0, omega (arith, r.2), n.0, sym n.1)

  same_entry : (u : ℕ) → u < track_count l.geo → IsPlace (word_at l old (u / 256))
      → entry_item l (length new) u (entry_in_table l new (word_at l old (u / 256)) u) ≡ entry_item l (length old) u (entry_in_table l old (word_at l old (u / 256)) u)
  same_entry u there named =
      ap (λ (n : ℕ). entry_item l n u (entry_in_table l new (word_at l old (u / 256)) u)) done.size
      ∙ elim (cases_eq t u) [
        | inl same ↦ subst (λ (k : ℕ). entry_item l (length old) k (entry_in_table l new (word_at l old (k / 256)) k) ≡ entry_item l (length old) k (entry_in_table l old (word_at l old (k / 256)) k)) same
            (ap (entry_item l (length old) t) done.here ∙ (same_item
            ∙ ap (entry_item l (length old) t) (by_table l old (word_at l old (t / 256)) t (subst (λ (k : ℕ). IsPlace (word_at l old (k / 256))) (sym same) named))))
        | inr other ↦ ap (entry_item l (length old) u) (done.others u there other named)
      ]

  same_at : (g : ℕ) → g < l.groups → IsPlace (word_at l old g) → entry_items_at l new (word_at l old g) (Table g) ≡ entry_items_at l old (word_at l old g) (Table g)
  unfolding tracks_of
  same_at g inside named = map_same (λ k. entry_item l (length new) k (entry_in_table l new (word_at l old g) k)) (λ k. entry_item l (length old) k (entry_in_table l old (word_at l old g) k))
      (256 * g) (min 256 (track_count l.geo - 256 * g))
      (λ k from to.
      let mine : k / 256 ≡ g = omega (arith, from, to) in
      subst (λ (h : ℕ). entry_item l (length new) k (entry_in_table l new (word_at l old h) k) ≡ entry_item l (length old) k (entry_in_table l old (word_at l old h) k)) mine
      (same_entry k (omega (arith, from, to)) (subst (λ (h : ℕ). IsPlace (word_at l old h)) (sym mine) named)))

  same_in : (s : Extent) → In s (kept_tables l old) → entry_items_in l new s ≡ entry_items_in l old s
  same_in s m =
      let c = clean_parts (header_space l.groups ∷ []) (table_items l old) (entry_items l old) (surveyed_clean l old clean) in
      let kept : In s (header_space l.groups ∷ spaces (table_items l old)) = subst (In s) (all_kept (header_space l.groups ∷ []) (table_items l old) c.0) m in
      elim kept [
        | inl header ↦ subst (λ (x : Extent). entry_items_in l new x ≡ entry_items_in l old x) header refl
        | inr table ↦
            let g = named_table s (in_spaces s (table_items l old) table) in
            subst (λ (x : Extent). entry_items_in l new x ≡ entry_items_in l old x) (sym g.3) (same_at g.0 g.1 g.2)
      ]

  same_entries : entry_items l new ≡ entry_items l old
  unfolding entry_items
  same_entries =
      ap (λ (is : List Item). flat_map (entry_items_in l new) (kept_after (header_space l.groups ∷ []) is)) same_tables
      ∙ flat_same (entry_items_in l new) (entry_items_in l old) (kept_tables l old) same_in

  same_items : items l new ≡ items l old
  same_items = ap (λ (is : List Item). is ++ entry_items l new) same_tables ∙ ap (λ (is : List Item). table_items l old ++ is) same_entries

  -- it has no misfit, and the same spaces in use
  pub clipped_clean : HasNoMisfit l new
  unfolding misfits
  clipped_clean = ap (misfits_after (header_space l.groups ∷ [])) same_items ∙ clean

  pub clipped_spaces : used_spaces l new ≡ used_spaces l old
  unfolding used_spaces
  clipped_spaces = ap (λ (is : List Item). by_position (kept_after (header_space l.groups ∷ []) is)) same_items

  -- ---- the entries

  pub clipped_here : IsPlace (word_at l old (t / 256)) → entry_at l new t ≡ clipped_entry (length old) (entry_at l old t)
  clipped_here named =
      let w = word_at l old (t / 256) in
      ap (λ (v : ℕ). entry_by_word l new v t) (done.words (t / 256) group) ∙ (by_table l new w t named ∙ done.here)

  pub clipped_others : (u : ℕ) → u < track_count l.geo → t ≢ u → entry_at l new u ≡ entry_at l old u
  clipped_others u there differ =
      let v = word_at l old (u / 256) in
      let own = group_low l u layout there in
      ap (λ (x : ℕ). entry_by_word l new x u) (done.words (u / 256) own)
      ∙ elim (place_or_not v) [
        | inl named ↦ by_table l new v u named ∙ (done.others u there differ named ∙ sym (by_table l old v u named))
        | inr none ↦ by_word_same l old new v u (λ named. absurd (elim none [ inl nothing ↦ named.0 nothing | inr below ↦ named.1 below ]))
      ]

  -- the bytes that the entries give stay
  pub clipped_stored : (null : NullBytes) → IsPlace (word_at l old (t / 256)) → (u : ℕ) → u < track_count l.geo → bytes_by_entry null l new u (entry_at l new u) ≡ bytes_by_entry null l old u (entry_at l old u)
  clipped_stored null named u there =
      let old_bytes = bytes_stay null l old new u (entry_at l old u) (λ placed. done.stored u there placed) in
      elim (cases_eq t u) [
        | inl same ↦ subst (λ (k : ℕ). bytes_by_entry null l new k (entry_at l new k) ≡ bytes_by_entry null l new k (entry_at l old k)) same (ap (bytes_by_entry null l new t) (clipped_here named)) ∙ old_bytes
        | inr other ↦ ap (bytes_by_entry null l new u) (clipped_others u there other) ∙ old_bytes
      ]
