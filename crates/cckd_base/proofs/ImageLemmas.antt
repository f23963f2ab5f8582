-- An image pair by pair, and its survey: each says the other.
use Rattle.std.proofs.Common.{◌≡◌, ◌≢◌, ◌⊎◌, ℕ, ◌+◌, ◌-◌, ◌*◌, ◌/◌, ◌<◌, ◌≤◌, ◌&&◌, min, Bool, true, false, List, [], ◌∷◌, length, Option, Some, None, Ok, refl, sym, ◌∙◌, ap, subst, inl, inr, arith}
use Rattle.std.specs.Prelude.{nat_le, nat_lt}
use Rattle.std.proofs.lemmas.Bool.{cond_both, cases_Bool, cases_lt, lt-ltb, both_ways, cond-true, cond-false}
use Rattle.cckd_base.specs.declared.geometry.Layout.{Layout}
use Rattle.cckd_base.specs.declared.entry.L2Entry.{L2Entry}
use Rattle.cckd_base.specs.declared.space.Extent.{Extent}
use Rattle.cckd_base.specs.declared.space.Owner.TheVariants.{Table, Track}
use Rattle.cckd_base.specs.declared.misfit.Misfit.{Misfit}
use Rattle.cckd_base.specs.declared.misfit.Misfit.TheVariants.{BadEntry, ParentInBase}
use Rattle.cckd_base.specs.Geometry.{track_count, area_of, is_null_format, IsLayout}
use Rattle.cckd_base.specs.Entry.{word_at, entry_at, entry_by_word, entry_in_table, null_entry}
use Rattle.cckd_base.specs.Misfit.{table_misfit, entry_misfit}
use Rattle.cckd_base.specs.Survey.{Item, header_space, table_space, track_space, space_at, item_of, table_item, entry_item, share_a_byte, kept_after, table_items, tracks_of, entry_items_in, entry_items, kept_tables, items, placed_among, by_position, used_spaces, HasNoMisfit}
use Rattle.cckd_base.specs.Image.{IsPlace, ShareNoByte, IsSnug, IsImage}
use Rattle.cckd_base.proofs.MemberLemmas.{In, in_left, in_right, in_split, range_in, flat_in}
use Rattle.cckd_base.proofs.CleanLemmas.{ArePairwise, clean_parts, pairwise_kept, still_kept, item_kept, no_fault, table_in, entry_in, surveyed_clean, spaces, all_kept, in_spaces}
use Rattle.cckd_base.proofs.OrderlyLemmas.{key, IsGood, IsGoodTable, survey_of}
use Rattle.cckd_base.proofs.PlaceLemmas.{place_or_not, turned, tested_apart, table_inside, shadow_of, stored_inside, by_zero, by_parent, by_table, item_is, item_none, item_named}

-- ---- from the survey to the pairs

-- two spaces of the survey that differ share no byte
pub surveyed_apart : (l : Layout) (file : List ℕ) (a b : Extent) → HasNoMisfit l file → In (Ok (Some a)) (items l file) → In (Ok (Some b)) (items l file) → a ≢ b → ShareNoByte a.pos a.size b.pos b.size
surveyed_apart l file a b clean ha hb differ =
    let c = surveyed_clean l file clean in
    let first : ArePairwise (header_space l.groups ∷ []) = λ x y hx hy. elim hx [ inl e ↦ elim hy [ inl f ↦ inl (sym e ∙ f) | inr n ↦ absurd n ] | inr n ↦ absurd n ] in
    elim (pairwise_kept (header_space l.groups ∷ []) (items l file) first c a b (item_kept (header_space l.groups ∷ []) (items l file) a c ha) (item_kept (header_space l.groups ∷ []) (items l file) b c hb)) [
      | inl same ↦ absurd (differ same)
      | inr sharing ↦ elim (cases_lt a.pos (b.pos + b.size)) [
        | inr ge ↦ inr ge
        | inl lt ↦ elim (cases_lt b.pos (a.pos + a.size)) [
          | inr ge ↦ inl ge
          | inl also ↦ absurd (both_ways (share_a_byte a b) sharing (both (nat_lt a.pos (b.pos + b.size)) (nat_lt b.pos (a.pos + a.size)) (lt-ltb a.pos (b.pos + b.size) lt) (lt-ltb b.pos (a.pos + a.size) also)))
        ]
      ]
    ]
  where
    both : (x y : Bool) → x ≡ true → y ≡ true → (x && y) ≡ true
    both true y e f = f
    both false y e f = absurd cc

fault_free : (l : Layout) (file : List ℕ) (o : Option Misfit) (s : Option Extent) → HasNoMisfit l file → In (item_of o s) (items l file) → o ≡ None
fault_free l file None s clean m = refl
fault_free l file (Some x) s clean m = absurd (no_fault (header_space l.groups ∷ []) (items l file) x (surveyed_clean l file clean) m)

module _ (l : Layout) (file : List ℕ) (clean : HasNoMisfit l file) where
  pub word_fits : (g : ℕ) → g < l.groups → table_misfit l (length file) g (word_at l file g) ≡ None
  word_fits g low = fault_free l file (table_misfit l (length file) g (word_at l file g)) (space_at (word_at l file g) (table_space g (word_at l file g))) clean
      (in_left (table_item l (length file) g (word_at l file g)) (table_items l file) (entry_items l file) (table_in l file g low))

  table_listed : (g : ℕ) → g < l.groups → IsPlace (word_at l file g) → In (Ok (Some (table_space g (word_at l file g)))) (table_items l file)
  table_listed g low place = subst (λ (i : Item). In i (table_items l file))
      (item_is (table_misfit l (length file) g (word_at l file g)) (word_at l file g) (table_space g (word_at l file g)) (word_fits g low) place) (table_in l file g low)

  -- the table of a group is surveyed
  pub table_there : (g : ℕ) → g < l.groups → IsPlace (word_at l file g) → In (Ok (Some (table_space g (word_at l file g)))) (items l file)
  table_there g low place = in_left (Ok (Some (table_space g (word_at l file g)))) (table_items l file) (entry_items l file) (table_listed g low place)

  entry_listed : (t : ℕ) → t < track_count l.geo → t / 256 < l.groups → IsPlace (word_at l file (t / 256))
      → In (entry_item l (length file) t (entry_in_table l file (word_at l file (t / 256)) t)) (items l file)
  entry_listed t low group place =
      let g = t / 256 in
      let w = word_at l file g in
      let c = clean_parts (header_space l.groups ∷ []) (table_items l file) (entry_items l file) (surveyed_clean l file clean) in
      let kept : In (table_space g w) (kept_tables l file) = item_kept (header_space l.groups ∷ []) (table_items l file) (table_space g w) c.0 (table_listed g group place) in
      in_right (entry_item l (length file) t (entry_in_table l file w t)) (table_items l file) (entry_items l file) (entry_in l file g w t kept (omega arith) (omega arith) low)

grouped : (l : Layout) (t : ℕ) → IsLayout l → t < track_count l.geo → t / 256 < l.groups
grouped l t layout low = omega (arith, layout.groups, low)

admitted : (l : Layout) → IsLayout l → is_null_format l.geo l.null_fmt ≡ true
admitted l layout = lt-ltb l.null_fmt 2 layout.format

module _ (l : Layout) (file : List ℕ) (layout : IsLayout l) (clean : HasNoMisfit l file) where
  pub entry_fits : (t : ℕ) → t < track_count l.geo → entry_misfit l (length file) t (entry_at l file t) ≡ None
  entry_fits t low =
      let w = word_at l file (t / 256) in
      let group = grouped l t layout low in
      elim (place_or_not w) [
        | inl place ↦ subst (λ (e : L2Entry). entry_misfit l (length file) t e ≡ None) (sym (by_table l file w t place))
            (fault_free l file (entry_misfit l (length file) t (entry_in_table l file w t)) (space_at (entry_in_table l file w t).pos (track_space (length file) t (entry_in_table l file w t))) clean (entry_listed l file clean t low group place))
        | inr (inl zero) ↦ subst (λ (e : L2Entry). entry_misfit l (length file) t e ≡ None) (sym (by_zero l file w t zero))
            (cond-true (is_null_format l.geo l.null_fmt) None (Some (BadEntry t (null_entry l.null_fmt))) (admitted l layout))
        | inr (inr parent) ↦ subst (λ (e : L2Entry). entry_misfit l (length file) t e ≡ None) (sym (by_parent l file w t parent))
            (cond-true l.shadow None (Some (ParentInBase (Track t))) (shadow_of l (length file) (t / 256) w (word_fits l file clean (t / 256) group) parent))
      ]

  -- the stored bytes of a track are surveyed
  pub track_there : (t : ℕ) → t < track_count l.geo → IsPlace (entry_at l file t).pos → In (Ok (Some (track_space (length file) t (entry_at l file t)))) (items l file)
  track_there t low there =
      let w = word_at l file (t / 256) in
      elim (place_or_not w) [
        | inl place ↦
            let e : entry_at l file t ≡ entry_in_table l file w t = by_table l file w t place in
            let listed = entry_listed l file clean t low (grouped l t layout low) place in
            subst (λ (x : L2Entry). In (Ok (Some (track_space (length file) t x))) (items l file)) (sym e)
            (subst (λ (i : Item). In i (items l file))
            (item_is (entry_misfit l (length file) t (entry_in_table l file w t)) (entry_in_table l file w t).pos (track_space (length file) t (entry_in_table l file w t))
            (fault_free l file (entry_misfit l (length file) t (entry_in_table l file w t)) (space_at (entry_in_table l file w t).pos (track_space (length file) t (entry_in_table l file w t))) clean listed)
            (subst (λ (x : L2Entry). IsPlace x.pos) e there)) listed)
        | inr (inl zero) ↦ absurd (there.0 (ap (λ (x : L2Entry). x.pos) (by_zero l file w t zero)))
        | inr (inr parent) ↦ absurd (there.1 (ap (λ (x : L2Entry). x.pos) (by_parent l file w t parent)))
      ]

pub size_is : (l : Layout) (file : List ℕ) (t : ℕ) → IsSnug l file → t < track_count l.geo → IsPlace (entry_at l file t).pos → (track_space (length file) t (entry_at l file t)).size ≡ (entry_at l file t).size
size_is l file t snug low there = let fits = snug t low there in omega (arith, fits)

-- a survey without misfits is that of an image
pub image_of_survey : (l : Layout) (file : List ℕ) → IsLayout l → area_of l.groups ≤ length file → HasNoMisfit l file → IsSnug l file → IsImage l file
image_of_survey l file layout area clean snug = record {
  area = area;
  words = word_fits l file clean;
  entries = entry_fits l file layout clean;
  snug = snug;
  tables_apart = λ g h a b differ p q. surveyed_apart l file (table_space g (word_at l file g)) (table_space h (word_at l file h)) clean (table_there l file clean g a p) (table_there l file clean h b q)
      (λ same. differ (let e : Table g ≡ Table h = ap (λ (x : Extent). x.owner) same in cc));
  beside = λ t g a b p q.
      subst (λ (n : ℕ). ShareNoByte (entry_at l file t).pos n (word_at l file g) 2048) (size_is l file t snug a p)
      (surveyed_apart l file (track_space (length file) t (entry_at l file t)) (table_space g (word_at l file g)) clean (track_there l file layout clean t a p) (table_there l file clean g b q)
      (λ same. let e : Track t ≡ Table g = ap (λ (x : Extent). x.owner) same in cc));
  tracks_apart = λ t u a b differ p q.
      subst (λ (n : ℕ). ShareNoByte (entry_at l file t).pos n (entry_at l file u).pos (entry_at l file u).size) (size_is l file t snug a p)
      (subst (λ (n : ℕ). ShareNoByte (entry_at l file t).pos (track_space (length file) t (entry_at l file t)).size (entry_at l file u).pos n) (size_is l file u snug b q)
      (surveyed_apart l file (track_space (length file) t (entry_at l file t)) (track_space (length file) u (entry_at l file u)) clean (track_there l file layout clean t a p) (track_there l file layout clean u b q)
      (λ same. differ (let e : Track t ≡ Track u = ap (λ (x : Extent). x.owner) same in cc))));
}

-- ---- and back

-- the space is that of the header area, of a table, or of a stored track
abbrev pub IsNamed : Layout → List ℕ → Extent → Type 0
IsNamed l file e =
    (e ≡ header_space l.groups)
    ⊎ (((g : ℕ) × (g < l.groups) × IsPlace (word_at l file g) × (e ≡ table_space g (word_at l file g)))
    ⊎ ((t : ℕ) × (t < track_count l.geo) × IsPlace (entry_at l file t).pos × (e ≡ track_space (length file) t (entry_at l file t))))

both_are : (a b x y : Extent) → a ≡ x → b ≡ y → ShareNoByte x.pos x.size y.pos y.size → ShareNoByte a.pos a.size b.pos b.size
both_are a b x y e f h =
    subst (λ (z : Extent). ShareNoByte z.pos z.size b.pos b.size) (sym e)
    (subst (λ (z : Extent). ShareNoByte x.pos x.size z.pos z.size) (sym f) h)

module _ (l : Layout) (file : List ℕ) (image : IsImage l file) where
  header_and_table : (g : ℕ) → g < l.groups → IsPlace (word_at l file g) → ShareNoByte 0 (area_of l.groups) (word_at l file g) 2048
  header_and_table g low place = let inside = table_inside l (length file) g (word_at l file g) (image.words g low) place in inl (omega (arith, inside.0))

  header_and_track : (t : ℕ) → t < track_count l.geo → IsPlace (entry_at l file t).pos
      → ShareNoByte 0 (area_of l.groups) (entry_at l file t).pos (track_space (length file) t (entry_at l file t)).size
  header_and_track t low place = let s = stored_inside l (length file) t (entry_at l file t) (image.entries t low) place in inl (omega (arith, s.behind))

  table_and_track : (g t : ℕ) → g < l.groups → t < track_count l.geo → IsPlace (word_at l file g) → IsPlace (entry_at l file t).pos
      → ShareNoByte (word_at l file g) 2048 (entry_at l file t).pos (track_space (length file) t (entry_at l file t)).size
  table_and_track g t a b p q =
      subst (λ (n : ℕ). ShareNoByte (word_at l file g) 2048 (entry_at l file t).pos n) (sym (size_is l file t image.snug b q))
      (turned (entry_at l file t).pos (entry_at l file t).size (word_at l file g) 2048 (image.beside t g b a q p))

  track_and_track : (t u : ℕ) → t < track_count l.geo → u < track_count l.geo → t ≢ u → IsPlace (entry_at l file t).pos → IsPlace (entry_at l file u).pos
      → ShareNoByte (entry_at l file t).pos (track_space (length file) t (entry_at l file t)).size (entry_at l file u).pos (track_space (length file) u (entry_at l file u)).size
  track_and_track t u a b differ p q =
      subst (λ (n : ℕ). ShareNoByte (entry_at l file t).pos n (entry_at l file u).pos (track_space (length file) u (entry_at l file u)).size) (sym (size_is l file t image.snug a p))
      (subst (λ (n : ℕ). ShareNoByte (entry_at l file t).pos (entry_at l file t).size (entry_at l file u).pos n) (sym (size_is l file u image.snug b q))
      (image.tracks_apart t u a b differ p q))

  -- two named spaces, the first one surveyed before the second
  named_apart : (a b : Extent) → IsNamed l file a → IsNamed l file b → key l.groups a < key l.groups b → ShareNoByte a.pos a.size b.pos b.size
  named_apart a b (inl e) (inl f) before = absurd (omega (arith, before, ap (key l.groups) e, ap (key l.groups) f))
  named_apart a b (inl e) (inr (inl h)) before = both_are a b (header_space l.groups) (table_space h.0 (word_at l file h.0)) e h.3 (header_and_table h.0 h.1 h.2)
  named_apart a b (inl e) (inr (inr u)) before = both_are a b (header_space l.groups) (track_space (length file) u.0 (entry_at l file u.0)) e u.3 (header_and_track u.0 u.1 u.2)
  named_apart a b (inr (inl g)) (inl f) before = absurd (omega (arith, before, ap (key l.groups) g.3, ap (key l.groups) f))
  named_apart a b (inr (inl g)) (inr (inl h)) before =
      both_are a b (table_space g.0 (word_at l file g.0)) (table_space h.0 (word_at l file h.0)) g.3 h.3
      (image.tables_apart g.0 h.0 g.1 h.1 (λ same. omega (arith, before, same, ap (key l.groups) g.3, ap (key l.groups) h.3)) g.2 h.2)
  named_apart a b (inr (inl g)) (inr (inr u)) before =
      both_are a b (table_space g.0 (word_at l file g.0)) (track_space (length file) u.0 (entry_at l file u.0)) g.3 u.3 (table_and_track g.0 u.0 g.1 u.1 g.2 u.2)
  named_apart a b (inr (inr t)) (inl f) before = absurd (omega (arith, before, ap (key l.groups) t.3, ap (key l.groups) f))
  named_apart a b (inr (inr t)) (inr (inl h)) before = absurd (omega (arith, before, h.1, ap (key l.groups) t.3, ap (key l.groups) h.3))
  named_apart a b (inr (inr t)) (inr (inr u)) before =
      both_are a b (track_space (length file) t.0 (entry_at l file t.0)) (track_space (length file) u.0 (entry_at l file u.0)) t.3 u.3
      (track_and_track t.0 u.0 t.1 u.1 (λ same. omega (arith, before, same, ap (key l.groups) t.3, ap (key l.groups) u.3)) t.2 u.2)

  good_entry : (g t : ℕ) → g < l.groups → IsPlace (word_at l file g) → 256 * g ≤ t → t < 256 * g + 256 → t < track_count l.geo
      → IsGood (IsNamed l file) l.groups (1 + l.groups + t) (entry_item l (length file) t (entry_in_table l file (word_at l file g) t))
  good_entry g t group place low high there =
      let w = word_at l file g in
      let mine : t / 256 ≡ g = omega (arith, low, high) in
      let e : entry_at l file t ≡ entry_in_table l file w t = ap (λ (h : ℕ). entry_by_word l file (word_at l file h) t) mine ∙ by_table l file w t place in
      let known : IsGood (IsNamed l file) l.groups (1 + l.groups + t) (entry_item l (length file) t (entry_at l file t)) =
      elim (place_or_not (entry_at l file t).pos) [
        | inl at ↦ inr (
          track_space (length file) t (entry_at l file t),
          item_is (entry_misfit l (length file) t (entry_at l file t)) (entry_at l file t).pos (track_space (length file) t (entry_at l file t)) (image.entries t there) at,
          inr (inr (t, there, at, refl)),
          refl,
        )
        | inr none ↦ inl (item_none (entry_misfit l (length file) t (entry_at l file t)) (entry_at l file t).pos (track_space (length file) t (entry_at l file t)) (image.entries t there) none)
      ] in
      subst (λ (x : L2Entry). IsGood (IsNamed l file) l.groups (1 + l.groups + t) (entry_item l (length file) t x)) e known

  good_table : (g : ℕ) → g < l.groups → IsGoodTable (IsNamed l file) l file g
  good_table g group =
      let w = word_at l file g in
      elim (place_or_not w) [
        | inl place ↦ inr (
          w,
          item_is (table_misfit l (length file) g w) w (table_space g w) (image.words g group) place,
          inr (inl (g, group, place, refl)),
          λ t low high there. good_entry g t group place low high there,
        )
        | inr none ↦ inl (item_none (table_misfit l (length file) g w) w (table_space g w) (image.words g group) none)
      ]

  -- an image has a survey without misfits
  pub survey_of_image : HasNoMisfit l file
  survey_of_image =
      survey_of (IsNamed l file) l file
      (λ a b x y before. tested_apart a.pos a.size b.pos b.size (named_apart a b x y before))
      (inl refl) good_table

-- ---- the used spaces

in_placed : (e s : Extent) (es : List Extent) → (s ≡ e) ⊎ In e es → In e (placed_among s es)
in_placed e s [] h = h
in_placed e s (x ∷ es) h = cond_both (nat_le s.pos x.pos) (s ∷ x ∷ es) (x ∷ placed_among s es) (In e) (λ _. h) (λ _. elim h [
  | inl same ↦ inr (in_placed e s es (inl same))
  | inr (inl here) ↦ inl here
  | inr (inr m) ↦ inr (in_placed e s es (inr m))
])

pub in_position : (e : Extent) (es : List Extent) → In e es → In e (by_position es)
in_position e [] h = h
in_position e (x ∷ es) h = in_placed e x (by_position es) (elim h [ inl same ↦ inl same | inr m ↦ inr (in_position e es m) ])

-- a space that is surveyed is used
pub surveyed_used : (l : Layout) (file : List ℕ) (s : Extent) → HasNoMisfit l file → In (Ok (Some s)) (items l file) → In s (used_spaces l file)
unfolding used_spaces
surveyed_used l file s clean m =
    in_position s (kept_after (header_space l.groups ∷ []) (items l file)) (item_kept (header_space l.groups ∷ []) (items l file) s (surveyed_clean l file clean) m)

pub header_used : (l : Layout) (file : List ℕ) → HasNoMisfit l file → In (header_space l.groups) (used_spaces l file)
unfolding used_spaces
header_used l file clean =
    in_position (header_space l.groups) (kept_after (header_space l.groups ∷ []) (items l file)) (still_kept (header_space l.groups ∷ []) (items l file) (header_space l.groups) (surveyed_clean l file clean) (inl refl))

-- each space that an image names is used
pub named_used : (l : Layout) (file : List ℕ) (e : Extent) → IsLayout l → HasNoMisfit l file → IsNamed l file e → In e (used_spaces l file)
named_used l file e layout clean (inl is) = subst (λ (x : Extent). In x (used_spaces l file)) (sym is) (header_used l file clean)
named_used l file e layout clean (inr (inl g)) = subst (λ (x : Extent). In x (used_spaces l file)) (sym g.3)
    (surveyed_used l file (table_space g.0 (word_at l file g.0)) clean (table_there l file clean g.0 g.1 g.2))
named_used l file e layout clean (inr (inr t)) = subst (λ (x : Extent). In x (used_spaces l file)) (sym t.3)
    (surveyed_used l file (track_space (length file) t.0 (entry_at l file t.0)) clean (track_there l file layout clean t.0 t.1 t.2))

placed_in : (e s : Extent) (es : List Extent) → In e (placed_among s es) → (s ≡ e) ⊎ In e es
placed_in e s [] h = h
placed_in e s (x ∷ es) h = elim (cases_Bool (nat_le s.pos x.pos)) [
  | inl first ↦ subst (In e) (cond-true (nat_le s.pos x.pos) (s ∷ x ∷ es) (x ∷ placed_among s es) first) h
  | inr later ↦ elim (subst (In e) (cond-false (nat_le s.pos x.pos) (s ∷ x ∷ es) (x ∷ placed_among s es) later) h) [
    | inl here ↦ inr (inl here)
    | inr m ↦ elim (placed_in e s es m) [ inl same ↦ inl same | inr k ↦ inr (inr k) ]
  ]
]

position_in : (e : Extent) (es : List Extent) → In e (by_position es) → In e es
position_in e [] h = h
position_in e (x ∷ es) h = elim (placed_in e x (by_position es) h) [ inl same ↦ inl same | inr m ↦ inr (position_in e es m) ]

module _ (l : Layout) (file : List ℕ) (clean : HasNoMisfit l file) where
  table_named : (e : Extent) → In (Ok (Some e)) (table_items l file)
      → (g : ℕ) × (g < l.groups) × IsPlace (word_at l file g) × (e ≡ table_space g (word_at l file g))
  unfolding table_items
  table_named e m =
      let r = range_in (λ k. table_item l (length file) k (word_at l file k)) 0 l.groups (Ok (Some e)) m in
      let n = item_named (table_misfit l (length file) r.0 (word_at l file r.0)) (word_at l file r.0) (table_space r.0 (word_at l file r.0)) e r.3 in
      (r.0, omega (arith, r.2), n.0, sym n.1)

  track_named : (g t : ℕ) (e : Extent) → IsPlace (word_at l file g) → 256 * g ≤ t → t < 256 * g + 256 → t < track_count l.geo
      → entry_item l (length file) t (entry_in_table l file (word_at l file g) t) ≡ Ok (Some e)
      → IsPlace (entry_at l file t).pos × (e ≡ track_space (length file) t (entry_at l file t))
  track_named g t e place low high there found =
      let w = word_at l file g in
      let mine : t / 256 ≡ g = omega (arith, low, high) in
      let is : entry_at l file t ≡ entry_in_table l file w t = ap (λ (h : ℕ). entry_by_word l file (word_at l file h) t) mine ∙ by_table l file w t place in
      let n = item_named (entry_misfit l (length file) t (entry_in_table l file w t)) (entry_in_table l file w t).pos (track_space (length file) t (entry_in_table l file w t)) e found in
      (subst (λ (x : L2Entry). IsPlace x.pos) (sym is) n.0, sym n.1 ∙ ap (track_space (length file) t) (sym is))

  entry_named : (e : Extent) → In (Ok (Some e)) (entry_items l file)
      → (t : ℕ) × (t < track_count l.geo) × IsPlace (entry_at l file t).pos × (e ≡ track_space (length file) t (entry_at l file t))
  unfolding entry_items tracks_of
  entry_named e m =
      let c = clean_parts (header_space l.groups ∷ []) (table_items l file) (entry_items l file) (surveyed_clean l file clean) in
      let f = flat_in (entry_items_in l file) (Ok (Some e)) (kept_tables l file) m in
      let kept : In f.0 (header_space l.groups ∷ spaces (table_items l file)) = subst (In f.0) (all_kept (header_space l.groups ∷ []) (table_items l file) c.0) f.1 in
      elim kept [
        | inl header ↦ absurd (subst (λ (x : Extent). In (Ok (Some e)) (entry_items_in l file x)) (sym header) f.2)
        | inr table ↦
            let g = table_named f.0 (in_spaces f.0 (table_items l file) table) in
            let there = subst (λ (x : Extent). In (Ok (Some e)) (entry_items_in l file x)) g.3 f.2 in
            let r = range_in (λ k. entry_item l (length file) k (entry_in_table l file (word_at l file g.0) k)) (256 * g.0) (min 256 (track_count l.geo - 256 * g.0)) (Ok (Some e)) there in
            let n = track_named g.0 r.0 e g.2 r.1 (omega (arith, r.2)) (omega (arith, r.1, r.2)) r.3 in
            (r.0, omega (arith, r.1, r.2), n.0, n.1)
      ]

  -- each used space is one that the image names
  pub used_named : (e : Extent) → In e (used_spaces l file) → IsNamed l file e
  unfolding used_spaces
  used_named e m =
      let c = surveyed_clean l file clean in
      let kept : In e (header_space l.groups ∷ spaces (items l file)) =
      subst (In e) (all_kept (header_space l.groups ∷ []) (items l file) c) (position_in e (kept_after (header_space l.groups ∷ []) (items l file)) m) in
      elim kept [
        | inl header ↦ inl (sym header)
        | inr space ↦ elim (in_split (Ok (Some e)) (table_items l file) (entry_items l file) (in_spaces e (items l file) space)) [
          | inl table ↦ inr (inl (table_named e table))
          | inr track ↦ inr (inr (entry_named e track))
        ]
      ]
