-- A new image is sound, and nothing is stored in it.
use Rattle.std.proofs.Common.{◌≡◌, ℕ, ◌-◌, ◌*◌, ◌/◌, ◌<◌, ◌≤◌, Bool, true, false, cond, List, [], ◌∷◌, ◌++◌, length, take, drop, replicate, Some, None, Ok, refl, sym, ◌∙◌, ap, subst, inl, inr, arith, append_assoc, length-append}
use Rattle.std.specs.Int.{w32}
use Rattle.std.specs.List.{flat_map}
use Rattle.std.specs.Option.{option_to_list}
use Rattle.std.proofs.lemmas.List.{take_at, drop_at, drop-drop, drop-replicate, take-replicate, length-replicate}
use Rattle.cckd_base.specs.declared.geometry.Geometry.{Geometry}
use Rattle.cckd_base.specs.declared.geometry.Layout.{Layout}
use Rattle.cckd_base.specs.declared.order.Order.TheVariants.{Little}
use Rattle.cckd_base.specs.declared.entry.L2Entry.{L2Entry}
use Rattle.cckd_base.specs.declared.space.Extent.{Extent}
use Rattle.cckd_base.specs.declared.misfit.Misfit.TheVariants.{ParentInBase}
use Rattle.cckd_base.specs.declared.space.Owner.TheVariants.{Table}
use Rattle.cckd_base.specs.Geometry.{track_count, area_of, format_limit, IsLayout}
use Rattle.cckd_base.specs.Numbers.{number_of}
use Rattle.cckd_base.specs.Header.{base_identifier, shadow_identifier, headers_of, header_fault, layout_of}
use Rattle.cckd_base.specs.Entry.{see_parent, word_at, entry_at, entry_by_word, null_entry, parent_entry, bytes_by_entry}
use Rattle.cckd_base.specs.Survey.{Item, header_space, table_space, space_at, item_of, table_item, kept_with, misfit_beside, kept_after, misfits_after, table_items, entry_items, entry_items_in, items, misfits, by_position, used_spaces, HasNoMisfit}
use Rattle.cckd_base.specs.Image.{IsHeaded, IsPlace}
use Rattle.cckd_base.proofs.MemberLemmas.{In, in_split, range_in}
use Rattle.cckd_base.proofs.PlaceLemmas.{by_zero, by_parent}
use Rattle.cckd_image.specs.declared.roles.Roles.{Roles}
use Rattle.cckd_image.specs.declared.roles.Roles.TheVariants.{Base, Shadow}
use Rattle.cckd_image.specs.Image.{identifiers_of, header_of, header_bytes}
use Rattle.cckd_image.specs.Fresh.{is_new_shadow, new_layout, new_header}
use Rattle.cckd_image.proofs.FreshLemmas.{new_back, new_long, new_sound, bytes_say}
use Rattle.cckd_make.specs.NewImage.{made_layout, new_words, new_image, identifier_for, IsNew}

-- ---- its headers

made_is : (l : Layout) → IsLayout l → IsLayout (made_layout l)
made_is l h = record { geometry = h.geometry; groups = h.groups; format = h.format }

short : (l : Layout) → IsLayout l → area_of l.groups ≤ format_limit
short l h = omega (arith, h.groups, h.geometry.most_tracks)

pub image_long : (l : Layout) → length (new_image l) ≡ area_of l.groups
unfolding new_image
image_long l =
    omega (
      arith,
      length-append (header_bytes (new_header (made_layout l))) (new_words l),
      new_long (made_layout l),
      length-replicate {A = ℕ} (4 * l.groups) (cond l.shadow 255 0),
    )

headers_are : (l : Layout) → headers_of (new_image l) ≡ header_bytes (new_header (made_layout l))
unfolding new_image
headers_are l =
    let both = header_bytes (new_header (made_layout l)) in
    ap (take 1024) (append_assoc both (new_words l) (replicate 1024 0)) ∙ take_at both (new_words l ++ replicate 1024 0) 1024 (new_long (made_layout l))

-- the role of a new image
abbrev role_for : Bool → Roles
role_for true = Shadow
role_for false = Base

role_is : (shadow : Bool) → is_new_shadow (role_for shadow) shadow ≡ shadow
role_is true = refl
role_is false = refl

role_named : (shadow : Bool) → identifiers_of (role_for shadow) ≡ cond shadow shadow_identifier base_identifier ∷ []
role_named true = refl
role_named false = refl

layout_is : (l : Layout) → new_layout (role_for l.shadow) l ≡ made_layout l
layout_is l = λ i. record l { order = Little; shadow = role_is l.shadow i }

headed : (l : Layout) → IsLayout l → IsHeaded (identifier_for l ∷ []) (made_layout l) (new_image l)
headed l h =
    let file = new_image l in
    let n = made_layout l in
    let both = header_bytes (new_header n) in
    let fault = new_sound (role_for l.shadow) l (length file) h (omega (arith, image_long l), omega (arith, image_long l, short l h)) in
    record {
      sound = ap (λ (x : List ℕ). header_fault (identifier_for l ∷ []) x (length file)) (headers_are l)
          ∙ (λ i. header_fault (sym (role_named l.shadow) i) (header_bytes (new_header (sym (layout_is l) i))) (length file)) ∙ fault;
      says = sym (layout_is l) ∙ sym (bytes_say (role_for l.shadow) l h) ∙ ap (λ (x : Layout). layout_of (header_bytes (new_header x))) (layout_is l)
          ∙ ap layout_of (sym (headers_are l));
    }

-- ---- its words

abbrev word_for : Bool → ℕ
word_for shadow = cond shadow see_parent 0

number_for : (shadow : Bool) → number_of Little w32 (replicate 4 (cond shadow 255 0)) ≡ word_for shadow
number_for true = refl
number_for false = refl

word_is : (l : Layout) (g : ℕ) → g < l.groups → word_at (made_layout l) (new_image l) g ≡ word_for l.shadow
unfolding new_image
word_is l g low =
    let both = header_bytes (new_header (made_layout l)) in
    let v = cond l.shadow 255 0 in
    ap (λ (s : List ℕ). number_of Little w32 (take 4 s)) (sym (drop-drop (4 * g) 1024 (both ++ new_words l)) ∙ ap (drop (4 * g)) (drop_at both (new_words l) 1024 (new_long (made_layout l)))
    ∙ drop-replicate (4 * g) (4 * l.groups) v)
    ∙ ap (number_of Little w32) (take-replicate 4 (4 * l.groups - 4 * g) v (omega (arith, low)))
    ∙ number_for l.shadow

-- ---- none of its tables and tracks is there

item_by : (n : Layout) (len g w : ℕ) (shadow : Bool) → n.shadow ≡ shadow → w ≡ word_for shadow → table_item n len g w ≡ Ok None
item_by n len g w true e f =
    subst (λ (k : ℕ). table_item n len g k ≡ Ok None) (sym f)
    (ap (λ (b : Bool). item_of (cond b None (Some (ParentInBase (Table g)))) (space_at see_parent (table_space g see_parent))) e)
item_by n len g w false e f = subst (λ (k : ℕ). table_item n len g k ≡ Ok None) (sym f) refl

no_table : (l : Layout) (i : Item) → In i (table_items (made_layout l) (new_image l)) → i ≡ Ok None
unfolding table_items
no_table l i m =
    let n = made_layout l in
    let file = new_image l in
    let r = range_in (λ k. table_item n (length file) k (word_at n file k)) 0 l.groups i m in
    sym r.3 ∙ item_by n (length file) r.0 (word_at n file r.0) l.shadow refl (word_is l r.0 (omega (arith, r.2)))

none_kept : (kept : List Extent) (is : List Item) → ((i : Item) → In i is → i ≡ Ok None) → kept_after kept is ≡ kept
none_kept kept [] f = refl
none_kept kept (i ∷ is) f = ap (λ (x : Item). kept_after (kept_with kept x) is) (f i (inl refl)) ∙ none_kept kept is (λ j m. f j (inr m))

none_misfit : (kept : List Extent) (is : List Item) → ((i : Item) → In i is → i ≡ Ok None) → misfits_after kept is ≡ []
none_misfit kept [] f = refl
none_misfit kept (i ∷ is) f =
    ap (λ (x : Item). option_to_list (misfit_beside kept x) ++ misfits_after (kept_with kept x) is) (f i (inl refl)) ∙ none_misfit kept is (λ j m. f j (inr m))

no_entries : (l : Layout) → entry_items (made_layout l) (new_image l) ≡ []
unfolding entry_items
no_entries l =
    ap (flat_map (entry_items_in (made_layout l) (new_image l))) (none_kept (header_space l.groups ∷ []) (table_items (made_layout l) (new_image l)) (no_table l))

no_item : (l : Layout) (i : Item) → In i (items (made_layout l) (new_image l)) → i ≡ Ok None
no_item l i m =
    let n = made_layout l in
    elim (in_split i (table_items n (new_image l)) (entry_items n (new_image l)) m) [
      | inl table ↦ no_table l i table
      | inr entry ↦ absurd (subst (In i) (no_entries l) entry)
    ]

clean : (l : Layout) → HasNoMisfit (made_layout l) (new_image l)
unfolding misfits
clean l = none_misfit (header_space l.groups ∷ []) (items (made_layout l) (new_image l)) (no_item l)

spaces_are : (l : Layout) → used_spaces (made_layout l) (new_image l) ≡ header_space l.groups ∷ []
unfolding used_spaces
spaces_are l = ap by_position (none_kept (header_space l.groups ∷ []) (items (made_layout l) (new_image l)) (no_item l))

abbrev entry_for : Bool → ℕ → L2Entry
entry_for shadow format = cond shadow parent_entry (null_entry format)

entry_by : (n : Layout) (file : List ℕ) (w t : ℕ) (shadow : Bool) → w ≡ word_for shadow → entry_by_word n file w t ≡ entry_for shadow n.null_fmt
entry_by n file w t true e = by_parent n file w t e
entry_by n file w t false e = by_zero n file w t e

entry_is : (l : Layout) (t : ℕ) → IsLayout l → t < track_count l.geo → entry_at (made_layout l) (new_image l) t ≡ entry_for l.shadow l.null_fmt
entry_is l t h low =
    let n = made_layout l in
    entry_by n (new_image l) (word_at n (new_image l) (t / 256)) t l.shadow (word_is l (t / 256) (omega (arith, h.groups, low)))

no_place : (shadow : Bool) (format : ℕ) → IsPlace (entry_for shadow format).pos → ⊥
no_place true format place = place.1 refl
no_place false format place = place.0 refl

bytes_for : (null : Geometry → ℕ → ℕ → List ℕ) (n : Layout) (file : List ℕ) (t : ℕ) (shadow : Bool)
    → bytes_by_entry null n file t (entry_for shadow n.null_fmt) ≡ cond shadow None (Some (null n.geo t n.null_fmt))
bytes_for null n file t true = refl
bytes_for null n file t false = refl

pub is_new : (l : Layout) → IsLayout l → IsNew l (new_image l)
is_new l h = record {
  sound = record { headed = headed l h; clean = clean l };
  snug = λ t low place. absurd (no_place l.shadow l.null_fmt (subst (λ (e : L2Entry). IsPlace e.pos) (entry_is l t h low) place));
  header = ap header_of (headers_are l) ∙ new_back (made_layout l) (made_is l h);
  ends = image_long l;
  spaces = spaces_are l;
  each = λ null t low.
      ap (bytes_by_entry null (made_layout l) (new_image l) t) (entry_is l t h low) ∙ bytes_for null (made_layout l) (new_image l) t l.shadow;
}
