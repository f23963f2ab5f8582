-- A survey without misfits: each item is kept, and no two kept spaces share a byte.
use Rattle.std.proofs.Common.{◌≡◌, ◌⊎◌, ℕ, ◌+◌, ◌-◌, ◌*◌, ◌<◌, ◌≤◌, ◌&&◌, min, Bool, true, false, cond, List, [], ◌∷◌, ◌++◌, length, Option, Some, None, Ok, Err, refl, sym, ◌∙◌, ap, subst, inl, inr, arith, append-nil, append_assoc}
use Rattle.std.specs.Prelude.{nat_lt}
use Rattle.std.specs.Option.{option_map, option_to_list, is_none}
use Rattle.std.proofs.lemmas.Bool.{cond_both}
use Rattle.cckd_base.specs.declared.geometry.Layout.{Layout}
use Rattle.cckd_base.specs.declared.space.Extent.{Extent}
use Rattle.cckd_base.specs.declared.misfit.Misfit.{Misfit}
use Rattle.cckd_base.specs.declared.misfit.Misfit.TheVariants.{Overlap}
use Rattle.cckd_base.specs.Geometry.{track_count}
use Rattle.cckd_base.specs.Entry.{word_at, entry_in_table}
use Rattle.cckd_base.specs.Survey.{Item, header_space, table_space, table_item, entry_item, share_a_byte, lower, met, kept_with, misfit_beside, kept_after, misfits_after, table_items, kept_tables, tracks_of, entry_items_in, entry_items, items, misfits, HasNoMisfit}
use Rattle.cckd_base.proofs.MemberLemmas.{In, in_left, in_right, in_split, in_range, in_flat}

-- no item is at fault
abbrev pub IsClean : List Extent → List Item → Type 0
IsClean kept [] = Unit {0}
IsClean kept (i ∷ is) = (misfit_beside kept i ≡ None) × IsClean (kept_with kept i) is

nothing_listed : (o : Option Misfit) (ms : List Misfit) → option_to_list o ++ ms ≡ [] → (o ≡ None) × (ms ≡ [])
nothing_listed None ms h = (refl, h)
nothing_listed (Some m) ms h = absurd cc

pub clean : (kept : List Extent) (is : List Item) → misfits_after kept is ≡ [] → IsClean kept is
clean kept [] h = tt
clean kept (i ∷ is) h = let p = nothing_listed (misfit_beside kept i) (misfits_after (kept_with kept i) is) h in (p.0, clean (kept_with kept i) is p.1)

pub clean_parts : (kept : List Extent) (is js : List Item) → IsClean kept (is ++ js) → IsClean kept is × IsClean (kept_after kept is) js
clean_parts kept [] js h = (tt, h)
clean_parts kept (i ∷ is) js h = let r = clean_parts (kept_with kept i) is js h.1 in ((h.0, r.0), r.1)

-- two spaces are one or share no byte
abbrev pub ArePairwise : List Extent → Type 0
ArePairwise es = (a b : Extent) → In a es → In b es → (a ≡ b) ⊎ (share_a_byte a b ≡ false)

lower_none : (a b : Option Extent) → lower a b ≡ None → (a ≡ None) × (b ≡ None)
lower_none None b h = (refl, h)
lower_none (Some a) None h = absurd cc
lower_none (Some a) (Some b) h = absurd (cond_both (nat_lt b.pos a.pos) (Some b) (Some a) (λ (o : Option Extent). o ≡ None → ⊥) (λ _ e. cc) (λ _ e. cc) h)

unmet_none : (c : Bool) (k : Extent) → cond c (Some k) None ≡ None → c ≡ false
unmet_none true k h = absurd cc
unmet_none false k h = refl

unmet_each : (kept : List Extent) (s k : Extent) → met kept s ≡ None → In k kept → share_a_byte k s ≡ false
unmet_each [] s k h m = absurd m
unmet_each (x ∷ kept) s k h m =
    let p = lower_none (cond (share_a_byte x s) (Some x) None) (met kept s) h in
    elim m [
      | inl e ↦ subst (λ (y : Extent). share_a_byte y s ≡ false) e (unmet_none (share_a_byte x s) x p.0)
      | inr n ↦ unmet_each kept s k p.1 n
    ]

and_turned : (a b : Bool) → (a && b) ≡ false → (b && a) ≡ false
and_turned true true h = h
and_turned true false h = refl
and_turned false true h = refl
and_turned false false h = refl

pairwise_more : (kept : List Extent) (s : Extent) → ArePairwise kept → met kept s ≡ None → ArePairwise (kept ++ s ∷ [])
pairwise_more kept s p none a b ha hb = elim (in_split a kept (s ∷ []) ha) [
  | inl x ↦ elim (in_split b kept (s ∷ []) hb) [
    | inl y ↦ p a b x y
    | inr (inl e) ↦ inr (subst (λ (z : Extent). share_a_byte a z ≡ false) e (unmet_each kept s a none x))
    | inr (inr n) ↦ absurd n
  ]
  | inr (inl e) ↦ elim (in_split b kept (s ∷ []) hb) [
    | inl y ↦ inr (subst (λ (z : Extent). share_a_byte z b ≡ false) e (and_turned (nat_lt b.pos (s.pos + s.size)) (nat_lt s.pos (b.pos + b.size)) (unmet_each kept s b none y)))
    | inr (inl f) ↦ inl (sym e ∙ f)
    | inr (inr n) ↦ absurd n
  ]
  | inr (inr n) ↦ absurd n
]

pub map_none : (o : Option Extent) (s : Extent) → option_map (λ first. Overlap first s) o ≡ None → o ≡ None
map_none None s h = refl
map_none (Some e) s h = absurd cc

pub kept_one : (kept : List Extent) (s : Extent) → met kept s ≡ None → kept_with kept (Ok (Some s)) ≡ kept ++ s ∷ []
kept_one kept s none = ap (λ (o : Option Extent). cond (is_none o) (kept ++ s ∷ []) kept) none

pub pairwise_kept : (kept : List Extent) (is : List Item) → ArePairwise kept → IsClean kept is → ArePairwise (kept_after kept is)
pairwise_kept kept [] p h = p
pairwise_kept kept (Err m ∷ is) p h = absurd (let e : Some m ≡ None = h.0 in cc)
pairwise_kept kept (Ok None ∷ is) p h = pairwise_kept kept is p h.1
pairwise_kept kept (Ok (Some s) ∷ is) p h =
    let none = map_none (met kept s) s h.0 in
    pairwise_kept (kept_with kept (Ok (Some s))) is (subst ArePairwise (sym (kept_one kept s none)) (pairwise_more kept s p none)) h.1

pub still_kept : (kept : List Extent) (is : List Item) (e : Extent) → IsClean kept is → In e kept → In e (kept_after kept is)
still_kept kept [] e h m = m
still_kept kept (Err x ∷ is) e h m = absurd (let k : Some x ≡ None = h.0 in cc)
still_kept kept (Ok None ∷ is) e h m = still_kept kept is e h.1 m
still_kept kept (Ok (Some s) ∷ is) e h m =
    let none = map_none (met kept s) s h.0 in
    still_kept (kept_with kept (Ok (Some s))) is e h.1 (subst (In e) (sym (kept_one kept s none)) (in_left e kept (s ∷ []) m))

pub item_kept : (kept : List Extent) (is : List Item) (s : Extent) → IsClean kept is → In (Ok (Some s)) is → In s (kept_after kept is)
item_kept kept [] s h m = absurd m
item_kept kept (i ∷ is) s h m = elim m [
  | inl e ↦ still_kept (kept_with kept i) is s h.1 (subst (In s) (sym (ap (kept_with kept) e ∙ kept_one kept s (map_none (met kept s) s (subst (λ (j : Item). misfit_beside kept j ≡ None) e h.0)))) (in_right s kept (s ∷ []) (inl refl)))
  | inr n ↦ item_kept (kept_with kept i) is s h.1 n
]

-- each item that is surveyed is no misfit
pub no_fault : (kept : List Extent) (is : List Item) (m : Misfit) → IsClean kept is → In (Err m) is → ⊥
no_fault kept [] m h n = n
no_fault kept (i ∷ is) m h n = elim n [
  | inl e ↦ let k : Some m ≡ None = subst (λ (j : Item). misfit_beside kept j ≡ None) e h.0 in cc
  | inr r ↦ no_fault (kept_with kept i) is m h.1 r
]

-- the items of the tables, and those of the tracks of a table that is kept
pub table_in : (l : Layout) (file : List ℕ) (g : ℕ) → g < l.groups → In (table_item l (length file) g (word_at l file g)) (table_items l file)
unfolding table_items
table_in l file g low = in_range (λ k. table_item l (length file) k (word_at l file k)) 0 l.groups g (omega arith) (omega (arith, low))

pub entry_in : (l : Layout) (file : List ℕ) (g w t : ℕ) → In (table_space g w) (kept_tables l file) → 256 * g ≤ t → t < 256 * g + 256 → t < track_count l.geo
    → In (entry_item l (length file) t (entry_in_table l file w t)) (entry_items l file)
unfolding entry_items tracks_of
entry_in l file g w t kept low high inside =
    in_flat (entry_items_in l file) (table_space g w) (entry_item l (length file) t (entry_in_table l file w t)) (kept_tables l file) kept
    (in_range (λ k. entry_item l (length file) k (entry_in_table l file w k)) (256 * g) (min 256 (track_count l.geo - 256 * g)) t low (omega (arith, high, inside)))

-- the whole survey
pub surveyed_clean : (l : Layout) (file : List ℕ) → HasNoMisfit l file → IsClean (header_space l.groups ∷ []) (items l file)
unfolding misfits
surveyed_clean l file h = clean (header_space l.groups ∷ []) (items l file) h

-- where no item is at fault, there is no misfit
pub no_misfit : (kept : List Extent) (is : List Item) → IsClean kept is → misfits_after kept is ≡ []
no_misfit kept [] h = refl
no_misfit kept (i ∷ is) h = ap (λ o. option_to_list o ++ misfits_after (kept_with kept i) is) h.0 ∙ no_misfit (kept_with kept i) is h.1

-- the spaces that items name
abbrev pub spaces : List Item → List Extent
spaces [] = []
spaces (Err x ∷ is) = spaces is
spaces (Ok None ∷ is) = spaces is
spaces (Ok (Some s) ∷ is) = s ∷ spaces is

-- all of them are kept
pub all_kept : (kept : List Extent) (is : List Item) → IsClean kept is → kept_after kept is ≡ kept ++ spaces is
all_kept kept [] h = sym (append-nil kept)
all_kept kept (Err x ∷ is) h = absurd (let e : Some x ≡ None = h.0 in cc)
all_kept kept (Ok None ∷ is) h = all_kept kept is h.1
all_kept kept (Ok (Some s) ∷ is) h =
    let one = kept_one kept s (map_none (met kept s) s h.0) in
    ap (λ ks. kept_after ks is) one ∙ (all_kept (kept ++ s ∷ []) is (subst (λ (ks : List Extent). IsClean ks is) one h.1) ∙ append_assoc kept (s ∷ []) (spaces is))

pub in_spaces : (s : Extent) (is : List Item) → In s (spaces is) → In (Ok (Some s)) is
in_spaces s [] h = absurd h
in_spaces s (Err x ∷ is) h = inr (in_spaces s is h)
in_spaces s (Ok None ∷ is) h = inr (in_spaces s is h)
in_spaces s (Ok (Some e) ∷ is) h = elim h [ inl same ↦ inl (ap (λ (x : Extent). Ok (Some x)) same) | inr m ↦ inr (in_spaces s is m) ]
