-- Words and entries one by one: what each names, and what it says where it can be.
use Rattle.std.proofs.Common.{◌≡◌, ◌≢◌, ◌⊎◌, ℕ, ◌+◌, ◌*◌, ◌%◌, ◌<◌, ◌≤◌, ◌==◌, ◌&&◌, ◌||◌, Bool, true, false, cond, List, length, drop, get_or, Option, Some, None, Ok, refl, sym, ◌∙◌, ap, inl, inr, arith}
use Rattle.std.specs.Prelude.{nat_lt}
use Rattle.std.proofs.lemmas.Bool.{cases_eq, cond-true, cond-false, eq-eqb, ne_eqb, or_parts, ltb-false, le-ltb, eqb-false}
use Rattle.std.proofs.lemmas.List.{ext_get_or, get_or-take, get_or-drop, length-take, length-drop}
use Rattle.cckd_base.specs.declared.geometry.Geometry.{Geometry}
use Rattle.cckd_base.specs.declared.geometry.Layout.{Layout}
use Rattle.cckd_base.specs.declared.entry.L2Entry.{L2Entry}
use Rattle.cckd_base.specs.declared.space.Extent.{Extent}
use Rattle.cckd_base.specs.declared.space.Owner.TheVariants.{Table, Track}
use Rattle.cckd_base.specs.declared.misfit.Misfit.{Misfit}
use Rattle.cckd_base.specs.declared.misfit.Misfit.TheVariants.{BadTable, BadEntry, ParentInBase}
use Rattle.cckd_base.specs.Numbers.{bytes_at}
use Rattle.cckd_base.specs.Geometry.{area_of, is_null_format}
use Rattle.cckd_base.specs.Entry.{see_parent, null_entry, parent_entry, entry_of, entry_in_table, entry_by_word, bytes_by_entry}
use Rattle.cckd_base.specs.Misfit.{is_misplaced, is_missized, table_misfit, entry_misfit}
use Rattle.cckd_base.specs.Survey.{space_at, item_of}
use Rattle.cckd_base.specs.Image.{IsPlace, ShareNoByte}

-- a position names a space or doesn't
pub place_or_not : (pos : ℕ) → IsPlace pos ⊎ ((pos ≡ 0) ⊎ (pos ≡ see_parent))
place_or_not pos = elim (cases_eq pos 0) [
  | inl zero ↦ inr (inl zero)
  | inr some ↦ elim (cases_eq pos see_parent) [
    | inl parent ↦ inr (inr parent)
    | inr other ↦ inl (some, other)
  ]
]

-- ---- bytes that are not shared

pub turned : (a n b m : ℕ) → ShareNoByte a n b m → ShareNoByte b m a n
turned a n b m (inl h) = inr h
turned a n b m (inr h) = inl h

-- part of the first
pub inside_first : (a n b m : ℕ) → ShareNoByte a n b m → (c k : ℕ) → a ≤ c → c + k ≤ a + n → ShareNoByte c k b m
inside_first a n b m (inl h) c k low high = inl (omega (arith, h, high))
inside_first a n b m (inr h) c k low high = inr (omega (arith, h, low))

-- part of the second
pub inside_second : (a n b m : ℕ) → ShareNoByte a n b m → (c k : ℕ) → b ≤ c → c + k ≤ b + m → ShareNoByte a n c k
inside_second a n b m (inl h) c k low high = inl (omega (arith, h, low))
inside_second a n b m (inr h) c k low high = inr (omega (arith, h, high))

and_none : (x y : Bool) → y ≡ false → (x && y) ≡ false
and_none true y e = e
and_none false y e = refl

and_first : (x y : Bool) → x ≡ false → (x && y) ≡ false
and_first true y e = absurd cc
and_first false y e = refl

-- as the survey tests it
pub tested_apart : (a n b m : ℕ) → ShareNoByte a n b m → (nat_lt a (b + m) && nat_lt b (a + n)) ≡ false
tested_apart a n b m (inl h) = and_none (nat_lt a (b + m)) (nat_lt b (a + n)) (le-ltb b (a + n) h)
tested_apart a n b m (inr h) = and_first (nat_lt a (b + m)) (nat_lt b (a + n)) (le-ltb a (b + m) h)

-- ---- a part of a file that stays

pub part_same : (old new : List ℕ) (place n : ℕ) → place + n ≤ length old → length old ≤ length new
    → ((i : ℕ) → place ≤ i → i < place + n → get_or new i 0 ≡ get_or old i 0) → bytes_at new place n ≡ bytes_at old place n
part_same old new place n within longer same =
    let size : length (bytes_at new place n) ≡ n = omega (arith, length-take n (drop place new), length-drop place new) in
    let old_size : length (bytes_at old place n) ≡ n = omega (arith, length-take n (drop place old), length-drop place old) in
    ext_get_or 0 (bytes_at new place n) (bytes_at old place n) (size ∙ sym old_size)
    (λ i low. let below : i < n = omega (arith, size) in
    get_or-take n (drop place new) i 0 below ∙ (get_or-drop place new i 0
    ∙ (same (place + i) (omega arith) (omega arith) ∙ sym (get_or-take n (drop place old) i 0 below ∙ get_or-drop place old i 0))))

-- ---- tests that passed

not_chosen : (c : Bool) (s : Misfit) → cond c (Some s) None ≡ None → c ≡ false
not_chosen true s e = absurd cc
not_chosen false s e = refl

chosen : (c : Bool) (s : Misfit) → cond c None (Some s) ≡ None → c ≡ true
chosen true s e = refl
chosen false s e = absurd cc

-- a word that names a table: it stands behind the header area and inside the file
pub table_inside : (l : Layout) (n g w : ℕ) → table_misfit l n g w ≡ None → IsPlace w → (area_of l.groups ≤ w) × (w + 2048 ≤ n)
table_inside l n g w h place =
    let inner : cond (is_misplaced l n w 2048) (Some (BadTable g w)) None ≡ None =
    sym (cond-false (w == 0) None _ (ne_eqb w 0 place.0)
    ∙ cond-false (w == see_parent) (cond l.shadow None (Some (ParentInBase (Table g)))) (cond (is_misplaced l n w 2048) (Some (BadTable g w)) None) (ne_eqb w see_parent place.1)) ∙ h in
    let parts = or_parts (nat_lt w (area_of l.groups)) (nat_lt n (w + 2048)) (not_chosen (is_misplaced l n w 2048) (BadTable g w) inner) in
    (ltb-false w (area_of l.groups) parts.0, ltb-false n (w + 2048) parts.1)

both_false : (x y : Bool) → x ≡ false → y ≡ false → (x || y) ≡ false
both_false true y e f = absurd cc
both_false false y e f = f

-- and back
pub table_can_be : (l : Layout) (n g w : ℕ) → IsPlace w → area_of l.groups ≤ w → w + 2048 ≤ n → table_misfit l n g w ≡ None
table_can_be l n g w place behind within =
    let fits = both_false (nat_lt w (area_of l.groups)) (nat_lt n (w + 2048)) (le-ltb w (area_of l.groups) behind) (le-ltb n (w + 2048) within) in
    cond-false (w == 0) None _ (ne_eqb w 0 place.0)
    ∙ (cond-false (w == see_parent) (cond l.shadow None (Some (ParentInBase (Table g)))) (cond (is_misplaced l n w 2048) (Some (BadTable g w)) None) (ne_eqb w see_parent place.1)
    ∙ cond-false (is_misplaced l n w 2048) (Some (BadTable g w)) None fits)

-- a word that sends to the file below is one of a shadow
pub shadow_of : (l : Layout) (n g w : ℕ) → table_misfit l n g w ≡ None → w ≡ see_parent → l.shadow ≡ true
shadow_of l n g w h parent = chosen l.shadow (ParentInBase (Table g))
    (sym (cond-false (w == 0) None (cond (w == see_parent) (cond l.shadow None (Some (ParentInBase (Table g)))) (cond (is_misplaced l n w 2048) (Some (BadTable g w)) None)) (ne_eqb w 0 (λ z. omega (arith, z, parent)))
    ∙ cond-true (w == see_parent) (cond l.shadow None (Some (ParentInBase (Table g)))) (cond (is_misplaced l n w 2048) (Some (BadTable g w)) None) (eq-eqb w see_parent parent)) ∙ h)

-- what an entry of stored bytes says
pub record IsStored (l : Layout) (n : ℕ) (e : L2Entry) : Type 0 where
  pub behind : area_of l.groups ≤ e.pos
  pub within : e.pos + e.len ≤ n
  pub holds : e.len ≤ e.size
  pub some : 0 < e.len
  pub short : e.len ≤ 65528

pub stored_inside : (l : Layout) (n t : ℕ) (e : L2Entry) → entry_misfit l n t e ≡ None → IsPlace e.pos → IsStored l n e
stored_inside l n t e h place =
    let wrong = is_misplaced l n e.pos e.len || is_missized e in
    let inner : cond wrong (Some (BadEntry t e)) None ≡ None =
    sym (cond-false (e.pos == 0) (cond (is_null_format l.geo e.len) None (Some (BadEntry t e))) _ (ne_eqb e.pos 0 place.0)
    ∙ cond-false (e.pos == see_parent) (cond l.shadow None (Some (ParentInBase (Track t)))) (cond wrong (Some (BadEntry t e)) None) (ne_eqb e.pos see_parent place.1)) ∙ h in
    let parts = or_parts (is_misplaced l n e.pos e.len) (is_missized e) (not_chosen wrong (BadEntry t e) inner) in
    let places = or_parts (nat_lt e.pos (area_of l.groups)) (nat_lt n (e.pos + e.len)) parts.0 in
    let sizes = or_parts (e.len == 0 || nat_lt 65528 e.len) (nat_lt e.size e.len) parts.1 in
    let lengths = or_parts (e.len == 0) (nat_lt 65528 e.len) sizes.0 in
    record {
      behind = ltb-false e.pos (area_of l.groups) places.0;
      within = ltb-false n (e.pos + e.len) places.1;
      holds = ltb-false e.size e.len sizes.1;
      some = let none = eqb-false e.len 0 lengths.0 in omega (arith, none);
      short = ltb-false 65528 e.len lengths.1;
    }

-- and back
pub stored_can_be : (l : Layout) (n t : ℕ) (e : L2Entry) → IsPlace e.pos → IsStored l n e → entry_misfit l n t e ≡ None
stored_can_be l n t e place s =
    let wrong = is_misplaced l n e.pos e.len || is_missized e in
    let placed = both_false (nat_lt e.pos (area_of l.groups)) (nat_lt n (e.pos + e.len)) (le-ltb e.pos (area_of l.groups) s.behind) (le-ltb n (e.pos + e.len) s.within) in
    let some : e.len ≢ 0 = λ z. omega (arith, s.some, z) in
    let lengths = both_false (e.len == 0) (nat_lt 65528 e.len) (ne_eqb e.len 0 some) (le-ltb 65528 e.len s.short) in
    let sizes = both_false (e.len == 0 || nat_lt 65528 e.len) (nat_lt e.size e.len) lengths (le-ltb e.size e.len s.holds) in
    cond-false (e.pos == 0) (cond (is_null_format l.geo e.len) None (Some (BadEntry t e))) _ (ne_eqb e.pos 0 place.0)
    ∙ (cond-false (e.pos == see_parent) (cond l.shadow None (Some (ParentInBase (Track t)))) (cond wrong (Some (BadEntry t e)) None) (ne_eqb e.pos see_parent place.1)
    ∙ cond-false wrong (Some (BadEntry t e)) None (both_false (is_misplaced l n e.pos e.len) (is_missized e) placed sizes))

-- ---- in a longer file

longer_case : (a b c d : Bool) (A : Option Misfit) (B : Option Misfit) (s : Misfit) → (c ≡ false → d ≡ false)
    → cond a A (cond b B (cond c (Some s) None)) ≡ None → cond a A (cond b B (cond d (Some s) None)) ≡ None
longer_case true b c d A B s step h = h
longer_case false true c d A B s step h = h
longer_case false false true d A B s step h = absurd cc
longer_case false false false d A B s step h = cond-false d (Some s) None (step refl)

longer_or : (p q r y : Bool) → (q ≡ false → r ≡ false) → ((p || q) || y) ≡ false → ((p || r) || y) ≡ false
longer_or true q r y step h = h
longer_or false true r y step h = absurd cc
longer_or false false r y step h = ap (λ (b : Bool). b || y) (step refl) ∙ h

end_or : (p q r : Bool) → (q ≡ false → r ≡ false) → (p || q) ≡ false → (p || r) ≡ false
end_or true q r step h = h
end_or false q r step h = step h

longer : (n m end : ℕ) → n ≤ m → nat_lt n end ≡ false → nat_lt m end ≡ false
longer n m end more k = le-ltb m end (omega (arith, ltb-false n end k, more))

-- an entry that can be, can be in a longer file
pub entry_longer : (l : Layout) (n m t : ℕ) (e : L2Entry) → n ≤ m → entry_misfit l n t e ≡ None → entry_misfit l m t e ≡ None
entry_longer l n m t e more h =
    longer_case (e.pos == 0) (e.pos == see_parent) (is_misplaced l n e.pos e.len || is_missized e) (is_misplaced l m e.pos e.len || is_missized e)
    (cond (is_null_format l.geo e.len) None (Some (BadEntry t e))) (cond l.shadow None (Some (ParentInBase (Track t)))) (BadEntry t e)
    (longer_or (nat_lt e.pos (area_of l.groups)) (nat_lt n (e.pos + e.len)) (nat_lt m (e.pos + e.len)) (is_missized e)
    (longer n m (e.pos + e.len) more)) h

-- so can a word
pub table_longer : (l : Layout) (n m g w : ℕ) → n ≤ m → table_misfit l n g w ≡ None → table_misfit l m g w ≡ None
table_longer l n m g w more h =
    longer_case (w == 0) (w == see_parent) (is_misplaced l n w 2048) (is_misplaced l m w 2048) None (cond l.shadow None (Some (ParentInBase (Table g)))) (BadTable g w)
    (end_or (nat_lt w (area_of l.groups)) (nat_lt n (w + 2048)) (nat_lt m (w + 2048)) (longer n m (w + 2048) more)) h

-- ---- the entry by a word

pub by_zero : (l : Layout) (file : List ℕ) (w t : ℕ) → w ≡ 0 → entry_by_word l file w t ≡ null_entry l.null_fmt
by_zero l file w t zero = cond-true (w == 0) (null_entry l.null_fmt) _ (eq-eqb w 0 zero)

pub by_parent : (l : Layout) (file : List ℕ) (w t : ℕ) → w ≡ see_parent → entry_by_word l file w t ≡ parent_entry
by_parent l file w t parent =
    cond-false (w == 0) (null_entry l.null_fmt) (cond (w == see_parent) parent_entry (entry_in_table l file w t)) (ne_eqb w 0 (λ z. omega (arith, z, parent)))
    ∙ cond-true (w == see_parent) parent_entry (entry_in_table l file w t) (eq-eqb w see_parent parent)

pub by_table : (l : Layout) (file : List ℕ) (w t : ℕ) → IsPlace w → entry_by_word l file w t ≡ entry_in_table l file w t
by_table l file w t place =
    cond-false (w == 0) (null_entry l.null_fmt) _ (ne_eqb w 0 place.0) ∙ cond-false (w == see_parent) parent_entry (entry_in_table l file w t) (ne_eqb w see_parent place.1)

-- the entry by a word whose table stays
pub by_word_same : (l : Layout) (old new : List ℕ) (w t : ℕ) → (IsPlace w → bytes_at new (w + 8 * (t % 256)) 8 ≡ bytes_at old (w + 8 * (t % 256)) 8)
    → entry_by_word l new w t ≡ entry_by_word l old w t
by_word_same l old new w t same = elim (place_or_not w) [
  | inl place ↦ ap (λ (e : L2Entry). cond (w == 0) (null_entry l.null_fmt) (cond (w == see_parent) parent_entry e)) (ap (entry_of l.order) (same place))
  | inr (inl zero) ↦ by_zero l new w t zero ∙ sym (by_zero l old w t zero)
  | inr (inr parent) ↦ by_parent l new w t parent ∙ sym (by_parent l old w t parent)
]

-- ---- the bytes by an entry

pub null_bytes : (null : Geometry → ℕ → ℕ → List ℕ) (l : Layout) (file : List ℕ) (t : ℕ) (e : L2Entry) → e.pos ≡ 0 → bytes_by_entry null l file t e ≡ Some (null l.geo t e.len)
null_bytes null l file t e zero = cond-true (e.pos == 0) (Some (null l.geo t e.len)) _ (eq-eqb e.pos 0 zero)

pub parent_bytes : (null : Geometry → ℕ → ℕ → List ℕ) (l : Layout) (file : List ℕ) (t : ℕ) (e : L2Entry) → e.pos ≡ see_parent → bytes_by_entry null l file t e ≡ None
parent_bytes null l file t e parent =
    cond-false (e.pos == 0) (Some (null l.geo t e.len)) _ (ne_eqb e.pos 0 (λ z. omega (arith, z, parent)))
    ∙ cond-true (e.pos == see_parent) None (Some (bytes_at file e.pos e.len)) (eq-eqb e.pos see_parent parent)

pub placed_bytes : (null : Geometry → ℕ → ℕ → List ℕ) (l : Layout) (file : List ℕ) (t : ℕ) (e : L2Entry) → IsPlace e.pos → bytes_by_entry null l file t e ≡ Some (bytes_at file e.pos e.len)
placed_bytes null l file t e place =
    cond-false (e.pos == 0) (Some (null l.geo t e.len)) _ (ne_eqb e.pos 0 place.0)
    ∙ cond-false (e.pos == see_parent) None (Some (bytes_at file e.pos e.len)) (ne_eqb e.pos see_parent place.1)

-- the bytes by an entry whose space stays
pub bytes_stay : (null : Geometry → ℕ → ℕ → List ℕ) (l : Layout) (old new : List ℕ) (t : ℕ) (e : L2Entry)
    → (IsPlace e.pos → bytes_at new e.pos e.len ≡ bytes_at old e.pos e.len) → bytes_by_entry null l new t e ≡ bytes_by_entry null l old t e
bytes_stay null l old new t e same = elim (place_or_not e.pos) [
  | inl place ↦ placed_bytes null l new t e place ∙ (ap (λ (bs : List ℕ). Some bs) (same place) ∙ sym (placed_bytes null l old t e place))
  | inr (inl zero) ↦ null_bytes null l new t e zero ∙ sym (null_bytes null l old t e zero)
  | inr (inr parent) ↦ parent_bytes null l new t e parent ∙ sym (parent_bytes null l old t e parent)
]

-- ---- items of the survey

space_is : (pos : ℕ) (s : Extent) → IsPlace pos → space_at pos s ≡ Some s
space_is pos s place = cond-false (pos == 0) None (cond (pos == see_parent) None (Some s)) (ne_eqb pos 0 place.0) ∙ cond-false (pos == see_parent) None (Some s) (ne_eqb pos see_parent place.1)

-- the item of what can be and names a space
pub item_is : (o : Option Misfit) (pos : ℕ) (s : Extent) → o ≡ None → IsPlace pos → item_of o (space_at pos s) ≡ Ok (Some s)
item_is o pos s e place = ap (λ (x : Option Misfit). item_of x (space_at pos s)) e ∙ ap (λ (x : Option Extent). item_of None x) (space_is pos s place)

space_none : (pos : ℕ) (s : Extent) → (pos ≡ 0) ⊎ (pos ≡ see_parent) → space_at pos s ≡ None
space_none pos s (inl zero) = cond-true (pos == 0) None (cond (pos == see_parent) None (Some s)) (eq-eqb pos 0 zero)
space_none pos s (inr parent) =
    cond-false (pos == 0) None (cond (pos == see_parent) None (Some s)) (ne_eqb pos 0 (λ z. omega (arith, z, parent))) ∙ cond-true (pos == see_parent) None (Some s) (eq-eqb pos see_parent parent)

-- the item of what can be and names none
pub item_none : (o : Option Misfit) (pos : ℕ) (s : Extent) → o ≡ None → (pos ≡ 0) ⊎ (pos ≡ see_parent) → item_of o (space_at pos s) ≡ Ok None
item_none o pos s e none = ap (λ (x : Option Misfit). item_of x (space_at pos s)) e ∙ ap (λ (x : Option Extent). item_of None x) (space_none pos s none)

-- an item with a space comes of what names it
pub item_named : (o : Option Misfit) (pos : ℕ) (s e : Extent) → item_of o (space_at pos s) ≡ Ok (Some e) → IsPlace pos × (s ≡ e)
item_named (Some m) pos s e h = absurd (cc h)
item_named None pos s e h = elim (place_or_not pos) [
  | inl place ↦ let is = space_is pos s place in (place, let k = ap (λ (x : Option Extent). item_of None x) (sym is) ∙ h in cc k)
  | inr none ↦ let is = space_none pos s none in absurd (let k = ap (λ (x : Option Extent). item_of None x) (sym is) ∙ h in cc k)
]
