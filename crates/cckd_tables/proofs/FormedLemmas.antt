-- What the spaces of items are like.
use Rattle.std.proofs.Common.{◌≡◌, ℕ, zero, suc, ◌+◌, ◌*◌, ◌<◌, ◌≤◌, ◌==◌, nat_lt, Bool, true, false, cond, ◌||◌, List, [], ◌∷◌, ◌++◌, map, Some, None, Ok, Err, refl, sym, subst, arith}
use Rattle.std.specs.List.{range_with_len, AllByRecursion}
use Rattle.std.specs.Option.{is_none}
use Rattle.std.specs.Int.{w32}
use Rattle.std.proofs.lemmas.Bool.{cond_both, or_parts, ltb-false, eqb-false}
use Rattle.cckd_base.specs.declared.geometry.Layout.{Layout}
use Rattle.cckd_base.specs.declared.entry.L2Entry.{L2Entry}
use Rattle.cckd_base.specs.declared.space.Extent.{Extent}
use Rattle.cckd_base.specs.declared.space.Owner.TheVariants.{Table, Track}
use Rattle.cckd_base.specs.declared.misfit.Misfit.{Misfit}
use Rattle.cckd_base.specs.declared.misfit.Misfit.TheVariants.{BadTable, BadEntry, ParentInBase}
use Rattle.cckd_base.specs.Geometry.{is_null_format}
use Rattle.cckd_base.specs.Numbers.{number_at}
use Rattle.cckd_base.specs.Entry.{see_parent}
use Rattle.cckd_base.specs.Misfit.{is_misplaced, is_missized}
use Rattle.cckd_base.specs.Survey.{Item, item_of, table_item, entry_item, table_space, track_space, header_space, met, kept_with, kept_after}
use Rattle.cckd_tables.specs.Inside.{items_of_words, IsFormed, HasFormed, IsTableSpace, AreTableSpaces}

-- the tests that an item with a space passes
chosen : (a k b s c : Bool) (m n o : Misfit) (space x : Extent)
    → item_of (cond a (cond k None (Some m)) (cond b (cond s None (Some n)) (cond c (Some o) None))) (cond a None (cond b None (Some space))) ≡ Ok (Some x)
    → (c ≡ false) × (x ≡ space)
chosen true true b s c m n o space x h = absurd cc
chosen true false b s c m n o space x h = absurd cc
chosen false k true true c m n o space x h = absurd cc
chosen false k true false c m n o space x h = absurd cc
chosen false k false s true m n o space x h = absurd cc
chosen false k false s false m n o space x h = (refl, cc)

table_chosen : (l : Layout) (n group word : ℕ) (x : Extent) → table_item l n group word ≡ Ok (Some x)
    → (is_misplaced l n word 2048 ≡ false) × (x ≡ table_space group word)
table_chosen l n group word x h =
    chosen (word == 0) true (word == see_parent) l.shadow (is_misplaced l n word 2048) (BadTable group word) (ParentInBase (Table group)) (BadTable group word)
    (table_space group word) x h

entry_chosen : (l : Layout) (n t : ℕ) (e : L2Entry) (x : Extent) → entry_item l n t e ≡ Ok (Some x)
    → ((is_misplaced l n e.pos e.len || is_missized e) ≡ false) × (x ≡ track_space n t e)
entry_chosen l n t e x h =
    chosen (e.pos == 0) (is_null_format l.geo e.len) (e.pos == see_parent) l.shadow (is_misplaced l n e.pos e.len || is_missized e)
    (BadEntry t e) (ParentInBase (Track t)) (BadEntry t e) (track_space n t e) x h

placed : (l : Layout) (n pos len : ℕ) → is_misplaced l n pos len ≡ false → pos + len ≤ n
placed l n pos len h = ltb-false n (pos + len) (or_parts _ _ h).1

table_formed : (l : Layout) (n group word : ℕ) (x : Extent) → table_item l n group word ≡ Ok (Some x) → IsFormed n x
table_formed l n group word x h =
    let c = table_chosen l n group word x h in
    let p = placed l n word 2048 c.0 in
    subst (IsFormed n) (sym c.1) (record { some = omega arith; holds = omega arith; within = p })

table_named : (l : Layout) (n group word : ℕ) (x : Extent) → group < l.groups → table_item l n group word ≡ Ok (Some x)
    → IsTableSpace l.groups x.size x.owner
table_named l n group word x g h =
    subst (λ (e : Extent). IsTableSpace l.groups e.size e.owner) (sym (table_chosen l n group word x h).1) (g, refl)

entry_formed : (l : Layout) (n t : ℕ) (e : L2Entry) (x : Extent) → entry_item l n t e ≡ Ok (Some x) → IsFormed n x
entry_formed l n t e x h =
    let c = entry_chosen l n t e x h in
    let tests = or_parts (is_misplaced l n e.pos e.len) (is_missized e) c.0 in
    let p = placed l n e.pos e.len tests.0 in
    let sizes = or_parts ((e.len == 0) || nat_lt 65528 e.len) (nat_lt e.size e.len) tests.1 in
    let some : e.len ≡ 0 → ⊥ = eqb-false e.len 0 (or_parts (e.len == 0) (nat_lt 65528 e.len) sizes.0).0 in
    let fits = ltb-false e.size e.len sizes.1 in
    let least : 1 ≤ e.len = omega arith in
    subst (IsFormed n) (sym c.1) (record { some = least; holds = omega arith; within = omega arith })

-- an item is of a formed space, if of one
pub table_item_formed : (l : Layout) (n group word : ℕ) (item : Item) → item ≡ table_item l n group word → HasFormed n item
table_item_formed l n group word (Err m) e = tt
table_item_formed l n group word (Ok None) e = tt
table_item_formed l n group word (Ok (Some x)) e = table_formed l n group word x (sym e)

pub entry_item_formed : (l : Layout) (n t : ℕ) (entry : L2Entry) (item : Item) → item ≡ entry_item l n t entry → HasFormed n item
entry_item_formed l n t entry (Err m) e = tt
entry_item_formed l n t entry (Ok None) e = tt
entry_item_formed l n t entry (Ok (Some x)) e = entry_formed l n t entry x (sym e)

-- what holds of the spaces of all items holds of those that are kept
abbrev OfSpace : (Extent → Type 0) → Item → Type 0
OfSpace P (Err m) = Unit {0}
OfSpace P (Ok None) = Unit {0}
OfSpace P (Ok (Some x)) = P x

kept_one : (P : Extent → Type 0) (kept : List Extent) (i : Item) → AllByRecursion P kept → OfSpace P i → AllByRecursion P (kept_with kept i)
kept_one P kept (Err m) h p = h
kept_one P kept (Ok None) h p = h
kept_one P kept (Ok (Some x)) h p =
    cond_both (is_none (met kept x)) (kept ++ x ∷ []) kept (AllByRecursion P) (λ e. pushed kept h) (λ e. h)
  where
    pushed : (ks : List Extent) → AllByRecursion P ks → AllByRecursion P (ks ++ x ∷ [])
    pushed [] q = (p, tt)
    pushed (k ∷ ks) q = (q.0, pushed ks q.1)

kept_row : (P : Extent → Type 0) (f : ℕ → Item) (a n : ℕ) (kept : List Extent) → AllByRecursion P kept
    → ((k : ℕ) → a ≤ k → k < a + n → OfSpace P (f k)) → AllByRecursion P (kept_after kept (map f (range_with_len a n)))
kept_row P f a zero kept h p = h
kept_row P f a (suc n) kept h p =
    kept_row P f (a + 1) n (kept_with kept (f a)) (kept_one P kept (f a) h (p a (omega arith) (omega arith))) (λ k low high. p k (omega arith) (omega arith))

table_item_named : (l : Layout) (n group word : ℕ) → group < l.groups → OfSpace (λ (e : Extent). IsTableSpace l.groups e.size e.owner) (table_item l n group word)
table_item_named l n group word g = by (table_item l n group word) refl
  where
    by : (i : Item) → table_item l n group word ≡ i → OfSpace (λ (e : Extent). IsTableSpace l.groups e.size e.owner) i
    by (Err m) e = tt
    by (Ok None) e = tt
    by (Ok (Some x)) e = table_named l n group word x g e

-- each table that was kept is that of a group
pub tables_named : (l : Layout) (n : ℕ) (words : List ℕ) → AreTableSpaces l.groups (kept_after (header_space l.groups ∷ []) (items_of_words l n words l.groups))
unfolding items_of_words
tables_named l n words =
    kept_row (λ (e : Extent). IsTableSpace l.groups e.size e.owner) (λ (k : ℕ). table_item l n k (number_at l.order w32 words (4 * k))) 0 l.groups
    (header_space l.groups ∷ []) (tt, tt) (λ k low high. table_item_named l n k (number_at l.order w32 words (4 * k)) (omega arith))
