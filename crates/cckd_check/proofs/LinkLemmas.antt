-- The chain of free spaces, as it is followed.
use Rattle.std.proofs.Common.{◌≡◌, ℕ, zero, suc, ◌+◌, ◌-◌, ◌<◌, ◌≤◌, ◌≢◌, ◌==◌, Bool, true, false, ◌&&◌, List, [], ◌∷◌, length, take, drop, Option, Some, None, refl, sym, ◌∙◌, ap, arith}
use Rattle.std.specs.Prelude.{nat_lt, nat_le, if◌then◌else◌}
use Rattle.std.specs.Int.{w32}
use Rattle.std.specs.List.{list_all}
use Rattle.std.proofs.lemmas.Bool.{leb-true, lt-leb, ne_eqb}
use Rattle.std.proofs.lemmas.List.{drop-take, take-take, drop-drop, length-take, length-drop}
use Rattle.std.proofs.lemmas.Slice.Eq.{bytes_eq-Decides}
use Rattle.cckd_base.specs.declared.order.Order.{Order}
use Rattle.cckd_base.specs.declared.space.Extent.{Extent}
use Rattle.cckd_base.specs.Numbers.{number_of, number_at, bytes_at}
use Rattle.cckd_check.specs.Chain.{link_at, next_at, links, free_chain, is_beside, is_unused, may_follow, misplaced, foreign_form, has_foreign_form}
use Rattle.cckd_check.specs.Inside.{next_behind}

-- bytes of a part of a file
part_of_part : (file : List ℕ) (p n q m : ℕ) → q + m ≤ n → bytes_at (bytes_at file p n) q m ≡ bytes_at file (p + q) m
part_of_part file p n q m h =
    let e : n ≡ q + (n - q) = omega arith in
    ap (λ (k : ℕ). take m (drop q (take k (drop p file)))) e
    ∙ ap (take m) (drop-take q (n - q) (drop p file))
    ∙ take-take m (n - q) (drop q (drop p file)) (omega arith)
    ∙ ap (take m) (drop-drop q p file)

-- what a free space says, from its first eight bytes
pub size_read : (order : Order) (file link : List ℕ) (at size : ℕ) → link ≡ bytes_at file at 8 → size ≡ number_at order w32 link 4 → size ≡ (link_at order file at).size
size_read order file link at size read e =
    e ∙ ap (number_of order w32) (ap (λ (bytes : List ℕ). bytes_at bytes 4 4) read ∙ part_of_part file at 8 4 4 (omega arith))

pub next_read : (order : Order) (file link : List ℕ) (at next : ℕ) → link ≡ bytes_at file at 8 → next ≡ number_at order w32 link 0 → next ≡ next_at order file at
next_read order file link at next read e =
    let same : at + 0 ≡ at = omega arith in
    e ∙ ap (number_of order w32) (ap (λ (bytes : List ℕ). bytes_at bytes 0 4) read ∙ part_of_part file at 8 0 4 (omega arith) ∙ ap (λ (k : ℕ). bytes_at file k 4) same)

and_false : (a b : Bool) → b ≡ false → (a && b) ≡ false
and_false true b h = h
and_false false b h = refl

module _ (order : Order) (used : List Extent) (file : List ℕ) (before at : ℕ) where
  none_where : may_follow used (length file) before (link_at order file at) ≡ false → next_behind order used file before at ≡ None
  none_where h = ap (λ (b : Bool). if b then Some (next_at order file at) else None) h

  some_where : may_follow used (length file) before (link_at order file at) ≡ true → next_behind order used file before at ≡ Some (next_at order file at)
  some_where h = ap (λ (b : Bool). if b then Some (next_at order file at) else None) h

  -- no free space stands where fewer than 8 bytes are left
  pub no_room : length file < at + 8 → next_behind order used file before at ≡ None
  no_room short =
      let size = (link_at order file at).size in
      let unused = is_unused used (length file) at size in
      none_where (and_false (nat_lt before at) (nat_le 8 size && unused) (by size (nat_le 8 size) refl))
    where
      by : (size : ℕ) (b : Bool) → nat_le 8 size ≡ b → (nat_le 8 size && is_unused used (length file) at size) ≡ false
      by size false h = ap (λ (b : Bool). b && is_unused used (length file) at size) h
      by size true h =
          let least = leb-true 8 size h in
          and_false (nat_le 8 size) (is_unused used (length file) at size)
          (ap (λ (b : Bool). b && list_all (is_beside at size) used) (lt-leb (at + size) (length file) (omega (arith, least, short))))

  module _ (len size : ℕ) (answer : Bool) (long : len ≡ length file) (read : size ≡ (link_at order file at).size)
      (told : answer ≡ may_follow used len before (record { place = at; size = size })) where
    answer_is : answer ≡ may_follow used (length file) before (link_at order file at)
    answer_is = told ∙ ap (λ (n : ℕ). may_follow used n before (record { place = at; size = size })) long
        ∙ ap (λ (n : ℕ). may_follow used (length file) before (record { place = at; size = n })) read

    pub refused_next : answer ≡ false → None ≡ next_behind order used file before at
    refused_next h = sym (none_where (sym answer_is ∙ h))

    pub found_next : (next : ℕ) → next ≡ next_at order file at → answer ≡ true → Some next ≡ next_behind order used file before at
    found_next next e h = ap Some e ∙ sym (some_where (sym answer_is ∙ h))

-- a place at which fewer than 8 bytes are left has no free space of the other form
pub no_form : (file : List ℕ) (at : ℕ) → length file < at + 8 → has_foreign_form file at ≡ false
no_form file at short = by (has_foreign_form file at) refl
  where
    by : (b : Bool) → has_foreign_form file at ≡ b → b ≡ false
    by false e = refl
    by true e =
        let same = ap length ((bytes_eq-Decides (bytes_at file at 8) foreign_form).0 e) in
        let left = length-drop at file in
        let taken = length-take 8 (drop at file) in
        absurd (omega (arith, same, left, taken, short))

-- the links from a place on are those that are left of the chain
pub record OnTheWay (order : Order) (used : List Extent) (file : List ℕ) (first before at : ℕ) : Type 0 where
  pub most : ℕ
  pub enough : length file < before + most
  pub rest : misplaced used (length file) before (links order file most at) ≡ misplaced used (length file) 0 (free_chain order file first)

pub begins : (order : Order) (used : List Extent) (file : List ℕ) (first : ℕ) → OnTheWay order used file first 0 first
unfolding free_chain
begins order used file first = record { most = suc (length file); enough = omega arith; rest = refl }

ends : (order : Order) (file : List ℕ) (most at : ℕ) → at ≡ 0 → links order file most at ≡ []
ends order file zero at e = refl
ends order file (suc most) at e =
    ap (λ (k : ℕ). if k == 0 then [] else link_at order file at ∷ links order file most (next_at order file at)) e

goes_on : (order : Order) (file : List ℕ) (most at : ℕ) → at ≢ 0 → links order file (suc most) at ≡ link_at order file at ∷ links order file most (next_at order file at)
goes_on order file most at some =
    ap (λ (b : Bool). if b then [] else link_at order file at ∷ links order file most (next_at order file at)) (ne_eqb at 0 some)

module _ (order : Order) (used : List Extent) (file : List ℕ) (first before at : ℕ) (way : OnTheWay order used file first before at) where
  pub chain_ends : at ≡ 0 → None ≡ misplaced used (length file) 0 (free_chain order file first)
  chain_ends e = sym (ap (misplaced used (length file) before) (ends order file way.most at e)) ∙ way.rest

  module _ (some : at ≢ 0) (low : before ≤ length file) where
    more : (m : ℕ) → suc m ≡ way.most
        → misplaced used (length file) before (link_at order file at ∷ links order file m (next_at order file at)) ≡ misplaced used (length file) 0 (free_chain order file first)
    more m e =
        ap (misplaced used (length file) before) (sym (goes_on order file m at some))
        ∙ ap (λ (k : ℕ). misplaced used (length file) before (links order file k at)) e ∙ way.rest

    less_one : suc (way.most - 1) ≡ way.most
    less_one = let enough = way.enough in omega (arith, enough, low)

    pub chain_stops : next_behind order used file before at ≡ None → Some at ≡ misplaced used (length file) 0 (free_chain order file first)
    chain_stops h = by (may_follow used (length file) before (link_at order file at)) h (more (way.most - 1) less_one)
      where
        by : (b : Bool) → ◌≡◌ {A = Option ℕ} (if b then Some (next_at order file at) else None) None
            → (if b then misplaced used (length file) at (links order file (way.most - 1) (next_at order file at)) else Some at) ≡ misplaced used (length file) 0 (free_chain order file first)
            → Some at ≡ misplaced used (length file) 0 (free_chain order file first)
        by true h e = absurd (cc h)
        by false h e = e

    pub chain_goes_on : (next : ℕ) → next_behind order used file before at ≡ Some next → before < at → OnTheWay order used file first at next
    chain_goes_on next h past = by (may_follow used (length file) before (link_at order file at)) h (more (way.most - 1) less_one)
      where
        by : (b : Bool) → ◌≡◌ {A = Option ℕ} (if b then Some (next_at order file at) else None) (Some next)
            → (if b then misplaced used (length file) at (links order file (way.most - 1) (next_at order file at)) else Some at) ≡ misplaced used (length file) 0 (free_chain order file first)
            → OnTheWay order used file first at next
        by true h e = record {
          most = way.most - 1;
          enough = let enough = way.enough in omega (arith, enough, past);
          rest = let same : next_at order file at ≡ next = cc h in
              sym (ap (λ (k : ℕ). misplaced used (length file) at (links order file (way.most - 1) k)) same) ∙ e;
        }
        by false h e = absurd (cc h)
