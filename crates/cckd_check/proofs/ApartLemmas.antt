-- Spaces that stand in order, apart from each other and inside a file.
use Rattle.std.proofs.Common.{ℕ, zero, suc, ◌+◌, ◌<◌, ◌≤◌, List, [], ◌∷◌, length, get_or, arith}
use Rattle.std.specs.List.Sorted.{IsNonDecreasingBy}
use Rattle.cckd_base.specs.declared.space.Extent.{Extent}
use Rattle.cckd_base.specs.Survey.{StandApart}

pub apart_end : (at : ℕ) (es : List Extent) (n : ℕ) → StandApart at es n → at ≤ n
apart_end at [] n a = a
apart_end at (e ∷ es) n a = let rest = apart_end (e.pos + e.size) es n a.3 in omega (arith, a.0, rest)

pub apart_place : (at : ℕ) (es : List Extent) (n k : ℕ) (d : Extent) → StandApart at es n → k < length es → at ≤ (get_or es k d).pos
apart_place at [] n k d a less = absurd (omega (arith, less))
apart_place at (e ∷ es) n zero d a less = a.0
apart_place at (e ∷ es) n (suc k) d a less =
    let rest = apart_place (e.pos + e.size) es n k d a.3 (omega (arith, less)) in omega (arith, a.0, rest)

-- each ends inside the file, with what is in use of it
pub apart_within : (at : ℕ) (es : List Extent) (n k : ℕ) (d : Extent) → StandApart at es n → k < length es → (get_or es k d).pos + (get_or es k d).size ≤ n
apart_within at [] n k d a less = absurd (omega (arith, less))
apart_within at (e ∷ es) n zero d a less = apart_end (e.pos + e.size) es n a.3
apart_within at (e ∷ es) n (suc k) d a less = apart_within (e.pos + e.size) es n k d a.3 (omega (arith, less))

pub apart_holds : (at : ℕ) (es : List Extent) (n k : ℕ) (d : Extent) → StandApart at es n → k < length es → (get_or es k d).len ≤ (get_or es k d).size
apart_holds at [] n k d a less = absurd (omega (arith, less))
apart_holds at (e ∷ es) n zero d a less = a.2
apart_holds at (e ∷ es) n (suc k) d a less = apart_holds (e.pos + e.size) es n k d a.3 (omega (arith, less))

-- the stored bytes in it end inside the file
pub apart_bytes : (es : List Extent) (n k : ℕ) (d : Extent) → StandApart 0 es n → k < length es → (get_or es k d).pos + (get_or es k d).len ≤ n
apart_bytes es n k d a less =
    let within = apart_within 0 es n k d a less in
    let holds = apart_holds 0 es n k d a less in
    omega (arith, within, holds)

-- each begins behind the ends of those before it
pub apart_order : (at : ℕ) (es : List Extent) (n i j : ℕ) (d : Extent) → StandApart at es n → i < j → j < length es
    → (get_or es i d).pos + (get_or es i d).size ≤ (get_or es j d).pos
apart_order at [] n i j d a before less = absurd (omega (arith, less))
apart_order at (e ∷ es) n i zero d a before less = absurd (omega (arith, before))
apart_order at (e ∷ es) n zero (suc j) d a before less = apart_place (e.pos + e.size) es n j d a.3 (omega (arith, less))
apart_order at (e ∷ es) n (suc i) (suc j) d a before less = apart_order (e.pos + e.size) es n i j d a.3 (omega (arith, before)) (omega (arith, less))

-- so their ends rise
pub ends_rise : (at : ℕ) (es : List Extent) (n : ℕ) → StandApart at es n → IsNonDecreasingBy (λ (e : Extent). e.pos + e.size) es
ends_rise at [] n a i j d upto less = absurd (omega (arith, less))
ends_rise at (e ∷ es) n a zero zero d upto less = omega arith
ends_rise at (e ∷ es) n a zero (suc j) d upto less =
    let place = apart_place (e.pos + e.size) es n j d a.3 (omega (arith, less)) in omega (arith, place)
ends_rise at (e ∷ es) n a (suc i) zero d upto less = absurd (omega (arith, upto))
ends_rise at (e ∷ es) n a (suc i) (suc j) d upto less = ends_rise (e.pos + e.size) es n a.3 i j d (omega (arith, upto)) (omega (arith, less))
