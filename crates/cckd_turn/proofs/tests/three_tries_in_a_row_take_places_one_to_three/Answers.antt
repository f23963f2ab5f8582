use Rattle.std.proofs.Common.{ap, arith, ◌∙◌}
use Rattle.std.specs.Prelude.{slice_get}
use Rattle.cckd_turn.proofs.tests.three_tries_in_a_row_take_places_one_to_three.Goals as goal

pub try_count-requires-clause-own : goal.try_count-requires-clause-own
try_count-requires-clause-own g c = (c.in-Ok.ensures.dealt.new 0 c.in-Some.first (ap (λ xs. slice_get xs 0) c.in-Some.ensures)).resting

pub try_count-requires-clause-calls : goal.try_count-requires-clause-calls
try_count-requires-clause-calls g c =
    let dealt = c.in-Ok.ensures.dealt in
    let new = dealt.new 0 c.in-Some.first (ap (λ xs. slice_get xs 0) c.in-Some.ensures) in
    let left = new.left ∙ dealt.each_is in
    omega arith

pub try_count-requires-2-clause-own : goal.try_count-requires-2-clause-own
try_count-requires-2-clause-own g c = (c.in-Ok.ensures.dealt.new 1 c.in-Some.second (ap (λ xs. slice_get xs 1) c.in-Some.ensures)).resting

pub try_count-requires-2-clause-calls : goal.try_count-requires-2-clause-calls
try_count-requires-2-clause-calls g c =
    let dealt = c.in-Ok.ensures.dealt in
    let new = dealt.new 1 c.in-Some.second (ap (λ xs. slice_get xs 1) c.in-Some.ensures) in
    let left = new.left ∙ dealt.each_is in
    omega arith

pub try_count-requires-3-clause-own : goal.try_count-requires-3-clause-own
try_count-requires-3-clause-own g c = (c.in-Ok.ensures.dealt.new 2 c.in-Some.third (ap (λ xs. slice_get xs 2) c.in-Some.ensures)).resting

pub try_count-requires-3-clause-calls : goal.try_count-requires-3-clause-calls
try_count-requires-3-clause-calls g c =
    let dealt = c.in-Ok.ensures.dealt in
    let new = dealt.new 2 c.in-Some.third (ap (λ xs. slice_get xs 2) c.in-Some.ensures) in
    let left = new.left ∙ dealt.each_is in
    omega arith
