use Rattle.std.proofs.Common.{ap}
use Rattle.std.specs.Prelude.{slice_get}
use Rattle.cckd_turn.proofs.tests.opened.Goals as goal

pub returns-in-Some : goal.returns-in-Some
returns-in-Some c =
    let dealt = c.in-Ok.ensures.dealt in
    let items = c.in-Some.ensures in
    (dealt.callers_are, dealt.each_is, dealt.new 0 c.in-Some.first (ap (λ xs. slice_get xs 0) items), dealt.new 1 c.in-Some.second (ap (λ xs. slice_get xs 1) items))
