use Rattle.cckd_stack.proofs.CheckLemmas.{bad_here}
use Rattle.cckd_stack.proofs.checking.check_track.Goals as goal

pub returns-in-Ok-Here-clause-bad : goal.returns-in-Ok-Here-clause-bad
returns-in-Ok-Here-clause-bad g c = λ told sure.
    bad_here c.args.level c.args.geo.now c.args.t.0 _ c.in-Ok-Here.len c.from.result c.args.out.now c.read_stored.new.out c.are_bad.result c.from.ensures
    (rw c.in-Ok-Here.field-0-is at (c.in-Ok-Here.ensures.answer told sure)) c.are_bad.ensures
