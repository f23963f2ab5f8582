use Rattle.std.proofs.Common.{◌++◌, replicate}
use Rattle.cckd_shelf.specs.Seen.{seen, Tells}
use Rattle.cckd_shelf.specs.Stops.{StopLeaves}
use Rattle.cckd_shelf.proofs.FrameLemmas.{only_twice}
use Rattle.cckd_shelf.proofs.WorldLemmas.{on_ok}
use Rattle.cckd_make.specs.Making.{HasOnly, IsPutOver}
use Rattle.cckd_make.proofs.LayLemmas.{zeros_blank, rest_left, front_left, without_clear, without_rest, without_front}
use Rattle.cckd_make.proofs.laying.lay.Goals as goal

pub returns-in-Err-clause-stopped : goal.returns-in-Err-clause-stopped
returns-in-Err-clause-stopped g c = without_clear c.args.slot (c.args.front.now ++ c.args.rest.now) (seen g.S.Shows c.args.shelf.now) (seen g.S.Shows c.clear.new.shelf) c.clear.ensures.stopped

pub returns-in-Err-put-clause-others : goal.returns-in-Err-put-clause-others
returns-in-Err-put-clause-others g c = only_twice c.args.slot (seen g.S.Shows c.args.shelf.now) (seen g.S.Shows c.clear.new.shelf) (seen g.S.Shows c.put.new.shelf) (λ told. told) c.clear.ensures.others c.put.ensures.others

pub returns-in-Err-put-clause-stopped : goal.returns-in-Err-put-clause-stopped
returns-in-Err-put-clause-stopped g c =
    without_rest c.args.slot (replicate 512 0) c.args.rest.now (c.args.front.now ++ c.args.rest.now) (seen g.S.Shows c.args.shelf.now) (seen g.S.Shows c.clear.new.shelf) (seen g.S.Shows c.put.new.shelf) zeros_blank (λ told. told)
    (without_clear c.args.slot (c.args.front.now ++ c.args.rest.now) (seen g.S.Shows c.args.shelf.now) (seen g.S.Shows c.clear.new.shelf) c.clear.ensures.stopped) c.in_default.ensures.left c.put.ensures.stopped

pub returns-clause-others : goal.returns-clause-others
returns-clause-others g c =
    only_twice c.args.slot (seen g.S.Shows c.args.shelf.now) (seen g.S.Shows c.put.new.shelf) (seen g.S.Shows c.put-2.new.shelf) (λ told. told)
    (only_twice c.args.slot (seen g.S.Shows c.args.shelf.now) (seen g.S.Shows c.clear.new.shelf) (seen g.S.Shows c.put.new.shelf) (λ told. told) c.clear.ensures.others c.put.ensures.others) c.put-2.ensures.others

pub returns-clause-stopped : goal.returns-clause-stopped
returns-clause-stopped g c =
    without_front c.args.slot (replicate 512 0) c.args.front.now c.args.rest.now (seen g.S.Shows c.args.shelf.now) (seen g.S.Shows c.put.new.shelf) (seen g.S.Shows c.put-2.new.shelf) zeros_blank c.requires.front (λ told. told)
    (without_rest c.args.slot (replicate 512 0) c.args.rest.now (c.args.front.now ++ c.args.rest.now) (seen g.S.Shows c.args.shelf.now) (seen g.S.Shows c.clear.new.shelf) (seen g.S.Shows c.put.new.shelf) zeros_blank (λ told. told)
    (without_clear c.args.slot (c.args.front.now ++ c.args.rest.now) (seen g.S.Shows c.args.shelf.now) (seen g.S.Shows c.clear.new.shelf) c.clear.ensures.stopped) c.in_default.ensures.left c.put.ensures.stopped)
    (rest_left c.args.slot (replicate 512 0) c.args.rest.now (seen g.S.Shows c.clear.new.shelf) (seen g.S.Shows c.put.new.shelf) zeros_blank c.in_default.ensures.left c.in_default-put.ensures.left) c.put-2.ensures.stopped

pub returns-clause-only : goal.returns-clause-only
returns-clause-only g c =
    on_ok (StopLeaves c.args.slot (IsPutOver (seen g.S.Shows c.put.new.shelf).world.events c.args.slot 0 c.args.front.now) (seen g.S.Shows c.put-2.new.shelf))
    (Tells (seen g.S.Shows c.args.shelf.now) → HasOnly c.args.slot (c.args.front.now ++ c.args.rest.now) (seen g.S.Shows c.put-2.new.shelf).world) c.put-2.result
    (front_left c.args.slot (replicate 512 0) c.args.front.now c.args.rest.now (seen g.S.Shows c.put.new.shelf) (seen g.S.Shows c.put-2.new.shelf) zeros_blank c.requires.front
    (rest_left c.args.slot (replicate 512 0) c.args.rest.now (seen g.S.Shows c.clear.new.shelf) (seen g.S.Shows c.put.new.shelf) zeros_blank c.in_default.ensures.left c.in_default-put.ensures.left)) c.put-2.ensures.left
