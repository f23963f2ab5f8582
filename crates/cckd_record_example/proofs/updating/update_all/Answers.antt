use Rattle.std.proofs.Common.{arith}
use Rattle.cckd_shelf.specs.Seen.{seen}
use Rattle.cckd_shelf.proofs.FrameLemmas.{only_twice}
use Rattle.cckd_record_example.proofs.VersionLemmas.{done_first, stopped_more, done_more, done_all}
use Rattle.cckd_record_example.proofs.updating.update_all.Goals as goal

pub loop-next-init : goal.loop-next-init
loop-next-init g c = done_first c.args.slot c.args.versions.now (seen g.S.Shows c.args.shelf.now)

pub returns-in_err-update-clause-stopped : goal.returns-in_err-update-clause-stopped
returns-in_err-update-clause-stopped g c =
    stopped_more c.args.slot c.args.versions.now c.loop-next.next-index c.next-item.result c.as_slice.result.now
    (seen g.S.Shows c.args.shelf.now) (seen g.S.Shows c.loop-next.shelf) (seen g.S.Shows c.update.new.shelf)
    c.loop-next.invariant c.loop-next-test.true c.next-item.is c.as_slice.ensures.value (λ told. told) c.update.ensures.stopped

pub returns-in_err-update-clause-others : goal.returns-in_err-update-clause-others
returns-in_err-update-clause-others g c =
    only_twice c.args.slot (seen g.S.Shows c.args.shelf.now) (seen g.S.Shows c.loop-next.shelf) (seen g.S.Shows c.update.new.shelf) (λ told. told)
    c.loop-next.invariant.others c.update.ensures.others

pub loop-next-preserved : goal.loop-next-preserved
loop-next-preserved g c =
    done_more c.args.slot c.args.versions.now c.loop-next.next-index c.next-item.result c.as_slice.result.now
    (seen g.S.Shows c.args.shelf.now) (seen g.S.Shows c.loop-next.shelf) (seen g.S.Shows c.update.new.shelf)
    c.loop-next.invariant c.loop-next-test.true c.next-item.is c.as_slice.ensures.value (λ told. told) c.update.ensures.stopped
    c.in_ok-update.ensures.done c.update.ensures.others c.in_ok-update.ensures.still

pub returns-clause-done : goal.returns-clause-done
returns-clause-done g c =
    done_all c.args.slot c.args.versions.now c.loop-next.next-index (seen g.S.Shows c.args.shelf.now) (seen g.S.Shows c.loop-next.shelf)
    c.loop-next.invariant (omega (arith, c.loop-next-test.false))
