use Rattle.cckd_shelf.specs.World.{file_of}
use Rattle.cckd_check.proofs.LinkLemmas.{size_read, next_read, refused_next, found_next}
use Rattle.cckd_check.proofs.chaining.follow.Goals as goal

pub returns-then-not-may-clause-next : goal.returns-then-not-may-clause-next
returns-then-not-may-clause-next g c = λ told sure.
    let file = file_of (g.T.Shows.world c.args.stage.now) c.args.slot in
    let read = c.in-Ok.ensures.bytes told sure in
    refused_next c.args.order c.args.used.now file c.args.before c.args.at c.args.len c.size_in-size.result c.may_follow-may.result (c.requires.length told sure)
    (size_read c.args.order file c.read_at.new.into c.args.at c.size_in-size.result read c.size_in-size.ensures) c.may_follow-may.ensures c.if-not-may.true

pub returns-clause-next : goal.returns-clause-next
returns-clause-next g c = λ told sure.
    let file = file_of (g.T.Shows.world c.args.stage.now) c.args.slot in
    let read = c.in-Ok.ensures.bytes told sure in
    found_next c.args.order c.args.used.now file c.args.before c.args.at c.args.len c.size_in-size.result c.may_follow-may.result (c.requires.length told sure)
    (size_read c.args.order file c.read_at.new.into c.args.at c.size_in-size.result read c.size_in-size.ensures) c.may_follow-may.ensures
    c.read_u32.result (next_read c.args.order file c.read_at.new.into c.args.at c.read_u32.result read c.read_u32.ensures) c.if-not-may.false
