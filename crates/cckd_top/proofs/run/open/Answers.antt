use Rattle.std.proofs.Common.{length}
use Rattle.cckd_shelf.specs.Seen.{seen}
use Rattle.cckd_top.proofs.OpenLemmas.{fails_to_bind, fails_to_mount, opens_disk}
use Rattle.cckd_top.proofs.run.open.Goals as goal

pub returns-in_default : goal.returns-in_default
returns-in_default g c =
    fails_to_bind c.args.file.now (seen g.T.Shows c.args.stage) (seen g.T.Shows c.bind_all.new.stage) c.in_default.ensures.fails.rose
    c.in_default.ensures.some

pub returns-in-Ok-mount : goal.returns-in-Ok-mount
returns-in-Ok-mount g c =
    let of = c.in-Ok-mount.ensures in
    opens_disk g.T.Shows _ c.args.file.now c.args.limit c.args.stage c.bind_all.new.stage c.in-Ok-mount.engine (length c.in-Ok-mount.engine.disk.layers)
    c.in-Ok.ensures.bound c.in-Ok.ensures.fails.still (λ told. g.T.Shows.tied c.bind_all.new.stage told) of.synced of.counts
    (λ told sure. (of.mounted told sure).row) of.opens of.stands of.room of.agrees of.marks of.new.calls of.new.mute
    of.runs of.unchanged of.few of.spares

pub returns-in-Err : goal.returns-in-Err
returns-in-Err g c =
    fails_to_mount g.T.Shows c.args.file.now c.args.stage c.bind_all.new.stage c.in-Err.left c.in-Err.why c.in-Ok.ensures.bound
    c.in-Ok.ensures.fails.still (λ told. g.T.Shows.tied c.bind_all.new.stage told) c.in-Err.ensures.cause c.in-Err.ensures.syncs c.in-Err.ensures.counts
