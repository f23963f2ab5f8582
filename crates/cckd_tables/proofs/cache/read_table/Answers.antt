use Rattle.std.proofs.Common.{◌∙◌, ap}
use Rattle.cckd_base.specs.Numbers.{bytes_at}
use Rattle.cckd_shelf.specs.World.{file_of}
use Rattle.cckd_tables.proofs.cache.read_table.Goals as goal

pub returns-clause-bytes : goal.returns-clause-bytes
returns-clause-bytes g c = λ told sure.
    let file = file_of (g.T.Shows.world c.args.stage.now) c.args.slot in
    c.in-Ok.ensures.bytes told sure
    ∙ ap (λ n. bytes_at file c.from.result n) c.requires.length
    ∙ ap (λ at. bytes_at file at 2048) c.from.ensures
