use Rattle.std.proofs.Common.{◌∙◌, ap}
use Rattle.std.specs.Option.{is_some}
use Rattle.cckd_space.specs.Pieces.{has_room_below}
use Rattle.cckd_space.proofs.BlockLemmas.{some_alike}
use Rattle.cckd_space.proofs.block.Block.has_room_below.Goals as goal

pub returns : goal.returns
returns c = c.is_some.ensures ∙ (ap is_some c.find_below.ensures ∙ some_alike (has_room_below c.args.need c.args.before) c.args.self.now)
