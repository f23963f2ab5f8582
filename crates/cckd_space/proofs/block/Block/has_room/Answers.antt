use Rattle.std.proofs.Common.{◌∙◌, ap}
use Rattle.std.specs.Option.{is_some}
use Rattle.cckd_space.specs.Pieces.{has_room}
use Rattle.cckd_space.proofs.BlockLemmas.{some_alike}
use Rattle.cckd_space.proofs.block.Block.has_room.Goals as goal

pub returns : goal.returns
returns c = c.is_some.ensures ∙ (ap is_some c.find.ensures ∙ some_alike (has_room c.args.need) c.args.self.now)
