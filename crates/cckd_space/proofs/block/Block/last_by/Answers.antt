use Rattle.std.proofs.Common.{sym, ◌∙◌, subst}
use Rattle.cckd_space.specs.Inside.{IsInOrder}
use Rattle.cckd_space.proofs.block.Block.last_by.Goals as goal

pub last_by-requires : goal.last_by-requires
last_by-requires c = subst IsInOrder (sym (c.as_slice.ensures.value ∙ c.self.view_is)) c.requires
