use Rattle.std.proofs.Common.{sym, ◌∙◌, subst}
use Rattle.cckd_space.specs.Inside.{IsInOrder}
use Rattle.cckd_space.proofs.block.Block.reserved_at.Goals as goal

pub reserved_at-requires : goal.reserved_at-requires
reserved_at-requires c = subst IsInOrder (sym (c.as_slice.ensures.value ∙ c.self.view_is)) c.requires
