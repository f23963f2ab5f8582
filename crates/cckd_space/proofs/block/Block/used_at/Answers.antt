use Rattle.std.proofs.Common.{sym, ◌∙◌, subst}
use Rattle.cckd_space.specs.Inside.{IsInOrder}
use Rattle.cckd_space.proofs.block.Block.used_at.Goals as goal

pub used_at-requires : goal.used_at-requires
used_at-requires c = subst IsInOrder (sym (c.as_slice.ensures.value ∙ c.self.view_is)) c.requires
