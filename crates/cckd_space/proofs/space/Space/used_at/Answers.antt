use Rattle.cckd_space.proofs.OrderLemmas.{laid_in_order}
use Rattle.cckd_space.proofs.space.Space.used_at.Goals as goal

pub used_at-requires : goal.used_at-requires
used_at-requires c = laid_in_order 0 c.self.inside.pieces.pieces c.self.inside.size c.self.invariant.laid
