use Rattle.cckd_space.proofs.OrderLemmas.{laid_in_order}
use Rattle.cckd_space.proofs.space.Space.reserved_at.Goals as goal

pub reserved_at-requires : goal.reserved_at-requires
reserved_at-requires c = laid_in_order 0 c.self.inside.pieces.pieces c.self.inside.size c.self.invariant.laid
