use Rattle.std.proofs.Common.{sym, subst}
use Rattle.std.specs.Vec.{vec_len, vec_capacity}
use Rattle.cckd_space.specs.Blocks.{AreFilled}
use Rattle.cckd_space.proofs.HeldLemmas.{held_filled}
use Rattle.cckd_space.proofs.blocks.Blocks.free_end.Goals as goal

pub end_in-requires-clause-filled : goal.end_in-requires-clause-filled
end_in-requires-clause-filled c =
    let old = c.self.inside in
    let bs = old.blocks.items in
    subst AreFilled (sym c.as_slice.ensures.value) (held_filled bs old.slots old.full (vec_len old.blocks) (vec_len old.store) (vec_capacity old.blocks) (vec_capacity old.store) c.self.invariant)
