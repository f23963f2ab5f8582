use Rattle.std.proofs.Common.{sym, subst, arith}
use Rattle.std.specs.Vec.{vec_len, vec_capacity}
use Rattle.cckd_space.specs.Blocks.{AreInOrder, AreRead, Held}
use Rattle.cckd_space.proofs.HeldLemmas.{held_filled}
use Rattle.cckd_space.proofs.blocks.Blocks.view.Goals as goal

pub new-requires : goal.new-requires
new-requires c =
    let old = c.self.inside in
    let bs = old.blocks.items in
    subst AreRead (sym c.as_slice.ensures.value) (record {
      filled = held_filled bs old.slots old.full (vec_len old.blocks) (vec_len old.store) (vec_capacity old.blocks) (vec_capacity old.store) c.self.invariant;
      order = subst (λ (h : Held). AreInOrder h.pieces) (sym c.self.view_is) c.requires;
      small = omega (arith, c.self.invariant.fewer, c.self.invariant.small);
    })
