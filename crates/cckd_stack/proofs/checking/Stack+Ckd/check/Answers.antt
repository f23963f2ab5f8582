use Rattle.std.proofs.Common.{sym}
use Rattle.cckd_stack.proofs.LayerListLemmas.{written_stack}
use Rattle.cckd_stack.proofs.checking.Stack+Ckd.check.Goals as goal

pub invariant_of-self : goal.invariant_of-self
invariant_of-self g c = (
  written_stack (record { geometry = c.self.inside.geometry; layers = c.self.inside.layers.items; broken = c.self.inside.broken }) c.as_mut_slice.result.now c.check_each.new.layers
      c.self.inside.layers.items c.self.inside.layers.len c.as_mut_slice.ensures.value (sym c.as_mut_slice.ensures.len) c.check_each.ensures.cached c.self.invariant.0,
  c.self.invariant.1,
)
