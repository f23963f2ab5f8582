use Rattle.std.proofs.Common.{List, IfOk, sym, subst}
use Rattle.cckd_shelf.specs.World.{file_of}
use Rattle.cckd_layer.specs.Mounted.{LayerState}
use Rattle.cckd_stack.specs.Stacked.{StackState, Shows, stack_of}
use Rattle.cckd_stack.proofs.LayerListLemmas.{written_stack}
use Rattle.cckd_stack.proofs.stack.Stack.display.Goals as goal

pub invariant_of-self : goal.invariant_of-self
invariant_of-self g c = (
  written_stack (record { geometry = c.self.inside.geometry; layers = c.self.inside.layers.items; broken = c.self.inside.broken }) c.as_mut_slice.result.now c.count_each.new.layers
      c.self.inside.layers.items c.self.inside.layers.len c.as_mut_slice.ensures.value (sym c.as_mut_slice.ensures.len) c.count_each.ensures.cached c.self.invariant.0,
  c.self.invariant.1,
)

pub returns-clause-shown : goal.returns-clause-shown
returns-clause-shown g c = λ told sure.
    let null = g.U.Unit.null_bytes in
    let files = file_of (g.T.Shows.world c.args.stage.now) in
    subst (λ (s : StackState). IfOk c.count_each.result (Shows s.geometry (stack_of null s.layers files))) c.self.view_is
    (subst (λ (ls : List LayerState). IfOk c.count_each.result (Shows c.self.inside.geometry (stack_of null ls files))) c.as_mut_slice.ensures.value (c.count_each.ensures.shown told sure))
