use Rattle.std.proofs.Common.{List, IfErr, sym, subst}
use Rattle.cckd_shelf.specs.World.{file_of}
use Rattle.cckd_layer.specs.Mounted.{LayerState}
use Rattle.cckd_layer.specs.Reads.{IsReadRefusal}
use Rattle.cckd_stack.specs.Layers.{visible}
use Rattle.cckd_stack.specs.Stacked.{StackState, InLayer, stack_of}
use Rattle.cckd_stack.proofs.LayerListLemmas.{written_stack}
use Rattle.cckd_stack.proofs.stack.Stack.read.Goals as goal

pub invariant_of-self : goal.invariant_of-self
invariant_of-self g c = (
  written_stack (record { geometry = c.self.inside.geometry; layers = c.self.inside.layers.items; broken = c.self.inside.broken }) c.as_mut_slice.result.now c.read_down.new.layers
      c.self.inside.layers.items c.self.inside.layers.len c.as_mut_slice.ensures.value (sym c.as_mut_slice.ensures.len) c.read_down.ensures.cached c.self.invariant.0,
  c.self.invariant.1,
)

pub returns-clause-refusal : goal.returns-clause-refusal
returns-clause-refusal g c = λ told sure.
    let null = g.U.Unit.null_bytes in
    let files = file_of (g.T.Shows.world c.args.stage.now) in
    let t = c.args.t.0 in
    subst (λ (s : StackState). IfErr c.read_down.result (InLayer (IsReadRefusal (g.U.Unit.fault s.geometry t (visible (stack_of null s.layers files) t))))) c.self.view_is
    (subst (λ (ls : List LayerState). IfErr c.read_down.result (InLayer (IsReadRefusal (g.U.Unit.fault c.self.inside.geometry t (visible (stack_of null ls files) t)))))
    c.as_mut_slice.ensures.value (c.read_down.ensures.refusal told sure))
