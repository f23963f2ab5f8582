use Rattle.std.proofs.Common.{sym, ◌∙◌, ap, refl}
use Rattle.cckd_stack.specs.Stacked.{StackState}
use Rattle.cckd_shelf.specs.Seen.{seen}
use Rattle.cckd_stack.proofs.MarkingLemmas.{marks_back}
use Rattle.cckd_stack.proofs.stack.Stack.harden.Goals as goal

pub returns-in-Ok-clause-marks : goal.returns-in-Ok-clause-marks
returns-in-Ok-clause-marks g c = λ whole.
    let was = c.as_mut_slice.result.now in
    let next = c.harden_last.new.layers in
    marks_back c.args.self.now.layers was next c.self.inside.layers.items c.self.inside.layers.len (seen g.T.Shows c.args.stage.now) (seen g.T.Shows c.harden_last.new.stage)
    (ap (λ (s : StackState). s.layers) c.self.view_is) c.as_mut_slice.ensures.value (sym c.as_mut_slice.ensures.len ∙ sym c.harden_last.auto.layers) (c.in-Ok.ensures.marks refl)
