use Rattle.std.proofs.Common.{List, refl, sym, ◌∙◌, ap, subst}
use Rattle.cckd_layer.specs.Mounted.{LayerState}
use Rattle.cckd_stack.specs.Stacked.{StackState}
use Rattle.cckd_stack.specs.Writes.{HasNoChange}
use Rattle.cckd_stack.proofs.LayerListLemmas.{written_back}
use Rattle.cckd_stack.proofs.CloseLemmas.{files_length}
use Rattle.cckd_shelf.specs.Seen.{seen}
use Rattle.cckd_stack.proofs.MarkingLemmas.{marks_back, unbroken_by}
use Rattle.cckd_stack.proofs.stack.Stack.close.Goals as goal

pub returns-in-Err-clause-calm : goal.returns-in-Err-clause-calm
returns-in-Err-clause-calm g c = λ slot calm.
    let was = c.as_mut_slice.result.now in
    let next = c.close_each.new.layers in
    let before : HasNoChange was slot =
    subst (λ (ls : List LayerState). HasNoChange ls slot) (sym c.as_mut_slice.ensures.value) (subst (λ (s : StackState). HasNoChange s.layers slot) (sym c.self.view_is) calm) in
    subst (λ (ls : List LayerState). HasNoChange ls slot)
    (sym (written_back next c.self.inside.layers.items c.self.inside.layers.len (sym c.as_mut_slice.ensures.len ∙ sym (files_length was next c.close_each.ensures.files))))
    (c.close_each.ensures.calm slot before)

pub returns-in-Ok-clause-marks : goal.returns-in-Ok-clause-marks
returns-in-Ok-clause-marks g c = λ whole.
    let was = c.as_mut_slice.result.now in
    let next = c.close_each.new.layers in
    marks_back c.args.self.now.layers was next c.self.inside.layers.items c.self.inside.layers.len (seen g.T.Shows c.args.stage.now) (seen g.T.Shows c.close_each.new.stage)
    (ap (λ (s : StackState). s.layers) c.self.view_is) c.as_mut_slice.ensures.value (sym c.as_mut_slice.ensures.len ∙ sym (files_length was next c.close_each.ensures.files)) (c.in-Ok.ensures.marks refl)

pub returns-in-Err-clause-marks : goal.returns-in-Err-clause-marks
returns-in-Err-clause-marks g c = λ whole.
    let was = c.as_mut_slice.result.now in
    let next = c.close_each.new.layers in
    marks_back c.args.self.now.layers was next c.self.inside.layers.items c.self.inside.layers.len (seen g.T.Shows c.args.stage.now) (seen g.T.Shows c.close_each.new.stage)
    (ap (λ (s : StackState). s.layers) c.self.view_is) c.as_mut_slice.ensures.value (sym c.as_mut_slice.ensures.len ∙ sym (files_length was next c.close_each.ensures.files))
    (c.in-Err.ensures.marks (unbroken_by c.in-Err.fault (sym c.breaks-self-inside.ensures ∙ whole)))

pub returns-in-Ok-clause-calm : goal.returns-in-Ok-clause-calm
returns-in-Ok-clause-calm g c = λ slot calm.
    let was = c.as_mut_slice.result.now in
    let next = c.close_each.new.layers in
    let before : HasNoChange was slot =
    subst (λ (ls : List LayerState). HasNoChange ls slot) (sym c.as_mut_slice.ensures.value) (subst (λ (s : StackState). HasNoChange s.layers slot) (sym c.self.view_is) calm) in
    subst (λ (ls : List LayerState). HasNoChange ls slot)
    (sym (written_back next c.self.inside.layers.items c.self.inside.layers.len (sym c.as_mut_slice.ensures.len ∙ sym (files_length was next c.close_each.ensures.files))))
    (c.close_each.ensures.calm slot before)
