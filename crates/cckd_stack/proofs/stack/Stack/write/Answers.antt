use Rattle.std.proofs.Common.{◌≡◌, Bool, List, ◌++◌, length, take, drop, Some, refl, sym, ◌∙◌, ap, subst}
use Rattle.cckd_base.specs.declared.geometry.Geometry.{Geometry}
use Rattle.cckd_base.specs.declared.layer_fault.LayerFault.TheVariants as fault
use Rattle.cckd_stack.specs.Writes.{breaks_layer}
use Rattle.cckd_stack.proofs.LayerListLemmas.{written_back}
use Rattle.cckd_layer.specs.Mounted.{LayerState}
use Rattle.cckd_stack.specs.Stacked.{StackState}
use Rattle.cckd_shelf.specs.Seen.{seen}
use Rattle.cckd_stack.proofs.MarkingLemmas.{marks_back, unbroken_by}
use Rattle.cckd_stack.proofs.stack.Stack.write.Goals as goal

pub returns-in-Ok-clause-marks : goal.returns-in-Ok-clause-marks
returns-in-Ok-clause-marks g c = λ whole.
    let was = c.as_mut_slice.result.now in
    let next = c.write_last.new.layers in
    marks_back c.args.self.now.layers was next c.self.inside.layers.items c.self.inside.layers.len (seen g.T.Shows c.args.stage.now) (seen g.T.Shows c.write_last.new.stage)
    (ap (λ (s : StackState). s.layers) c.self.view_is) c.as_mut_slice.ensures.value (sym c.as_mut_slice.ensures.len ∙ sym c.write_last.auto.layers) (c.in-Ok.ensures.marks refl)

pub returns-in-Err-clause-marks : goal.returns-in-Err-clause-marks
returns-in-Err-clause-marks g c = λ whole.
    let was = c.as_mut_slice.result.now in
    let next = c.write_last.new.layers in
    marks_back c.args.self.now.layers was next c.self.inside.layers.items c.self.inside.layers.len (seen g.T.Shows c.args.stage.now) (seen g.T.Shows c.write_last.new.stage)
    (ap (λ (s : StackState). s.layers) c.self.view_is) c.as_mut_slice.ensures.value (sym c.as_mut_slice.ensures.len ∙ sym c.write_last.auto.layers)
    (c.in-Err.ensures.marks (unbroken_by c.in-Err.fault (sym c.breaks-self-inside.ensures ∙ whole)))

pub returns-in-Err-clause-refused : goal.returns-in-Err-clause-refused
returns-in-Err-clause-refused g c = λ why found.
    let i = c.self.inside in
    let next = c.write_last.new.layers in
    let was = c.as_mut_slice.result.now in
    let shape : c.args.self.now.geometry ≡ i.geometry = sym (ap (λ (s : StackState). s.geometry) c.self.view_is) in
    let r = c.in-Err.ensures.refused why (subst (λ (geo : Geometry). g.U.Unit.fault geo c.args.t.0 c.args.bytes.now ≡ Some why) shape found) in
    let is : c.in-Err.fault ≡ fault.Track why = (let e = r.0 in cc) in
    let calm : c.breaks-self-inside.result ≡ i.broken =
    c.breaks-self-inside.ensures ∙ (ap breaks_layer is ∙ sym (ap (λ (s : StackState). s.broken) c.self.view_is ∙ c.requires.whole)) in
    let back : take i.layers.len (next ++ drop (length next) i.layers.items) ≡ i.layers.items =
    written_back next i.layers.items i.layers.len (sym c.as_mut_slice.ensures.len ∙ sym c.write_last.auto.layers) ∙ (r.1 ∙ c.as_mut_slice.ensures.value) in (
      (let e = is in cc),
      ap (λ (ls : List LayerState). let s : StackState = record { geometry = i.geometry; layers = ls; broken = c.breaks-self-inside.result } in s) back
          ∙ (ap (λ (b : Bool). let s : StackState = record { geometry = i.geometry; layers = i.layers.items; broken = b } in s) calm ∙ c.self.view_is),
      r.2,
    )
