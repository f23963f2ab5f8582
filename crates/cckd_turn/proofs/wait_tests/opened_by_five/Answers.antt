use Rattle.std.proofs.Common.{◌≡◌, ℕ, ◌≤◌, List, Some, ap, arith, ◌∙◌}
use Rattle.std.specs.Prelude.{slice_get}
use Rattle.cckd_turn.specs.Passes.{AreDealt, IsReady}
use Rattle.cckd_turn.specs.declared.pass.Pass.{Pass}
use Rattle.cckd_turn.specs.declared.table.TurnTable.{TurnTable}
use Rattle.cckd_turn.proofs.wait_tests.opened_by_five.Goals as goal

-- a pass of a new table is ready for the calls that it was given
ready_at : {V E : Type 0} (t : TurnTable V E) (callers each : ℕ) (passes : List (Pass E)) → AreDealt t callers each passes → (k : ℕ) (p : Pass E) → slice_get passes k ≡ Some p → IsReady t p each
ready_at t callers each passes dealt k p at =
    let new = dealt.new k p at in
    let left = new.left ∙ dealt.each_is in
    (new.resting, omega arith)

pub returns-in-Some-clause-ends : goal.returns-in-Some-clause-ends
returns-in-Some-clause-ends c =
    let items = c.in-Some.ensures in
    let ready = ready_at _ _ _ _ c.in-Ok.ensures.dealt in
    (ready 3 _ (ap (λ xs. slice_get xs 3) items), ready 4 _ (ap (λ xs. slice_get xs 4) items))

pub returns-in-Some-clause-between : goal.returns-in-Some-clause-between
returns-in-Some-clause-between c =
    let items = c.in-Some.ensures in
    let ready = ready_at _ _ _ _ c.in-Ok.ensures.dealt in
    (ready 0 _ (ap (λ xs. slice_get xs 0) items), ready 1 _ (ap (λ xs. slice_get xs 1) items), ready 2 _ (ap (λ xs. slice_get xs 2) items))
