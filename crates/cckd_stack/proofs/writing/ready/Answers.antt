use Rattle.std.proofs.Common.{◌≡◌, true, Some, None, refl, sym, ◌∙◌, subst}
use Rattle.cckd_base.specs.declared.geometry.Layout.{Layout}
use Rattle.cckd_shelf.specs.Seen.{seen}
use Rattle.cckd_shelf.proofs.FrameLemmas.{only_stays}
use Rattle.cckd_stack.proofs.ReadyLemmas.{beside_file, same_file_of, marked_ready, nothing_still, complete_looked, complete_refusal, not_at_fault, same_fault, outside_kind}
use Rattle.cckd_layer.proofs.ExcessLemmas.{looked_nothing}
use Rattle.cckd_stack.proofs.writing.ready.Goals as goal

pub returns-then-marked-clause-completed : goal.returns-then-marked-clause-completed
returns-then-marked-clause-completed g c =
    let marked : c.args.layer.now.marked ≡ true = sym c.marked.ensures ∙ c.if-marked.true in
    marked_ready g.U.Unit.null_bytes c.args.layer.now (seen g.T.Shows c.args.stage.now) c.requires.tied marked

pub returns-then-marked-clause-still : goal.returns-then-marked-clause-still
returns-then-marked-clause-still g c = nothing_still g.U.Unit.null_bytes c.args.layer.now (seen g.T.Shows c.args.stage.now) c.requires.tied

pub returns-then-marked-clause-refused : goal.returns-then-marked-clause-refused
returns-then-marked-clause-refused g c = λ why found. (tt, refl, refl)

pub returns-then-marked-clause-same : goal.returns-then-marked-clause-same
returns-then-marked-clause-same g c = same_file_of c.args.layer.now

pub returns-then-marked-clause-others : goal.returns-then-marked-clause-others
returns-then-marked-clause-others g c = only_stays c.args.layer.now.slot (seen g.T.Shows c.args.stage.now) (seen g.T.Shows c.args.stage.now) (λ told. refl)

pub returns-in-Ok-clause-looked : goal.returns-in-Ok-clause-looked
returns-in-Ok-clause-looked g c =
    complete_looked c.args.layer.now c.complete.new.self (seen g.T.Shows c.args.stage.now) (seen g.T.Shows c.complete.new.stage) c.complete.result c.complete.ensures.refusal c.complete.ensures.read

pub returns-in-Ok-clause-refused : goal.returns-in-Ok-clause-refused
returns-in-Ok-clause-refused g c = λ why found. not_at_fault (g.U.Unit.fault c.args.layer.now.tables.layout.geo c.args.t.0 c.args.bytes.now) why (subst (λ (l : Layout). g.U.Unit.fault l.geo c.args.t.0 c.args.bytes.now ≡ None) c.layout-layout.ensures.value c.in-Ok.ensures) found

pub returns-in-Ok-clause-refusal : goal.returns-in-Ok-clause-refusal
returns-in-Ok-clause-refusal g c =
    complete_refusal g.U.Unit.null_bytes (g.U.Unit.fault c.args.layer.now.tables.layout.geo c.args.t.0 c.args.bytes.now) c.args.layer.now c.complete.new.self
    (seen g.T.Shows c.args.stage.now) (seen g.T.Shows c.complete.new.stage) c.args.t.0 (g.U.Unit.value c.args.bytes.now) c.complete.result
    (subst (λ (l : Layout). g.U.Unit.fault l.geo c.args.t.0 c.args.bytes.now ≡ None) c.layout-layout.ensures.value c.in-Ok.ensures) c.complete.ensures.refusal

pub returns-in-Ok-clause-same : goal.returns-in-Ok-clause-same
returns-in-Ok-clause-same g c = beside_file c.args.layer.now c.complete.new.self c.complete.ensures.same

pub returns-in-Err-clause-still : goal.returns-in-Err-clause-still
returns-in-Err-clause-still g c = nothing_still g.U.Unit.null_bytes c.args.layer.now (seen g.T.Shows c.args.stage.now) c.requires.tied

pub returns-in-Err-clause-looked : goal.returns-in-Err-clause-looked
returns-in-Err-clause-looked g c = λ harmless. looked_nothing c.args.layer.now (seen g.T.Shows c.args.stage.now) c.requires.tied

pub returns-in-Err-clause-refused : goal.returns-in-Err-clause-refused
returns-in-Err-clause-refused g c = λ why found. (
  same_fault (g.U.Unit.fault c.args.layer.now.tables.layout.geo c.args.t.0 c.args.bytes.now) c.in-Err.fault why
      (subst (λ (l : Layout). g.U.Unit.fault l.geo c.args.t.0 c.args.bytes.now ≡ Some c.in-Err.fault) c.layout-layout.ensures.value c.in-Err.ensures) found,
  refl,
  refl,
)

pub returns-in-Err-clause-refusal : goal.returns-in-Err-clause-refusal
returns-in-Err-clause-refusal g c = subst (λ (l : Layout). g.U.Unit.fault l.geo c.args.t.0 c.args.bytes.now ≡ Some c.in-Err.fault) c.layout-layout.ensures.value c.in-Err.ensures

pub returns-in-Err-clause-same : goal.returns-in-Err-clause-same
returns-in-Err-clause-same g c = same_file_of c.args.layer.now

pub returns-in-Err-clause-others : goal.returns-in-Err-clause-others
returns-in-Err-clause-others g c = only_stays c.args.layer.now.slot (seen g.T.Shows c.args.stage.now) (seen g.T.Shows c.args.stage.now) (λ told. refl)

pub returns-in-Ok-clause-kind : goal.returns-in-Ok-clause-kind
returns-in-Ok-clause-kind g c = outside_kind c.complete.result c.complete.ensures.refusal
