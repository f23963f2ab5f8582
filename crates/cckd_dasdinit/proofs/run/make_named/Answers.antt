use Rattle.std.proofs.Common.{ℕ, Ok, Err, subst}
use Rattle.cckd_shelf.specs.Seen.{seen, Makes}
use Rattle.cckd_shelf.specs.World.{after_bind}
use Rattle.cckd_dasdinit.proofs.ExplainedLemmas.{unbound_ends, bound_ends}
use Rattle.cckd_dasdinit.proofs.run.make_named.Goals as goal

pub returns-in-Err : goal.returns-in-Err
returns-in-Err g c = unbound_ends _ _ _ _ _ (λ t. t) c.in-Err.ensures.kept c.in-Err.ensures.fails.rose c.end_unmade.ensures.said c.end_unmade.ensures.puts

pub returns-in-Ok : goal.returns-in-Ok
returns-in-Ok g c =
    bound_ends (seen g.T.Shows c.args.stage.now) (seen g.T.Shows c.bind.new.self) (seen g.T.Shows c.init.new.stage) (seen g.T.Shows c.end_made.new.stage) _ (Ok c.in-Ok.len) _ (λ t. t) (λ t. t) (subst (λ (slot : ℕ). Makes (after_bind slot c.args.base.now.file.now) (seen g.T.Shows c.args.stage.now) (seen g.T.Shows c.bind.new.self)) c.base_slot.ensures c.in_default.ensures.bound) (g.T.Shows.tied c.args.stage.now) c.in_default.ensures.fails.still c.in-Ok.ensures.counts
    c.in-Ok.ensures.answer c.in-Ok.ensures.made c.in-Ok.ensures.length c.in-Ok.ensures.stopped c.in-Ok.ensures.others c.in-Ok.ensures.kept c.end_made.ensures.said c.end_made.ensures.puts

pub returns-in-Err-init : goal.returns-in-Err-init
returns-in-Err-init g c =
    bound_ends (seen g.T.Shows c.args.stage.now) (seen g.T.Shows c.bind.new.self) (seen g.T.Shows c.init.new.stage) (seen g.T.Shows c.end_unmade-in-Err-init.new.stage) _ (Err c.in-Err-init.why) _ (λ t. t) (λ t. t) (subst (λ (slot : ℕ). Makes (after_bind slot c.args.base.now.file.now) (seen g.T.Shows c.args.stage.now) (seen g.T.Shows c.bind.new.self)) c.base_slot.ensures c.in_default.ensures.bound) (g.T.Shows.tied c.args.stage.now) c.in_default.ensures.fails.still c.in-Err-init.ensures.counts
    c.in-Err-init.ensures.answer c.in-Err-init.ensures.made c.in-Err-init.ensures.length c.in-Err-init.ensures.stopped c.in-Err-init.ensures.others c.in-Err-init.ensures.kept
    c.end_unmade-in-Err-init.ensures.said c.end_unmade-in-Err-init.ensures.puts
