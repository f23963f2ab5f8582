use Rattle.std.proofs.Common.{[], length, sym, ap, ◌∙◌, subst}
use Rattle.cckd_base.specs.declared.call.Call.TheVariants as call
use Rattle.cckd_base.specs.declared.reply.Reply.{Reply}
use Rattle.cckd_shelf.specs.Seen.{seen}
use Rattle.cckd_stack.specs.Answers.{Answer}
use Rattle.cckd_stack.specs.Stacked.{StackState}
use Rattle.cckd_stack.specs.Called.{stack_in}
use Rattle.cckd_stack.proofs.TiedLemmas.{tied_reads_all}
use Rattle.cckd_engine.specs.Calls.{asks, answer_in}
use Rattle.cckd_engine.specs.Performs.{Performs, said_to_check}
use Rattle.cckd_engine.proofs.CallLemmas.{reads_do, reads_keep, agrees_now, agrees_then}
use Rattle.cckd_engine.proofs.TrackCallLemmas.{check_answers, check_fits, check_stays, check_calm, check_counts, check_roomy, check_plain}
use Rattle.cckd_stack.proofs.MarkingLemmas.{caches_mark}
use Rattle.cckd_engine.proofs.ClosingLemmas.{closes_by, same_cached, check_open}
use Rattle.cckd_engine.proofs.stack_disk.check.Goals as goal

pub check-found-requires-clause-can_read : goal.check-found-requires-clause-can_read
check-found-requires-clause-can_read g c = tied_reads_all c.args.disk.now.layers (seen g.T.Shows c.args.stage.now) c.requires.can.tied

pub returns-clause-performs : goal.returns-clause-performs
returns-clause-performs g c = λ given out.
    let old = c.args.disk.now in
    let new = c.check-found.new.self in
    let before = seen g.T.Shows c.args.stage.now in
    let after = seen g.T.Shows c.check-found.new.stage in
    let found = c.check-found.result in
    let done = c.check-found.ensures in
    subst (λ (said : Answer). Performs (asks (call.Check c.args.level) given) said old new before after)
    (sym (ap (λ (said : Reply). answer_in said out) c.reply_to_check.ensures ∙ check_plain c.args.level found out))
    (reads_do old new before after c.requires.can (λ told. told) (λ told. told) done.rest done.cached done.can_read done.reads.kept c.requires.stack
    (asks (call.Check c.args.level) given) (record { reply = said_to_check c.args.level found; bytes = [] })
    (λ told sure. check_answers old.geometry (stack_in old before.world.events) given c.args.level found (done.bad told sure) done.refusal)
    (check_fits c.args.level (length given) found done.refusal) (λ s. check_stays old.geometry s given c.args.level found) (check_calm c.args.level found)
    (check_counts c.args.level found before.faults after.faults done.reads.counts) (check_roomy c.args.level found done.refusal)
    (closes_by (asks (call.Check c.args.level) given) (record { reply = said_to_check c.args.level found; bytes = [] }) old new before after (ap (λ (s : StackState). s.geometry) done.rest) (same_cached old.layers new.layers done.cached)
    (λ fine. caches_mark old.layers new.layers before after done.cached done.reads.kept)
    (λ fine told agree. agrees_then new after.world ((reads_keep old new before after c.requires.can (λ t. t) (λ t. t) done.rest done.cached done.can_read done.reads.kept c.requires.stack).agreed told (agrees_now old before.world agree)).agree)
    (λ closed. absurd (check_open c.args.level found closed))))
