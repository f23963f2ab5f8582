use Rattle.std.proofs.Common.{[], length, sym, ap, ◌∙◌, subst}
use Rattle.cckd_base.specs.declared.call.Call.TheVariants as call
use Rattle.cckd_base.specs.declared.reply.Reply.{Reply}
use Rattle.cckd_shelf.specs.Seen.{seen}
use Rattle.cckd_stack.specs.Answers.{Answer}
use Rattle.cckd_stack.specs.Stacked.{StackState}
use Rattle.cckd_stack.specs.Called.{stack_in}
use Rattle.cckd_stack.proofs.TiedLemmas.{tied_reads_all}
use Rattle.cckd_engine.specs.Calls.{asks, answer_in}
use Rattle.cckd_engine.specs.Performs.{Performs, said_to_display}
use Rattle.cckd_engine.proofs.CallLemmas.{reads_do, reads_keep, agrees_now, agrees_then}
use Rattle.cckd_engine.proofs.TrackCallLemmas.{display_answers, display_fits, display_stays, display_calm, display_counts, display_roomy, display_plain}
use Rattle.cckd_stack.proofs.MarkingLemmas.{caches_mark}
use Rattle.cckd_engine.proofs.ClosingLemmas.{closes_by, same_cached, display_open}
use Rattle.cckd_engine.proofs.stack_disk.display.Goals as goal

pub display-found-requires-clause-can_read : goal.display-found-requires-clause-can_read
display-found-requires-clause-can_read g c = tied_reads_all c.args.disk.now.layers (seen g.T.Shows c.args.stage.now) c.requires.can.tied

pub returns : goal.returns
returns g c = λ given out.
    let old = c.args.disk.now in
    let new = c.display-found.new.self in
    let before = seen g.T.Shows c.args.stage.now in
    let after = seen g.T.Shows c.display-found.new.stage in
    let found = c.display-found.result in
    let done = c.display-found.ensures in
    subst (λ (said : Answer). Performs (asks call.Display given) said old new before after)
    (sym (ap (λ (said : Reply). answer_in said out) c.reply_to_display.ensures ∙ display_plain found out))
    (reads_do old new before after c.requires.can (λ told. told) (λ told. told) done.rest done.cached done.can_read done.reads.kept c.requires.stack
    (asks call.Display given) (record { reply = said_to_display found; bytes = [] })
    (λ told sure. display_answers old.geometry (stack_in old before.world.events) given found (done.shown told sure) done.refusal)
    (display_fits (length given) found done.fits done.refusal) (λ s. display_stays old.geometry s given found) (display_calm found)
    (display_counts found before.faults after.faults done.reads.counts) (display_roomy found done.refusal)
    (closes_by (asks call.Display given) (record { reply = said_to_display found; bytes = [] }) old new before after (ap (λ (s : StackState). s.geometry) done.rest) (same_cached old.layers new.layers done.cached)
    (λ fine. caches_mark old.layers new.layers before after done.cached done.reads.kept)
    (λ fine told agree. agrees_then new after.world ((reads_keep old new before after c.requires.can (λ t. t) (λ t. t) done.rest done.cached done.can_read done.reads.kept c.requires.stack).agreed told (agrees_now old before.world agree)).agree)
    (λ closed. absurd (display_open found closed))))
