use Rattle.std.proofs.Common.{length, Some, None, sym, ap, subst}
use Rattle.cckd_base.specs.declared.call.Call.TheVariants as call
use Rattle.cckd_base.specs.declared.reply.Reply.{Reply}
use Rattle.cckd_shelf.specs.Seen.{seen}
use Rattle.cckd_stack.specs.Answers.{Answer}
use Rattle.cckd_stack.specs.Stacked.{StackState}
use Rattle.cckd_stack.specs.Called.{stack_in}
use Rattle.cckd_stack.proofs.TiedLemmas.{tied_reads_all}
use Rattle.cckd_engine.specs.Calls.{asks, answer_in}
use Rattle.cckd_engine.specs.Performs.{Performs, said_to_read}
use Rattle.cckd_engine.proofs.CallLemmas.{no_track, reads_do, reads_keep, agrees_now, agrees_then}
use Rattle.cckd_engine.proofs.TrackCallLemmas.{none_such, looked_up, read_answers, read_fits, read_stays, read_calm, read_roomy, read_counts}
use Rattle.cckd_stack.proofs.MarkingLemmas.{caches_mark}
use Rattle.cckd_engine.proofs.ClosingLemmas.{closes_by, same_cached, read_open}
use Rattle.cckd_engine.proofs.stack_disk.read_at.Goals as goal

pub returns-in_default-clause-performs : goal.returns-in_default-clause-performs
returns-in_default-clause-performs g c = λ given.
    no_track c.args.disk.now (seen g.T.Shows c.args.stage.now) c.requires.can c.requires.stack (asks (call.Read c.args.at) given)
    (none_such c.args.disk.now.geometry c.args.at
    (looked_up c.args.disk.now.geometry c.args.shape.now c.args.at None c.track.result c.requires.shape c.track.ensures.value c.in_default.is))

pub read-found-requires-clause-can_read : goal.read-found-requires-clause-can_read
read-found-requires-clause-can_read g c = tied_reads_all c.args.disk.now.layers (seen g.T.Shows c.args.stage.now) c.requires.can.tied

pub returns-clause-performs : goal.returns-clause-performs
returns-clause-performs g c = λ given.
    let old = c.args.disk.now in
    let new = c.read-found.new.self in
    let before = seen g.T.Shows c.args.stage.now in
    let after = seen g.T.Shows c.read-found.new.stage in
    let out = c.read-found.new.out in
    let found = c.read-found.result in
    let done = c.read-found.ensures in
    let at = c.args.at in
    let t = c.in-Some.t.0 in
    let here = looked_up old.geometry c.args.shape.now at (Some c.in-Some.t) c.track.result c.requires.shape c.track.ensures.value c.in-Some.is in
    subst (λ (said : Answer). Performs (asks (call.Read at) given) said old new before after)
    (sym (ap (λ (said : Reply). answer_in said out) c.reply_to_read.ensures))
    (reads_do old new before after c.requires.can (λ told. told) (λ told. told) done.rest done.cached done.can_read done.reads.kept c.requires.stack
    (asks (call.Read at) given) (answer_in (said_to_read found) out)
    (λ told sure. read_answers old.geometry at t here (stack_in old before.world.events) given c.args.out.now out found (done.answer told sure) (done.checked told sure) (done.refusal told sure))
    (read_fits old.geometry at t (length given) out found c.requires.stack.geometry done.accepted done.kind)
    (λ s. read_stays old.geometry at t here s given (said_to_read found)) (read_calm at found)
    (read_counts found before.faults after.faults done.reads.counts) (read_roomy found done.kind)
    (closes_by (asks (call.Read at) given) (answer_in (said_to_read found) out) old new before after (ap (λ (s : StackState). s.geometry) done.rest) (same_cached old.layers new.layers done.cached)
    (λ fine. caches_mark old.layers new.layers before after done.cached done.reads.kept)
    (λ fine told agree. agrees_then new after.world ((reads_keep old new before after c.requires.can (λ t. t) (λ t. t) done.rest done.cached done.can_read done.reads.kept c.requires.stack).agreed told (agrees_now old before.world agree)).agree)
    (λ closed. absurd (read_open found closed))))
