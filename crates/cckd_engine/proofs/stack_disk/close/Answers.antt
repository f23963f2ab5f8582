use Rattle.std.proofs.Common.{refl, sym, ap, ◌∙◌, subst}
use Rattle.cckd_base.specs.declared.call.Call.TheVariants as call
use Rattle.cckd_base.specs.declared.reply.Reply.{Reply}
use Rattle.cckd_base.specs.declared.reply.Reply.TheVariants as reply
use Rattle.cckd_shelf.specs.Seen.{seen}
use Rattle.cckd_stack.proofs.TiedLemmas.{tied_reads_all}
use Rattle.cckd_engine.specs.Calls.{asks, answer_in}
use Rattle.cckd_engine.specs.Performs.{Performs}
use Rattle.cckd_stack.proofs.SomeLemmas.{files_some, sure_changed}
use Rattle.cckd_engine.proofs.CallLemmas.{harden_does, still_quiet}
use Rattle.cckd_engine.proofs.RoomLemmas.{stays_last, unchanged_ok}
use Rattle.cckd_engine.proofs.FrameLemmas.{closes_spare}
use Rattle.cckd_engine.proofs.TrackCallLemmas.{done_plain}
use Rattle.cckd_stack.specs.Answers.{Answer, plain}
use Rattle.cckd_stack.specs.Writes.{AreUnchanged, reply_by}
use Rattle.cckd_engine.proofs.ClosingLemmas.{closes_by, close_open}
use Rattle.cckd_engine.proofs.stack_disk.close.Goals as goal

pub close-made-requires-clause-can_read : goal.close-made-requires-clause-can_read
close-made-requires-clause-can_read g c = tied_reads_all c.args.disk.now.layers (seen g.T.Shows c.args.stage.now) c.requires.can.tied

pub returns : goal.returns
returns g c = λ given out.
    let old = c.args.disk.now in
    let new = c.close-made.new.self in
    let before = seen g.T.Shows c.args.stage.now in
    let after = seen g.T.Shows c.close-made.new.stage in
    let made = c.close-made.result in
    let done = c.close-made.ensures in
    subst (λ (said : Answer). Performs (asks call.Close given) said old new before after)
    (sym (ap (λ (said : Reply). answer_in said out) c.reply_of.ensures ∙ done_plain (Unit {0}) reply.Closed made out refl))
    (harden_does old new before after c.requires.can (λ told. told) made done.geometry done.broken done.stops
    (λ told. record { output = (done.others told).output; script = (done.others told).script })
    (files_some old.layers new.layers done.files c.requires.stack.some) (λ told. sure_changed old.layers before.world after.world (done.others told))
    (closes_spare old new before after done.files done.calm done.others)
    call.Close given reply.Closed refl refl refl refl refl done.map done.settles done.refusal done.counts
    (λ unchanged. let still = done.still (unchanged) in still_quiet old new before after still.1 still.2 unchanged)
    c.requires.stack.layers (stays_last old.layers new.layers c.requires.stack.some done.files done.confined) (unchanged_ok (Unit {0}) made new.layers (files_some old.layers new.layers done.files c.requires.stack.some) done.unchanged)
    (λ whole again.
    closes_by (asks call.Close given) (plain (reply_by reply.Closed made)) old new before after done.geometry done.files
    (λ fine. done.marks (whole fine)) again (λ closed. close_open call.Close made (AreUnchanged new.layers) done.unchanged closed)))
