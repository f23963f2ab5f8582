use Rattle.std.proofs.Common.{◌-◌, length, refl, sym, ap, ◌∙◌, subst}
use Rattle.cckd_base.specs.declared.call.Call.TheVariants as call
use Rattle.cckd_base.specs.declared.reply.Reply.{Reply}
use Rattle.cckd_base.specs.declared.reply.Reply.TheVariants as reply
use Rattle.cckd_shelf.specs.Seen.{seen}
use Rattle.cckd_stack.specs.Answers.{Answer, plain}
use Rattle.cckd_stack.specs.Writes.{reply_by}
use Rattle.cckd_stack.proofs.TiedLemmas.{tied_reads_all, unchanged_last}
use Rattle.cckd_engine.specs.Calls.{asks, answer_in}
use Rattle.cckd_engine.specs.Performs.{Performs}
use Rattle.cckd_layer.specs.Writes.{IsSameLayer}
use Rattle.cckd_layer.proofs.SureLemmas.{sure_spared}
use Rattle.cckd_stack.proofs.SomeLemmas.{changes_some}
use Rattle.cckd_engine.proofs.CallLemmas.{harden_does, still_quiet}
use Rattle.cckd_engine.proofs.RoomLemmas.{changes_stay, same_files}
use Rattle.cckd_engine.proofs.FrameLemmas.{changes_spare}
use Rattle.cckd_engine.proofs.TrackCallLemmas.{done_plain}
use Rattle.cckd_engine.proofs.ClosingLemmas.{closes_by, same_changed, same_hardened, done_open}
use Rattle.cckd_engine.proofs.stack_disk.harden.Goals as goal

pub harden-made-requires-clause-can_read : goal.harden-made-requires-clause-can_read
harden-made-requires-clause-can_read g c = tied_reads_all c.args.disk.now.layers (seen g.T.Shows c.args.stage.now) c.requires.can.tied

pub returns : goal.returns
returns g c = λ given out.
    let old = c.args.disk.now in
    let new = c.harden-made.new.self in
    let before = seen g.T.Shows c.args.stage.now in
    let after = seen g.T.Shows c.harden-made.new.stage in
    let made = c.harden-made.result in
    let done = c.harden-made.ensures in
    subst (λ (said : Answer). Performs (asks call.Harden given) said old new before after)
    (sym (ap (λ (said : Reply). answer_in said out) c.reply_of.ensures ∙ done_plain (Unit {0}) reply.Hardened made out refl))
    (harden_does old new before after c.requires.can (λ told. told) made done.geometry done.broken done.stops
    (λ told. record { output = (done.others told).output; script = (done.others told).script })
    (changes_some IsSameLayer old.layers new.layers done.last) (λ told. sure_spared (length old.layers - 1) before.world after.world (done.others told))
    (changes_spare IsSameLayer (λ s next same. same.slot) old new before after c.requires.stack.layers done.last done.others)
    call.Harden given reply.Hardened refl refl refl refl refl done.map done.settles done.refusal done.counts
    (λ unchanged. let still = done.still (unchanged_last c.args.disk.now.layers c.requires.stack.some unchanged) in still_quiet old new before after still.1 still.2 unchanged)
    c.requires.stack.layers (changes_stay old.layers new.layers (same_files old.layers new.layers done.last) done.confined) done.hardened
    (λ whole again.
    closes_by (asks call.Harden given) (plain (reply_by reply.Hardened made)) old new before after done.geometry (same_changed IsSameLayer same_hardened old.layers new.layers done.last)
    (λ fine. done.marks (whole fine)) again (λ closed. absurd (done_open reply.Hardened made (λ e. let k = e in cc) closed))))
