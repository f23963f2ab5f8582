use Rattle.cckd_base.specs.Geometry.{track_count}
use Rattle.cckd_base.specs.declared.geometry.Geometry.{Geometry}
use Rattle.std.proofs.Common.{◌-◌, length, Some, None, refl, sym, ap, ◌∙◌, subst, ◌<◌}
use Rattle.cckd_base.specs.declared.call.Call.TheVariants as call
use Rattle.cckd_base.specs.declared.reply.Reply.{Reply}
use Rattle.cckd_base.specs.declared.reply.Reply.TheVariants as reply
use Rattle.cckd_shelf.specs.Seen.{seen}
use Rattle.cckd_stack.specs.Answers.{Answer, plain}
use Rattle.cckd_stack.specs.Writes.{reply_by}
use Rattle.cckd_layer.specs.Writes.{IsSameFile}
use Rattle.cckd_layer.proofs.SureLemmas.{sure_spared}
use Rattle.cckd_stack.proofs.SomeLemmas.{changes_some}
use Rattle.cckd_engine.specs.Calls.{asks, answer_in}
use Rattle.cckd_engine.specs.Performs.{Performs}
use Rattle.cckd_engine.proofs.CallLemmas.{no_track}
use Rattle.cckd_engine.proofs.FrameLemmas.{changes_spare}
use Rattle.cckd_engine.proofs.TrackCallLemmas.{none_such, looked_up, done_plain, write_does}
use Rattle.cckd_engine.proofs.ClosingLemmas.{closes_by, same_changed, done_open}
use Rattle.cckd_engine.proofs.stack_disk.write_at.Goals as goal

pub returns-in_default : goal.returns-in_default
returns-in_default g c = λ out.
    no_track c.args.disk.now (seen g.T.Shows c.args.stage.now) c.requires.can c.requires.stack (asks (call.Write c.args.at) c.args.given.now)
    (none_such c.args.disk.now.geometry c.args.at
    (looked_up c.args.disk.now.geometry c.args.shape.now c.args.at None c.track.result c.requires.shape c.track.ensures.value c.in_default.is))

pub returns : goal.returns
returns g c = λ out.
    let old = c.args.disk.now in
    let new = c.write-made.new.self in
    let before = seen g.T.Shows c.args.stage.now in
    let after = seen g.T.Shows c.write-made.new.stage in
    let made = c.write-made.result in
    let done = c.write-made.ensures in
    let at = c.args.at in
    let given = c.args.given.now in
    let here = looked_up old.geometry c.args.shape.now at (Some c.in-Some.t) c.track.result c.requires.shape c.track.ensures.value c.in-Some.is in
    subst (λ (said : Answer). Performs (asks (call.Write at) given) said old new before after)
    (sym (ap (λ (said : Reply). answer_in said out) c.reply_of.ensures ∙ done_plain (Unit {0}) (reply.Written (length given)) made out refl))
    (write_does old new before after c.requires.can (λ told. told) made done.geometry done.broken done.stops
    (λ told. record { output = (done.others told).output; script = (done.others told).script })
    (changes_some IsSameFile old.layers new.layers done.last) (λ told. sure_spared (length old.layers - 1) before.world after.world (done.others told))
    (changes_spare IsSameFile (λ s next same. same.slot) old new before after c.requires.stack.layers done.last done.others)
    at c.in-Some.t.0 here given done.stores done.checked done.map done.refusal done.counts
    (subst (λ (k : Geometry). c.in-Some.t.0 < track_count k) c.requires.shape c.in-Some.ensures.within) c.requires.stack.layers done.last done.grows done.stays done.lacks
    (λ whole again.
    closes_by (asks (call.Write at) given) (plain (reply_by (reply.Written (length given)) made)) old new before after done.geometry (same_changed IsSameFile (λ s n h. h) old.layers new.layers done.last)
    (λ fine. done.marks (whole fine)) again (λ closed. absurd (done_open (reply.Written (length given)) made (λ e. let k = e in cc) closed))))
