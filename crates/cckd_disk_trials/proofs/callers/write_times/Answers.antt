use Rattle.std.proofs.Common.{◌<◌, ◌∙◌, ap, sym, subst, arith}
use Rattle.cckd_base.specs.declared.geometry.Layout.{Layout}
use Rattle.cckd_base.specs.Geometry.{track_count}
use Rattle.cckd_shelf.specs.Seen.{seen}
use Rattle.cckd_layer.specs.Writes.{is_broken_by}
use Rattle.cckd_disk_trials.specs.Callers.{written}
use Rattle.cckd_disk_trials.proofs.TogetherLemmas.{none_written, written_agrees, written_again, last_again, stored_last, holds_written, act_behind, others_behind}
use Rattle.cckd_layer.proofs.ThenLemmas.{ok_then}
use Rattle.cckd_disk_trials.proofs.callers.write_times.Goals as goal

pub loop-time-init : goal.loop-time-init
loop-time-init g c = record {
  whole = c.requires.whole;
  so_far = none_written g.U.Unit.null_bytes (written g.U.Unit.value c.args.t.0 c.args.bytes.now) c.args.layer.now (seen g.T.Shows c.args.stage.now) c.layers_agree.ensures.more c.requires.agrees;
  last = λ some. absurd (omega (arith, some));
}

pub write-requires-clause-whole : goal.write-requires-clause-whole
write-requires-clause-whole g c = c.loop-time.invariant.whole

pub write-requires-clause-track : goal.write-requires-clause-track
write-requires-clause-track g c =
    subst (λ (l : Layout). c.args.t.0 < track_count l.geo) (sym c.loop-time.invariant.so_far.same.layout) c.requires.track

pub write-requires-clause-agrees : goal.write-requires-clause-agrees
write-requires-clause-agrees g c =
    let more = written g.U.Unit.value c.args.t.0 c.args.bytes.now in
    written_agrees g.U.Unit.null_bytes more c.args.layer.now c.loop-time.layer (seen g.T.Shows c.args.stage.now) (seen g.T.Shows c.loop-time.stage) (λ told. told) c.loop-time.invariant.so_far

pub returns-in-Err-clause-stopped : goal.returns-in-Err-clause-stopped
returns-in-Err-clause-stopped g c =
    let more = written g.U.Unit.value c.args.t.0 c.args.bytes.now in
    let a = seen g.T.Shows c.args.stage.now in
    let b = seen g.T.Shows c.loop-time.stage in
    let d = seen g.T.Shows c.write.new.stage in
    act_behind g.U.Unit.null_bytes more c.args.layer.now c.loop-time.layer a b d (λ told. told) c.loop-time.invariant.so_far c.write.ensures.stopped

pub returns-in-Err-clause-others : goal.returns-in-Err-clause-others
returns-in-Err-clause-others g c =
    let more = written g.U.Unit.value c.args.t.0 c.args.bytes.now in
    let a = seen g.T.Shows c.args.stage.now in
    let b = seen g.T.Shows c.loop-time.stage in
    let d = seen g.T.Shows c.write.new.stage in
    others_behind g.U.Unit.null_bytes more c.args.layer.now c.loop-time.layer a b d (λ told. told) c.loop-time.invariant.so_far c.write.ensures.others

pub loop-time-preserved : goal.loop-time-preserved
loop-time-preserved g c =
    let more = written g.U.Unit.value c.args.t.0 c.args.bytes.now in
    let a = seen g.T.Shows c.args.stage.now in
    let b = seen g.T.Shows c.loop-time.stage in
    let d = seen g.T.Shows c.write.new.stage in
    record {
      whole = c.write.ensures.broken ∙ ap is_broken_by c.in_default.is;
      so_far = written_again g.U.Unit.null_bytes more c.args.layer.now c.loop-time.layer c.write.new.self a b d (λ told. told) (λ told. told) c.loop-time.invariant.so_far
          c.write.ensures.same c.in_default.ensures.stores c.write.ensures.stopped c.write.ensures.others;
      last = λ some. last_again g.U.Unit.null_bytes more c.args.layer.now c.loop-time.layer c.write.new.self a b d (λ told. told) c.loop-time.invariant.so_far c.in_default.ensures.stores;
    }

pub harden-requires-clause-whole : goal.harden-requires-clause-whole
harden-requires-clause-whole g c = c.loop-time.invariant.whole

pub harden-requires-clause-can_read : goal.harden-requires-clause-can_read
harden-requires-clause-can_read g c =
    let more = written g.U.Unit.value c.args.t.0 c.args.bytes.now in
    c.layers_agree.ensures.reads c.loop-time.layer (seen g.T.Shows c.loop-time.stage)
    (written_agrees g.U.Unit.null_bytes more c.args.layer.now c.loop-time.layer (seen g.T.Shows c.args.stage.now) (seen g.T.Shows c.loop-time.stage) (λ told. told) c.loop-time.invariant.so_far)

pub returns-clause-stopped : goal.returns-clause-stopped
returns-clause-stopped g c =
    let more = written g.U.Unit.value c.args.t.0 c.args.bytes.now in
    let a = seen g.T.Shows c.args.stage.now in
    let b = seen g.T.Shows c.loop-time.stage in
    let d = seen g.T.Shows c.harden.new.stage in
    act_behind g.U.Unit.null_bytes more c.args.layer.now c.loop-time.layer a b d (λ told. told) c.loop-time.invariant.so_far c.harden.ensures.stopped

pub returns-clause-others : goal.returns-clause-others
returns-clause-others g c =
    let more = written g.U.Unit.value c.args.t.0 c.args.bytes.now in
    let a = seen g.T.Shows c.args.stage.now in
    let b = seen g.T.Shows c.loop-time.stage in
    let d = seen g.T.Shows c.harden.new.stage in
    others_behind g.U.Unit.null_bytes more c.args.layer.now c.loop-time.layer a b d (λ told. told) c.loop-time.invariant.so_far c.harden.ensures.others

pub returns-clause-holds : goal.returns-clause-holds
returns-clause-holds g c = λ some.
    let null = g.U.Unit.null_bytes in
    let more = written g.U.Unit.value c.args.t.0 c.args.bytes.now in
    let s = c.args.layer.now in
    let m = c.loop-time.layer in
    let a = seen g.T.Shows c.args.stage.now in
    let b = seen g.T.Shows c.loop-time.stage in
    let d = seen g.T.Shows c.harden.new.stage in
    let h = c.loop-time.invariant.so_far in
    ok_then c.harden.result (holds_written null more s m a b d (λ told. told) h.same (stored_last null more s m a b (λ told. told) h (c.loop-time.invariant.last (omega (arith, some, c.loop-time-test.false))))) c.harden.ensures.holds
