use Rattle.cckd_shelf.specs.Seen.{seen}
use Rattle.cckd_disk_trials.specs.Callers.{written}
use Rattle.cckd_layer.proofs.SureLemmas.{sure_spared}
use Rattle.cckd_disk_trials.proofs.TogetherLemmas.{write_stops, wrote_once, act_behind, others_behind, stored_kept, holds_written}
use Rattle.cckd_layer.proofs.ThenLemmas.{ok_then}
use Rattle.cckd_disk_trials.proofs.callers.write_and_harden.Goals as goal

pub returns-in-Err-clause-stopped : goal.returns-in-Err-clause-stopped
returns-in-Err-clause-stopped g c =
    write_stops g.U.Unit.null_bytes (written g.U.Unit.value c.args.t.0 c.args.bytes.now) c.args.layer.now (seen g.T.Shows c.args.stage.now) (seen g.T.Shows c.write.new.stage)
    c.layers_agree.ensures.more c.write.ensures.stopped

pub harden-requires-clause-can_read : goal.harden-requires-clause-can_read
harden-requires-clause-can_read g c =
    c.layers_agree.ensures.reads c.write.new.self (seen g.T.Shows c.write.new.stage) (λ told sure.
    let was = sure_spared c.args.layer.now.slot (seen g.T.Shows c.args.stage.now).world (seen g.T.Shows c.write.new.stage).world (c.write.ensures.others told) sure in
    (c.in_default.ensures.stores told (c.requires.agrees told was)).agrees)

pub returns-clause-stopped : goal.returns-clause-stopped
returns-clause-stopped g c =
    let null = g.U.Unit.null_bytes in
    let more = written g.U.Unit.value c.args.t.0 c.args.bytes.now in
    let s = c.args.layer.now in
    let m = c.write.new.self in
    let a = seen g.T.Shows c.args.stage.now in
    let b = seen g.T.Shows c.write.new.stage in
    let d = seen g.T.Shows c.harden.new.stage in
    let once = wrote_once null more s m a b c.layers_agree.ensures.more (λ told. told) c.requires.agrees c.write.ensures.same c.in_default.ensures.stores c.write.ensures.stopped c.write.ensures.others in
    act_behind null more s m a b d (λ told. told) once c.harden.ensures.stopped

pub returns-clause-others : goal.returns-clause-others
returns-clause-others g c =
    let null = g.U.Unit.null_bytes in
    let more = written g.U.Unit.value c.args.t.0 c.args.bytes.now in
    let s = c.args.layer.now in
    let m = c.write.new.self in
    let a = seen g.T.Shows c.args.stage.now in
    let b = seen g.T.Shows c.write.new.stage in
    let d = seen g.T.Shows c.harden.new.stage in
    let once = wrote_once null more s m a b c.layers_agree.ensures.more (λ told. told) c.requires.agrees c.write.ensures.same c.in_default.ensures.stores c.write.ensures.stopped c.write.ensures.others in
    others_behind null more s m a b d (λ told. told) once c.harden.ensures.others

pub returns-clause-stores : goal.returns-clause-stores
returns-clause-stores g c =
    let null = g.U.Unit.null_bytes in
    let more = written g.U.Unit.value c.args.t.0 c.args.bytes.now in
    let s = c.args.layer.now in
    let m = c.write.new.self in
    let n = c.harden.new.self in
    let a = seen g.T.Shows c.args.stage.now in
    let b = seen g.T.Shows c.write.new.stage in
    let d = seen g.T.Shows c.harden.new.stage in
    ok_then c.harden.result (stored_kept null more s m n a b d (λ told. told) c.write.ensures.same c.requires.track c.in_default.ensures.stores) c.harden.ensures.map

pub returns-clause-holds : goal.returns-clause-holds
returns-clause-holds g c =
    let null = g.U.Unit.null_bytes in
    let more = written g.U.Unit.value c.args.t.0 c.args.bytes.now in
    let s = c.args.layer.now in
    let m = c.write.new.self in
    let a = seen g.T.Shows c.args.stage.now in
    let b = seen g.T.Shows c.write.new.stage in
    let d = seen g.T.Shows c.harden.new.stage in
    ok_then c.harden.result (holds_written null more s m a b d (λ told. told) c.write.ensures.same c.in_default.ensures.stores) c.harden.ensures.holds
