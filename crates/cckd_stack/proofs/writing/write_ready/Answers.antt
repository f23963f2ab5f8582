use Rattle.std.proofs.Common.{◌≡◌, ◌<◌, Some, None, Err, OnOk, sym, ◌∙◌, ap, subst, ◌/◌}
use Rattle.cckd_base.specs.declared.geometry.Geometry.{Geometry}
use Rattle.cckd_base.specs.declared.geometry.Layout.{Layout}
use Rattle.cckd_base.specs.Geometry.{track_count}
use Rattle.cckd_shelf.specs.declared.fault.Faults.{Faults}
use Rattle.cckd_shelf.specs.Seen.{seen}
use Rattle.cckd_layer.specs.Writes.{CountsLayer}
use Rattle.cckd_layer.proofs.StepLemmas.{only_then}
use Rattle.cckd_layer.proofs.SureLemmas.{sure_spared}
use Rattle.cckd_stack.proofs.ReadyLemmas.{ready_stores, ready_kept, ready_refusal, ready_stopped, looked_keeps, still_stopped, file_then, ready_grows, ready_stays, ready_lacks, kind_lacks}
use Rattle.cckd_stack.proofs.MarkingLemmas.{ready_unharmed, only_looked_unharmed}
use Rattle.cckd_stack.proofs.writing.write_ready.Goals as goal

pub write-requires-clause-track : goal.write-requires-clause-track
write-requires-clause-track g c = subst (λ (l : Layout). c.args.t.0 < track_count l.geo) (sym c.ready.ensures.same.layout) c.requires.track

pub write-requires-clause-agrees : goal.write-requires-clause-agrees
write-requires-clause-agrees g c = λ told sure.
    let was = sure_spared c.args.layer.now.slot (seen g.T.Shows c.args.stage.now).world (seen g.T.Shows c.ready.new.stage).world (c.ready.ensures.others told) sure in
    (c.in-Ok.ensures.completed told was).agrees

pub returns-in-Ok-clause-stores : goal.returns-in-Ok-clause-stores
returns-in-Ok-clause-stores g c =
    let null = g.U.Unit.null_bytes in
    let s = c.args.layer.now in
    let m = c.ready.new.layer in
    let n = c.write.new.self in
    let a = seen g.T.Shows c.args.stage.now in
    let b = seen g.T.Shows c.ready.new.stage in
    let z = seen g.T.Shows c.write.new.stage in
    ready_stores null s m n a b z (λ told. told) c.ready.ensures.same c.in-Ok.ensures.completed c.ready.ensures.still c.write.result c.args.t.0 (g.U.Unit.value c.args.bytes.now) c.write.ensures.stores

pub returns-in-Ok-clause-checked : goal.returns-in-Ok-clause-checked
returns-in-Ok-clause-checked g c =
    subst (λ (l : Layout). OnOk c.write.result (g.U.Unit.fault l.geo c.args.t.0 c.args.bytes.now ≡ None)) c.ready.ensures.same.layout c.write.ensures.checked

pub returns-in-Ok-clause-kept : goal.returns-in-Ok-clause-kept
returns-in-Ok-clause-kept g c =
    let null = g.U.Unit.null_bytes in
    let s = c.args.layer.now in
    let m = c.ready.new.layer in
    let n = c.write.new.self in
    let a = seen g.T.Shows c.args.stage.now in
    let b = seen g.T.Shows c.ready.new.stage in
    let z = seen g.T.Shows c.write.new.stage in
    ready_kept null s m n a b z (λ told. told) c.ready.ensures.same c.in-Ok.ensures.completed c.ready.ensures.still c.write.result c.write.ensures.kept

pub returns-in-Ok-clause-refused : goal.returns-in-Ok-clause-refused
returns-in-Ok-clause-refused g c = λ why found.
    let r = c.ready.ensures.refused why found in
    let w = c.write.ensures.refused why (subst (λ (l : Layout). g.U.Unit.fault l.geo c.args.t.0 c.args.bytes.now ≡ Some why) (sym c.ready.ensures.same.layout) found) in
    (w.0, w.1 ∙ r.1, w.2 ∙ r.2)

pub returns-in-Ok-clause-refusal : goal.returns-in-Ok-clause-refusal
returns-in-Ok-clause-refusal g c =
    let null = g.U.Unit.null_bytes in
    let s = c.args.layer.now in
    let m = c.ready.new.layer in
    let n = c.write.new.self in
    let a = seen g.T.Shows c.args.stage.now in
    let b = seen g.T.Shows c.ready.new.stage in
    let z = seen g.T.Shows c.write.new.stage in
    ready_refusal null s m n a b z (λ told. told) c.ready.ensures.same c.in-Ok.ensures.completed c.ready.ensures.still c.write.result (λ (geo : Geometry). g.U.Unit.fault geo c.args.t.0 c.args.bytes.now) c.args.t.0 (g.U.Unit.value c.args.bytes.now) c.write.ensures.refusal

pub returns-in-Ok-clause-same : goal.returns-in-Ok-clause-same
returns-in-Ok-clause-same g c =
    file_then c.args.layer.now c.ready.new.layer c.write.new.self c.ready.ensures.same c.write.ensures.same

pub returns-in-Ok-clause-counts : goal.returns-in-Ok-clause-counts
returns-in-Ok-clause-counts g c =
    subst (λ (f : Faults). CountsLayer c.write.result f (g.T.Shows.faults c.write.new.stage)) c.in-Ok.ensures.counts c.write.ensures.counts

pub returns-in-Ok-clause-stopped : goal.returns-in-Ok-clause-stopped
returns-in-Ok-clause-stopped g c =
    let null = g.U.Unit.null_bytes in
    let s = c.args.layer.now in
    let m = c.ready.new.layer in
    let n = c.write.new.self in
    let a = seen g.T.Shows c.args.stage.now in
    let b = seen g.T.Shows c.ready.new.stage in
    let z = seen g.T.Shows c.write.new.stage in
    ready_stopped null s m n a b z (λ told. told) c.ready.ensures.same c.in-Ok.ensures.completed c.ready.ensures.still c.write.ensures.stopped

pub returns-in-Ok-clause-others : goal.returns-in-Ok-clause-others
returns-in-Ok-clause-others g c =
    let s = c.args.layer.now in
    let m = c.ready.new.layer in
    let a = seen g.T.Shows c.args.stage.now in
    let b = seen g.T.Shows c.ready.new.stage in
    let z = seen g.T.Shows c.write.new.stage in
    only_then s.slot m.slot a b z (λ told. told) c.ready.ensures.same.slot c.ready.ensures.others c.write.ensures.others

pub returns-in-Err-clause-kept : goal.returns-in-Err-clause-kept
returns-in-Err-clause-kept g c =
    let null = g.U.Unit.null_bytes in
    let s = c.args.layer.now in
    let m = c.ready.new.layer in
    let a = seen g.T.Shows c.args.stage.now in
    let b = seen g.T.Shows c.ready.new.stage in
    λ harmless. looked_keeps null s m a b (λ told. told) c.ready.ensures.still (c.in-Err.ensures.looked harmless)

pub returns-in-Err-clause-refused : goal.returns-in-Err-clause-refused
returns-in-Err-clause-refused g c = λ why found.
    let r = c.in-Err.ensures.refused why found in
    (ap Err r.0, r.1, r.2)

pub returns-in-Err-clause-stopped : goal.returns-in-Err-clause-stopped
returns-in-Err-clause-stopped g c =
    let null = g.U.Unit.null_bytes in
    let s = c.args.layer.now in
    let m = c.ready.new.layer in
    let a = seen g.T.Shows c.args.stage.now in
    let b = seen g.T.Shows c.ready.new.stage in
    still_stopped null s m a b (λ told. told) c.ready.ensures.still

pub returns-in-Ok-clause-grows : goal.returns-in-Ok-clause-grows
returns-in-Ok-clause-grows g c =
    let null = g.U.Unit.null_bytes in
    let s = c.args.layer.now in
    let m = c.ready.new.layer in
    let n = c.write.new.self in
    let a = seen g.T.Shows c.args.stage.now in
    let b = seen g.T.Shows c.ready.new.stage in
    let z = seen g.T.Shows c.write.new.stage in
    ready_grows null s m n a b z (λ told. told) c.ready.ensures.same c.in-Ok.ensures.completed c.ready.ensures.still c.write.result (c.args.t.0 / 256) c.ready.ensures.confined c.write.ensures.grows

pub returns-in-Ok-clause-stays : goal.returns-in-Ok-clause-stays
returns-in-Ok-clause-stays g c =
    let null = g.U.Unit.null_bytes in
    let s = c.args.layer.now in
    let m = c.ready.new.layer in
    let n = c.write.new.self in
    let a = seen g.T.Shows c.args.stage.now in
    let b = seen g.T.Shows c.ready.new.stage in
    let z = seen g.T.Shows c.write.new.stage in
    ready_stays null s m n a b z (λ told. told) c.ready.ensures.same c.in-Ok.ensures.completed c.ready.ensures.still c.write.result c.ready.ensures.confined c.write.ensures.stays

pub returns-in-Ok-clause-lacks : goal.returns-in-Ok-clause-lacks
returns-in-Ok-clause-lacks g c = λ told sure.
    let null = g.U.Unit.null_bytes in
    let s = c.args.layer.now in
    let m = c.ready.new.layer in
    let n = c.write.new.self in
    let a = seen g.T.Shows c.args.stage.now in
    let b = seen g.T.Shows c.ready.new.stage in
    let z = seen g.T.Shows c.write.new.stage in
    ready_lacks null s m n a b z (λ told. told) c.ready.ensures.same c.in-Ok.ensures.completed c.ready.ensures.still c.write.result (g.U.Unit.fault m.tables.layout.geo c.args.t.0 c.args.bytes.now) c.args.t.0 (g.U.Unit.value c.args.bytes.now) c.write.ensures.refusal c.write.ensures.same told sure

pub returns-in-Err-clause-lacks : goal.returns-in-Err-clause-lacks
returns-in-Err-clause-lacks g c = λ told sure.
    kind_lacks g.U.Unit.null_bytes c.ready.new.layer (seen g.T.Shows c.ready.new.stage) c.args.t.0 (g.U.Unit.value c.args.bytes.now) c.in-Err.fault c.in-Err.ensures.kind

pub returns-in-Ok-clause-unharmed : goal.returns-in-Ok-clause-unharmed
returns-in-Ok-clause-unharmed g c =
    ready_unharmed g.U.Unit.null_bytes c.args.layer.now c.ready.new.layer c.write.new.self (seen g.T.Shows c.args.stage.now) (seen g.T.Shows c.ready.new.stage) (seen g.T.Shows c.write.new.stage)
    c.write.result (λ told. told) c.ready.ensures.same c.ready.ensures.still c.write.ensures.unharmed

pub returns-in-Err-clause-unharmed : goal.returns-in-Err-clause-unharmed
returns-in-Err-clause-unharmed g c = λ harmless.
    only_looked_unharmed c.args.layer.now c.ready.new.layer (seen g.T.Shows c.args.stage.now) (seen g.T.Shows c.ready.new.stage) (c.in-Err.ensures.looked harmless)
