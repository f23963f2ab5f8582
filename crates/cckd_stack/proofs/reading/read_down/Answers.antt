use Rattle.std.proofs.Common.{◌+◌, ◌-◌, length, get_or, ap, arith}
use Rattle.cckd_shelf.specs.Seen.{seen}
use Rattle.cckd_layer.specs.declared.held.Held.{Held}
use Rattle.cckd_layer.specs.Mounted.{LayerState}
use Rattle.cckd_stack.proofs.DownLemmas.{rest_of, own_whole, own_device, one_asked, asked_cached, asked_reads, found_put, found_checked, found_passes, found_refused, nothing_refused, nothing_reads, refused_reads}
use Rattle.cckd_stack.proofs.reading.read_down.Goals as goal

pub read-requires-clause-whole : goal.read-requires-clause-whole
read-requires-clause-whole g c =
    own_whole g.U.Unit.null_bytes g.U.Unit.value g.U.Unit.fault c.args.t.0 c.args.layers.now c.loop-done.layers (seen g.T.Shows c.args.stage.now) (seen g.T.Shows c.loop-done.stage)
    c.args.out.now c.loop-done.out (length c.args.layers.now - c.loop-done.done) (length c.args.layers.now - 1 - c.loop-done.done) (λ told. told) c.loop-done.invariant
    (omega (arith, c.loop-done-test.true)) (get_or c.loop-done.layers (length c.args.layers.now - 1 - c.loop-done.done) c.index-layers-count.result)
    (ap (λ (d : LayerState). get_or c.loop-done.layers (length c.args.layers.now - 1 - c.loop-done.done) d) c.index-layers-count.is)
    (omega (arith, c.loop-done-test.true)) c.args.geo.now c.requires.layers c.requires.track c.requires.whole

pub read-requires-clause-track : goal.read-requires-clause-track
read-requires-clause-track g c =
    own_device g.U.Unit.null_bytes g.U.Unit.value g.U.Unit.fault c.args.t.0 c.args.layers.now c.loop-done.layers (seen g.T.Shows c.args.stage.now) (seen g.T.Shows c.loop-done.stage)
    c.args.out.now c.loop-done.out (length c.args.layers.now - c.loop-done.done) (length c.args.layers.now - 1 - c.loop-done.done) (λ told. told) c.loop-done.invariant
    (omega (arith, c.loop-done-test.true)) (get_or c.loop-done.layers (length c.args.layers.now - 1 - c.loop-done.done) c.index-layers-count.result)
    (ap (λ (d : LayerState). get_or c.loop-done.layers (length c.args.layers.now - 1 - c.loop-done.done) d) c.index-layers-count.is)
    (omega (arith, c.loop-done-test.true)) c.args.geo.now c.requires.layers c.requires.track

pub returns-in-Err-clause-refusal : goal.returns-in-Err-clause-refusal
returns-in-Err-clause-refusal g c =
    found_refused g.U.Unit.null_bytes g.U.Unit.value g.U.Unit.fault c.args.t.0 c.args.layers.now c.loop-done.layers (seen g.T.Shows c.args.stage.now) (seen g.T.Shows c.loop-done.stage)
    c.args.out.now c.loop-done.out (length c.args.layers.now - c.loop-done.done) (length c.args.layers.now - 1 - c.loop-done.done) (λ told. told) c.loop-done.invariant
    (omega (arith, c.loop-done-test.true)) (get_or c.loop-done.layers (length c.args.layers.now - 1 - c.loop-done.done) c.index-layers-count.result)
    (ap (λ (d : LayerState). get_or c.loop-done.layers (length c.args.layers.now - 1 - c.loop-done.done) d) c.index-layers-count.is)
    (omega (arith, c.loop-done-test.true)) c.args.geo.now c.requires.layers c.requires.track c.in-Err.fault c.in-Err.ensures.refusal

pub returns-in-Err-clause-cached : goal.returns-in-Err-clause-cached
returns-in-Err-clause-cached g c =
    asked_cached g.U.Unit.null_bytes g.U.Unit.value g.U.Unit.fault c.args.t.0 c.args.layers.now c.loop-done.layers (seen g.T.Shows c.args.stage.now) (seen g.T.Shows c.loop-done.stage)
    c.args.out.now c.loop-done.out (length c.args.layers.now - c.loop-done.done) (length c.args.layers.now - 1 - c.loop-done.done) (λ told. told) c.loop-done.invariant
    (omega (arith, c.loop-done-test.true)) (get_or c.loop-done.layers (length c.args.layers.now - 1 - c.loop-done.done) c.index-layers-count.result)
    (ap (λ (d : LayerState). get_or c.loop-done.layers (length c.args.layers.now - 1 - c.loop-done.done) d) c.index-layers-count.is)
    (omega (arith, c.loop-done-test.true)) c.args.geo.now c.requires.layers c.requires.track
    c.read.new.self (seen g.T.Shows c.read.new.stage) c.read.new.out (λ told. told) (rest_of (get_or c.loop-done.layers (length c.args.layers.now - 1 - c.loop-done.done) c.index-layers-count.result) c.read.new.self c.in-Err.ensures.rest) c.in-Err.ensures.tables.looks.rest c.in-Err.ensures.can_read c.in-Err.ensures.reads.kept

pub returns-in-Err-clause-can_read : goal.returns-in-Err-clause-can_read
returns-in-Err-clause-can_read g c =
    asked_reads g.U.Unit.null_bytes g.U.Unit.value g.U.Unit.fault c.args.t.0 c.args.layers.now c.loop-done.layers (seen g.T.Shows c.args.stage.now) (seen g.T.Shows c.loop-done.stage)
    c.args.out.now c.loop-done.out (length c.args.layers.now - c.loop-done.done) (length c.args.layers.now - 1 - c.loop-done.done) (λ told. told) c.loop-done.invariant
    (omega (arith, c.loop-done-test.true)) (get_or c.loop-done.layers (length c.args.layers.now - 1 - c.loop-done.done) c.index-layers-count.result)
    (ap (λ (d : LayerState). get_or c.loop-done.layers (length c.args.layers.now - 1 - c.loop-done.done) d) c.index-layers-count.is)
    (omega (arith, c.loop-done-test.true)) c.args.geo.now c.requires.layers c.requires.track
    c.read.new.self (seen g.T.Shows c.read.new.stage) c.read.new.out (λ told. told) (rest_of (get_or c.loop-done.layers (length c.args.layers.now - 1 - c.loop-done.done) c.index-layers-count.result) c.read.new.self c.in-Err.ensures.rest) c.in-Err.ensures.tables.looks.rest c.in-Err.ensures.can_read c.in-Err.ensures.reads.kept

pub returns-in-Err-clause-reads : goal.returns-in-Err-clause-reads
returns-in-Err-clause-reads g c =
    refused_reads Held c.in-Err.fault (seen g.T.Shows c.args.stage.now) (seen g.T.Shows c.loop-done.stage) (seen g.T.Shows c.read.new.stage) (λ told. told)
    c.loop-done.invariant.kept c.loop-done.invariant.counts c.in-Err.ensures.kind c.in-Err.ensures.reads.kept c.in-Err.ensures.reads.counts

pub returns-in-Here-clause-answer : goal.returns-in-Here-clause-answer
returns-in-Here-clause-answer g c =
    found_put g.U.Unit.null_bytes g.U.Unit.value g.U.Unit.fault c.args.t.0 c.args.layers.now c.loop-done.layers (seen g.T.Shows c.args.stage.now) (seen g.T.Shows c.loop-done.stage)
    c.args.out.now c.loop-done.out (length c.args.layers.now - c.loop-done.done) (length c.args.layers.now - 1 - c.loop-done.done) (λ told. told) c.loop-done.invariant
    (omega (arith, c.loop-done-test.true)) (get_or c.loop-done.layers (length c.args.layers.now - 1 - c.loop-done.done) c.index-layers-count.result)
    (ap (λ (d : LayerState). get_or c.loop-done.layers (length c.args.layers.now - 1 - c.loop-done.done) d) c.index-layers-count.is)
    (omega (arith, c.loop-done-test.true)) c.args.geo.now c.requires.layers c.requires.track c.in-Here.len c.in-Ok.answer c.in-Here.is c.read.new.out c.in-Ok.ensures.answer

pub returns-in-Here-clause-checked : goal.returns-in-Here-clause-checked
returns-in-Here-clause-checked g c =
    found_checked g.U.Unit.null_bytes g.U.Unit.value g.U.Unit.fault c.args.t.0 c.args.layers.now c.loop-done.layers (seen g.T.Shows c.args.stage.now) (seen g.T.Shows c.loop-done.stage)
    c.args.out.now c.loop-done.out (length c.args.layers.now - c.loop-done.done) (length c.args.layers.now - 1 - c.loop-done.done) (λ told. told) c.loop-done.invariant
    (omega (arith, c.loop-done-test.true)) (get_or c.loop-done.layers (length c.args.layers.now - 1 - c.loop-done.done) c.index-layers-count.result)
    (ap (λ (d : LayerState). get_or c.loop-done.layers (length c.args.layers.now - 1 - c.loop-done.done) d) c.index-layers-count.is)
    (omega (arith, c.loop-done-test.true)) c.args.geo.now c.requires.layers c.requires.track c.in-Here.len c.in-Ok.answer c.in-Here.is c.read.new.out c.in-Ok.ensures.answer c.in-Ok.ensures.checked

pub returns-in-Here-clause-accepted : goal.returns-in-Here-clause-accepted
returns-in-Here-clause-accepted g c =
    found_passes g.U.Unit.null_bytes g.U.Unit.value g.U.Unit.fault c.args.t.0 c.args.layers.now c.loop-done.layers (seen g.T.Shows c.args.stage.now) (seen g.T.Shows c.loop-done.stage)
    c.args.out.now c.loop-done.out (length c.args.layers.now - c.loop-done.done) (length c.args.layers.now - 1 - c.loop-done.done) (λ told. told) c.loop-done.invariant
    (omega (arith, c.loop-done-test.true)) (get_or c.loop-done.layers (length c.args.layers.now - 1 - c.loop-done.done) c.index-layers-count.result)
    (ap (λ (d : LayerState). get_or c.loop-done.layers (length c.args.layers.now - 1 - c.loop-done.done) d) c.index-layers-count.is)
    (omega (arith, c.loop-done-test.true)) c.args.geo.now c.requires.layers c.requires.track c.in-Here.len c.in-Ok.answer c.in-Here.is c.read.new.out c.in-Ok.ensures.answer c.in-Ok.ensures.accepted

pub returns-in-Here-clause-cached : goal.returns-in-Here-clause-cached
returns-in-Here-clause-cached g c =
    asked_cached g.U.Unit.null_bytes g.U.Unit.value g.U.Unit.fault c.args.t.0 c.args.layers.now c.loop-done.layers (seen g.T.Shows c.args.stage.now) (seen g.T.Shows c.loop-done.stage)
    c.args.out.now c.loop-done.out (length c.args.layers.now - c.loop-done.done) (length c.args.layers.now - 1 - c.loop-done.done) (λ told. told) c.loop-done.invariant
    (omega (arith, c.loop-done-test.true)) (get_or c.loop-done.layers (length c.args.layers.now - 1 - c.loop-done.done) c.index-layers-count.result)
    (ap (λ (d : LayerState). get_or c.loop-done.layers (length c.args.layers.now - 1 - c.loop-done.done) d) c.index-layers-count.is)
    (omega (arith, c.loop-done-test.true)) c.args.geo.now c.requires.layers c.requires.track
    c.read.new.self (seen g.T.Shows c.read.new.stage) c.read.new.out (λ told. told) (rest_of (get_or c.loop-done.layers (length c.args.layers.now - 1 - c.loop-done.done) c.index-layers-count.result) c.read.new.self c.in-Ok.ensures.rest) c.in-Ok.ensures.tables.looks.rest c.in-Ok.ensures.can_read c.in-Ok.ensures.reads.kept

pub returns-in-Here-clause-can_read : goal.returns-in-Here-clause-can_read
returns-in-Here-clause-can_read g c =
    asked_reads g.U.Unit.null_bytes g.U.Unit.value g.U.Unit.fault c.args.t.0 c.args.layers.now c.loop-done.layers (seen g.T.Shows c.args.stage.now) (seen g.T.Shows c.loop-done.stage)
    c.args.out.now c.loop-done.out (length c.args.layers.now - c.loop-done.done) (length c.args.layers.now - 1 - c.loop-done.done) (λ told. told) c.loop-done.invariant
    (omega (arith, c.loop-done-test.true)) (get_or c.loop-done.layers (length c.args.layers.now - 1 - c.loop-done.done) c.index-layers-count.result)
    (ap (λ (d : LayerState). get_or c.loop-done.layers (length c.args.layers.now - 1 - c.loop-done.done) d) c.index-layers-count.is)
    (omega (arith, c.loop-done-test.true)) c.args.geo.now c.requires.layers c.requires.track
    c.read.new.self (seen g.T.Shows c.read.new.stage) c.read.new.out (λ told. told) (rest_of (get_or c.loop-done.layers (length c.args.layers.now - 1 - c.loop-done.done) c.index-layers-count.result) c.read.new.self c.in-Ok.ensures.rest) c.in-Ok.ensures.tables.looks.rest c.in-Ok.ensures.can_read c.in-Ok.ensures.reads.kept

pub loop-done-preserved : goal.loop-done-preserved
loop-done-preserved g c =
    one_asked g.U.Unit.null_bytes g.U.Unit.value g.U.Unit.fault c.args.t.0 c.args.layers.now c.loop-done.layers (seen g.T.Shows c.args.stage.now) (seen g.T.Shows c.loop-done.stage)
    c.args.out.now c.loop-done.out (length c.args.layers.now - c.loop-done.done) (length c.args.layers.now - 1 - c.loop-done.done) (λ told. told) c.loop-done.invariant
    (omega (arith, c.loop-done-test.true)) (get_or c.loop-done.layers (length c.args.layers.now - 1 - c.loop-done.done) c.index-layers-count.result)
    (ap (λ (d : LayerState). get_or c.loop-done.layers (length c.args.layers.now - 1 - c.loop-done.done) d) c.index-layers-count.is)
    (omega (arith, c.loop-done-test.true)) c.args.geo.now c.requires.layers c.requires.track
    c.read.new.self (seen g.T.Shows c.read.new.stage) c.read.new.out (λ told. told) (rest_of (get_or c.loop-done.layers (length c.args.layers.now - 1 - c.loop-done.done) c.index-layers-count.result) c.read.new.self c.in-Ok.ensures.rest) c.in-Ok.ensures.tables.looks.rest c.in-Ok.ensures.can_read c.in-Ok.ensures.reads.kept c.in-Ok.answer (length c.args.layers.now - (c.loop-done.done + 1))
    (omega (arith, c.loop-done-test.true)) c.in-Below.is c.in-Ok.ensures.tables.called c.in-Ok.ensures.reads.counts c.in-Ok.ensures.answer

pub returns-clause-refusal : goal.returns-clause-refusal
returns-clause-refusal g c =
    nothing_refused g.U.Unit.null_bytes c.args.t.0 c.args.layers.now c.loop-done.layers (seen g.T.Shows c.args.stage.now) (seen g.T.Shows c.loop-done.stage)
    c.args.out.now c.loop-done.out (length c.args.layers.now - c.loop-done.done) c.loop-done.invariant (omega (arith, c.loop-done-test.false))
    (g.U.Unit.fault c.args.geo.now c.args.t.0) c.fault_of_nothing.result c.fault_of_nothing.ensures

pub returns-clause-reads : goal.returns-clause-reads
returns-clause-reads g c =
    nothing_reads g.U.Unit.null_bytes c.args.t.0 c.args.layers.now c.loop-done.layers (seen g.T.Shows c.args.stage.now) (seen g.T.Shows c.loop-done.stage)
    c.args.out.now c.loop-done.out (length c.args.layers.now - c.loop-done.done) c.loop-done.invariant (omega (arith, c.loop-done-test.false))
    (g.U.Unit.fault c.args.geo.now c.args.t.0) c.fault_of_nothing.result c.fault_of_nothing.ensures
