use Rattle.std.proofs.Common.{get_or, ap, arith}
use Rattle.cckd_shelf.specs.Seen.{seen}
use Rattle.cckd_layer.specs.Mounted.{LayerState}
use Rattle.cckd_stack.proofs.CountedLemmas.{counted_whole, counted_cached, counted_reads, one_counted, all_counted, all_fit}
use Rattle.cckd_stack.proofs.showing.count_each.Goals as goal

pub count-requires-clause-whole : goal.count-requires-clause-whole
count-requires-clause-whole g c =
    counted_whole g.U.Unit.null_bytes c.args.geo.now c.args.layers.now c.loop-number.layers (seen g.T.Shows c.args.stage.now) (seen g.T.Shows c.loop-number.stage) c.loop-number.counts c.loop-number.number
    (λ told. told) c.loop-number.invariant (get_or c.loop-number.layers c.loop-number.number c.index-layers-number.result)
    (ap (λ (d : LayerState). get_or c.loop-number.layers c.loop-number.number d) c.index-layers-number.is) c.loop-number-test.true c.requires.few c.requires.layers c.requires.whole

pub returns-in-Err-clause-cached : goal.returns-in-Err-clause-cached
returns-in-Err-clause-cached g c =
    counted_cached g.U.Unit.null_bytes c.args.geo.now c.args.layers.now c.loop-number.layers (seen g.T.Shows c.args.stage.now) (seen g.T.Shows c.loop-number.stage) c.loop-number.counts c.loop-number.number
    (λ told. told) c.loop-number.invariant (get_or c.loop-number.layers c.loop-number.number c.index-layers-number.result)
    (ap (λ (d : LayerState). get_or c.loop-number.layers c.loop-number.number d) c.index-layers-number.is) c.loop-number-test.true c.requires.few c.requires.layers
    c.count.new.self (seen g.T.Shows c.count.new.stage) (λ told. told) c.in-Err.ensures.rest c.in-Err.ensures.can_read c.in-Err.ensures.reads.kept

pub returns-in-Err-clause-can_read : goal.returns-in-Err-clause-can_read
returns-in-Err-clause-can_read g c =
    counted_reads g.U.Unit.null_bytes c.args.geo.now c.args.layers.now c.loop-number.layers (seen g.T.Shows c.args.stage.now) (seen g.T.Shows c.loop-number.stage) c.loop-number.counts c.loop-number.number
    (λ told. told) c.loop-number.invariant (get_or c.loop-number.layers c.loop-number.number c.index-layers-number.result)
    (ap (λ (d : LayerState). get_or c.loop-number.layers c.loop-number.number d) c.index-layers-number.is) c.loop-number-test.true c.requires.few c.requires.layers
    c.count.new.self (seen g.T.Shows c.count.new.stage) (λ told. told) c.in-Err.ensures.rest c.in-Err.ensures.can_read c.in-Err.ensures.reads.kept

pub loop-number-preserved : goal.loop-number-preserved
loop-number-preserved g c =
    one_counted g.U.Unit.null_bytes c.args.geo.now c.args.layers.now c.loop-number.layers (seen g.T.Shows c.args.stage.now) (seen g.T.Shows c.loop-number.stage) c.loop-number.counts c.loop-number.number
    (λ told. told) c.loop-number.invariant (get_or c.loop-number.layers c.loop-number.number c.index-layers-number.result)
    (ap (λ (d : LayerState). get_or c.loop-number.layers c.loop-number.number d) c.index-layers-number.is) c.loop-number-test.true c.requires.few c.requires.layers
    c.count.new.self (seen g.T.Shows c.count.new.stage) (λ told. told) c.in-Ok.ensures.rest c.in-Ok.ensures.can_read c.in-Ok.ensures.reads.kept
    c.in-Ok.tracks c.in-Ok.ensures.reads.counts c.in-Ok.ensures.count

pub returns-clause-shown : goal.returns-clause-shown
returns-clause-shown g c = λ told sure.
    all_counted g.U.Unit.null_bytes c.args.geo.now c.args.layers.now c.loop-number.layers (seen g.T.Shows c.args.stage.now) (seen g.T.Shows c.loop-number.stage) c.loop-number.counts
    c.loop-number.number _ (omega (arith, c.loop-number-test.false)) (omega (arith, c.requires.few)) c.requires.some c.loop-number.invariant told sure

pub returns-clause-fits : goal.returns-clause-fits
returns-clause-fits g c =
    all_fit g.U.Unit.null_bytes c.args.geo.now c.args.layers.now c.loop-number.layers (seen g.T.Shows c.args.stage.now) (seen g.T.Shows c.loop-number.stage) c.loop-number.counts
    c.loop-number.number _ (omega (arith, c.loop-number-test.false)) (omega (arith, c.requires.few)) c.requires.few c.loop-number.invariant
