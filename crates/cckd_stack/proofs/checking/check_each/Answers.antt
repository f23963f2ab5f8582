use Rattle.std.proofs.Common.{get_or, ap, arith}
use Rattle.cckd_shelf.specs.Seen.{seen}
use Rattle.cckd_shelf.specs.World.{file_of}
use Rattle.cckd_base.specs.Track.{null_track}
use Rattle.cckd_layer.specs.Mounted.{LayerState}
use Rattle.cckd_stack.specs.Stacked.{stack_of}
use Rattle.cckd_stack.proofs.CheckLemmas.{none_at_fault, checked_whole, checked_shape, checked_cached, checked_reads, one_checked, all_checked}
use Rattle.cckd_stack.proofs.checking.check_each.Goals as goal

pub check_layer-requires-clause-shape : goal.check_layer-requires-clause-shape
check_layer-requires-clause-shape g c =
    checked_shape c.args.level c.args.geo.now c.args.layers.now c.loop-number.layers (seen g.T.Shows c.args.stage.now) (seen g.T.Shows c.loop-number.stage) c.loop-number.bad c.loop-number.number
    (λ told. told) c.loop-number.invariant (get_or c.loop-number.layers c.loop-number.number c.index-layers-number.result)
    (ap (λ (d : LayerState). get_or c.loop-number.layers c.loop-number.number d) c.index-layers-number.is) c.loop-number-test.true c.requires.layers

pub check_layer-requires-clause-whole : goal.check_layer-requires-clause-whole
check_layer-requires-clause-whole g c =
    checked_whole c.args.level c.args.geo.now c.args.layers.now c.loop-number.layers (seen g.T.Shows c.args.stage.now) (seen g.T.Shows c.loop-number.stage) c.loop-number.bad c.loop-number.number
    (λ told. told) c.loop-number.invariant (get_or c.loop-number.layers c.loop-number.number c.index-layers-number.result)
    (ap (λ (d : LayerState). get_or c.loop-number.layers c.loop-number.number d) c.index-layers-number.is) c.loop-number-test.true c.requires.layers c.requires.whole

pub returns-in-Err-clause-cached : goal.returns-in-Err-clause-cached
returns-in-Err-clause-cached g c =
    checked_cached c.args.level c.args.geo.now c.args.layers.now c.loop-number.layers (seen g.T.Shows c.args.stage.now) (seen g.T.Shows c.loop-number.stage) c.loop-number.bad c.loop-number.number
    (λ told. told) c.loop-number.invariant (get_or c.loop-number.layers c.loop-number.number c.index-layers-number.result)
    (ap (λ (d : LayerState). get_or c.loop-number.layers c.loop-number.number d) c.index-layers-number.is) c.loop-number-test.true c.requires.layers
    c.check_layer.new.layer (seen g.T.Shows c.check_layer.new.stage) (λ told. told) c.in-Err.ensures.rest c.in-Err.ensures.can_read c.in-Err.ensures.reads.kept

pub returns-in-Err-clause-can_read : goal.returns-in-Err-clause-can_read
returns-in-Err-clause-can_read g c =
    checked_reads c.args.level c.args.geo.now c.args.layers.now c.loop-number.layers (seen g.T.Shows c.args.stage.now) (seen g.T.Shows c.loop-number.stage) c.loop-number.bad c.loop-number.number
    (λ told. told) c.loop-number.invariant (get_or c.loop-number.layers c.loop-number.number c.index-layers-number.result)
    (ap (λ (d : LayerState). get_or c.loop-number.layers c.loop-number.number d) c.index-layers-number.is) c.loop-number-test.true c.requires.layers
    c.check_layer.new.layer (seen g.T.Shows c.check_layer.new.stage) (λ told. told) c.in-Err.ensures.rest c.in-Err.ensures.can_read c.in-Err.ensures.reads.kept

pub loop-number-preserved : goal.loop-number-preserved
loop-number-preserved g c =
    one_checked c.args.level c.args.geo.now c.args.layers.now c.loop-number.layers (seen g.T.Shows c.args.stage.now) (seen g.T.Shows c.loop-number.stage) c.loop-number.bad c.loop-number.number
    (λ told. told) c.loop-number.invariant (get_or c.loop-number.layers c.loop-number.number c.index-layers-number.result)
    (ap (λ (d : LayerState). get_or c.loop-number.layers c.loop-number.number d) c.index-layers-number.is) c.loop-number-test.true c.requires.layers
    c.check_layer.new.layer (seen g.T.Shows c.check_layer.new.stage) (λ told. told) c.in-Ok.ensures.rest c.in-Ok.ensures.can_read c.in-Ok.ensures.reads.kept
    c.in-Ok.more c.in-Ok.ensures.few c.in-Ok.ensures.reads.counts c.in-Ok.ensures.bad

pub returns-clause-bad : goal.returns-clause-bad
returns-clause-bad g c = λ told sure.
    all_checked c.args.level c.args.geo.now c.args.layers.now c.loop-number.layers (seen g.T.Shows c.args.stage.now) (seen g.T.Shows c.loop-number.stage) c.loop-number.bad
    c.loop-number.number (omega (arith, c.loop-number-test.false)) c.requires.some c.loop-number.invariant told sure

pub returns-then-level-lt2-clause-bad : goal.returns-then-level-lt2-clause-bad
returns-then-level-lt2-clause-bad g c = λ told sure.
    none_at_fault c.args.level c.args.geo.now (stack_of null_track c.args.layers.now (file_of (g.T.Shows.world c.args.stage.now))) c.if-level-lt2.true
