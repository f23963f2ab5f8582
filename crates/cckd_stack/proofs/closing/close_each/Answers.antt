use Rattle.std.proofs.Common.{◌+◌, ◌-◌, length, Ok, Err, refl, ap, arith, get_or}
use Rattle.std.proofs.lemmas.Bool.{false≢true}
use Rattle.cckd_shelf.specs.Seen.{Seen, seen}
use Rattle.cckd_layer.specs.Mounted.{LayerState}
use Rattle.cckd_stack.proofs.CloseLemmas.{none_closed, reads_here, next_slots, next_files, next_room, next_keeps, next_lies, next_spares, next_calm, unchanged_now, one_closed, next_marks}
use Rattle.cckd_stack.proofs.MarkingLemmas.{mark_closed}
use Rattle.cckd_stack.proofs.WritesLemmas.{whole_keeps}
use Rattle.cckd_stack.proofs.closing.close_each.Goals as goal

pub loop-done-init : goal.loop-done-init
loop-done-init g c =
    none_closed g.U.Unit.null_bytes c.args.geo.now c.args.layers.now (seen g.T.Shows c.args.stage.now) (length c.args.layers.now - 0) (omega arith) c.requires.layers c.requires.whole c.requires.can_read

pub close-requires-clause-can_read : goal.close-requires-clause-can_read
close-requires-clause-can_read g c =
    let start = c.args.layers.now in
    let now = c.loop-done.layers in
    let n = length start - 1 - c.loop-done.done in
    let x = get_or now n c.index-layers-count.result in
    reads_here g.U.Unit.null_bytes c.args.geo.now start now (seen g.T.Shows c.args.stage.now) (seen g.T.Shows c.loop-done.stage) (length start - c.loop-done.done) n (λ told. told) c.loop-done.invariant (omega (arith, c.loop-done-test.true)) x
    (ap (λ (d : LayerState). get_or now n d) c.index-layers-count.is) (omega (arith, c.loop-done-test.true))

pub returns-in-Err-clause-files : goal.returns-in-Err-clause-files
returns-in-Err-clause-files g c =
    let start = c.args.layers.now in
    let now = c.loop-done.layers in
    let n = length start - 1 - c.loop-done.done in
    let x = get_or now n c.index-layers-count.result in
    next_files g.U.Unit.null_bytes c.args.geo.now start now (seen g.T.Shows c.args.stage.now) (seen g.T.Shows c.loop-done.stage) (length start - c.loop-done.done) n (λ told. told) c.loop-done.invariant (omega (arith, c.loop-done-test.true)) x
    (ap (λ (d : LayerState). get_or now n d) c.index-layers-count.is) (omega (arith, c.loop-done-test.true))
    c.close.new.self (seen g.T.Shows c.close.new.stage) (λ told. told) c.close.ensures.same c.close.ensures.others

pub returns-in-Err-clause-layers : goal.returns-in-Err-clause-layers
returns-in-Err-clause-layers g c =
    let start = c.args.layers.now in
    let now = c.loop-done.layers in
    let n = length start - 1 - c.loop-done.done in
    let x = get_or now n c.index-layers-count.result in
    next_slots g.U.Unit.null_bytes c.args.geo.now start now (seen g.T.Shows c.args.stage.now) (seen g.T.Shows c.loop-done.stage) (length start - c.loop-done.done) n (λ told. told) c.loop-done.invariant (omega (arith, c.loop-done-test.true)) x
    (ap (λ (d : LayerState). get_or now n d) c.index-layers-count.is) (omega (arith, c.loop-done-test.true))
    c.close.new.self (seen g.T.Shows c.close.new.stage) (λ told. told) c.close.ensures.same c.close.ensures.others

pub returns-in-Err-clause-map : goal.returns-in-Err-clause-map
returns-in-Err-clause-map g c = λ whole.
    let start = c.args.layers.now in
    let now = c.loop-done.layers in
    let n = length start - 1 - c.loop-done.done in
    let x = get_or now n c.index-layers-count.result in
    let b = seen g.T.Shows c.loop-done.stage in
    let z = seen g.T.Shows c.close.new.stage in
    next_keeps g.U.Unit.null_bytes c.args.geo.now start now (seen g.T.Shows c.args.stage.now) b (length start - c.loop-done.done) n (λ told. told) c.loop-done.invariant (omega (arith, c.loop-done-test.true)) x
    (ap (λ (d : LayerState). get_or now n d) c.index-layers-count.is) (omega (arith, c.loop-done-test.true))
    c.close.new.self z (λ told. told) c.close.ensures.same c.close.ensures.others
    (whole_keeps (Unit {0}) g.U.Unit.null_bytes x c.close.new.self b z (Err c.in-Err.fault) tt c.in-Err.ensures.refusal c.in-Err.ensures.read whole)
    (λ unmarked hardened. let h = c.close.ensures.still unmarked hardened in (h.1, h.2))

pub returns-in-Err-clause-stops : goal.returns-in-Err-clause-stops
returns-in-Err-clause-stops g c =
    let start = c.args.layers.now in
    let now = c.loop-done.layers in
    let n = length start - 1 - c.loop-done.done in
    let x = get_or now n c.index-layers-count.result in
    next_lies g.U.Unit.null_bytes c.args.geo.now start now (seen g.T.Shows c.args.stage.now) (seen g.T.Shows c.loop-done.stage) (length start - c.loop-done.done) n (λ told. told) c.loop-done.invariant (omega (arith, c.loop-done-test.true)) x
    (ap (λ (d : LayerState). get_or now n d) c.index-layers-count.is) (omega (arith, c.loop-done-test.true))
    c.close.new.self (seen g.T.Shows c.close.new.stage) (λ told. told) c.close.ensures.same c.close.ensures.others c.close.ensures.stopped

pub returns-in-Err-clause-others : goal.returns-in-Err-clause-others
returns-in-Err-clause-others g c =
    let start = c.args.layers.now in
    let now = c.loop-done.layers in
    let n = length start - 1 - c.loop-done.done in
    let x = get_or now n c.index-layers-count.result in
    next_spares g.U.Unit.null_bytes c.args.geo.now start now (seen g.T.Shows c.args.stage.now) (seen g.T.Shows c.loop-done.stage) (length start - c.loop-done.done) n (λ told. told) c.loop-done.invariant (omega (arith, c.loop-done-test.true)) x
    (ap (λ (d : LayerState). get_or now n d) c.index-layers-count.is) (omega (arith, c.loop-done-test.true))
    c.close.new.self (seen g.T.Shows c.close.new.stage) (λ told. told) c.close.ensures.same c.close.ensures.others
    (λ unmarked hardened. ap (λ (s : Seen). s.world) (c.close.ensures.still unmarked hardened).2)

pub returns-in-Err-clause-marks : goal.returns-in-Err-clause-marks
returns-in-Err-clause-marks g c = λ whole.
    let start = c.args.layers.now in
    let now = c.loop-done.layers in
    let n = length start - 1 - c.loop-done.done in
    let x = get_or now n c.index-layers-count.result in
    let b = seen g.T.Shows c.loop-done.stage in
    let z = seen g.T.Shows c.close.new.stage in
    next_marks g.U.Unit.null_bytes c.args.geo.now start now (seen g.T.Shows c.args.stage.now) b (length start - c.loop-done.done) n (λ told. told) c.loop-done.invariant (omega (arith, c.loop-done-test.true)) x
    (ap (λ (d : LayerState). get_or now n d) c.index-layers-count.is) (omega (arith, c.loop-done-test.true))
    c.close.new.self z (λ told. told) c.close.ensures.same c.close.ensures.others
    (mark_closed x c.close.new.self b z (Err c.in-Err.fault) c.close.ensures.same whole c.in-Err.ensures.refusal c.in-Err.ensures.read tt tt c.in-Err.ensures.closed
    (λ unmarked hardened. let h = c.close.ensures.still unmarked hardened in (h.1, h.2)))

pub returns-in-Err-clause-calm : goal.returns-in-Err-clause-calm
returns-in-Err-clause-calm g c =
    let start = c.args.layers.now in
    let now = c.loop-done.layers in
    let n = length start - 1 - c.loop-done.done in
    let x = get_or now n c.index-layers-count.result in
    next_calm g.U.Unit.null_bytes c.args.geo.now start now (seen g.T.Shows c.args.stage.now) (seen g.T.Shows c.loop-done.stage) (length start - c.loop-done.done) n (λ told. told) c.loop-done.invariant (omega (arith, c.loop-done-test.true)) x
    (ap (λ (d : LayerState). get_or now n d) c.index-layers-count.is) (omega (arith, c.loop-done-test.true))
    c.close.new.self (seen g.T.Shows c.close.new.stage) (λ told. told) c.close.ensures.same c.close.ensures.others
    (λ unmarked hardened. (c.close.ensures.still unmarked hardened).1)

pub returns-in-Err-clause-still : goal.returns-in-Err-clause-still
returns-in-Err-clause-still g c = λ calm.
    let start = c.args.layers.now in
    let now = c.loop-done.layers in
    let n = length start - 1 - c.loop-done.done in
    let x = get_or now n c.index-layers-count.result in
    let here = unchanged_now g.U.Unit.null_bytes c.args.geo.now start now (seen g.T.Shows c.args.stage.now) (seen g.T.Shows c.loop-done.stage) (length start - c.loop-done.done) n (λ told. told) c.loop-done.invariant (omega (arith, c.loop-done-test.true)) x
    (ap (λ (d : LayerState). get_or now n d) c.index-layers-count.is) (omega (arith, c.loop-done-test.true)) calm in
    absurd (false≢true (c.in-Err.ensures.still here.unmarked here.hardened).0)

pub loop-done-preserved : goal.loop-done-preserved
loop-done-preserved g c =
    let start = c.args.layers.now in
    let now = c.loop-done.layers in
    let n = length start - 1 - c.loop-done.done in
    let x = get_or now n c.index-layers-count.result in
    one_closed g.U.Unit.null_bytes c.args.geo.now start now (seen g.T.Shows c.args.stage.now) (seen g.T.Shows c.loop-done.stage) (length start - c.loop-done.done) n (λ told. told) c.loop-done.invariant (omega (arith, c.loop-done-test.true)) x
    (ap (λ (d : LayerState). get_or now n d) c.index-layers-count.is) (omega (arith, c.loop-done-test.true))
    c.close.new.self (seen g.T.Shows c.close.new.stage) (λ told. told) c.close.ensures.same c.close.ensures.others
    (length start - (c.loop-done.done + 1)) (omega (arith, c.loop-done-test.true)) c.requires.layers c.in-Ok.ensures.confined
    (mark_closed x c.close.new.self (seen g.T.Shows c.loop-done.stage) (seen g.T.Shows c.close.new.stage) (Ok tt) c.close.ensures.same refl tt (λ failed. absurd (let e = failed in cc)) c.in-Ok.ensures.unmarked c.in-Ok.ensures.hardened c.in-Ok.ensures.closed
    (λ unmarked hardened. let h = c.close.ensures.still unmarked hardened in (h.1, h.2)))
    c.in-Ok.ensures.map c.in-Ok.ensures.stopped c.in-Ok.ensures.holds c.in-Ok.ensures.closed
    (λ unmarked hardened. let h = c.in-Ok.ensures.still unmarked hardened in (h.1, h.2))
    c.in-Ok.ensures.unmarked c.in-Ok.ensures.hardened c.in-Ok.ensures.broken c.in-Ok.ensures.counts

pub returns-in-Err-clause-confined : goal.returns-in-Err-clause-confined
returns-in-Err-clause-confined g c =
    let start = c.args.layers.now in
    let now = c.loop-done.layers in
    let n = length start - 1 - c.loop-done.done in
    let x = get_or now n c.index-layers-count.result in
    next_room g.U.Unit.null_bytes c.args.geo.now start now (seen g.T.Shows c.args.stage.now) (seen g.T.Shows c.loop-done.stage) (length start - c.loop-done.done) n (λ told. told) c.loop-done.invariant (omega (arith, c.loop-done-test.true)) x
    (ap (λ (d : LayerState). get_or now n d) c.index-layers-count.is) (omega (arith, c.loop-done-test.true))
    c.close.new.self (seen g.T.Shows c.close.new.stage) (λ told. told) c.close.ensures.same c.close.ensures.others c.close.ensures.confined
