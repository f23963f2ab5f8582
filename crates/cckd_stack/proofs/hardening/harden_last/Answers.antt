use Rattle.cckd_layer.specs.Justified.{StaysInRoom}
use Rattle.std.proofs.Common.{◌≡◌, ◌-◌, true, length, refl, ◌∙◌, ap, arith, get_or}
use Rattle.cckd_shelf.specs.Seen.{seen}
use Rattle.cckd_layer.specs.Mounted.{LayerState}
use Rattle.cckd_layer.specs.Writes.{IsSameLayer}
use Rattle.cckd_stack.proofs.WritesLemmas.{whole_keeps, still_ties, same_file, set_last, set_ends, set_layers, set_whole, set_keeps_each, set_lies, set_settles_ok, set_others}
use Rattle.cckd_stack.proofs.MarkingLemmas.{set_marks, mark_hardened}
use Rattle.cckd_stack.proofs.hardening.harden_last.Goals as goal

pub returns-clause-settles : goal.returns-clause-settles
returns-clause-settles g c =
    let layers = c.args.layers.now in
    let n = length layers - 1 in
    let x = get_or layers n c.index-layers-last.result in
    let y = c.harden.new.self in
    set_settles_ok layers n x y (ap (λ (d : LayerState). get_or layers n d) c.index-layers-last.is) (omega (arith, c.requires.some))
    g.U.Unit.null_bytes c.args.geo.now (seen g.T.Shows c.args.stage.now) (seen g.T.Shows c.harden.new.stage) c.requires.layers (same_file x y c.harden.ensures.same) c.harden.ensures.others
    c.harden.result c.harden.ensures.holds

pub returns-clause-hardened : goal.returns-clause-hardened
returns-clause-hardened g c =
    let layers = c.args.layers.now in
    let n = length layers - 1 in
    let x = get_or layers n c.index-layers-last.result in
    let y = c.harden.new.self in
    set_ends layers n x y (ap (λ (d : LayerState). get_or layers n d) c.index-layers-last.is) (omega (arith, c.requires.some)) (λ last. last.hardened ≡ true) c.harden.result c.harden.ensures.hardened

pub returns-clause-map : goal.returns-clause-map
returns-clause-map g c = λ whole.
    let layers = c.args.layers.now in
    let n = length layers - 1 in
    let x = get_or layers n c.index-layers-last.result in
    let y = c.harden.new.self in
    set_keeps_each layers n x y (ap (λ (d : LayerState). get_or layers n d) c.index-layers-last.is) (omega (arith, c.requires.some))
    g.U.Unit.null_bytes c.args.geo.now (seen g.T.Shows c.args.stage.now) (seen g.T.Shows c.harden.new.stage) c.requires.layers (same_file x y c.harden.ensures.same) c.harden.ensures.others
    (still_ties g.U.Unit.null_bytes x y (seen g.T.Shows c.args.stage.now) (seen g.T.Shows c.harden.new.stage)
    (whole_keeps (Unit {0}) g.U.Unit.null_bytes x y (seen g.T.Shows c.args.stage.now) (seen g.T.Shows c.harden.new.stage) c.harden.result c.harden.ensures.map c.harden.ensures.refusal c.harden.ensures.read whole)
    (λ unmarked hardened. let h = c.harden.ensures.still hardened in (h.1, h.2)))

pub returns-clause-last : goal.returns-clause-last
returns-clause-last g c =
    let layers = c.args.layers.now in
    let n = length layers - 1 in
    let x = get_or layers n c.index-layers-last.result in
    let y = c.harden.new.self in
    set_last layers n x y (ap (λ (d : LayerState). get_or layers n d) c.index-layers-last.is) (omega (arith, c.requires.some)) IsSameLayer c.harden.ensures.same

pub returns-clause-layers : goal.returns-clause-layers
returns-clause-layers g c =
    let layers = c.args.layers.now in
    let n = length layers - 1 in
    let x = get_or layers n c.index-layers-last.result in
    let y = c.harden.new.self in
    set_layers layers n x y (ap (λ (d : LayerState). get_or layers n d) c.index-layers-last.is) (omega (arith, c.requires.some))
    g.U.Unit.null_bytes c.args.geo.now (seen g.T.Shows c.args.stage.now) (seen g.T.Shows c.harden.new.stage) c.requires.layers (same_file x y c.harden.ensures.same) c.harden.ensures.others

pub returns-clause-whole : goal.returns-clause-whole
returns-clause-whole g c = λ whole.
    let layers = c.args.layers.now in
    let n = length layers - 1 in
    let x = get_or layers n c.index-layers-last.result in
    let y = c.harden.new.self in
    set_whole layers n x y (ap (λ (d : LayerState). get_or layers n d) c.index-layers-last.is) (omega (arith, c.requires.some))
    g.U.Unit.null_bytes c.args.geo.now (seen g.T.Shows c.args.stage.now) (seen g.T.Shows c.harden.new.stage) c.requires.layers (same_file x y c.harden.ensures.same) c.harden.ensures.others
    c.requires.whole (c.harden.ensures.broken ∙ whole)

pub returns-clause-stops : goal.returns-clause-stops
returns-clause-stops g c =
    let layers = c.args.layers.now in
    let n = length layers - 1 in
    let x = get_or layers n c.index-layers-last.result in
    let y = c.harden.new.self in
    set_lies layers n x y (ap (λ (d : LayerState). get_or layers n d) c.index-layers-last.is) (omega (arith, c.requires.some))
    g.U.Unit.null_bytes c.args.geo.now (seen g.T.Shows c.args.stage.now) (seen g.T.Shows c.harden.new.stage) c.requires.layers (same_file x y c.harden.ensures.same) c.harden.ensures.others
    c.harden.ensures.stopped

pub returns-clause-others : goal.returns-clause-others
returns-clause-others g c =
    let layers = c.args.layers.now in
    let n = length layers - 1 in
    let x = get_or layers n c.index-layers-last.result in
    let y = c.harden.new.self in
    set_others layers n x y (ap (λ (d : LayerState). get_or layers n d) c.index-layers-last.is) (omega (arith, c.requires.some))
    g.U.Unit.null_bytes c.args.geo.now (seen g.T.Shows c.args.stage.now) (seen g.T.Shows c.harden.new.stage) c.requires.layers (same_file x y c.harden.ensures.same) c.harden.ensures.others
    n refl

pub returns-clause-confined : goal.returns-clause-confined
returns-clause-confined g c =
    let layers = c.args.layers.now in
    let n = length layers - 1 in
    let x = get_or layers n c.index-layers-last.result in
    let y = c.harden.new.self in
    set_last layers n x y (ap (λ (d : LayerState). get_or layers n d) c.index-layers-last.is) (omega (arith, c.requires.some)) StaysInRoom c.harden.ensures.confined

pub returns-clause-marks : goal.returns-clause-marks
returns-clause-marks g c = λ whole.
    let layers = c.args.layers.now in
    let n = length layers - 1 in
    let x = get_or layers n c.index-layers-last.result in
    let y = c.harden.new.self in
    let old = seen g.T.Shows c.args.stage.now in
    let new = seen g.T.Shows c.harden.new.stage in
    set_marks c.args.geo.now layers n x y old new (ap (λ (d : LayerState). get_or layers n d) c.index-layers-last.is) (omega (arith, c.requires.some)) c.requires.layers c.harden.ensures.others
    (mark_hardened x y old new c.harden.ensures.same (λ hardened. let h = c.harden.ensures.still hardened in (h.1, h.2)))
