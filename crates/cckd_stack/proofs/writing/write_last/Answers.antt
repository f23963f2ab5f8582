use Rattle.std.proofs.Common.{◌≡◌, ◌-◌, true, length, Some, None, OnOk, IfErr, refl, sym, ap, subst, arith, get_or, ◌/◌}
use Rattle.cckd_shelf.specs.Seen.{seen}
use Rattle.cckd_base.specs.declared.geometry.Geometry.{Geometry}
use Rattle.cckd_layer.specs.Storing.{IsWriteRefusal}
use Rattle.cckd_layer.specs.Mounted.{LayerState}
use Rattle.cckd_layer.specs.Writes.{IsSameFile}
use Rattle.cckd_stack.proofs.WritesLemmas.{set_device, set_tied, set_ends, set_last, set_layers, set_stores_ok, set_keeps_harmless, set_geometry, set_back, set_refusal, set_lies, set_others, set_grows, set_stays, set_lacks}
use Rattle.cckd_stack.proofs.MarkingLemmas.{set_marks, mark_written}
use Rattle.cckd_stack.proofs.writing.write_last.Goals as goal

pub write_ready-requires-clause-track : goal.write_ready-requires-clause-track
write_ready-requires-clause-track g c =
    let layers = c.args.layers.now in
    let n = length layers - 1 in
    let x = get_or layers n c.index-layers-last.result in
    set_device layers n x x (ap (λ (d : LayerState). get_or layers n d) c.index-layers-last.is) (omega (arith, c.requires.some)) c.args.geo.now c.requires.layers c.args.t.0 c.requires.track

pub write_ready-requires-clause-tied : goal.write_ready-requires-clause-tied
write_ready-requires-clause-tied g c =
    let layers = c.args.layers.now in
    let n = length layers - 1 in
    let x = get_or layers n c.index-layers-last.result in
    set_tied layers n x x (ap (λ (d : LayerState). get_or layers n d) c.index-layers-last.is) (omega (arith, c.requires.some)) (seen g.T.Shows c.args.stage.now) c.requires.tied

pub returns-clause-stores : goal.returns-clause-stores
returns-clause-stores g c =
    let layers = c.args.layers.now in
    let n = length layers - 1 in
    let x = get_or layers n c.index-layers-last.result in
    let y = c.write_ready.new.layer in
    set_stores_ok layers n x y (ap (λ (d : LayerState). get_or layers n d) c.index-layers-last.is) (omega (arith, c.requires.some))
    g.U.Unit.null_bytes c.args.geo.now (seen g.T.Shows c.args.stage.now) (seen g.T.Shows c.write_ready.new.stage) c.requires.layers c.write_ready.ensures.same c.write_ready.ensures.others
    c.write_ready.result c.args.t.0 (g.U.Unit.value c.args.bytes.now) c.requires.track c.write_ready.ensures.stores

pub returns-clause-map : goal.returns-clause-map
returns-clause-map g c = λ whole.
    let layers = c.args.layers.now in
    let n = length layers - 1 in
    let x = get_or layers n c.index-layers-last.result in
    let y = c.write_ready.new.layer in
    set_keeps_harmless layers n x y (ap (λ (d : LayerState). get_or layers n d) c.index-layers-last.is) (omega (arith, c.requires.some))
    g.U.Unit.null_bytes c.args.geo.now (seen g.T.Shows c.args.stage.now) (seen g.T.Shows c.write_ready.new.stage) c.requires.layers c.write_ready.ensures.same c.write_ready.ensures.others
    c.write_ready.result whole c.write_ready.ensures.kept

pub returns-clause-checked : goal.returns-clause-checked
returns-clause-checked g c =
    let layers = c.args.layers.now in
    let n = length layers - 1 in
    let x = get_or layers n c.index-layers-last.result in
    let same = set_geometry layers n x x (ap (λ (d : LayerState). get_or layers n d) c.index-layers-last.is) (omega (arith, c.requires.some)) c.args.geo.now c.requires.layers in
    subst (λ (geo : Geometry). OnOk c.write_ready.result (g.U.Unit.fault geo c.args.t.0 c.args.bytes.now ≡ None)) same c.write_ready.ensures.checked

pub returns-clause-refused : goal.returns-clause-refused
returns-clause-refused g c = λ why found.
    let layers = c.args.layers.now in
    let n = length layers - 1 in
    let x = get_or layers n c.index-layers-last.result in
    let y = c.write_ready.new.layer in
    let same = set_geometry layers n x x (ap (λ (d : LayerState). get_or layers n d) c.index-layers-last.is) (omega (arith, c.requires.some)) c.args.geo.now c.requires.layers in
    let r = c.write_ready.ensures.refused why (subst (λ (geo : Geometry). g.U.Unit.fault geo c.args.t.0 c.args.bytes.now ≡ Some why) (sym same) found) in
    (r.0, set_back layers n x y (ap (λ (d : LayerState). get_or layers n d) c.index-layers-last.is) (omega (arith, c.requires.some)) r.1, r.2)

pub returns-clause-refusal : goal.returns-clause-refusal
returns-clause-refusal g c =
    let layers = c.args.layers.now in
    let n = length layers - 1 in
    let x = get_or layers n c.index-layers-last.result in
    let y = c.write_ready.new.layer in
    let same = set_geometry layers n x x (ap (λ (d : LayerState). get_or layers n d) c.index-layers-last.is) (omega (arith, c.requires.some)) c.args.geo.now c.requires.layers in
    let old = seen g.T.Shows c.args.stage.now in
    let new = seen g.T.Shows c.write_ready.new.stage in
    let value = g.U.Unit.value c.args.bytes.now in
    let here = subst (λ (geo : Geometry). IfErr c.write_ready.result (IsWriteRefusal g.U.Unit.null_bytes (g.U.Unit.fault geo c.args.t.0 c.args.bytes.now) x y old new c.args.t.0 value)) same c.write_ready.ensures.refusal in
    set_refusal layers n x y (ap (λ (d : LayerState). get_or layers n d) c.index-layers-last.is) (omega (arith, c.requires.some)) g.U.Unit.null_bytes (g.U.Unit.fault c.args.geo.now c.args.t.0 c.args.bytes.now) old new c.args.t.0 value c.write_ready.result here

pub returns-clause-last : goal.returns-clause-last
returns-clause-last g c =
    let layers = c.args.layers.now in
    let n = length layers - 1 in
    let x = get_or layers n c.index-layers-last.result in
    let y = c.write_ready.new.layer in
    set_last layers n x y (ap (λ (d : LayerState). get_or layers n d) c.index-layers-last.is) (omega (arith, c.requires.some)) IsSameFile c.write_ready.ensures.same

pub returns-clause-layers : goal.returns-clause-layers
returns-clause-layers g c =
    let layers = c.args.layers.now in
    let n = length layers - 1 in
    let x = get_or layers n c.index-layers-last.result in
    let y = c.write_ready.new.layer in
    set_layers layers n x y (ap (λ (d : LayerState). get_or layers n d) c.index-layers-last.is) (omega (arith, c.requires.some))
    g.U.Unit.null_bytes c.args.geo.now (seen g.T.Shows c.args.stage.now) (seen g.T.Shows c.write_ready.new.stage) c.requires.layers c.write_ready.ensures.same c.write_ready.ensures.others

pub returns-clause-stops : goal.returns-clause-stops
returns-clause-stops g c =
    let layers = c.args.layers.now in
    let n = length layers - 1 in
    let x = get_or layers n c.index-layers-last.result in
    let y = c.write_ready.new.layer in
    set_lies layers n x y (ap (λ (d : LayerState). get_or layers n d) c.index-layers-last.is) (omega (arith, c.requires.some))
    g.U.Unit.null_bytes c.args.geo.now (seen g.T.Shows c.args.stage.now) (seen g.T.Shows c.write_ready.new.stage) c.requires.layers c.write_ready.ensures.same c.write_ready.ensures.others
    c.write_ready.ensures.stopped

pub returns-clause-others : goal.returns-clause-others
returns-clause-others g c =
    let layers = c.args.layers.now in
    let n = length layers - 1 in
    let x = get_or layers n c.index-layers-last.result in
    let y = c.write_ready.new.layer in
    set_others layers n x y (ap (λ (d : LayerState). get_or layers n d) c.index-layers-last.is) (omega (arith, c.requires.some))
    g.U.Unit.null_bytes c.args.geo.now (seen g.T.Shows c.args.stage.now) (seen g.T.Shows c.write_ready.new.stage) c.requires.layers c.write_ready.ensures.same c.write_ready.ensures.others
    n refl

pub returns-clause-marked : goal.returns-clause-marked
returns-clause-marked g c =
    let layers = c.args.layers.now in
    let n = length layers - 1 in
    let x = get_or layers n c.index-layers-last.result in
    let y = c.write_ready.new.layer in
    set_ends layers n x y (ap (λ (d : LayerState). get_or layers n d) c.index-layers-last.is) (omega (arith, c.requires.some)) (λ layer. layer.marked ≡ true) c.write_ready.result c.write_ready.ensures.marked

pub returns-clause-grows : goal.returns-clause-grows
returns-clause-grows g c =
    let layers = c.args.layers.now in
    let n = length layers - 1 in
    let x = get_or layers n c.index-layers-last.result in
    let y = c.write_ready.new.layer in
    set_grows layers n x y (ap (λ (d : LayerState). get_or layers n d) c.index-layers-last.is) (omega (arith, c.requires.some)) (c.args.t.0 / 256) c.write_ready.result c.write_ready.ensures.grows

pub returns-clause-stays : goal.returns-clause-stays
returns-clause-stays g c = λ whole.
    let layers = c.args.layers.now in
    let n = length layers - 1 in
    let x = get_or layers n c.index-layers-last.result in
    let y = c.write_ready.new.layer in
    set_stays layers n x y (ap (λ (d : LayerState). get_or layers n d) c.index-layers-last.is) (omega (arith, c.requires.some)) c.write_ready.result whole c.write_ready.ensures.stays

pub returns-clause-lacks : goal.returns-clause-lacks
returns-clause-lacks g c = λ told sure.
    let layers = c.args.layers.now in
    let n = length layers - 1 in
    let x = get_or layers n c.index-layers-last.result in
    let y = c.write_ready.new.layer in
    set_lacks layers n x y (ap (λ (d : LayerState). get_or layers n d) c.index-layers-last.is) (omega (arith, c.requires.some)) g.U.Unit.null_bytes (seen g.T.Shows c.write_ready.new.stage) c.args.t.0 (g.U.Unit.value c.args.bytes.now) c.write_ready.result (c.write_ready.ensures.lacks told sure)

pub returns-clause-marks : goal.returns-clause-marks
returns-clause-marks g c = λ whole.
    let layers = c.args.layers.now in
    let n = length layers - 1 in
    let x = get_or layers n c.index-layers-last.result in
    let y = c.write_ready.new.layer in
    let old = seen g.T.Shows c.args.stage.now in
    let new = seen g.T.Shows c.write_ready.new.stage in
    set_marks c.args.geo.now layers n x y old new (ap (λ (d : LayerState). get_or layers n d) c.index-layers-last.is) (omega (arith, c.requires.some)) c.requires.layers c.write_ready.ensures.others
    (mark_written x y old new c.write_ready.result c.write_ready.ensures.same whole c.write_ready.ensures.marked c.write_ready.ensures.unharmed)
