use Rattle.cckd_layer.proofs.InRoomLemmas.{room_table}
use Rattle.std.proofs.Common.{◌/◌, ℕ, Option, refl, sym, ap, subst}
use Rattle.cckd_tables.specs.Staging.{Stages, IsMoved}
use Rattle.cckd_tables.specs.Stages.{with_word}
use Rattle.cckd_layer.specs.Mounted.{LayerState}
use Rattle.cckd_layer.specs.Writes.{IsSameFile}
use Rattle.cckd_layer.specs.Storing.{CanPlace}
use Rattle.cckd_layer.proofs.ClaimLemmas.{stages_word}
use Rattle.cckd_layer.proofs.StageLemmas.{some_moved}
use Rattle.cckd_layer.proofs.PlacedLemmas.{table_first, can_stage_new}
use Rattle.cckd_layer.proofs.layer.Layer.stage_new_table.Goals as goal

pub returns-in-Some-clause-can : goal.returns-in-Some-clause-can
returns-in-Some-clause-can g c = λ claims pos len e w k told.
    let s = c.args.self.now in
    let m = c.stage_table.new.self in
    let g2 = c.args.t.0 / 256 in
    let q = c.in-Some.pos in
    let p = subst (λ (o : Option ℕ). CanPlace claims s c.args.t.0 pos o e len w) c.in-Some.is k in
    let again = c.stage_table.ensures.map claims w (p.new refl) told (table_first claims e q s w.world p.takes p.agrees) in
    let staged = c.stage_table.ensures.staged in
    let same : IsSameFile s m = record { slot = ap (λ (x : LayerState). x.slot) staged; layout = ap (λ (x : LayerState). x.tables.layout) staged; limit = c.stage_table.ensures.limit } in
    let n = with_word (record { group = g2; pos = q }) s.tables.stages in
    let moved : IsMoved g2 m.tables.stages = subst (λ (st : Stages). IsMoved g2 st) (sym (ap (λ (x : LayerState). x.tables.stages) staged)) (some_moved g2 q n (stages_word g2 q s.tables.stages).here) in
    can_stage_new claims s m c.args.t.0 pos q e len w same moved again.agrees p

pub returns-in-Some-clause-map : goal.returns-in-Some-clause-map
returns-in-Some-clause-map g c = λ claims pos len e w k told.
    let s = c.args.self.now in
    let m = c.stage_table.new.self in
    let g2 = c.args.t.0 / 256 in
    let q = c.in-Some.pos in
    let p = subst (λ (o : Option ℕ). CanPlace claims s c.args.t.0 pos o e len w) c.in-Some.is k in
    let again = c.stage_table.ensures.map claims w (p.new refl) told (table_first claims e q s w.world p.takes p.agrees) in
    again

pub returns-in-Some-clause-confined : goal.returns-in-Some-clause-confined
returns-in-Some-clause-confined g c = room_table (c.args.t.0 / 256) c.in-Some.pos c.args.self.now c.stage_table.new.self c.stage_table.ensures.staged c.stage_table.ensures.size
