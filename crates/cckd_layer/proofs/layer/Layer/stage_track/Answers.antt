use Rattle.std.proofs.Common.{◌≡◌, false, List, length, Option, sym, subst}
use Rattle.cckd_shelf.specs.Seen.{Seen}
use Rattle.cckd_shelf.specs.World.{file_of}
use Rattle.cckd_base.specs.declared.entry.L2Entry.{L2Entry}
use Rattle.cckd_base.specs.declared.space.Extent.{Extent}
use Rattle.cckd_base.specs.Entry.{bytes_by_entry}
use Rattle.cckd_tables.specs.Staging.{IsStaged}
use Rattle.cckd_tables.specs.Tables.{TableView}
use Rattle.cckd_layer.specs.Mounted.{LayerState}
use Rattle.cckd_layer.specs.Writes.{CanStage, StoresIn, FreesOld, entry_now}
use Rattle.cckd_layer.proofs.ClaimLemmas.{track_agrees}
use Rattle.cckd_layer.proofs.layer.Layer.stage_track.Goals as goal

pub returns-clause-map : goal.returns-clause-map
returns-clause-map g c =
    let i = c.self.inside in
    let null = g.U.Unit.null_bytes in
    let s : LayerState = record { slot = i.slot; header = i.header; tables = i.tables; plan = i.space; marked = i.marked; hardened = i.hardened; broken = i.broken } in
    let make : TableView → LayerState = λ t. record { slot = i.slot; header = i.header; tables = t; plan = c.free_old.new.space; marked = i.marked; hardened = false; broken = i.broken } in
    let frees = subst (λ (o : Option L2Entry). FreesOld o c.args.pos c.args.len i.space c.free_old.new.space) c.staged_entry-staged.ensures c.free_old.ensures.frees in
    subst (λ (x : LayerState). (claims rest : List Extent) (w : Seen) → CanStage claims rest x c.args.t.0 c.args.entry w → c.args.pos ≡ (entry_now x w c.args.t.0).pos → (IsStaged c.args.t.0 x.tables.stages → c.args.len ≡ length (file_of w.world x.slot))
    → StoresIn rest null x (make c.stage_entry.new.self) c.args.t.0 (bytes_by_entry null x.tables.layout (file_of w.world x.slot) c.args.t.0 c.args.entry) w w) c.self.view_is
    (subst (λ (t : TableView). (claims rest : List Extent) (w : Seen) → CanStage claims rest s c.args.t.0 c.args.entry w → c.args.pos ≡ (entry_now s w c.args.t.0).pos → (IsStaged c.args.t.0 s.tables.stages → c.args.len ≡ length (file_of w.world s.slot))
    → StoresIn rest null s (make t) c.args.t.0 (bytes_by_entry null s.tables.layout (file_of w.world s.slot) c.args.t.0 c.args.entry) w w) (sym c.stage_entry.ensures.staged)
    (λ claims rest w can at long. track_agrees claims rest null s c.free_old.new.space c.args.t.0 c.args.entry c.args.pos c.args.len w frees c.free_old.ensures.sound can at long))
