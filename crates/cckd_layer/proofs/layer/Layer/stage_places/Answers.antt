use Rattle.cckd_layer.proofs.InRoomLemmas.{room_track}
use Rattle.std.proofs.Common.{◌≡◌, ℕ, List, [], length, IsSome, sym, ◌∙◌, ap, subst, ◌/◌}
use Rattle.cckd_shelf.specs.World.{file_of}
use Rattle.cckd_base.specs.declared.entry.L2Entry.{L2Entry}
use Rattle.cckd_base.specs.Entry.{bytes_by_entry}
use Rattle.cckd_tables.specs.declared.staged.StagedEntry.{StagedEntry}
use Rattle.cckd_tables.specs.Staging.{IsStaged, entry_for}
use Rattle.cckd_layer.proofs.PlacedLemmas.{stores_then, stores_as}
use Rattle.cckd_layer.proofs.layer.Layer.stage_places.Goals as goal

pub returns-clause-map : goal.returns-clause-map
returns-clause-map g c = λ claims w k told.
    let null = g.U.Unit.null_bytes in
    let s = c.args.self.now in
    let m = c.stage_new_table.new.self in
    let n = c.stage_track.new.self in
    let t = c.args.t.0 in
    let e = c.args.entry in
    let same = c.stage_new_table.ensures.same in
    let again = c.stage_new_table.ensures.map claims c.args.old c.args.len e w k told in
    let can = c.stage_new_table.ensures.can claims c.args.old c.args.len e w k told in
    let points = k.points ∙ sym (ap (λ (x : L2Entry). x.pos) (again.entries t k.low)) in
    let long : IsStaged t m.tables.stages → c.args.len ≡ length (file_of w.world m.slot) = λ st.
    subst (λ (x : ℕ). c.args.len ≡ length (file_of w.world x)) (sym same.slot) (k.length_is (subst (λ (es : List StagedEntry). IsSome (entry_for t es)) c.stage_new_table.ensures.entries st)) in
    stores_then [] null s m n t (bytes_by_entry null s.tables.layout (file_of w.world s.slot) t e) w w w same again.same
    (stores_as [] null s m n t e w same (c.stage_track.ensures.map claims [] w can points long))

pub returns-clause-confined : goal.returns-clause-confined
returns-clause-confined g c =
    let s = c.args.self.now in
    let m = c.stage_new_table.new.self in
    let n = c.stage_track.new.self in
    room_track (c.args.t.0 / 256) c.args.t.0 c.args.entry s m n c.stage_new_table.ensures.same c.stage_new_table.ensures.confined c.stage_track.ensures.staged c.stage_track.ensures.size
