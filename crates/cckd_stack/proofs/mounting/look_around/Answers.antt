use Rattle.std.proofs.Common.{ℕ, sym, subst}
use Rattle.cckd_shelf.specs.Seen.{seen}
use Rattle.cckd_shelf.specs.World.{World, IsSure, file_of}
use Rattle.cckd_image.specs.declared.roles.Roles.TheVariants.{Base}
use Rattle.cckd_layer.specs.Mounted.{SaysGeometry}
use Rattle.cckd_stack.specs.Mounting.{IsRow}
use Rattle.cckd_stack.proofs.FirstLemmas.{row_present, base_cause}
use Rattle.cckd_stack.proofs.mounting.look_around.Goals as goal

pub returns-in-Ok-geometry_in-clause-row : goal.returns-in-Ok-geometry_in-clause-row
returns-in-Ok-geometry_in-clause-row g c = λ told sure.
    let files = file_of (g.T.Shows.world c.args.stage.now) in
    let mid = file_of (g.T.Shows.world c.row.new.stage) in
    let kept = c.in-Ok.ensures.looks.kept told in
    let shape = c.in-Ok-geometry_in.shape in
    let says : SaysGeometry Base shape (mid 0) =
    subst (λ (k : ℕ). SaysGeometry Base shape (mid k)) c.slot_of.ensures (c.in-Ok-geometry_in.ensures.says told (subst IsSure (sym kept) sure)) in
    subst (IsRow files) (sym c.max.ensures)
    (row_present files c.in-Ok.count shape (c.in-Ok.ensures.row told sure) (subst (λ (w : World). SaysGeometry Base shape (file_of w 0)) kept says))

pub returns-in-Err-geometry_in-clause-cause : goal.returns-in-Err-geometry_in-clause-cause
returns-in-Err-geometry_in-clause-cause g c =
    base_cause (seen g.T.Shows c.args.stage.now) (seen g.T.Shows c.row.new.stage) c.in-Ok.count c.slot_of.result c.in-Err-geometry_in.fault c.slot_of.ensures (λ told. told)
    c.in-Ok.ensures.looks.kept c.in-Ok.ensures.row c.in-Err-geometry_in.ensures.cause
