use Rattle.std.proofs.Common.{◌≤◌, ◌∙◌, true, false, List, length, refl, sym, ap, subst}
use Rattle.cckd_base.specs.declared.space.Extent.{Extent}
use Rattle.cckd_base.specs.declared.open_fault.OpenFault.TheVariants as open_fault
use Rattle.cckd_base.specs.Geometry.{area_of}
use Rattle.cckd_base.proofs.HeaderLemmas.{headed_area}
use Rattle.cckd_image.specs.Image.{identifiers_of}
use Rattle.cckd_shelf.specs.World.{World, IsSure, file_of}
use Rattle.cckd_shelf.specs.Seen.{seen}
use Rattle.cckd_space.specs.Pieces.{pieces_of}
use Rattle.cckd_tables.specs.Tables.{HasWords}
use Rattle.cckd_layer.proofs.MountLemmas.{opened_is}
use Rattle.cckd_layer.proofs.OpenLemmas.{load_cause, memory_looks, err_looks, looks_behind}
use Rattle.cckd_layer.proofs.mounting.open.Goals as goal

pub returns-in-Err-plan-clause-looks : goal.returns-in-Err-plan-clause-looks
returns-in-Err-plan-clause-looks g c =
    memory_looks _ c.in-Err-plan.fault (seen g.T.Shows c.args.stage.now) (seen g.T.Shows c.examine.new.stage) c.in-Err-plan.ensures.cause
    c.in-Ok.ensures.looks.kept c.in-Ok.ensures.looks.counts

pub load-requires-clause-area : goal.load-requires-clause-area
load-requires-clause-area g c = λ told sure.
    let kept = c.in-Ok.ensures.looks.kept told in
    subst (λ (w : World). area_of c.in-Ok.examined.0.layout.groups ≤ length (file_of w c.args.slot)) (sym kept)
    (headed_area (identifiers_of c.args.roles) c.in-Ok.examined.0.layout (file_of (g.T.Shows.world c.args.stage.now) c.args.slot) (c.in-Ok.ensures.headed told (subst IsSure kept sure)).headed)

pub returns-in-Ok-load-clause-opened : goal.returns-in-Ok-load-clause-opened
returns-in-Ok-load-clause-opened g c = λ told sure.
    let kept = c.in-Ok.ensures.looks.kept told in
    let l = c.in-Ok.examined.0.layout in
    let tables = c.in-Ok-load.tables in
    let words = subst (λ (w : World). HasWords l tables.words (file_of w c.args.slot)) kept (c.in-Ok-load.ensures.words told (subst IsSure (sym kept) sure)) in
    opened_is c.args.roles (file_of (g.T.Shows.world c.args.stage.now) c.args.slot)
    (record { slot = c.args.slot; header = c.in-Ok.examined.0.header; tables = tables; plan = c.in-Ok-plan.space; marked = false; hardened = true; broken = false })
    c.in-Ok.examined.0.header l c.in-Ok.examined.0.len c.in-Ok.examined.1.items
    (c.in-Ok.ensures.headed told sure) (c.in-Ok.ensures.used told sure) refl
    c.in-Ok-load.ensures.layout c.in-Ok-load.ensures.cached words
    (c.in-Ok-plan.ensures.pieces ∙ ap (λ (es : List Extent). pieces_of 0 es c.in-Ok.examined.0.len) c.as_slice.ensures.value) c.in-Ok-plan.ensures.sized

pub returns-in-Ok-load-clause-looks : goal.returns-in-Ok-load-clause-looks
returns-in-Ok-load-clause-looks g c =
    looks_behind _ (seen g.T.Shows c.args.stage.now) (seen g.T.Shows c.examine.new.stage) (seen g.T.Shows c.load.new.stage) (λ told. told)
    c.in-Ok.ensures.looks.kept c.in-Ok.ensures.looks.counts
    (record { kept = c.in-Ok-load.ensures.looks.kept; counts = c.in-Ok-load.ensures.looks.counts })

pub returns-clause-cause : goal.returns-clause-cause
returns-clause-cause g c = load_cause c.args.roles c.args.slot (seen g.T.Shows c.args.stage.now) c.in-Err-load.fault c.in-Err-load.ensures.cause

pub returns-clause-looks : goal.returns-clause-looks
returns-clause-looks g c =
    err_looks _ _ c.in-Err-load.fault (seen g.T.Shows c.args.stage.now) (seen g.T.Shows c.examine.new.stage) (seen g.T.Shows c.load.new.stage) (λ told. told)
    c.in-Ok.ensures.looks.kept c.in-Ok.ensures.looks.counts c.in-Err-load.ensures.looks

pub returns-in-Err-vec-clause-looks : goal.returns-in-Err-vec-clause-looks
returns-in-Err-vec-clause-looks g c =
    memory_looks _ open_fault.Memory (seen g.T.Shows c.args.stage.now) (seen g.T.Shows c.examine.new.stage) refl c.in-Ok.ensures.looks.kept c.in-Ok.ensures.looks.counts
