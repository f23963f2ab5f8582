use Rattle.std.proofs.Common.{IfOk, sym, subst}
use Rattle.cckd_base.specs.Image.{IsSnug}
use Rattle.cckd_shelf.specs.World.{World, IsSure, file_of}
use Rattle.cckd_layer.specs.Mounted.{LayerState, kept_view}
use Rattle.cckd_layer.specs.Stands.{Stands}
use Rattle.cckd_stack.proofs.mounting.mount_one.Goals as goal

pub returns-in-Ok-check_shape-clause-stands : goal.returns-in-Ok-check_shape-clause-stands
returns-in-Ok-check_shape-clause-stands g c = λ told sure.
    let kept = c.in-Ok.ensures.looks.kept told in
    subst (λ (w : World). IfOk c.mount_shaped.result (λ (layer : LayerState). IsSnug layer.tables.layout (file_of w c.args.slot)
    → Stands (kept_view layer) c.args.slot (g.T.Shows.world c.mount_shaped.new.stage))) kept
    (c.mount_shaped.ensures.stands told (subst IsSure (sym kept) sure))
