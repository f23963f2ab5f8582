use Rattle.std.proofs.Common.{◌≡◌, false, sym, ap, subst}
use Rattle.cckd_shelf.specs.Seen.{seen, Tells}
use Rattle.cckd_image.specs.declared.header.ImageHeader.{ImageHeader}
use Rattle.cckd_base.specs.declared.order.Order.{Order}
use Rattle.cckd_shelf.specs.World.{IsSure, file_of}
use Rattle.cckd_shelf.specs.Stops.{StopsLeave}
use Rattle.cckd_layer.specs.Chain.{IsClosedFrom, IsEnding}
use Rattle.cckd_layer.specs.Stands.{nothing_staged}
use Rattle.cckd_layer.specs.Mounted.{LayerState}
use Rattle.cckd_layer.specs.Writes.{Agrees, StopsWithin, KeepsMap, AgreesAgain, IsSettled, closed_layer}
use Rattle.cckd_layer.specs.Closed.{IsClosed}
use Rattle.cckd_layer.proofs.ClosedLayerLemmas.{closed_agrees, closing_within, last_second}
use Rattle.cckd_layer.proofs.ClosedImageLemmas.{image_closed}
use Rattle.cckd_layer.specs.Headed.{ClosesLast}
use Rattle.cckd_layer.proofs.EndedLemmas.{closing_headers}
use Rattle.cckd_layer.proofs.layer.Layer.close_anew.Goals as goal

pub returns-in-Ok-clause-map : goal.returns-in-Ok-clause-map
returns-in-Ok-clause-map g c =
    let i = c.self.inside in
    let old = seen g.T.Shows c.args.stage.now in
    let new = seen g.T.Shows c.close_image.new.shelf in
    let s : LayerState = record { slot = i.slot; header = i.header; tables = i.tables; plan = i.space; marked = i.marked; hardened = i.hardened; broken = i.broken } in
    let next : LayerState = record { slot = i.slot; header = c.in-Ok.closed; tables = i.tables; plan = i.space; marked = false; hardened = i.hardened; broken = i.broken } in
    let same : closed_layer s ≡ next = ap (λ (h : ImageHeader). let n : LayerState = record { slot = i.slot; header = h; tables = i.tables; plan = i.space; marked = false; hardened = i.hardened; broken = i.broken } in n) (sym c.in-Ok.ensures.header) in
    let empty : s.tables.stages ≡ nothing_staged = subst (λ (x : LayerState). x.tables.stages ≡ nothing_staged) (sym c.self.view_is) c.requires.settled.stages in
    subst (λ (x : LayerState). KeepsMap g.U.Unit.null_bytes x next old new) c.self.view_is
    (λ told a.
    let closed = subst (λ (o : Order). IsClosedFrom o s.plan.pieces (last_second s) (file_of old.world s.slot) (file_of new.world s.slot)) (ap (λ x. x.order) c.layout-order.ensures.layout) (c.in-Ok.ensures.now told) in
    subst (λ (n : LayerState). AgreesAgain g.U.Unit.null_bytes s n old new) same
    (closed_agrees g.U.Unit.null_bytes s old new empty (c.in-Ok.ensures.sure told a.stands.sure) closed (c.in-Ok.ensures.alone told a.stands.sure) a))

pub returns-in-Ok-clause-stopped : goal.returns-in-Ok-clause-stopped
returns-in-Ok-clause-stopped g c =
    let i = c.self.inside in
    let old = seen g.T.Shows c.args.stage.now in
    let new = seen g.T.Shows c.close_image.new.shelf in
    let s : LayerState = record { slot = i.slot; header = i.header; tables = i.tables; plan = i.space; marked = i.marked; hardened = i.hardened; broken = i.broken } in
    subst (λ (x : LayerState). StopsWithin g.U.Unit.null_bytes x old new) c.self.view_is
    (closing_within g.U.Unit.null_bytes s old new c.close_image.ensures.stopped)

pub returns-in-Err-clause-stopped : goal.returns-in-Err-clause-stopped
returns-in-Err-clause-stopped g c =
    let i = c.self.inside in
    let old = seen g.T.Shows c.args.stage.now in
    let new = seen g.T.Shows c.close_image.new.shelf in
    let s : LayerState = record { slot = i.slot; header = i.header; tables = i.tables; plan = i.space; marked = i.marked; hardened = i.hardened; broken = i.broken } in
    subst (λ (x : LayerState). StopsWithin g.U.Unit.null_bytes x old new) c.self.view_is
    (closing_within g.U.Unit.null_bytes s old new c.close_image.ensures.stopped)

pub returns-in-Ok-clause-closed : goal.returns-in-Ok-clause-closed
returns-in-Ok-clause-closed g c =
    let i = c.self.inside in
    let old = seen g.T.Shows c.args.stage.now in
    let new = seen g.T.Shows c.close_image.new.shelf in
    let s : LayerState = record { slot = i.slot; header = i.header; tables = i.tables; plan = i.space; marked = i.marked; hardened = i.hardened; broken = i.broken } in
    let settled : IsSettled s = subst IsSettled (sym c.self.view_is) c.requires.settled in
    subst (λ (x : LayerState). Tells old → Agrees x old.world → IsClosed x.tables.layout (file_of new.world x.slot)) c.self.view_is
    (λ told a.
    let closed = subst (λ (o : Order). IsClosedFrom o s.plan.pieces (last_second s) (file_of old.world s.slot) (file_of new.world s.slot)) (ap (λ x. x.order) c.layout-order.ensures.layout) (c.in-Ok.ensures.now told) in
    image_closed s old new settled (c.in-Ok.ensures.sure told a.stands.sure) closed (c.in-Ok.ensures.alone told a.stands.sure) a)

pub returns-in-Ok-clause-headers : goal.returns-in-Ok-clause-headers
returns-in-Ok-clause-headers g c =
    let i = c.self.inside in
    let old = seen g.T.Shows c.args.stage.now in
    let new = seen g.T.Shows c.close_image.new.shelf in
    let s : LayerState = record { slot = i.slot; header = i.header; tables = i.tables; plan = i.space; marked = i.marked; hardened = i.hardened; broken = i.broken } in
    let settled : IsSettled s = subst IsSettled (sym c.self.view_is) c.requires.settled in
    let es = old.world.events in
    let was = file_of old.world s.slot in
    let last = subst (λ (o : Order). IsSure old.world → StopsLeave s.slot (IsEnding es s.slot s.plan.pieces s.plan.size o (last_second s) was) old new) (ap (λ x. x.order) c.layout-order.ensures.layout) c.close_image.ensures.last in
    subst (λ (x : LayerState). ClosesLast x old new) c.self.view_is (closing_headers s old new settled last)

pub returns-in-Err-clause-headers : goal.returns-in-Err-clause-headers
returns-in-Err-clause-headers g c =
    let i = c.self.inside in
    let old = seen g.T.Shows c.args.stage.now in
    let new = seen g.T.Shows c.close_image.new.shelf in
    let s : LayerState = record { slot = i.slot; header = i.header; tables = i.tables; plan = i.space; marked = i.marked; hardened = i.hardened; broken = i.broken } in
    let settled : IsSettled s = subst IsSettled (sym c.self.view_is) c.requires.settled in
    let es = old.world.events in
    let was = file_of old.world s.slot in
    let last = subst (λ (o : Order). IsSure old.world → StopsLeave s.slot (IsEnding es s.slot s.plan.pieces s.plan.size o (last_second s) was) old new) (ap (λ x. x.order) c.layout-order.ensures.layout) c.close_image.ensures.last in
    subst (λ (x : LayerState). ClosesLast x old new) c.self.view_is (closing_headers s old new settled last)
