use Rattle.std.proofs.Common.{◌≡◌, List, length, true, sym, ap, subst}
use Rattle.cckd_shelf.specs.Seen.{seen, Tells}
use Rattle.cckd_shelf.specs.World.{file_of}
use Rattle.cckd_base.specs.declared.space.Extent.{Extent}
use Rattle.cckd_image.specs.declared.header.ImageHeader.{ImageHeader}
use Rattle.cckd_layer.specs.Marks.{SpellsSecond}
use Rattle.cckd_layer.specs.Mounted.{LayerState}
use Rattle.cckd_layer.specs.Writes.{AgreesWith, StopsWithinWith, KeepsMapWith, AgreesAgainWith, marked_layer}
use Rattle.cckd_layer.proofs.MarkLemmas.{mark_agrees, mark_within}
use Rattle.cckd_layer.proofs.StoreLemmas.{mark_length}
use Rattle.cckd_layer.specs.Headed.{KeepsMarkWith}
use Rattle.cckd_layer.proofs.HeadedLemmas.{mark_first}
use Rattle.cckd_layer.proofs.layer.Layer.mark_anew.Goals as goal

pub returns-in-Ok-clause-map : goal.returns-in-Ok-clause-map
returns-in-Ok-clause-map g c =
    let i = c.self.inside in
    let old = seen g.T.Shows c.args.stage.now in
    let new = seen g.T.Shows c.put_second.new.shelf in
    let s : LayerState = record { slot = i.slot; header = i.header; tables = i.tables; plan = i.space; marked = i.marked; hardened = i.hardened; broken = i.broken } in
    let header = c.open_header-opened.ensures in
    let next : LayerState = record { slot = i.slot; header = c.open_header-opened.result; tables = i.tables; plan = i.space; marked = true; hardened = i.hardened; broken = i.broken } in
    let same : marked_layer s ≡ next = ap (λ (h : ImageHeader). let n : LayerState = record { slot = i.slot; header = h; tables = i.tables; plan = i.space; marked = true; hardened = i.hardened; broken = i.broken } in n) (sym header) in
    let spells = subst (λ (h : ImageHeader). SpellsSecond c.second_header-second.result h.cckd) header c.second_header-second.ensures in
    subst (λ (x : LayerState). (claims : List Extent) → KeepsMapWith claims claims g.U.Unit.null_bytes x next old new) c.self.view_is
    (λ claims told a. subst (λ (n : LayerState). AgreesAgainWith claims g.U.Unit.null_bytes s n old new) same
    (mark_agrees claims g.U.Unit.null_bytes s old new c.second_header-second.result spells (c.in-Ok.ensures.made told) (c.in-Ok.ensures.alone told a.stands.sure) a))

pub returns-in-Ok-clause-stopped : goal.returns-in-Ok-clause-stopped
returns-in-Ok-clause-stopped g c =
    let i = c.self.inside in
    let old = seen g.T.Shows c.args.stage.now in
    let new = seen g.T.Shows c.put_second.new.shelf in
    let s : LayerState = record { slot = i.slot; header = i.header; tables = i.tables; plan = i.space; marked = i.marked; hardened = i.hardened; broken = i.broken } in
    let spells = subst (λ (h : ImageHeader). SpellsSecond c.second_header-second.result h.cckd) c.open_header-opened.ensures c.second_header-second.ensures in
    subst (λ (x : LayerState). (claims : List Extent) → StopsWithinWith claims g.U.Unit.null_bytes x old new) c.self.view_is
    (λ claims. mark_within claims g.U.Unit.null_bytes s old new c.second_header-second.result spells c.put_second.ensures.stopped)

pub returns-in-Err-clause-stopped : goal.returns-in-Err-clause-stopped
returns-in-Err-clause-stopped g c =
    let i = c.self.inside in
    let old = seen g.T.Shows c.args.stage.now in
    let new = seen g.T.Shows c.put_second.new.shelf in
    let s : LayerState = record { slot = i.slot; header = i.header; tables = i.tables; plan = i.space; marked = i.marked; hardened = i.hardened; broken = i.broken } in
    let spells = subst (λ (h : ImageHeader). SpellsSecond c.second_header-second.result h.cckd) c.open_header-opened.ensures c.second_header-second.ensures in
    subst (λ (x : LayerState). (claims : List Extent) → StopsWithinWith claims g.U.Unit.null_bytes x old new) c.self.view_is
    (λ claims. mark_within claims g.U.Unit.null_bytes s old new c.second_header-second.result spells c.put_second.ensures.stopped)

pub returns-in-Ok-clause-len : goal.returns-in-Ok-clause-len
returns-in-Ok-clause-len g c =
    let i = c.self.inside in
    let old = seen g.T.Shows c.args.stage.now in
    let new = seen g.T.Shows c.put_second.new.shelf in
    let s : LayerState = record { slot = i.slot; header = i.header; tables = i.tables; plan = i.space; marked = i.marked; hardened = i.hardened; broken = i.broken } in
    subst (λ (x : LayerState). (claims : List Extent) → Tells old → AgreesWith claims x old.world → length (file_of new.world x.slot) ≡ length (file_of old.world x.slot)) c.self.view_is
    (λ claims told a. mark_length claims s old.world new.world c.second_header-second.result c.second_header-second.ensures.long (c.in-Ok.ensures.made told) a)

pub returns-in-Ok-clause-marks : goal.returns-in-Ok-clause-marks
returns-in-Ok-clause-marks g c =
    let i = c.self.inside in
    let old = seen g.T.Shows c.args.stage.now in
    let new = seen g.T.Shows c.put_second.new.shelf in
    let s : LayerState = record { slot = i.slot; header = i.header; tables = i.tables; plan = i.space; marked = i.marked; hardened = i.hardened; broken = i.broken } in
    let spells = subst (λ (h : ImageHeader). SpellsSecond c.second_header-second.result h.cckd) c.open_header-opened.ensures c.second_header-second.ensures in
    subst (λ (x : LayerState). (claims : List Extent) → KeepsMarkWith claims x old new) c.self.view_is
    (λ claims. mark_first claims s old new c.second_header-second.result spells c.put_second.ensures.stopped)

pub returns-in-Err-clause-marks : goal.returns-in-Err-clause-marks
returns-in-Err-clause-marks g c =
    let i = c.self.inside in
    let old = seen g.T.Shows c.args.stage.now in
    let new = seen g.T.Shows c.put_second.new.shelf in
    let s : LayerState = record { slot = i.slot; header = i.header; tables = i.tables; plan = i.space; marked = i.marked; hardened = i.hardened; broken = i.broken } in
    let spells = subst (λ (h : ImageHeader). SpellsSecond c.second_header-second.result h.cckd) c.open_header-opened.ensures c.second_header-second.ensures in
    subst (λ (x : LayerState). (claims : List Extent) → KeepsMarkWith claims x old new) c.self.view_is
    (λ claims. mark_first claims s old new c.second_header-second.result spells c.put_second.ensures.stopped)
