use Rattle.std.proofs.Common.{◌≡◌, ◌<◌, None, sym, subst, refl}
use Rattle.std.specs.Prelude.{Option, Result, IfOk, IfSome}
use Rattle.cckd_base.specs.declared.geometry.Layout.{Layout}
use Rattle.cckd_base.specs.declared.layer_fault.LayerFault.{LayerFault}
use Rattle.cckd_base.specs.Geometry.{track_count}
use Rattle.cckd_shelf.specs.Seen.{seen}
use Rattle.cckd_layer.specs.declared.completing.Excess.{Excess}
use Rattle.cckd_layer.specs.Mounted.{LayerState, with_tables}
use Rattle.cckd_layer.specs.Writes.{Agrees}
use Rattle.cckd_layer.specs.Loose.{Tied, TiedIn, PassesEnd, IsOnlyLooked}
use Rattle.cckd_layer.proofs.ExcessLemmas.{excess_none, entry_looked, looked_fits, looked_passes, agreed_none}
use Rattle.cckd_layer.proofs.TiedLemmas.{tied_reads}
use Rattle.cckd_layer.proofs.layer.Layer.excess.Goals.{in-Ok, in-Err}
use Rattle.cckd_layer.proofs.layer.Layer.excess.Goals as goal

pub returns-in_default-clause-none : goal.returns-in_default-clause-none
returns-in_default-clause-none g c = λ told sure none.
    let i = c.self.inside in
    let w = g.T.Shows.world c.args.stage.now in
    let s : LayerState = record { slot = i.slot; header = i.header; tables = i.tables; plan = i.space; marked = i.marked; hardened = i.hardened; broken = i.broken } in
    let tied : Tied s w = subst (λ (x : LayerState). Tied x w) (sym c.self.view_is) (c.requires.tied told sure) in
    subst (λ (x : LayerState). Agrees x w) c.self.view_is
    (excess_none s w tied (λ t n low is. c.in_default.ensures.none refl t n (subst (λ (l : Layout). t < track_count l.geo) (sym c.layout-layout.ensures.layout) low) is))

pub entry_of-requires-clause-can_read : goal.entry_of-requires-clause-can_read
entry_of-requires-clause-can_read g c =
    let i = c.self.inside in
    let old = seen g.T.Shows c.args.stage.now in
    let s : LayerState = record { slot = i.slot; header = i.header; tables = i.tables; plan = i.space; marked = i.marked; hardened = i.hardened; broken = i.broken } in
    tied_reads s old (λ told sure. subst (λ (x : LayerState). Tied x old.world) (sym c.self.view_is) (c.requires.tied told sure))

pub returns-clause-looked : goal.returns-clause-looked
returns-clause-looked g c =
    let i = c.self.inside in
    let old = seen g.T.Shows c.args.stage.now in
    let new = seen g.T.Shows c.entry_of.new.stage in
    let s : LayerState = record { slot = i.slot; header = i.header; tables = i.tables; plan = i.space; marked = i.marked; hardened = i.hardened; broken = i.broken } in
    let next : LayerState = with_tables s c.entry_of.new.tables in
    let tied : TiedIn s old = λ told sure. subst (λ (x : LayerState). Tied x old.world) (sym c.self.view_is) (c.requires.tied told sure) in
    subst (λ (x : LayerState). IsOnlyLooked x next old new) c.self.view_is
    (entry_looked s c.entry_of.new.tables old new (λ told. told) (λ told. told) tied c.entry_of.ensures.reads.kept c.entry_of.ensures.looks.rest c.entry_of.ensures.can_read)

pub returns-clause-none : goal.returns-clause-none
returns-clause-none g c = λ told sure.
    let i = c.self.inside in
    let old = seen g.T.Shows c.args.stage.now in
    let new = seen g.T.Shows c.entry_of.new.stage in
    let s : LayerState = record { slot = i.slot; header = i.header; tables = i.tables; plan = i.space; marked = i.marked; hardened = i.hardened; broken = i.broken } in
    let next : LayerState = with_tables s c.entry_of.new.tables in
    let tied : TiedIn s old = λ told sure. subst (λ (x : LayerState). Tied x old.world) (sym c.self.view_is) (c.requires.tied told sure) in
    let looked = entry_looked s c.entry_of.new.tables old new (λ told. told) (λ told. told) tied c.entry_of.ensures.reads.kept c.entry_of.ensures.looks.rest c.entry_of.ensures.can_read in
    let last = c.in-Some.last in
    elim c.match-entry_of.branch [
      | in-Ok w ↦ subst (λ (r : Result (Option Excess) LayerFault). IfOk r (λ o. o ≡ None → Agrees next new.world)) (sym w.result-is)
          (λ none. looked_fits g.U.Unit.null_bytes s next old new last.track.0 last.size w.in-Ok.entry (λ told. told) looked told (tied told sure) c.in-Some.ensures.last
          (w.in-Ok.ensures.entry told sure) (w.excess_of.ensures.none none))
      | in-Err w ↦ subst (λ (r : Result (Option Excess) LayerFault). IfOk r (λ o. o ≡ None → Agrees next new.world)) (sym w.result-is) tt
    ]

pub returns-clause-some : goal.returns-clause-some
returns-clause-some g c = λ told sure.
    let i = c.self.inside in
    let old = seen g.T.Shows c.args.stage.now in
    let new = seen g.T.Shows c.entry_of.new.stage in
    let s : LayerState = record { slot = i.slot; header = i.header; tables = i.tables; plan = i.space; marked = i.marked; hardened = i.hardened; broken = i.broken } in
    let next : LayerState = with_tables s c.entry_of.new.tables in
    let tied : TiedIn s old = λ told sure. subst (λ (x : LayerState). Tied x old.world) (sym c.self.view_is) (c.requires.tied told sure) in
    let looked = entry_looked s c.entry_of.new.tables old new (λ told. told) (λ told. told) tied c.entry_of.ensures.reads.kept c.entry_of.ensures.looks.rest c.entry_of.ensures.can_read in
    let last = c.in-Some.last in
    elim c.match-entry_of.branch [
      | in-Ok w ↦ subst (λ (r : Result (Option Excess) LayerFault). IfOk r (λ o. IfSome o (λ x. PassesEnd next new.world x.track.0 x.entry))) (sym w.result-is)
          (looked_passes s next old new last.track last.size w.in-Ok.entry w.excess_of.result (λ told. told) looked told (tied told sure) c.in-Some.ensures.last
          (w.in-Ok.ensures.entry told sure) w.excess_of.ensures.some)
      | in-Err w ↦ subst (λ (r : Result (Option Excess) LayerFault). IfOk r (λ o. IfSome o (λ x. PassesEnd next new.world x.track.0 x.entry))) (sym w.result-is) tt
    ]

pub returns-clause-agreed : goal.returns-clause-agreed
returns-clause-agreed g c = λ told agrees.
    let i = c.self.inside in
    let old = seen g.T.Shows c.args.stage.now in
    let s : LayerState = record { slot = i.slot; header = i.header; tables = i.tables; plan = i.space; marked = i.marked; hardened = i.hardened; broken = i.broken } in
    let here : Agrees s old.world = subst (λ (x : LayerState). Agrees x old.world) (sym c.self.view_is) agrees in
    let last = c.in-Some.last in
    elim c.match-entry_of.branch [
      | in-Ok w ↦ subst (λ (r : Result (Option Excess) LayerFault). IfOk r (λ o. o ≡ None)) (sym w.result-is)
          (agreed_none s old.world last.track last.size w.in-Ok.entry w.excess_of.result here c.in-Some.ensures.last (w.in-Ok.ensures.entry told here.stands.sure) w.excess_of.ensures.some)
      | in-Err w ↦ subst (λ (r : Result (Option Excess) LayerFault). IfOk r (λ o. o ≡ None)) (sym w.result-is) tt
    ]
