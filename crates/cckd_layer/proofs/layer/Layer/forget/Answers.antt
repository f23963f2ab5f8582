use Rattle.std.proofs.Common.{sym, subst}
use Rattle.std.specs.Prelude.{Result, OnOk}
use Rattle.cckd_base.specs.declared.layer_fault.LayerFault.{LayerFault}
use Rattle.cckd_shelf.specs.Seen.{seen}
use Rattle.cckd_tables.specs.Tables.{TableView}
use Rattle.cckd_layer.specs.Mounted.{LayerState, with_tables}
use Rattle.cckd_layer.specs.Loose.{PassesEnd}
use Rattle.cckd_layer.proofs.ExcessLemmas.{passes_bare}
use Rattle.cckd_layer.proofs.layer.Layer.forget.Goals.{in-Ok, in-Err}
use Rattle.cckd_layer.proofs.layer.Layer.forget.Goals as goal

pub returns-clause-words : goal.returns-clause-words
returns-clause-words g c = λ told t e p.
    let i = c.self.inside in
    let old = seen g.T.Shows c.args.stage.now in
    let new = seen g.T.Shows c.load_words.new.stage in
    let s : LayerState = record { slot = i.slot; header = i.header; tables = i.tables; plan = i.space; marked = i.marked; hardened = i.hardened; broken = i.broken } in
    let next : LayerState = with_tables s c.load_words.new.self in
    let here : PassesEnd s old.world t e = subst (λ (x : LayerState). PassesEnd x old.world t e) (sym c.self.view_is) p in
    elim c.match-load_words.branch [
      | in-Ok w ↦ subst (λ (r : Result (Unit {0}) LayerFault). OnOk r (PassesEnd next new.world t e)) (sym w.result-is)
          (subst (λ (v : TableView). PassesEnd (with_tables s v) new.world t e) (sym w.in-Ok.ensures.loaded.rest)
          (passes_bare s c.load_words.new.self.words old.world new.world t e (c.load_words.ensures.looks.kept told) (w.in-Ok.ensures.loaded.words told here.loose.sure) here))
      | in-Err w ↦ subst (λ (r : Result (Unit {0}) LayerFault). OnOk r (PassesEnd next new.world t e)) (sym w.result-is) tt
    ]
