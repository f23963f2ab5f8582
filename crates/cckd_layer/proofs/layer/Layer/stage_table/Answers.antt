use Rattle.std.proofs.Common.{◌∷◌, ◌<◌, ℕ, false, List, sym, ap, subst, inl, arith}
use Rattle.cckd_shelf.specs.Seen.{Seen}
use Rattle.cckd_base.specs.declared.space.Extent.{Extent}
use Rattle.cckd_space.specs.Plan.{Becomes}
use Rattle.cckd_tables.specs.Tables.{TableView}
use Rattle.cckd_tables.specs.Stages.{free_count, with_word}
use Rattle.cckd_tables.specs.Looking.{HasAlignedTable}
use Rattle.cckd_layer.specs.Current.{claim}
use Rattle.cckd_layer.specs.Acts.{left_at}
use Rattle.cckd_layer.specs.Mounted.{LayerState}
use Rattle.cckd_layer.specs.Writes.{KeepsMapWith}
use Rattle.cckd_layer.proofs.ClaimLemmas.{word_agrees, stages_word}
use Rattle.cckd_layer.proofs.PlacedLemmas.{free_word}
use Rattle.cckd_layer.proofs.StageLemmas.{some_moved}
use Rattle.cckd_layer.proofs.layer.Layer.stage_table.Goals as goal

pub returns-clause-table : goal.returns-clause-table
returns-clause-table g c =
    subst (λ (t : TableView). HasAlignedTable t c.args.group) (sym c.stage_word.ensures.staged)
    (inl (some_moved c.args.group c.args.pos (with_word (record { group = c.args.group; pos = c.args.pos }) c.self.inside.tables.stages) (stages_word c.args.group c.args.pos c.self.inside.tables.stages).here))

pub returns-clause-map : goal.returns-clause-map
returns-clause-map g c =
    let i = c.self.inside in
    let s : LayerState = record { slot = i.slot; header = i.header; tables = i.tables; plan = i.space; marked = i.marked; hardened = i.hardened; broken = i.broken } in
    let group = c.args.group in
    let pos = c.args.pos in
    let make : TableView → LayerState = λ t. record { slot = i.slot; header = i.header; tables = t; plan = c.leave_place.new.space; marked = i.marked; hardened = false; broken = i.broken } in
    let becomes = subst (λ (p : ℕ). Becomes i.space c.leave_place.new.space (left_at p i.space.pieces) i.space.size) c.word-old.ensures c.leave_place.ensures.becomes in
    let low = subst (λ (x : LayerState). group < x.tables.layout.groups) (sym c.self.view_is) c.requires.group in
    subst (λ (x : LayerState). (claims : List Extent) (w : Seen) → (HasAlignedTable x.tables group → ⊥) → KeepsMapWith (claim pos 2048 ∷ claims) claims g.U.Unit.null_bytes x (make c.stage_word.new.self) w w) c.self.view_is
    (subst (λ (t : TableView). (claims : List Extent) (w : Seen) → (HasAlignedTable s.tables group → ⊥) → KeepsMapWith (claim pos 2048 ∷ claims) claims g.U.Unit.null_bytes s (make t) w w) (sym c.stage_word.ensures.staged)
    (λ claims w fresh told a. word_agrees claims g.U.Unit.null_bytes s c.leave_place.new.space group pos w low c.requires.place fresh becomes c.leave_place.ensures.sound a))

pub returns-clause-free : goal.returns-clause-free
returns-clause-free g c =
    let i = c.self.inside in
    let old = ap (λ (x : LayerState). free_count x.tables.stages) c.self.view_is in
    let new = ap (λ (t : TableView). free_count t.stages) c.stage_word.ensures.staged in
    let k = free_word (record { group = c.args.group; pos = c.args.pos }) i.tables c.layout-layout.ensures.tables in
    omega (arith, old, new, k)
