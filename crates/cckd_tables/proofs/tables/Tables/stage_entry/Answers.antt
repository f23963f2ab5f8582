use Rattle.std.proofs.Common.{◌<◌, sym, subst}
use Rattle.cckd_base.specs.Geometry.{track_count}
use Rattle.cckd_tables.specs.declared.staged.StagedEntry.{StagedEntry}
use Rattle.cckd_tables.specs.Tables.{TableView}
use Rattle.cckd_tables.specs.Cached.{tables_in}
use Rattle.cckd_tables.proofs.TablesLemmas.{entry_tables}
use Rattle.cckd_tables.proofs.tables.Tables.stage_entry.Goals as goal

pub invariant_of-self : goal.invariant_of-self
invariant_of-self c =
    let was = c.self.inside in
    let old : TableView = record { layout = was.layout; words = was.words.items; stages = was.stages; cached = tables_in was.cache.entries } in
    let e : StagedEntry = record { track = c.args.t.0; entry = c.args.entry } in
    let there = subst (λ (v : TableView). c.args.t.0 < track_count v.layout.geo) (sym c.self.view_is) c.requires.track in
    (entry_tables old e c.put_entry.new.self c.self.invariant.0 there c.put_entry.ensures.put c.put_entry.ensures.staged, c.self.invariant.1, c.self.invariant.2)

pub returns-clause-tables : goal.returns-clause-tables
returns-clause-tables c =
    let was = c.self.inside in
    let old : TableView = record { layout = was.layout; words = was.words.items; stages = was.stages; cached = tables_in was.cache.entries } in
    let e : StagedEntry = record { track = c.args.t.0; entry = c.args.entry } in
    let there = subst (λ (v : TableView). c.args.t.0 < track_count v.layout.geo) (sym c.self.view_is) c.requires.track in
    entry_tables old e c.put_entry.new.self c.self.invariant.0 there c.put_entry.ensures.put c.put_entry.ensures.staged
