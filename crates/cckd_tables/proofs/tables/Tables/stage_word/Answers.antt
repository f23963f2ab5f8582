use Rattle.std.proofs.Common.{◌<◌, sym, subst}
use Rattle.cckd_tables.specs.declared.staged.StagedWord.{StagedWord}
use Rattle.cckd_tables.specs.Tables.{TableView}
use Rattle.cckd_tables.specs.Cached.{tables_in}
use Rattle.cckd_tables.proofs.TablesLemmas.{word_tables}
use Rattle.cckd_tables.proofs.tables.Tables.stage_word.Goals as goal

pub invariant_of-self : goal.invariant_of-self
invariant_of-self c =
    let was = c.self.inside in
    let old : TableView = record { layout = was.layout; words = was.words.items; stages = was.stages; cached = tables_in was.cache.entries } in
    let w : StagedWord = record { group = c.args.group; pos = c.args.pos } in
    let there = subst (λ (v : TableView). c.args.group < v.layout.groups) (sym c.self.view_is) c.requires.group in
    (word_tables old w c.put_word.new.self c.self.invariant.0 there c.put_word.ensures.put c.put_word.ensures.staged, c.self.invariant.1, c.self.invariant.2)

pub returns-clause-tables : goal.returns-clause-tables
returns-clause-tables c =
    let was = c.self.inside in
    let old : TableView = record { layout = was.layout; words = was.words.items; stages = was.stages; cached = tables_in was.cache.entries } in
    let w : StagedWord = record { group = c.args.group; pos = c.args.pos } in
    let there = subst (λ (v : TableView). c.args.group < v.layout.groups) (sym c.self.view_is) c.requires.group in
    word_tables old w c.put_word.new.self c.self.invariant.0 there c.put_word.ensures.put c.put_word.ensures.staged
