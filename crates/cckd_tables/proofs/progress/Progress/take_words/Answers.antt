use Rattle.std.proofs.Common.{◌≡◌, [], ◌∷◌, sym, ap, arith}
use Rattle.cckd_tables.specs.Inside.{items_of_words}
use Rattle.cckd_tables.proofs.TakeLemmas.{takes_none, takes_then, takes_same}
use Rattle.cckd_tables.proofs.ItemLemmas.{no_words, next_word}
use Rattle.cckd_tables.proofs.FormedLemmas.{table_item_formed}
use Rattle.cckd_tables.proofs.progress.Progress.take_words.Goals as goal

pub loop-group-init : goal.loop-group-init
loop-group-init c =
    takes_same c.args.len [] _ c.args.self.now c.args.self.now (sym (no_words c.args.l.now c.args.len c.args.words.now))
    (takes_none c.args.len c.args.self.now c.requires.under_way)

pub take-requires-clause-under_way : goal.take-requires-clause-under_way
take-requires-clause-under_way c = c.loop-group.invariant.under_way

pub take-requires-clause-formed : goal.take-requires-clause-formed
take-requires-clause-formed c = table_item_formed c.args.l.now c.args.len c.loop-group.group c.word_in.result c.table_item-item.result c.table_item-item.ensures

pub loop-group-preserved : goal.loop-group-preserved
loop-group-preserved c =
    takes_same c.args.len _ _ c.args.self.now _
    (next_word c.args.l.now c.args.len c.args.words.now c.loop-group.group c.word_in.result c.table_item-item.result c.word_in.ensures c.table_item-item.ensures)
    (takes_then c.args.len _ (c.table_item-item.result ∷ []) c.args.self.now c.loop-group.self _ c.loop-group.invariant c.in_ok-take.ensures)

pub returns : goal.returns
returns c =
    let all : c.loop-group.group ≡ c.args.l.now.groups = omega arith in
    takes_same c.args.len _ _ c.args.self.now c.loop-group.self (ap (items_of_words c.args.l.now c.args.len c.args.words.now) all) c.loop-group.invariant
