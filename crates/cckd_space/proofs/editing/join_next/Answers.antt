use Rattle.std.proofs.Common.{refl, sym, ◌∙◌, arith}
use Rattle.cckd_space.proofs.MergeLemmas.{join_two, two_fit}
use Rattle.cckd_space.proofs.editing.join_next.Goals as goal

pub overflow_add-piece : goal.overflow_add-piece
overflow_add-piece c =
    let r = two_fit c.args.pieces.now.items c.args.at c.index.result.now c.index-2.result.now (omega arith) c.index.ensures c.index-2.ensures in
    omega (arith, r, c.requires.sizes)

pub returns-clause-items : goal.returns-clause-items
returns-clause-items c =
    join_two c.args.pieces.now.items c.remove-next.new.self.items _ c.args.at c.index.result.now c.index-2.result.now c.free-whole.result (omega arith) c.index.ensures c.index-2.ensures
    (sym c.joins.ensures ∙ c.if-not-joins.false) c.free-whole.ensures c.remove-next.ensures.by_index.2 refl
