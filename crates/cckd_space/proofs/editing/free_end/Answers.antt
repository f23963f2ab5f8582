use Rattle.std.proofs.Common.{sym, ◌∙◌, arith}
use Rattle.cckd_space.proofs.EndLemmas.{ends_free_at, ends_kept_at}
use Rattle.cckd_space.proofs.editing.free_end.Goals as goal

pub returns-then-is_free : goal.returns-then-is_free
returns-then-is_free c = sym (ends_free_at c.args.pieces.now _ (omega arith) (sym c.is_free.ensures ∙ c.if-is_free.true))

pub returns-else-is_free : goal.returns-else-is_free
returns-else-is_free c = sym (ends_kept_at c.args.pieces.now _ c.args.size c.requires.ends (omega arith) (sym c.is_free.ensures ∙ c.if-is_free.false))
