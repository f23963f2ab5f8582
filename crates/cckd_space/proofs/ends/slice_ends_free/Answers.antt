use Rattle.std.proofs.Common.{◌-◌, length, sym, ◌∙◌, arith}
use Rattle.cckd_space.proofs.BlockLemmas.{end_at}
use Rattle.cckd_space.proofs.ends.slice_ends_free.Goals as goal

pub returns : goal.returns
returns c =
    let xs = c.args.pieces.now in
    c.is_free.ensures ∙ sym (end_at xs (length xs - 1) _ (omega arith))
