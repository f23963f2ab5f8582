use Rattle.std.proofs.Common.{◌≡◌, [], ◌-◌, length, sym, ◌∙◌, ap, arith, get_or}
use Rattle.std.proofs.lemmas.List.{nil_from_length}
use Rattle.cckd_space.specs.Pieces.{cut, is_free}
use Rattle.cckd_space.proofs.EndLemmas.{cut_none, cut_kept, cut_read}
use Rattle.cckd_space.proofs.editing.cut_end.Goals as goal

pub returns-then-count-eq0-clause-items : goal.returns-then-count-eq0-clause-items
returns-then-count-eq0-clause-items c =
    let e : c.args.pieces.now.items ≡ [] = nil_from_length c.args.pieces.now.items (omega arith) in
    e ∙ (sym (cut_none c.args.len c.args.size (c.requires.ends.none e)) ∙ ap (cut c.args.len c.args.size) (sym e))

pub returns-then-is_free-clause-items : goal.returns-then-is_free-clause-items
returns-then-is_free-clause-items c =
    cut_read c.args.pieces.now.items c.truncate.new.self.items c.put_run.new.pieces.items c.index.result.now c.len-count.result c.args.len c.args.size
    (omega arith) (omega arith) c.index.ensures (sym c.is_free.ensures ∙ c.if-is_free.true) c.truncate.ensures.items (rw (← c.min.ensures) c.put_run.ensures.items)

pub returns-else-is_free-clause-items : goal.returns-else-is_free-clause-items
returns-else-is_free-clause-items c =
    let n : c.len-count.result ≡ length c.args.pieces.now.items = omega arith in
    let here : c.index.result.now ≡ get_or c.args.pieces.now.items (length c.args.pieces.now.items - 1) c.index.result.now = rw (← n) c.index.ensures in
    sym (cut_kept c.args.pieces.now.items c.index.result.now c.args.len c.args.size c.requires.ends (omega arith) (ap is_free (sym here) ∙ (sym c.is_free.ensures ∙ c.if-is_free.false)))
