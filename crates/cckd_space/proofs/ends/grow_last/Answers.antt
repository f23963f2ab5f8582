use Rattle.std.proofs.Common.{◌≡◌, ℕ, ◌-◌, length, get_or, ap, subst, arith}
use Rattle.cckd_space.specs.declared.piece.Piece.{Piece}
use Rattle.cckd_space.proofs.BlockLemmas.{size_in, grown_is, some_end}
use Rattle.cckd_space.proofs.ends.grow_last.Goals as goal

pub overflow_add-piece : goal.overflow_add-piece
overflow_add-piece c =
    let xs = c.args.pieces.now.items in
    let some = some_end xs c.requires.free in
    let s = size_in xs (length xs - 1) c.index-piece.result.now (omega (arith, some)) in
    let n : c.len-last.result - 1 ≡ length xs - 1 = omega (arith, c.len-last.ensures) in
    let r : c.index-piece.result.now ≡ get_or xs (length xs - 1) c.index-piece.result.now = subst (λ (k : ℕ). c.index-piece.result.now ≡ get_or xs k c.index-piece.result.now) n c.index-piece.ensures in
    let t = ap (λ (p : Piece). p.size) r in
    omega (arith, s, t, c.requires.sizes)

pub returns-clause-items : goal.returns-clause-items
returns-clause-items c =
    let xs = c.args.pieces.now.items in
    let some = some_end xs c.requires.free in
    grown_is xs (c.len-last.result - 1) c.args.more c.index-piece.result.now c.free.result (omega (arith, some, c.len-last.ensures)) c.index-piece.ensures c.free.ensures
