use Rattle.std.proofs.Common.{◌+◌, ◌*◌, ◌≤◌, List, length, sym, ap, subst, arith}
use Rattle.std.specs.Vec.{vec_len}
use Rattle.cckd_space.specs.declared.piece.Piece.{Piece}
use Rattle.cckd_space.specs.Blocks.{AreFit, Held, whole}
use Rattle.std.proofs.Math.Nat.{mul-le-mul_left}
use Rattle.cckd_space.proofs.blocks.Blocks.grow.Goals as goal

pub invariant_of-self-2 : goal.invariant_of-self-2
invariant_of-self-2 c =
    let old = c.self.inside in
    let new = c.add_blocks.new in
    let count = ap (λ (l : List (List Piece)). length (whole l)) c.as_slice.ensures.value in
    let long = ap (λ (l : List (List Piece)). length (whole l)) c.add_blocks.ensures.items in
    let product : (old.full + 1) * c.blocks_for-wanted.result ≤ (old.full + 1) * (vec_len new.blocks + vec_len new.store) = mul-le-mul_left (old.full + 1) c.in_ok-add_blocks.ensures.enough in
    record {
      least = c.self.invariant.least;
      most = c.self.invariant.most;
      fit = subst (AreFit old.full) (sym c.add_blocks.ensures.items) c.self.invariant.fit;
      fewer = omega (arith, count, long, c.count_in.ensures);
      enough = omega (arith, product, c.blocks_for-wanted.ensures.enough);
      room = c.add_blocks.ensures.room;
      small = omega (arith, count, c.count_in.ensures, c.requires.few, ap (λ (h : Held). length h.pieces) c.self.view_is);
    }
