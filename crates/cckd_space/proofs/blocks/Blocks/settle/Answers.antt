use Rattle.std.proofs.Common.{◌≤◌, ◌∷◌, [], length, ◌∙◌, ap, arith}
use Rattle.std.specs.Vec.{vec_len, vec_capacity}
use Rattle.cckd_space.specs.Pieces.{is_reserved_at, replaced, settled}
use Rattle.cckd_space.specs.Blocks.{Held, whole}
use Rattle.cckd_space.proofs.HeldLemmas.{held, held_filled, still_held}
use Rattle.cckd_space.proofs.OrderLemmas.{swapped_len}
use Rattle.cckd_space.proofs.blocks.Blocks.settle.Goals as goal

pub settle_in-requires-clause-filled : goal.settle_in-requires-clause-filled
settle_in-requires-clause-filled c =
    let old = c.self.inside in
    let bs = old.blocks.items in
    held_filled bs old.slots old.full (vec_len old.blocks) (vec_len old.store) (vec_capacity old.blocks) (vec_capacity old.store) c.self.invariant

pub invariant_of-self : goal.invariant_of-self
invariant_of-self c =
    let old = c.self.inside in
    let bs = old.blocks.items in
    let now = c.settle_in.new.blocks.items in
    let long : length (whole now) ≤ length (whole bs) = (let a = ap length (c.settle_in.ensures.items) in let b = swapped_len (is_reserved_at c.args.pos) (settled c.args.len c.args.owner) (whole bs) in omega (arith, a, b)) in
    still_held bs now old.slots old.full (vec_len old.blocks) (vec_len old.store) (vec_capacity old.blocks) (vec_capacity old.store) (vec_len c.settle_in.new.blocks) (vec_len old.store) (vec_capacity c.settle_in.new.blocks) (vec_capacity old.store) c.self.invariant
    (c.settle_in.ensures.fit old.full c.self.invariant.fit) (omega (arith, long, c.self.invariant.fewer)) (omega (arith, c.settle_in.ensures.len)) (omega (arith, c.settle_in.ensures.len, c.settle_in.ensures.capacity, c.self.invariant.room))

pub returns : goal.returns
returns c =
    let old = c.self.inside in
    let bs = old.blocks.items in
    let now = c.settle_in.new.blocks.items in
    let long : length (whole now) ≤ length (whole bs) = (let a = ap length (c.settle_in.ensures.items) in let b = swapped_len (is_reserved_at c.args.pos) (settled c.args.len c.args.owner) (whole bs) in omega (arith, a, b)) in
    held c.args.self.now (whole bs) (whole now) (replaced (is_reserved_at c.args.pos) (λ p. settled c.args.len c.args.owner p ∷ []) c.args.self.now.pieces) old.slots c.self.view_is (c.settle_in.ensures.items ∙ ap (λ (h : Held). replaced (is_reserved_at c.args.pos) (λ p. settled c.args.len c.args.owner p ∷ []) h.pieces) c.self.view_is) c.self.invariant.fewer (omega (arith, long, c.self.invariant.fewer))
