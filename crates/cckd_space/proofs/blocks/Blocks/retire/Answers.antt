use Rattle.std.proofs.Common.{◌≤◌, length, map, ◌∙◌, ap, arith}
use Rattle.std.specs.Vec.{vec_len, vec_capacity}
use Rattle.cckd_space.specs.Pieces.{retired}
use Rattle.cckd_space.specs.Blocks.{Held, whole}
use Rattle.cckd_space.proofs.HeldLemmas.{held, still_held}
use Rattle.std.proofs.lemmas.List.{length-map}
use Rattle.cckd_space.proofs.blocks.Blocks.retire.Goals as goal

pub invariant_of-self : goal.invariant_of-self
invariant_of-self c =
    let old = c.self.inside in
    let bs = old.blocks.items in
    let now = c.retire_blocks.new.blocks.items in
    let long : length (whole now) ≤ length (whole bs) = (let a = ap length (c.retire_blocks.ensures.items) in let b = length-map (whole bs) retired in omega (arith, a, b)) in
    still_held bs now old.slots old.full (vec_len old.blocks) (vec_len old.store) (vec_capacity old.blocks) (vec_capacity old.store) (vec_len c.retire_blocks.new.blocks) (vec_len old.store) (vec_capacity c.retire_blocks.new.blocks) (vec_capacity old.store) c.self.invariant
    (c.retire_blocks.ensures.fit old.full c.self.invariant.fit) (omega (arith, long, c.self.invariant.fewer)) (omega (arith, c.retire_blocks.ensures.len)) (omega (arith, c.retire_blocks.ensures.len, c.retire_blocks.ensures.capacity, c.self.invariant.room))

pub returns : goal.returns
returns c =
    let old = c.self.inside in
    let bs = old.blocks.items in
    let now = c.retire_blocks.new.blocks.items in
    let long : length (whole now) ≤ length (whole bs) = (let a = ap length (c.retire_blocks.ensures.items) in let b = length-map (whole bs) retired in omega (arith, a, b)) in
    held c.args.self.now (whole bs) (whole now) (map retired c.args.self.now.pieces) old.slots c.self.view_is (c.retire_blocks.ensures.items ∙ ap (λ (h : Held). map retired h.pieces) c.self.view_is) c.self.invariant.fewer (omega (arith, long, c.self.invariant.fewer))
