use Rattle.std.proofs.Common.{◌≤◌, ◌∷◌, [], List, length, ◌∙◌, ap, arith}
use Rattle.std.specs.Vec.{vec_len, vec_capacity}
use Rattle.cckd_space.specs.declared.piece.Piece.{Piece}
use Rattle.cckd_space.specs.Pieces.{freed, is_reserved_at, merged, replaced}
use Rattle.cckd_space.specs.Blocks.{Held, whole}
use Rattle.cckd_space.proofs.HeldLemmas.{held, held_filled, still_held}
use Rattle.cckd_space.proofs.MergeLemmas.{merged_fewer}
use Rattle.cckd_space.proofs.OrderLemmas.{swapped_len}
use Rattle.cckd_space.proofs.blocks.Blocks.give_back.Goals as goal

pub give_back_in-requires-clause-filled : goal.give_back_in-requires-clause-filled
give_back_in-requires-clause-filled c =
    let old = c.self.inside in
    let bs = old.blocks.items in
    held_filled bs old.slots old.full (vec_len old.blocks) (vec_len old.store) (vec_capacity old.blocks) (vec_capacity old.store) c.self.invariant

pub invariant_of-self : goal.invariant_of-self
invariant_of-self c =
    let old = c.self.inside in
    let bs = old.blocks.items in
    let now = c.give_back_in.new.blocks.items in
    let long : length (whole now) ≤ length (whole bs) = (let a = ap length c.give_back_in.ensures.items in let b = merged_fewer (replaced (is_reserved_at c.args.pos) (λ p. freed p ∷ []) (whole bs)) in let d = swapped_len (is_reserved_at c.args.pos) freed (whole bs) in omega (arith, a, b, d)) in
    still_held bs now old.slots old.full (vec_len old.blocks) (vec_len old.store) (vec_capacity old.blocks) (vec_capacity old.store) (vec_len c.give_back_in.new.blocks) (vec_len c.give_back_in.new.store) (vec_capacity c.give_back_in.new.blocks) (vec_capacity c.give_back_in.new.store) c.self.invariant
    (c.give_back_in.ensures.fit old.full c.self.invariant.fit) (omega (arith, long, c.self.invariant.fewer)) (c.give_back_in.ensures.total) (c.give_back_in.ensures.room)

pub returns-clause-holds : goal.returns-clause-holds
returns-clause-holds c =
    let old = c.self.inside in
    let bs = old.blocks.items in
    let now = c.give_back_in.new.blocks.items in
    let long : length (whole now) ≤ length (whole bs) = (let a = ap length c.give_back_in.ensures.items in let b = merged_fewer (replaced (is_reserved_at c.args.pos) (λ p. freed p ∷ []) (whole bs)) in let d = swapped_len (is_reserved_at c.args.pos) freed (whole bs) in omega (arith, a, b, d)) in
    held c.args.self.now (whole bs) (whole now) ((λ (l : List Piece). merged (replaced (is_reserved_at c.args.pos) (λ p. freed p ∷ []) l)) c.args.self.now.pieces) old.slots c.self.view_is (c.give_back_in.ensures.items ∙ ap (λ (h : Held). (λ (l : List Piece). merged (replaced (is_reserved_at c.args.pos) (λ p. freed p ∷ []) l)) h.pieces) c.self.view_is) c.self.invariant.fewer (omega (arith, long, c.self.invariant.fewer))
