use Rattle.std.proofs.Common.{◌≤◌, length, sym, ◌∙◌, ap, subst, arith}
use Rattle.std.specs.Vec.{vec_len, vec_capacity}
use Rattle.cckd_space.specs.Pieces.{cut}
use Rattle.cckd_space.specs.Inside.{EndsAt}
use Rattle.cckd_space.specs.Blocks.{Held, whole}
use Rattle.cckd_space.proofs.HeldLemmas.{held, held_filled, still_held}
use Rattle.cckd_space.proofs.EndLemmas.{cut_fewer}
use Rattle.cckd_space.proofs.blocks.Blocks.cut_end.Goals as goal

pub cut_last-requires-clause-filled : goal.cut_last-requires-clause-filled
cut_last-requires-clause-filled c =
    let old = c.self.inside in
    let bs = old.blocks.items in
    held_filled bs old.slots old.full (vec_len old.blocks) (vec_len old.store) (vec_capacity old.blocks) (vec_capacity old.store) c.self.invariant

pub invariant_of-self : goal.invariant_of-self
invariant_of-self c =
    let old = c.self.inside in
    let bs = old.blocks.items in
    let now = c.cut_last.new.blocks.items in
    let long : length (whole now) ≤ length (whole bs) = (let a = ap length c.cut_last.ensures.items in let b = cut_fewer c.args.len (whole bs) c.args.size (subst (λ (h : Held). EndsAt h.pieces c.args.size) (sym c.self.view_is) c.requires) in omega (arith, a, b)) in
    still_held bs now old.slots old.full (vec_len old.blocks) (vec_len old.store) (vec_capacity old.blocks) (vec_capacity old.store) (vec_len c.cut_last.new.blocks) (vec_len c.cut_last.new.store) (vec_capacity c.cut_last.new.blocks) (vec_capacity c.cut_last.new.store) c.self.invariant
    (c.cut_last.ensures.fit old.full c.self.invariant.fit) (omega (arith, long, c.self.invariant.fewer)) (c.cut_last.ensures.total) (c.cut_last.ensures.room)

pub returns : goal.returns
returns c =
    let old = c.self.inside in
    let bs = old.blocks.items in
    let now = c.cut_last.new.blocks.items in
    let long : length (whole now) ≤ length (whole bs) = (let a = ap length c.cut_last.ensures.items in let b = cut_fewer c.args.len (whole bs) c.args.size (subst (λ (h : Held). EndsAt h.pieces c.args.size) (sym c.self.view_is) c.requires) in omega (arith, a, b)) in
    held c.args.self.now (whole bs) (whole now) (cut c.args.len c.args.size c.args.self.now.pieces) old.slots c.self.view_is (c.cut_last.ensures.items ∙ ap (λ (h : Held). cut c.args.len c.args.size h.pieces) c.self.view_is) c.self.invariant.fewer (omega (arith, long, c.self.invariant.fewer))
