use Rattle.std.proofs.Common.{◌≡◌, ◌+◌, ◌≤◌, None, List, length, sym, ◌∙◌, ap, subst, arith}
use Rattle.std.specs.Option.{option_map}
use Rattle.std.specs.Vec.{vec_len, vec_capacity}
use Rattle.cckd_space.specs.declared.piece.Piece.{Piece}
use Rattle.cckd_space.specs.Pieces.{aligned_up, first, has_room_below, replaced, reserved_in}
use Rattle.cckd_space.specs.Blocks.{AreFilled, AreInOrder, Held, whole}
use Rattle.cckd_space.proofs.FitLemmas.{fit_filled}
use Rattle.cckd_space.proofs.HeldLemmas.{held, ready, still_held}
use Rattle.cckd_space.proofs.FirstLemmas.{replaced_none}
use Rattle.cckd_space.proofs.FitLemmas.{replaced_few}
use Rattle.cckd_space.proofs.blocks.Blocks.reserve_below.Goals as goal

pub block_below-requires-clause-filled : goal.block_below-requires-clause-filled
block_below-requires-clause-filled c = subst AreFilled (sym c.as_slice.ensures.value) (fit_filled c.self.inside.full c.make_ready.new.blocks.items c.make_ready.ensures.fit)

pub block_below-requires-clause-order : goal.block_below-requires-clause-order
block_below-requires-clause-order c =
    subst (λ (l : List (List Piece)). AreInOrder (whole l)) (sym c.as_slice.ensures.value)
    (subst AreInOrder (sym c.make_ready.ensures.same) (subst (λ (h : Held). AreInOrder h.pieces) (sym c.self.view_is) c.requires.order))

pub make_ready-requires-clause-enough : goal.make_ready-requires-clause-enough
make_ready-requires-clause-enough c =
    let old = c.self.inside in
    ready old.blocks.items old.slots old.full (vec_len old.blocks) (vec_len old.store) (vec_capacity old.blocks) (vec_capacity old.store) c.self.invariant

pub returns-in_default-clause-place : goal.returns-in_default-clause-place
returns-in_default-clause-place c =
    let test = has_room_below c.args.need c.args.before in
    let none : first test c.args.self.now.pieces ≡ None = ap (λ (h : Held). first test h.pieces) (sym c.self.view_is) ∙ (ap (first test) (sym c.make_ready.ensures.same) ∙ (ap (λ (l : List (List Piece)). first test (whole l)) (sym c.as_slice.ensures.value) ∙ c.in_default.ensures.none)) in
    sym (ap (option_map (λ (p : Piece). aligned_up p.pos)) none)

pub returns-in_default-clause-holds : goal.returns-in_default-clause-holds
returns-in_default-clause-holds c =
    let old = c.self.inside in
    let bs = old.blocks.items in
    let test = has_room_below c.args.need c.args.before in
    let now = c.make_ready.new.blocks.items in
    let none : first test (whole bs) ≡ None = ap (first test) (sym c.make_ready.ensures.same) ∙ (ap (λ (l : List (List Piece)). first test (whole l)) (sym c.as_slice.ensures.value) ∙ c.in_default.ensures.none) in
    let stays = replaced_none test (reserved_in c.args.need) (whole bs) none in
    held c.args.self.now (whole bs) (whole now) (replaced (has_room_below c.args.need c.args.before) (reserved_in c.args.need) c.args.self.now.pieces) old.slots c.self.view_is
    (c.make_ready.ensures.same ∙ (sym stays ∙ ap (λ (h : Held). replaced (has_room_below c.args.need c.args.before) (reserved_in c.args.need) h.pieces) c.self.view_is)) c.self.invariant.fewer (omega (arith, ap length c.make_ready.ensures.same, c.self.invariant.fewer))

pub invariant_of-self : goal.invariant_of-self
invariant_of-self c =
    let old = c.self.inside in
    let bs = old.blocks.items in
    let now = c.make_ready.new in
    still_held bs now.blocks.items old.slots old.full (vec_len old.blocks) (vec_len old.store) (vec_capacity old.blocks) (vec_capacity old.store) (vec_len now.blocks) (vec_len now.store) (vec_capacity now.blocks) (vec_capacity now.store) c.self.invariant
    c.make_ready.ensures.fit (omega (arith, ap length c.make_ready.ensures.same, c.self.invariant.fewer)) c.make_ready.ensures.total c.make_ready.ensures.room

pub invariant_of-self-2 : goal.invariant_of-self-2
invariant_of-self-2 c =
    let old = c.self.inside in
    let bs = old.blocks.items in
    let now = c.reserve_below_in.new.blocks.items in
    let grown : length (whole now) ≤ length (whole bs) + 2 = (let a = ap length (c.reserve_below_in.ensures.items ∙ ap (replaced (has_room_below c.args.need c.args.before) (reserved_in c.args.need)) c.make_ready.ensures.same) in let b = replaced_few (has_room_below c.args.need c.args.before) c.args.need (whole bs) in omega (arith, a, b)) in
    let p = ap (λ (h : Held). h.spare) c.self.view_is in
    let long : length (whole now) ≤ old.slots = omega (arith, grown, p, c.requires.spare, c.self.invariant.fewer) in
    still_held bs now old.slots old.full (vec_len old.blocks) (vec_len old.store) (vec_capacity old.blocks) (vec_capacity old.store) (vec_len c.reserve_below_in.new.blocks) (vec_len c.reserve_below_in.new.store) (vec_capacity c.reserve_below_in.new.blocks) (vec_capacity c.reserve_below_in.new.store) c.self.invariant
    (c.reserve_below_in.ensures.fit) long (c.reserve_below_in.ensures.total ∙ c.make_ready.ensures.total) (c.reserve_below_in.ensures.room)

pub returns-clause-holds : goal.returns-clause-holds
returns-clause-holds c =
    let old = c.self.inside in
    let bs = old.blocks.items in
    let now = c.reserve_below_in.new.blocks.items in
    let grown : length (whole now) ≤ length (whole bs) + 2 = (let a = ap length (c.reserve_below_in.ensures.items ∙ ap (replaced (has_room_below c.args.need c.args.before) (reserved_in c.args.need)) c.make_ready.ensures.same) in let b = replaced_few (has_room_below c.args.need c.args.before) c.args.need (whole bs) in omega (arith, a, b)) in
    let p = ap (λ (h : Held). h.spare) c.self.view_is in
    let long : length (whole now) ≤ old.slots = omega (arith, grown, p, c.requires.spare, c.self.invariant.fewer) in
    held c.args.self.now (whole bs) (whole now) (replaced (has_room_below c.args.need c.args.before) (reserved_in c.args.need) c.args.self.now.pieces) old.slots c.self.view_is ((c.reserve_below_in.ensures.items ∙ ap (replaced (has_room_below c.args.need c.args.before) (reserved_in c.args.need)) c.make_ready.ensures.same) ∙ ap (λ (h : Held). replaced (has_room_below c.args.need c.args.before) (reserved_in c.args.need) h.pieces) c.self.view_is) c.self.invariant.fewer long

pub returns-clause-place : goal.returns-clause-place
returns-clause-place c =
    let test = has_room_below c.args.need c.args.before in
    let at = λ (l : List Piece). option_map (λ (p : Piece). aligned_up p.pos) (first test l) in
    c.reserve_below_in.ensures.place ∙ (ap at c.make_ready.ensures.same ∙ ap (λ (h : Held). at h.pieces) c.self.view_is)
