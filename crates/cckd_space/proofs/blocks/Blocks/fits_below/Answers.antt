use Rattle.std.proofs.Common.{◌≡◌, [], None, List, sym, ◌∙◌, ap, subst}
use Rattle.std.specs.Option.{option_map}
use Rattle.std.specs.Vec.{vec_len, vec_capacity}
use Rattle.cckd_space.specs.declared.piece.Piece.{Piece}
use Rattle.cckd_space.specs.Pieces.{aligned_up, first, has_room_below}
use Rattle.cckd_space.specs.Blocks.{AreFilled, Held, IsFoundIn, whole}
use Rattle.cckd_space.proofs.HeldLemmas.{held_filled}
use Rattle.std.proofs.lemmas.List.{get_or_read}
use Rattle.cckd_space.proofs.BlockLemmas.{first_in}
use Rattle.cckd_space.proofs.blocks.Blocks.fits_below.Goals as goal

pub block_below-requires-clause-filled : goal.block_below-requires-clause-filled
block_below-requires-clause-filled c =
    let old = c.self.inside in
    let bs = old.blocks.items in
    subst AreFilled (sym c.as_slice.ensures.value) (held_filled bs old.slots old.full (vec_len old.blocks) (vec_len old.store) (vec_capacity old.blocks) (vec_capacity old.store) c.self.invariant)

pub returns-in_default : goal.returns-in_default
returns-in_default c =
    let test = has_room_below c.args.need c.args.before in
    let none : first test c.args.self.now.pieces ≡ None = ap (λ (h : Held). first test h.pieces) (sym c.self.view_is) ∙ (ap (λ (l : List (List Piece)). first test (whole l)) (sym c.as_slice.ensures.value) ∙ c.in_default.ensures.none) in
    sym (ap (option_map (λ (p : Piece). aligned_up p.pos)) none)

pub returns : goal.returns
returns c =
    let test = has_room_below c.args.need c.args.before in
    let at = λ (l : List Piece). option_map (λ (p : Piece). aligned_up p.pos) (first test l) in
    let bs = c.self.inside.blocks.items in
    let f = subst (λ (l : List (List Piece)). IsFoundIn test l c.in-Some.at) c.as_slice.ensures.value c.in-Some.ensures.found in
    let here = get_or_read bs c.in-Some.at c.index.result.now f.within c.index.ensures [] in
    c.fits_below.ensures ∙ (ap at here ∙ (ap (option_map (λ (p : Piece). aligned_up p.pos)) (sym (first_in test bs c.in-Some.at f)) ∙ ap (λ (h : Held). at h.pieces) c.self.view_is))
