use Rattle.std.proofs.Common.{sym, ◌∙◌, ap}
use Rattle.std.specs.Option.{option_map}
use Rattle.cckd_space.specs.declared.piece.Piece.{Piece}
use Rattle.cckd_space.specs.Pieces.{first, is_roomy_from}
use Rattle.cckd_space.specs.Plan.{Plan}
use Rattle.cckd_space.proofs.OrderLemmas.{laid_in_order}
use Rattle.cckd_space.proofs.space.Space.next_free.Goals as goal

pub roomy_from-requires : goal.roomy_from-requires
roomy_from-requires c = laid_in_order 0 c.self.inside.pieces.pieces c.self.inside.size c.self.invariant.laid

pub returns-in_default : goal.returns-in_default
returns-in_default c =
    let e = ap (λ (plan : Plan). first (is_roomy_from c.args.from) plan.pieces) (sym c.self.view_is) ∙ (sym c.roomy_from.ensures ∙ c.in_default.is) in
    sym (ap (option_map (λ (p : Piece). (p.pos, p.size))) e)

pub returns : goal.returns
returns c =
    let e = ap (λ (plan : Plan). first (is_roomy_from c.args.from) plan.pieces) (sym c.self.view_is) ∙ (sym c.roomy_from.ensures ∙ c.in-Some.is) in
    sym (ap (option_map (λ (p : Piece). (p.pos, p.size))) e)
