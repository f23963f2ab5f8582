use Rattle.std.proofs.Common.{sym, ap, arith}
use Rattle.std.specs.Option.{option_map}
use Rattle.cckd_space.specs.declared.piece.Piece.{Piece}
use Rattle.cckd_space.specs.Pieces.{aligned_up, has_room_below, largest}
use Rattle.cckd_space.specs.Plan.{Plan}
use Rattle.cckd_space.proofs.LaidLemmas.{below_room}
use Rattle.cckd_space.proofs.NumberLemmas.{small_nowhere}
use Rattle.cckd_space.proofs.OrderLemmas.{laid_in_order}
use Rattle.cckd_space.proofs.space.Space.fits_below.Goals as goal

pub returns-then-self-need : goal.returns-then-self-need
returns-then-self-need c =
    let same = ap (λ (plan : Plan). largest plan.pieces) c.self.view_is in
    let none = small_nowhere (has_room_below c.args.need c.args.before) c.args.need (below_room c.args.need c.args.before) c.args.self.now.pieces (omega (arith, same, c.self.invariant.offers, c.if-self-need.true)) in
    sym (ap (option_map (λ (p : Piece). aligned_up p.pos)) none)

pub fits_below-requires : goal.fits_below-requires
fits_below-requires c = record { order = laid_in_order 0 c.self.inside.pieces.pieces c.self.inside.size c.self.invariant.laid }
