use Rattle.std.proofs.Common.{◌≡◌, ◌^◌, List, None, length, refl, sym, ap, subst, arith}
use Rattle.std.specs.Option.{option_map}
use Rattle.cckd_space.specs.declared.piece.Piece.{Piece}
use Rattle.cckd_space.specs.Pieces.{IsLaid, aligned_up, first, has_room, largest, replaced, reserved_in}
use Rattle.cckd_space.specs.Plan.{Plan}
use Rattle.cckd_space.specs.Inside.{IsMarked}
use Rattle.cckd_space.proofs.LaidLemmas.{laid_below, laid_reserved_in}
use Rattle.cckd_space.proofs.MarkLemmas.{marked_filled}
use Rattle.cckd_space.proofs.KeptLemmas.{largest_reserved}
use Rattle.cckd_space.proofs.NumberLemmas.{small_nowhere}
use Rattle.cckd_space.proofs.FirstLemmas.{replaced_none}
use Rattle.cckd_space.proofs.CallerLemmas.{filled_if}
use Rattle.cckd_space.proofs.FitLemmas.{replaced_few}
use Rattle.cckd_space.proofs.HeldLemmas.{becomes, placed_none}
use Rattle.cckd_space.proofs.space.Space.place_first.Goals as goal

pub reserve-requires-clause-ends : goal.reserve-requires-clause-ends
reserve-requires-clause-ends c = laid_below c.self.inside.pieces.pieces c.self.inside.size (2 ^ 32) c.self.invariant.laid (omega arith)

nowhere : (c : goal.Then-self-need) → first (has_room c.args.need) c.args.self.now.pieces ≡ None
nowhere c =
    let same = ap (λ (plan : Plan). largest plan.pieces) c.self.view_is in
    small_nowhere (has_room c.args.need) c.args.need (λ p e. e) c.args.self.now.pieces (omega (arith, same, c.self.invariant.offers, c.if-self-need.true))

pub returns-then-self-need-clause-placed : goal.returns-then-self-need-clause-placed
returns-then-self-need-clause-placed c = sym (ap (option_map (λ (p : Piece). aligned_up p.pos)) (nowhere c))

pub returns-then-self-need-clause-reserved : goal.returns-then-self-need-clause-reserved
returns-then-self-need-clause-reserved c =
    let same = sym (replaced_none (has_room c.args.need) (reserved_in c.args.need) c.args.self.now.pieces (nowhere c)) in
    record { made = same; sized = refl; limit = refl; spare = omega (arith, ap length same) }

pub invariant_of-self : goal.invariant_of-self
invariant_of-self c =
    let old = c.self.inside.pieces.pieces in
    let size = c.self.inside.size in
    let test = has_room c.args.need in
    let new = c.reserve.new.self.pieces in
    let now = c.reserve.ensures.holds.now in
    record {
      laid = subst (λ (l : List Piece). IsLaid 0 l size) (sym now) (laid_reserved_in test c.args.need (omega (arith, c.requires.need)) (λ p e. e) old size c.self.invariant.laid);
      offers = (let less = largest_reserved test c.args.need (λ p e. e) old in omega (arith, less, ap largest now, c.self.invariant.offers));
      marked = subst (λ (l : List Piece). IsMarked l c.self.inside.leaving c.self.inside.pending) (sym now) (marked_filled test c.args.need (λ p e. e) old c.self.inside.leaving c.self.inside.pending c.self.invariant.marked);
      few = (let n = replaced_few test c.args.need old in omega (arith, n, c.reserve.ensures.holds.spare, c.saturating_sub-self-inside.ensures, c.self.invariant.few));
    }

pub returns-clause-reserved : goal.returns-clause-reserved
returns-clause-reserved c =
    becomes (replaced (has_room c.args.need) (reserved_in c.args.need)) c.self.inside.pieces c.reserve.new.self c.args.self.now c.self.inside.size c.self.inside.limit (c.self.inside.size) (c.args.self.now.size) c.self.view_is c.reserve.ensures.holds (ap (λ (p : Plan). p.size) c.self.view_is)

pub returns-clause-sound : goal.returns-clause-sound
returns-clause-sound c =
    let old = c.self.inside.pieces.pieces in
    let size = c.self.inside.size in
    let test = has_room c.args.need in
    let now = c.reserve.ensures.holds.now in
    record { laid = subst (λ (l : List Piece). IsLaid 0 l size) (sym now) (laid_reserved_in test c.args.need (omega (arith, c.requires.need)) (λ p e. e) old size c.self.invariant.laid) }

pub returns-clause-there : goal.returns-clause-there
returns-clause-there c =
    filled_if (has_room c.args.need) c.args.need (omega (arith, c.requires.need)) (λ p e. e) c.self.inside.pieces.pieces c.reserve.new.self.pieces c.self.inside.size c.reserve.result
    c.self.invariant.laid c.reserve.ensures.place c.reserve.ensures.holds.now

pub returns-clause-spent : goal.returns-clause-spent
returns-clause-spent c =
    let old = c.self.inside.pieces.pieces in
    let n = replaced_few (has_room c.args.need) c.args.need old in
    omega (arith, n, c.reserve.ensures.holds.spare, ap (λ (p : Plan). p.spare) c.self.view_is)

pub returns-clause-none : goal.returns-clause-none
returns-clause-none c =
    placed_none c.reserve.result (has_room c.args.need) c.args.need c.self.inside.pieces c.reserve.new.self c.args.self.now c.self.inside.size c.self.inside.limit c.self.view_is c.reserve.ensures.place c.reserve.ensures.holds
