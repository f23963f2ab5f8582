use Rattle.std.proofs.Common.{◌≡◌, ◌≤◌, ◌+◌, ◌^◌, ℕ, List, None, IfSome, min, length, refl, sym, ap, subst, arith}
use Rattle.std.specs.Option.{option_map}
use Rattle.cckd_space.specs.declared.piece.Piece.{Piece}
use Rattle.cckd_space.specs.Pieces.{IsLaid, aligned_up, first, has_room_below, largest, replaced, reserved_in}
use Rattle.cckd_space.specs.Plan.{Plan, IsClear}
use Rattle.cckd_space.specs.Inside.{IsMarked}
use Rattle.cckd_space.proofs.LaidLemmas.{below_room, laid_below, laid_reserved_in}
use Rattle.cckd_space.proofs.MarkLemmas.{marked_filled}
use Rattle.cckd_space.proofs.KeptLemmas.{largest_reserved}
use Rattle.cckd_space.proofs.NumberLemmas.{small_nowhere}
use Rattle.cckd_space.proofs.OrderLemmas.{laid_in_order}
use Rattle.cckd_space.proofs.FirstLemmas.{replaced_none}
use Rattle.cckd_space.proofs.CallerLemmas.{filled_if}
use Rattle.cckd_space.proofs.PlaceLemmas.{below_clear, below_within}
use Rattle.cckd_space.proofs.FitLemmas.{replaced_few}
use Rattle.cckd_space.proofs.HeldLemmas.{becomes}
use Rattle.cckd_space.proofs.space.Space.place_below.Goals as goal

pub reserve_below-requires-clause-order : goal.reserve_below-requires-clause-order
reserve_below-requires-clause-order c = laid_in_order 0 c.self.inside.pieces.pieces c.self.inside.size c.self.invariant.laid

pub reserve_below-requires-clause-ends : goal.reserve_below-requires-clause-ends
reserve_below-requires-clause-ends c = laid_below c.self.inside.pieces.pieces c.self.inside.size (2 ^ 32) c.self.invariant.laid (omega arith)

nowhere : (c : goal.Then-self-need) → first (has_room_below c.args.need c.args.before) c.args.self.now.pieces ≡ None
nowhere c =
    let same = ap (λ (plan : Plan). largest plan.pieces) c.self.view_is in
    small_nowhere (has_room_below c.args.need c.args.before) c.args.need (below_room c.args.need c.args.before) c.args.self.now.pieces (omega (arith, same, c.self.invariant.offers, c.if-self-need.true))

pub returns-then-self-need-clause-placed : goal.returns-then-self-need-clause-placed
returns-then-self-need-clause-placed c = sym (ap (option_map (λ (p : Piece). aligned_up p.pos)) (nowhere c))

pub returns-then-self-need-clause-reserved : goal.returns-then-self-need-clause-reserved
returns-then-self-need-clause-reserved c =
    let same = sym (replaced_none (has_room_below c.args.need c.args.before) (reserved_in c.args.need) c.args.self.now.pieces (nowhere c)) in
    record { made = same; sized = refl; limit = refl; spare = omega (arith, ap length same) }

pub invariant_of-self : goal.invariant_of-self
invariant_of-self c =
    let old = c.self.inside.pieces.pieces in
    let size = c.self.inside.size in
    let test = has_room_below c.args.need c.args.before in
    let new = c.reserve_below.new.self.pieces in
    let now = c.reserve_below.ensures.holds.now in
    record {
      laid = subst (λ (l : List Piece). IsLaid 0 l size) (sym now) (laid_reserved_in test c.args.need (omega (arith, c.requires.need.some)) (λ p e. below_room c.args.need c.args.before p e) old size c.self.invariant.laid);
      offers = (let less = largest_reserved test c.args.need (λ p e. below_room c.args.need c.args.before p e) old in omega (arith, less, ap largest now, c.self.invariant.offers));
      marked = subst (λ (l : List Piece). IsMarked l c.self.inside.leaving c.self.inside.pending) (sym now) (marked_filled test c.args.need (λ p e. below_room c.args.need c.args.before p e) old c.self.inside.leaving c.self.inside.pending c.self.invariant.marked);
      few = (let n = replaced_few test c.args.need old in omega (arith, n, c.reserve_below.ensures.holds.spare, c.saturating_sub-self-inside.ensures, c.self.invariant.few));
    }

pub returns-clause-reserved : goal.returns-clause-reserved
returns-clause-reserved c =
    becomes (replaced (has_room_below c.args.need c.args.before) (reserved_in c.args.need)) c.self.inside.pieces c.reserve_below.new.self c.args.self.now c.self.inside.size c.self.inside.limit (c.self.inside.size) (c.args.self.now.size) c.self.view_is c.reserve_below.ensures.holds (ap (λ (p : Plan). p.size) c.self.view_is)

pub returns-clause-sound : goal.returns-clause-sound
returns-clause-sound c =
    let old = c.self.inside.pieces.pieces in
    let size = c.self.inside.size in
    let test = has_room_below c.args.need c.args.before in
    let now = c.reserve_below.ensures.holds.now in
    record { laid = subst (λ (l : List Piece). IsLaid 0 l size) (sym now) (laid_reserved_in test c.args.need (omega (arith, c.requires.need.some)) (λ p e. below_room c.args.need c.args.before p e) old size c.self.invariant.laid) }

pub returns-clause-there : goal.returns-clause-there
returns-clause-there c =
    filled_if (has_room_below c.args.need c.args.before) c.args.need (omega (arith, c.requires.need.some)) (λ p e. below_room c.args.need c.args.before p e) c.self.inside.pieces.pieces c.reserve_below.new.self.pieces c.self.inside.size c.reserve_below.result
    c.self.invariant.laid c.reserve_below.ensures.place c.reserve_below.ensures.holds.now

pub returns-clause-clear : goal.returns-clause-clear
returns-clause-clear c =
    let same = ap (λ (plan : Plan). plan.pieces) c.self.view_is in
    subst (λ (l : List Piece). IfSome c.reserve_below.result (λ pos. IsClear l pos c.args.need)) same
    (below_clear c.args.need c.args.before c.self.inside.pieces.pieces c.self.inside.size c.reserve_below.result c.self.invariant.laid c.reserve_below.ensures.place)

pub returns-clause-within : goal.returns-clause-within
returns-clause-within c =
    let same = ap (λ (plan : Plan). plan.size) c.self.view_is in
    subst (λ (n : ℕ). IfSome c.reserve_below.result (λ pos. pos + c.args.need ≤ min c.args.before n)) same
    (below_within c.args.need c.args.before c.self.inside.pieces.pieces c.self.inside.size c.reserve_below.result c.self.invariant.laid c.reserve_below.ensures.place)

pub returns-clause-spent : goal.returns-clause-spent
returns-clause-spent c =
    let old = c.self.inside.pieces.pieces in
    let n = replaced_few (has_room_below c.args.need c.args.before) c.args.need old in
    omega (arith, n, c.reserve_below.ensures.holds.spare, ap (λ (p : Plan). p.spare) c.self.view_is)
