use Rattle.std.proofs.Common.{◌≡◌, ◌+◌, ℕ, List, Some, sym, ◌∙◌, ap, subst, arith}
use Rattle.cckd_space.specs.declared.piece.Piece.{Piece}
use Rattle.cckd_space.specs.Pieces.{IsLaid, aligned_up, appended, end_place, first, is_reserved_at, largest, reserved_piece}
use Rattle.cckd_space.specs.Plan.{Plan}
use Rattle.cckd_space.specs.Inside.{IsMarked}
use Rattle.cckd_space.proofs.LaidLemmas.{laid_appended, laid_ends}
use Rattle.cckd_space.proofs.MarkLemmas.{marked_appended}
use Rattle.cckd_space.proofs.KeptLemmas.{largest_appended}
use Rattle.cckd_space.proofs.CallerLemmas.{appended_found}
use Rattle.cckd_space.proofs.EndLemmas.{appended_few}
use Rattle.cckd_space.proofs.HeldLemmas.{becomes}
use Rattle.cckd_space.proofs.space.Space.place_at_end.Goals as goal

pub free_end-end-requires : goal.free_end-end-requires
free_end-end-requires c = laid_ends c.self.inside.pieces.pieces c.self.inside.size c.self.invariant.laid

pub reserve_end-requires-clause-ends : goal.reserve_end-requires-clause-ends
reserve_end-requires-clause-ends c = laid_ends c.self.inside.pieces.pieces c.self.inside.size c.self.invariant.laid

pub invariant_of-self : goal.invariant_of-self
invariant_of-self c =
    let old = c.self.inside.pieces.pieces in
    let place : end_place old ≡ c.align-place.result = sym (c.align-place.ensures ∙ ap aligned_up c.free_end-end.ensures) in
    let less = largest_appended c.args.need old in
    let small = ap (λ (plan : Plan). largest plan.pieces) c.self.view_is in
    let now = c.reserve_end.ensures.now in
    record {
      laid = subst (λ (l : List Piece). IsLaid 0 l (c.align-place.result + c.args.need)) (sym now)
          (subst (λ (n : ℕ). IsLaid 0 (appended c.args.need old) (n + c.args.need)) place
          (laid_appended c.args.need old c.self.inside.size c.requires.need c.self.invariant.laid));
      offers = omega (arith, less, ap largest now, small, c.requires.none);
      marked = subst (λ (l : List Piece). IsMarked l c.self.inside.leaving c.self.inside.pending) (sym now) (marked_appended c.args.need old c.self.inside.leaving c.self.inside.pending c.self.invariant.marked);
      few = (let n = appended_few c.args.need old in omega (arith, n, c.reserve_end.ensures.spare, c.saturating_sub-self-inside.ensures, c.self.invariant.few));
    }

pub returns-then-place-need-clause-reserved : goal.returns-then-place-need-clause-reserved
returns-then-place-need-clause-reserved c =
    let end = ap (λ (p : Plan). end_place p.pieces) c.self.view_is in
    let place : end_place c.self.inside.pieces.pieces ≡ c.align-place.result = sym (c.align-place.ensures ∙ ap aligned_up c.free_end-end.ensures) in
    becomes (appended c.args.need) c.self.inside.pieces c.reserve_end.new.self c.args.self.now c.self.inside.size c.self.inside.limit (c.align-place.result + c.args.need) (end_place c.args.self.now.pieces + c.args.need) c.self.view_is c.reserve_end.ensures
    (omega (arith, end, place))

pub returns-then-place-need-clause-there : goal.returns-then-place-need-clause-there
returns-then-place-need-clause-there c =
    let old = c.self.inside.pieces.pieces in
    let place : end_place old ≡ c.align-place.result = sym (c.align-place.ensures ∙ ap aligned_up c.free_end-end.ensures) in
    subst (λ (n : ℕ). first (is_reserved_at n) c.reserve_end.new.self.pieces ≡ Some (reserved_piece n c.args.need)) place
    (subst (λ (l : List Piece). first (is_reserved_at (end_place old)) l ≡ Some (reserved_piece (end_place old) c.args.need)) (sym c.reserve_end.ensures.now)
    (appended_found c.args.need old c.self.inside.size c.requires.need c.self.invariant.laid))

pub returns-then-place-need-clause-sound : goal.returns-then-place-need-clause-sound
returns-then-place-need-clause-sound c =
    let old = c.self.inside.pieces.pieces in
    let place : end_place old ≡ c.align-place.result = sym (c.align-place.ensures ∙ ap aligned_up c.free_end-end.ensures) in
    record {
      laid = subst (λ (l : List Piece). IsLaid 0 l (c.align-place.result + c.args.need)) (sym c.reserve_end.ensures.now)
          (subst (λ (n : ℕ). IsLaid 0 (appended c.args.need old) (n + c.args.need)) place
          (laid_appended c.args.need old c.self.inside.size c.requires.need c.self.invariant.laid));
    }

pub returns-then-place-need-clause-spent : goal.returns-then-place-need-clause-spent
returns-then-place-need-clause-spent c =
    let n = appended_few c.args.need c.self.inside.pieces.pieces in
    omega (arith, n, c.reserve_end.ensures.spare, ap (λ (p : Plan). p.spare) c.self.view_is)
