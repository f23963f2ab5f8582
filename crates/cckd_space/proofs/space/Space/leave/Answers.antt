use Rattle.std.proofs.Common.{◌∷◌, [], List, IsSome, true, refl, sym, ap, subst, arith}
use Rattle.cckd_space.specs.declared.piece.Piece.{Piece}
use Rattle.cckd_space.specs.Pieces.{IsLaid, first, is_used_at, largest, left, replaced}
use Rattle.cckd_space.specs.Plan.{Plan}
use Rattle.cckd_space.specs.Inside.{IsMarked}
use Rattle.cckd_space.proofs.LaidLemmas.{laid_left}
use Rattle.cckd_space.proofs.MarkLemmas.{marked_left}
use Rattle.cckd_space.proofs.KeptLemmas.{largest_swapped}
use Rattle.cckd_space.proofs.OrderLemmas.{laid_in_order}
use Rattle.cckd_space.proofs.OrderLemmas.{swapped_len}
use Rattle.cckd_space.proofs.HeldLemmas.{becomes}
use Rattle.cckd_space.proofs.space.Space.leave.Goals as goal

pub leave-requires-clause-order : goal.leave-requires-clause-order
leave-requires-clause-order c = laid_in_order 0 c.self.inside.pieces.pieces c.self.inside.size c.self.invariant.laid

pub invariant_of-self : goal.invariant_of-self
invariant_of-self c =
    let old = c.self.inside.pieces.pieces in
    let size = c.self.inside.size in
    let test = is_used_at c.args.pos in
    let there : IsSome (first test old) = subst (λ (plan : Plan). IsSome (first test plan.pieces)) (sym c.self.view_is) c.requires.there in
    let new = c.leave.new.self.pieces in
    let now = c.leave.ensures.now in
    record {
      laid = subst (λ (l : List Piece). IsLaid 0 l size) (sym now) (laid_left test old size c.self.invariant.laid);
      offers = (let less = largest_swapped test left (λ p. refl) old in omega (arith, less, ap largest now, c.self.invariant.offers));
      marked = subst (λ (l : List Piece). IsMarked l true c.self.inside.pending) (sym now) (marked_left c.args.pos old c.self.inside.leaving c.self.inside.pending there c.self.invariant.marked);
      few = (let n = swapped_len test left old in omega (arith, n, c.leave.ensures.spare, c.self.invariant.few));
    }

pub returns-clause-becomes : goal.returns-clause-becomes
returns-clause-becomes c =
    becomes (replaced (is_used_at c.args.pos) (λ p. left p ∷ [])) c.self.inside.pieces c.leave.new.self c.args.self.now c.self.inside.size c.self.inside.limit (c.self.inside.size) (c.args.self.now.size) c.self.view_is c.leave.ensures (ap (λ (p : Plan). p.size) c.self.view_is)

pub returns-clause-sound : goal.returns-clause-sound
returns-clause-sound c =
    let old = c.self.inside.pieces.pieces in
    let size = c.self.inside.size in
    let test = is_used_at c.args.pos in
    let there : IsSome (first test old) = subst (λ (plan : Plan). IsSome (first test plan.pieces)) (sym c.self.view_is) c.requires.there in
    let now = c.leave.ensures.now in
    record { laid = subst (λ (l : List Piece). IsLaid 0 l size) (sym now) (laid_left test old size c.self.invariant.laid) }

pub returns-clause-spent : goal.returns-clause-spent
returns-clause-spent c =
    let old = c.self.inside.pieces.pieces in
    let n = swapped_len (is_used_at c.args.pos) left old in
    omega (arith, n, c.leave.ensures.spare, ap (λ (p : Plan). p.spare) c.self.view_is)
