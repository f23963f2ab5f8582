use Rattle.std.proofs.Common.{◌∷◌, [], List, refl, sym, ap, subst, arith}
use Rattle.cckd_space.specs.declared.piece.Piece.{Piece}
use Rattle.cckd_space.specs.Pieces.{IsLaid, freed, is_reserved_at, merged, replaced}
use Rattle.cckd_space.specs.Plan.{Plan}
use Rattle.cckd_space.specs.Inside.{IsMarked}
use Rattle.cckd_space.proofs.LaidLemmas.{laid_freed, laid_row, row_size}
use Rattle.cckd_space.proofs.MarkLemmas.{marked_merged, marked_swapped}
use Rattle.cckd_space.proofs.MergeLemmas.{laid_are_merged}
use Rattle.cckd_space.proofs.OrderLemmas.{laid_in_order}
use Rattle.cckd_space.proofs.MergeLemmas.{merged_fewer}
use Rattle.cckd_space.proofs.OrderLemmas.{swapped_len}
use Rattle.cckd_space.proofs.HeldLemmas.{becomes}
use Rattle.cckd_space.proofs.space.Space.give_back.Goals as goal

pub give_back-offered-requires-clause-order : goal.give_back-offered-requires-clause-order
give_back-offered-requires-clause-order c = laid_in_order 0 c.self.inside.pieces.pieces c.self.inside.size c.self.invariant.laid

pub give_back-offered-requires-clause-apart : goal.give_back-offered-requires-clause-apart
give_back-offered-requires-clause-apart c = laid_are_merged 0 c.self.inside.pieces.pieces c.self.inside.size c.self.invariant.laid

pub give_back-offered-requires-clause-sizes : goal.give_back-offered-requires-clause-sizes
give_back-offered-requires-clause-sizes c =
    let s = row_size 0 c.self.inside.pieces.pieces c.self.inside.size (laid_row 0 c.self.inside.pieces.pieces c.self.inside.size c.self.invariant.laid) in
    omega (arith, s)

pub invariant_of-self : goal.invariant_of-self
invariant_of-self c =
    let old = c.self.inside.pieces.pieces in
    let size = c.self.inside.size in
    let new = c.give_back-offered.new.self.pieces in
    let now = c.give_back-offered.ensures.holds.now in
    record {
      laid = subst (λ (l : List Piece). IsLaid 0 l size) (sym now) (laid_freed (is_reserved_at c.args.pos) old size c.self.invariant.laid);
      offers = omega (arith, c.give_back-offered.ensures.offers, c.max-self-inside.ensures, c.self.invariant.offers);
      marked = subst (λ (l : List Piece). IsMarked l c.self.inside.leaving c.self.inside.pending) (sym now) (marked_merged (replaced (is_reserved_at c.args.pos) (λ p. freed p ∷ []) old) c.self.inside.leaving c.self.inside.pending (marked_swapped c.args.pos freed (λ p. refl) (λ p. refl) old c.self.inside.leaving c.self.inside.pending c.self.invariant.marked));
      few = (let n = swapped_len (is_reserved_at c.args.pos) freed old in let m = merged_fewer (replaced (is_reserved_at c.args.pos) (λ p. freed p ∷ []) old) in omega (arith, n, m, c.give_back-offered.ensures.holds.spare, c.self.invariant.few));
    }

pub returns-clause-becomes : goal.returns-clause-becomes
returns-clause-becomes c =
    becomes (λ (l : List Piece). merged (replaced (is_reserved_at c.args.pos) (λ p. freed p ∷ []) l)) c.self.inside.pieces c.give_back-offered.new.self c.args.self.now c.self.inside.size c.self.inside.limit (c.self.inside.size) (c.args.self.now.size) c.self.view_is c.give_back-offered.ensures.holds (ap (λ (p : Plan). p.size) c.self.view_is)

pub returns-clause-sound : goal.returns-clause-sound
returns-clause-sound c =
    let old = c.self.inside.pieces.pieces in
    let size = c.self.inside.size in
    let now = c.give_back-offered.ensures.holds.now in
    record { laid = subst (λ (l : List Piece). IsLaid 0 l size) (sym now) (laid_freed (is_reserved_at c.args.pos) old size c.self.invariant.laid) }

pub returns-clause-spent : goal.returns-clause-spent
returns-clause-spent c =
    let old = c.self.inside.pieces.pieces in
    let n = swapped_len (is_reserved_at c.args.pos) freed old in
    let m = merged_fewer (replaced (is_reserved_at c.args.pos) (λ p. freed p ∷ []) old) in
    omega (arith, n, m, c.give_back-offered.ensures.holds.spare, ap (λ (p : Plan). p.spare) c.self.view_is)
