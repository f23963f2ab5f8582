use Rattle.std.proofs.Common.{◌≤◌, List, sym, subst, arith}
use Rattle.cckd_space.specs.declared.piece.Piece.{Piece}
use Rattle.cckd_space.specs.Pieces.{IsLaid, largest}
use Rattle.cckd_space.specs.Inside.{IsMarked}
use Rattle.cckd_space.proofs.LaidLemmas.{laid_long}
use Rattle.cckd_space.proofs.space.Space.grow.Goals as goal

pub grow-requires : goal.grow-requires
grow-requires c = let n = laid_long 0 c.self.inside.pieces.pieces c.self.inside.size c.self.invariant.laid in omega (arith, n)

pub invariant_of-self : goal.invariant_of-self
invariant_of-self c =
    let now = sym c.grow.ensures.same in
    record {
      laid = subst (λ (l : List Piece). IsLaid 0 l c.self.inside.size) now c.self.invariant.laid;
      offers = subst (λ (l : List Piece). largest l ≤ c.self.inside.most) now c.self.invariant.offers;
      marked = subst (λ (l : List Piece). IsMarked l c.self.inside.leaving c.self.inside.pending) now c.self.invariant.marked;
      few = omega (arith, c.grow.ensures.kept, c.self.invariant.few);
    }

pub returns-clause-sound : goal.returns-clause-sound
returns-clause-sound c = record { laid = subst (λ (l : List Piece). IsLaid 0 l c.self.inside.size) (sym c.grow.ensures.same) c.self.invariant.laid }
