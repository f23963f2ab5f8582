use Rattle.std.proofs.Common.{◌≡◌, Bool, List, length, map, true, false, refl, sym, ap, subst, arith}
use Rattle.cckd_space.specs.declared.piece.Piece.{Piece}
use Rattle.cckd_space.specs.Pieces.{IsLaid, counted, is_leaving, largest, retired}
use Rattle.cckd_space.specs.Plan.{Plan}
use Rattle.cckd_space.specs.Inside.{IsMarked}
use Rattle.cckd_space.proofs.LaidLemmas.{laid_retired}
use Rattle.cckd_space.proofs.MarkLemmas.{marked_retired, none_marked, retired_none}
use Rattle.cckd_space.proofs.KeptLemmas.{largest_retired}
use Rattle.std.proofs.lemmas.List.{length-map}
use Rattle.cckd_space.proofs.HeldLemmas.{becomes}
use Rattle.cckd_space.proofs.space.Space.retire_all.Goals as goal

pub invariant_of-self : goal.invariant_of-self
invariant_of-self c =
    let old = c.self.inside.pieces.pieces in
    let size = c.self.inside.size in
    let new = c.retire.new.self.pieces in
    let now = c.retire.ensures.now in
    record {
      laid = subst (λ (l : List Piece). IsLaid 0 l size) (sym now) (laid_retired old size c.self.invariant.laid);
      offers = (let less = largest_retired old in omega (arith, less, ap largest now, c.self.invariant.offers));
      marked = subst (λ (l : List Piece). IsMarked l false true) (sym now) (marked_retired old c.self.inside.pending (subst (λ (b : Bool). IsMarked old b c.self.inside.pending) c.if-not-self.false c.self.invariant.marked));
      few = (let n = length-map old retired in omega (arith, n, c.retire.ensures.spare, c.self.invariant.few));
    }

pub returns-clause-becomes : goal.returns-clause-becomes
returns-clause-becomes c =
    becomes (map retired) c.self.inside.pieces c.retire.new.self c.args.self.now c.self.inside.size c.self.inside.limit (c.self.inside.size) (c.args.self.now.size) c.self.view_is c.retire.ensures (ap (λ (p : Plan). p.size) c.self.view_is)

pub returns-clause-sound : goal.returns-clause-sound
returns-clause-sound c =
    let old = c.self.inside.pieces.pieces in
    let size = c.self.inside.size in
    let now = c.retire.ensures.now in
    record { laid = subst (λ (l : List Piece). IsLaid 0 l size) (sym now) (laid_retired old size c.self.invariant.laid) }

pub returns-then-not-self-clause-becomes : goal.returns-then-not-self-clause-becomes
returns-then-not-self-clause-becomes c =
    let old = c.self.inside.pieces.pieces in
    let none = retired_none old (none_marked (counted is_leaving old) c.self.inside.leaving c.self.invariant.marked.some_leaving c.if-not-self.true) in
    let same = subst (λ (l : List Piece). map retired l ≡ l) (ap (λ (plan : Plan). plan.pieces) c.self.view_is) none in
    record { made = sym same; sized = refl; limit = refl; spare = omega (arith, ap length same) }

pub returns-clause-spent : goal.returns-clause-spent
returns-clause-spent c =
    let old = c.self.inside.pieces.pieces in
    let n = length-map old retired in
    omega (arith, n, c.retire.ensures.spare, ap (λ (p : Plan). p.spare) c.self.view_is)
