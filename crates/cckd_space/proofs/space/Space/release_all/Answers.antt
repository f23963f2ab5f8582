use Rattle.std.proofs.Common.{◌≡◌, List, length, map, false, refl, sym, ap, subst, arith}
use Rattle.cckd_space.specs.declared.piece.Piece.{Piece}
use Rattle.cckd_space.specs.Pieces.{IsLaid, counted, is_pending, merged, released}
use Rattle.cckd_space.specs.Plan.{Plan}
use Rattle.cckd_space.specs.Inside.{IsMarked}
use Rattle.cckd_space.proofs.LaidLemmas.{laid_released, laid_row, row_size}
use Rattle.cckd_space.proofs.MarkLemmas.{marked_released, none_marked, released_none}
use Rattle.cckd_space.proofs.MergeLemmas.{laid_are_merged}
use Rattle.std.proofs.lemmas.List.{length-map}
use Rattle.cckd_space.proofs.MergeLemmas.{merged_fewer}
use Rattle.cckd_space.proofs.HeldLemmas.{becomes}
use Rattle.cckd_space.proofs.space.Space.release_all.Goals as goal

pub release-self-inside-requires-clause-apart : goal.release-self-inside-requires-clause-apart
release-self-inside-requires-clause-apart c = laid_are_merged 0 c.self.inside.pieces.pieces c.self.inside.size c.self.invariant.laid

pub release-self-inside-requires-clause-sizes : goal.release-self-inside-requires-clause-sizes
release-self-inside-requires-clause-sizes c =
    let s = row_size 0 c.self.inside.pieces.pieces c.self.inside.size (laid_row 0 c.self.inside.pieces.pieces c.self.inside.size c.self.invariant.laid) in
    omega (arith, s)

pub invariant_of-self : goal.invariant_of-self
invariant_of-self c =
    let old = c.self.inside.pieces.pieces in
    let size = c.self.inside.size in
    let new = c.release-self-inside.new.self.pieces in
    let now = c.release-self-inside.ensures.holds.now in
    record {
      laid = subst (λ (l : List Piece). IsLaid 0 l size) (sym now) (laid_released old size c.self.invariant.laid);
      offers = c.release-self-inside.ensures.offers;
      marked = subst (λ (l : List Piece). IsMarked l c.self.inside.leaving false) (sym now) (marked_released old c.self.inside.leaving c.self.inside.pending c.self.invariant.marked);
      few = (let n = length-map old released in let m = merged_fewer (map released old) in omega (arith, n, m, c.release-self-inside.ensures.holds.spare, c.self.invariant.few));
    }

pub returns-clause-becomes : goal.returns-clause-becomes
returns-clause-becomes c =
    becomes (λ (l : List Piece). merged (map released l)) c.self.inside.pieces c.release-self-inside.new.self c.args.self.now c.self.inside.size c.self.inside.limit (c.self.inside.size) (c.args.self.now.size) c.self.view_is c.release-self-inside.ensures.holds (ap (λ (p : Plan). p.size) c.self.view_is)

pub returns-clause-sound : goal.returns-clause-sound
returns-clause-sound c =
    let old = c.self.inside.pieces.pieces in
    let size = c.self.inside.size in
    let now = c.release-self-inside.ensures.holds.now in
    record { laid = subst (λ (l : List Piece). IsLaid 0 l size) (sym now) (laid_released old size c.self.invariant.laid) }

pub returns-then-not-self-clause-becomes : goal.returns-then-not-self-clause-becomes
returns-then-not-self-clause-becomes c =
    let old = c.self.inside.pieces.pieces in
    let none = released_none old (laid_are_merged 0 old c.self.inside.size c.self.invariant.laid) (none_marked (counted is_pending old) c.self.inside.pending c.self.invariant.marked.some_pending c.if-not-self.true) in
    let same = subst (λ (l : List Piece). merged (map released l) ≡ l) (ap (λ (plan : Plan). plan.pieces) c.self.view_is) none in
    record { made = sym same; sized = refl; limit = refl; spare = omega (arith, ap length same) }

pub returns-clause-spent : goal.returns-clause-spent
returns-clause-spent c =
    let old = c.self.inside.pieces.pieces in
    let n = length-map old released in
    let m = merged_fewer (map released old) in
    omega (arith, n, m, c.release-self-inside.ensures.holds.spare, ap (λ (p : Plan). p.spare) c.self.view_is)
