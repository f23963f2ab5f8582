use Rattle.std.proofs.Common.{◌≡◌, ℕ, List, max, min, sym, ap, subst, arith}
use Rattle.cckd_space.specs.declared.piece.Piece.{Piece}
use Rattle.cckd_space.specs.Pieces.{IsLaid, cut, largest, used_end}
use Rattle.cckd_space.specs.Plan.{Plan, Becomes}
use Rattle.cckd_space.specs.Inside.{IsMarked}
use Rattle.cckd_space.proofs.EndLemmas.{cut_fewer}
use Rattle.cckd_space.proofs.LaidLemmas.{laid_cut, laid_ends}
use Rattle.cckd_space.proofs.MarkLemmas.{marked_cut}
use Rattle.cckd_space.proofs.KeptLemmas.{largest_cut}
use Rattle.cckd_space.proofs.HeldLemmas.{becomes}
use Rattle.cckd_space.proofs.space.Space.cut_back.Goals as goal

pub free_end-end-requires : goal.free_end-end-requires
free_end-end-requires c = laid_ends c.self.inside.pieces.pieces c.self.inside.size c.self.invariant.laid

pub cut_end-requires : goal.cut_end-requires
cut_end-requires c = laid_ends c.self.inside.pieces.pieces c.self.inside.size c.self.invariant.laid

pub invariant_of-self : goal.invariant_of-self
invariant_of-self c =
    let old = c.self.inside.pieces.pieces in
    let size = c.self.inside.size in
    let end : max (used_end old) (min c.args.len size) ≡ c.max-self-inside.result = omega (arith, c.free_end-end.ensures, c.max-self-inside.ensures) in
    let new = c.cut_end.new.self.pieces in
    let now = c.cut_end.ensures.now in
    record {
      laid = subst (λ (l : List Piece). IsLaid 0 l c.max-self-inside.result) (sym now) (subst (λ (n : ℕ). IsLaid 0 (cut c.args.len size old) n) end (laid_cut c.args.len old size c.self.invariant.laid));
      offers = (let less = largest_cut c.args.len old size c.self.invariant.laid in omega (arith, less, ap largest now, c.self.invariant.offers));
      marked = subst (λ (l : List Piece). IsMarked l c.self.inside.leaving c.self.inside.pending) (sym now) (marked_cut c.args.len size old c.self.inside.leaving c.self.inside.pending c.self.invariant.marked);
      few = (let n = cut_fewer c.args.len old size (laid_ends old size c.self.invariant.laid) in omega (arith, n, c.cut_end.ensures.spare, c.self.invariant.few));
    }

pub returns-clause-becomes : goal.returns-clause-becomes
returns-clause-becomes c =
    let len = c.args.len in
    let was = c.args.self.now in
    let new = c.cut_end.new.self in
    let end = ap (λ (p : Plan). used_end p.pieces) c.self.view_is in
    let plan : Plan = record { pieces = new.pieces; size = c.max-self-inside.result; limit = c.self.inside.limit; spare = new.spare } in
    let here = becomes (cut len c.self.inside.size) c.self.inside.pieces new was c.self.inside.size c.self.inside.limit c.max-self-inside.result (max (used_end was.pieces) (min len c.self.inside.size)) c.self.view_is c.cut_end.ensures
    (omega (arith, end, c.free_end-end.ensures, c.max-self-inside.ensures)) in
    subst (λ (n : ℕ). Becomes was plan (cut len n was.pieces) (max (used_end was.pieces) (min len n))) (ap (λ (p : Plan). p.size) c.self.view_is) here

pub returns-clause-sound : goal.returns-clause-sound
returns-clause-sound c =
    let old = c.self.inside.pieces.pieces in
    let size = c.self.inside.size in
    let end : max (used_end old) (min c.args.len size) ≡ c.max-self-inside.result = omega (arith, c.free_end-end.ensures, c.max-self-inside.ensures) in
    let now = c.cut_end.ensures.now in
    record { laid = subst (λ (l : List Piece). IsLaid 0 l c.max-self-inside.result) (sym now) (subst (λ (n : ℕ). IsLaid 0 (cut c.args.len size old) n) end (laid_cut c.args.len old size c.self.invariant.laid)) }

pub returns-clause-spent : goal.returns-clause-spent
returns-clause-spent c =
    let n = cut_fewer c.args.len c.self.inside.pieces.pieces c.self.inside.size (laid_ends c.self.inside.pieces.pieces c.self.inside.size c.self.invariant.laid) in
    omega (arith, n, c.cut_end.ensures.spare, ap (λ (p : Plan). p.spare) c.self.view_is)
