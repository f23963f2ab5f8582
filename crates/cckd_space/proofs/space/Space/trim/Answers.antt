use Rattle.std.proofs.Common.{◌≡◌, ℕ, List, max, min, sym, ◌∙◌, ap, subst, arith}
use Rattle.cckd_space.specs.declared.piece.Piece.{Piece}
use Rattle.cckd_space.specs.Pieces.{IsLaid, cut, largest, trimmed, used_end}
use Rattle.cckd_space.specs.Plan.{Plan}
use Rattle.cckd_space.specs.Inside.{IsMarked}
use Rattle.cckd_space.specs.Blocks.{Holds}
use Rattle.cckd_space.proofs.EndLemmas.{cut_all, cut_fewer}
use Rattle.cckd_space.proofs.LaidLemmas.{laid_cut, laid_ends}
use Rattle.cckd_space.proofs.MarkLemmas.{marked_cut}
use Rattle.cckd_space.proofs.KeptLemmas.{largest_cut}
use Rattle.cckd_space.proofs.HeldLemmas.{becomes}
use Rattle.cckd_space.proofs.space.Space.trim.Goals as goal

pub free_end-end-requires : goal.free_end-end-requires
free_end-end-requires c = laid_ends c.self.inside.pieces.pieces c.self.inside.size c.self.invariant.laid

pub cut_end-requires : goal.cut_end-requires
cut_end-requires c = laid_ends c.self.inside.pieces.pieces c.self.inside.size c.self.invariant.laid

pub invariant_of-self : goal.invariant_of-self
invariant_of-self c =
    let old = c.self.inside.pieces.pieces in
    let size = c.self.inside.size in
    let end : max (used_end old) (min 0 size) ≡ c.free_end-end.result = omega (arith, c.free_end-end.ensures) in
    let new = c.cut_end.new.self.pieces in
    let now = c.cut_end.ensures.now in
    record {
      laid = subst (λ (l : List Piece). IsLaid 0 l c.free_end-end.result) (sym now) (subst (λ (n : ℕ). IsLaid 0 (cut 0 size old) n) end (laid_cut 0 old size c.self.invariant.laid));
      offers = (let less = largest_cut 0 old size c.self.invariant.laid in omega (arith, less, ap largest now, c.self.invariant.offers));
      marked = subst (λ (l : List Piece). IsMarked l c.self.inside.leaving c.self.inside.pending) (sym now) (marked_cut 0 size old c.self.inside.leaving c.self.inside.pending c.self.invariant.marked);
      few = (let n = cut_fewer 0 old size (laid_ends old size c.self.invariant.laid) in omega (arith, n, c.cut_end.ensures.spare, c.self.invariant.few));
    }

pub returns-clause-dropped : goal.returns-clause-dropped
returns-clause-dropped c =
    let all = cut_all c.self.inside.size c.self.inside.pieces.pieces in
    becomes trimmed c.self.inside.pieces c.cut_end.new.self c.args.self.now c.self.inside.size c.self.inside.limit c.free_end-end.result (used_end c.args.self.now.pieces) c.self.view_is
    (subst (λ (l : List Piece). Holds c.self.inside.pieces c.cut_end.new.self l) all c.cut_end.ensures)
    (c.free_end-end.ensures ∙ ap (λ (p : Plan). used_end p.pieces) c.self.view_is)

pub returns-clause-sound : goal.returns-clause-sound
returns-clause-sound c =
    let old = c.self.inside.pieces.pieces in
    let size = c.self.inside.size in
    let end : max (used_end old) (min 0 size) ≡ c.free_end-end.result = omega (arith, c.free_end-end.ensures) in
    let now = c.cut_end.ensures.now in
    record { laid = subst (λ (l : List Piece). IsLaid 0 l c.free_end-end.result) (sym now) (subst (λ (n : ℕ). IsLaid 0 (cut 0 size old) n) end (laid_cut 0 old size c.self.invariant.laid)) }

pub returns-clause-spent : goal.returns-clause-spent
returns-clause-spent c =
    let n = cut_fewer 0 c.self.inside.pieces.pieces c.self.inside.size (laid_ends c.self.inside.pieces.pieces c.self.inside.size c.self.invariant.laid) in
    omega (arith, n, c.cut_end.ensures.spare, ap (λ (p : Plan). p.spare) c.self.view_is)
