use Rattle.std.proofs.Common.{◌≡◌, ◌≤◌, ◌∷◌, [], List, Some, IfSome, refl, sym, ap, subst, arith}
use Rattle.cckd_space.specs.declared.piece.Piece.{Piece}
use Rattle.cckd_space.specs.Pieces.{IsLaid, first, is_reserved_at, is_used_at, largest, replaced, settled}
use Rattle.cckd_space.specs.Plan.{Plan}
use Rattle.cckd_space.specs.Inside.{IsMarked}
use Rattle.cckd_space.proofs.LaidLemmas.{laid_settled}
use Rattle.cckd_space.proofs.MarkLemmas.{marked_swapped}
use Rattle.cckd_space.proofs.KeptLemmas.{largest_swapped}
use Rattle.cckd_space.proofs.OrderLemmas.{laid_in_order}
use Rattle.cckd_space.proofs.CallerLemmas.{settled_if}
use Rattle.cckd_space.proofs.OrderLemmas.{swapped_len}
use Rattle.cckd_space.proofs.HeldLemmas.{becomes}
use Rattle.cckd_space.proofs.space.Space.settle.Goals as goal

pub settle-requires-clause-order : goal.settle-requires-clause-order
settle-requires-clause-order c = laid_in_order 0 c.self.inside.pieces.pieces c.self.inside.size c.self.invariant.laid

pub invariant_of-self : goal.invariant_of-self
invariant_of-self c =
    let old = c.self.inside.pieces.pieces in
    let size = c.self.inside.size in
    let test = is_reserved_at c.args.pos in
    let fits : IfSome (first test old) (λ p. (1 ≤ c.args.len) × (c.args.len ≤ p.size)) =
    subst (λ (plan : Plan). IfSome (first test plan.pieces) (λ p. (1 ≤ c.args.len) × (c.args.len ≤ p.size))) (sym c.self.view_is) c.requires.reserved in
    let new = c.settle.new.self.pieces in
    let now = c.settle.ensures.now in
    record {
      laid = subst (λ (l : List Piece). IsLaid 0 l size) (sym now) (laid_settled test c.args.len c.args.owner old size fits c.self.invariant.laid);
      offers = (let less = largest_swapped test (settled c.args.len c.args.owner) (λ p. refl) old in omega (arith, less, ap largest now, c.self.invariant.offers));
      marked = subst (λ (l : List Piece). IsMarked l c.self.inside.leaving c.self.inside.pending) (sym now) (marked_swapped c.args.pos (settled c.args.len c.args.owner) (λ p. refl) (λ p. refl) old c.self.inside.leaving c.self.inside.pending c.self.invariant.marked);
      few = (let n = swapped_len test (settled c.args.len c.args.owner) old in omega (arith, n, c.settle.ensures.spare, c.self.invariant.few));
    }

pub returns-clause-becomes : goal.returns-clause-becomes
returns-clause-becomes c =
    becomes (replaced (is_reserved_at c.args.pos) (λ p. settled c.args.len c.args.owner p ∷ [])) c.self.inside.pieces c.settle.new.self c.args.self.now c.self.inside.size c.self.inside.limit (c.self.inside.size) (c.args.self.now.size) c.self.view_is c.settle.ensures (ap (λ (p : Plan). p.size) c.self.view_is)

pub returns-clause-sound : goal.returns-clause-sound
returns-clause-sound c =
    let old = c.self.inside.pieces.pieces in
    let size = c.self.inside.size in
    let test = is_reserved_at c.args.pos in
    let fits : IfSome (first test old) (λ p. (1 ≤ c.args.len) × (c.args.len ≤ p.size)) =
    subst (λ (plan : Plan). IfSome (first test plan.pieces) (λ p. (1 ≤ c.args.len) × (c.args.len ≤ p.size))) (sym c.self.view_is) c.requires.reserved in
    let now = c.settle.ensures.now in
    record { laid = subst (λ (l : List Piece). IsLaid 0 l size) (sym now) (laid_settled test c.args.len c.args.owner old size fits c.self.invariant.laid) }

pub returns-clause-there : goal.returns-clause-there
returns-clause-there c =
    let old = c.self.inside.pieces.pieces in
    let size = c.self.inside.size in
    let test = is_reserved_at c.args.pos in
    let fits : IfSome (first test old) (λ p. (1 ≤ c.args.len) × (c.args.len ≤ p.size)) =
    subst (λ (plan : Plan). IfSome (first test plan.pieces) (λ p. (1 ≤ c.args.len) × (c.args.len ≤ p.size))) (sym c.self.view_is) c.requires.reserved in
    let same = ap (λ (plan : Plan). plan.pieces) c.self.view_is in
    subst (λ (l : List Piece). IfSome (first test l) (λ p. first (is_used_at c.args.pos) c.settle.new.self.pieces ≡ Some (settled c.args.len c.args.owner p))) same
    (settled_if c.args.pos c.args.len c.args.owner old c.settle.new.self.pieces size fits c.self.invariant.laid c.settle.ensures.now)

pub returns-clause-spent : goal.returns-clause-spent
returns-clause-spent c =
    let old = c.self.inside.pieces.pieces in
    let n = swapped_len (is_reserved_at c.args.pos) (settled c.args.len c.args.owner) old in
    omega (arith, n, c.settle.ensures.spare, ap (λ (p : Plan). p.spare) c.self.view_is)
