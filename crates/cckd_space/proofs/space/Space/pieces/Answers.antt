use Rattle.std.proofs.Common.{subst, arith}
use Rattle.cckd_space.specs.Plan.{CoversBytes}
use Rattle.cckd_space.proofs.OrderLemmas.{laid_in_order}
use Rattle.cckd_space.proofs.CallerLemmas.{kinds_counted, kinds_shared, no_more, none_beyond, one_within}
use Rattle.cckd_space.proofs.space.Space.pieces.Goals as goal

pub view-requires : goal.view-requires
view-requires c = laid_in_order 0 c.self.inside.pieces.pieces c.self.inside.size c.self.invariant.laid

pub returns-clause-covers : goal.returns-clause-covers
returns-clause-covers c =
    let old = c.self.inside.pieces.pieces in
    let size = c.self.inside.size in
    subst CoversBytes c.self.view_is (record {
      within = λ at h. one_within 0 old size at c.self.invariant.laid (omega arith) h;
      beyond = λ at h. none_beyond 0 old size at c.self.invariant.laid h;
      apart = λ at.
          let k = kinds_counted old at in
          let n = no_more old size at c.self.invariant.laid in
          omega (arith, k, n);
      shared = λ both at h.
          let k = kinds_shared old at both in
          let n = one_within 0 old size at c.self.invariant.laid (omega arith) h in
          omega (arith, k, n);
    })
