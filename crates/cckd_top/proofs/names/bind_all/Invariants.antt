use Rattle.std.specs.Prelude.{T}
use Rattle.cckd_top.proofs.BindLemmas.{IsBound}
use Rattle.cckd_top.proofs.names.bind_all.Given as goal

abbrev pub invariant-loop-number : goal.invariant-loop-number
invariant-loop-number g l =
    IsBound (T g.T.Shows.tells) (g.T.Shows.world l.fn.stage) (g.T.Shows.world l.stage) (g.T.Shows.faults l.fn.stage)
    (g.T.Shows.faults l.stage) l.file l.number
