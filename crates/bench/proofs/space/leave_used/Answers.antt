use Rattle.std.proofs.Common.{IsSome, Option, sym, ◌∙◌, subst}
use Rattle.cckd_space.specs.declared.piece.Piece.{Piece}
use Rattle.cckd_space.proofs.BlockLemmas.{some_is}
use Rattle.bench.proofs.space.leave_used.Goals as goal

pub leave-requires : goal.leave-requires
leave-requires c = record { there = subst (λ (o : Option Piece). IsSome o) c.used_at.ensures (some_is c.used_at.result (sym c.is_some.ensures ∙ c.if-is_some.true)) }
