use Rattle.std.proofs.Common.{IsSome, Option, sym, ◌∙◌, subst}
use Rattle.cckd_space.specs.declared.piece.Piece.{Piece}
use Rattle.cckd_space.proofs.BlockLemmas.{some_is}
use Rattle.bench.proofs.space.give_back.Goals as goal

pub give_back-requires : goal.give_back-requires
give_back-requires c = record { there = subst (λ (o : Option Piece). IsSome o) c.reserved_at.ensures (some_is c.reserved_at.result (sym c.is_some.ensures ∙ c.if-is_some.true)) }
