use Rattle.std.proofs.Common.{arith, ◌∷◌, Some, sym, ap, ◌∙◌}
use Rattle.atomic_table.specs.Table.{rest}
use Rattle.cckd_turn.proofs.TurnLemmas.{takes_turn}
use Rattle.cckd_turn.proofs.table.TurnTable.take.Goals as goal

pub load-requires : goal.load-requires
load-requires g c =
    let words = c.args.self.now.words in
    let served = c.requires.served in (
      c.requires.table,
      omega arith,
      takes_turn g.V.Stands.stands g.V.Stands.by c.args.self.now.table.shared.key _ _ c.args.seat.me served.1 served.2 c.requires.terms.0 c.requires.terms.1,
    )

pub exchange-requires : goal.exchange-requires
exchange-requires g c =
    let told = c.load.ensures.2 in
    let out = ap (λ m. m.1) told.1 in
    (c.load.ensures.0 ∙ c.requires.table, (Some told.0, out ∙ ap (λ l. (0, Some told.0) ∷ rest l) (sym out)))
