use Rattle.std.proofs.Common.{arith, ap, ◌∙◌, length}
use Rattle.cckd_turn.proofs.RuleLemmas.{draws}
use Rattle.cckd_turn.proofs.table.TurnTable.enter.Goals as goal

pub fetch_add-ticket-requires : goal.fetch_add-ticket-requires
fetch_add-ticket-requires g c =
    let words = c.args.self.now.words in
    let own = c.requires.own in
    let me = c.rise-seat.ensures.seat in
    let names = ap (λ m. length m.0.names) me.1 ∙ ap length own.name in (
      me.0 ∙ own.table,
      omega arith,
      draws g.V.Stands.stands g.V.Stands.by c.args.self.now.table.shared.key _ _ c.rise-seat.result.me
          (ap (λ m. m.0.state) me.1 ∙ own.idle)
          (let left = ap (λ m. m.0.left) me.1 ∙ own.left in omega arith)
          (omega arith),
    )
