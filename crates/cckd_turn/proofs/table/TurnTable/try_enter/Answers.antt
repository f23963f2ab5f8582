use Rattle.std.proofs.Common.{arith, ap, ◌∙◌, length}
use Rattle.cckd_turn.proofs.RuleLemmas.{looks, tries}
use Rattle.cckd_turn.proofs.table.TurnTable.try_enter.Goals as goal

pub load-serving-requires : goal.load-serving-requires
load-serving-requires g c =
    let words = c.args.self.now.words in
    (c.rise-seat.ensures.seat.0 ∙ c.requires.own.table, omega arith, looks g.V.Stands.stands g.V.Stands.by c.args.self.now.table.shared.key _ _ _)

pub compare_exchange-ticket-requires : goal.compare_exchange-ticket-requires
compare_exchange-ticket-requires g c =
    let words = c.args.self.now.words in
    let own = c.requires.own in
    let me = c.rise-seat.ensures.seat in
    let told = c.load-serving.ensures.2 in
    let names = ap (λ m. length m.0.names) told.1 ∙ (ap (λ m. length m.0.names) me.1 ∙ ap length own.name) in (
      c.load-serving.ensures.0 ∙ (me.0 ∙ own.table),
      omega arith,
      tries g.V.Stands.stands g.V.Stands.by c.args.self.now.table.shared.key _ _ _ c.load-serving.new.seat.me
          (ap (λ m. m.0.state) told.1 ∙ (ap (λ m. m.0.state) me.1 ∙ own.idle))
          (let left = ap (λ m. m.0.left) told.1 ∙ (ap (λ m. m.0.left) me.1 ∙ own.left) in omega arith)
          (omega arith),
    )
