use Rattle.std.proofs.Common.{arith, sym, ap, ◌∙◌, subst, [], ◌∷◌, ◌++◌}
use Rattle.atomic_table.specs.Table.{rest}
use Rattle.cckd_turn.proofs.TurnLemmas.{puts_back_as, passes_on}
use Rattle.cckd_turn.proofs.table.TurnTable.leave.Goals as goal

pub load-requires : goal.load-requires
load-requires g c =
    let words = c.args.self.now.words in
    let own = c.requires.own in
    let me = c.exchange-empty.ensures.3 in (
      c.exchange-empty.ensures.0 ∙ own.table,
      omega arith,
      puts_back_as g.V.Stands.stands g.V.Stands.by c.args.self.now.table.shared.key _ _ c.exchange-empty.new.seat.me c.args.taken.value (rest c.args.taken.seat.me.1) g.N.Adds.entry
          c.args.self.now.slots
          (ap (λ m. m.1) me)
          (ap (λ m. m.0.state) me ∙ own.holding)
          (subst (λ v. g.V.Stands.stands c.args.taken.value (v.seen ++ g.N.Adds.entry ∷ [])) (sym (ap (λ m. m.0) me)) c.requires.stands),
    )

pub fetch_add-before-requires : goal.fetch_add-before-requires
fetch_add-before-requires g c =
    let words = c.args.self.now.words in
    let own = c.requires.own in
    let me = c.exchange-empty.ensures.3 in
    let back = c.load.ensures.2 in (
      c.load.ensures.0 ∙ (c.exchange-empty.ensures.0 ∙ own.table),
      omega arith,
      passes_on g.V.Stands.stands g.V.Stands.by c.args.self.now.table.shared.key _ _ _ c.load.new.seat.me _ g.N.Adds.entry
          (ap (λ m. m.0.state) back)
          (ap (λ m. m.0.made) back)
          c.requires.named
          (ap (λ m. m.0.names) back ∙ (ap (λ m. m.0.names) me ∙ own.name)),
    )
