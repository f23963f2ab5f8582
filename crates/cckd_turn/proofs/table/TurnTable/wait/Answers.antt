use Rattle.std.proofs.Common.{arith, ◌∙◌, refl}
use Rattle.cckd_turn.specs.Steps.{Sat, HasLooked}
use Rattle.cckd_turn.proofs.FrontLemmas.{front_self}
use Rattle.cckd_turn.proofs.RuleLemmas.{looks}
use Rattle.cckd_turn.proofs.table.TurnTable.wait.Goals as goal

not_yet_looked : {V E : Type 0} (m : Sat V E) → HasLooked m m
not_yet_looked m = (m.0.seen, m.0.serving, m.0.looks, refl, front_self m.0.seen, omega arith)

pub loop-looks-init : goal.loop-looks-init
loop-looks-init g c = (refl, not_yet_looked c.args.seat.now.me, refl)

pub load-serving-requires : goal.load-serving-requires
load-serving-requires g c =
    let words = c.args.self.now.words in
    (c.loop-looks.invariant.0 ∙ c.requires.table, omega arith, looks g.V.Stands.stands g.V.Stands.by c.args.self.now.table.shared.key _ _ _)
