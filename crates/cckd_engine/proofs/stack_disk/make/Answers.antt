use Rattle.std.proofs.Common.{sym, subst}
use Rattle.cckd_base.specs.declared.call.Call.{Call}
use Rattle.cckd_shelf.specs.Seen.{seen}
use Rattle.cckd_engine.specs.Calls.{asks, answer_in}
use Rattle.cckd_engine.specs.Performs.{Performs}
use Rattle.cckd_engine.proofs.stack_disk.make.Goals as goal

pub returns-in-Read-clause-performs : goal.returns-in-Read-clause-performs
returns-in-Read-clause-performs g c =
    subst (λ (call : Call). Performs (asks call c.args.input.now) (answer_in c.read_at.result c.read_at.new.out) c.args.disk.now c.read_at.new.disk
    (seen g.T.Shows c.args.stage.now) (seen g.T.Shows c.read_at.new.stage)) (sym c.in-Read.is) (c.read_at.ensures.performs c.args.input.now)

pub returns-in-Harden-clause-performs : goal.returns-in-Harden-clause-performs
returns-in-Harden-clause-performs g c =
    subst (λ (call : Call). Performs (asks call c.args.input.now) (answer_in c.harden.result c.args.out.now) c.args.disk.now c.harden.new.disk
    (seen g.T.Shows c.args.stage.now) (seen g.T.Shows c.harden.new.stage)) (sym c.in-Harden.is) (c.harden.ensures c.args.input.now c.args.out.now)

pub returns-in-Display-clause-performs : goal.returns-in-Display-clause-performs
returns-in-Display-clause-performs g c =
    subst (λ (call : Call). Performs (asks call c.args.input.now) (answer_in c.display.result c.args.out.now) c.args.disk.now c.display.new.disk
    (seen g.T.Shows c.args.stage.now) (seen g.T.Shows c.display.new.stage)) (sym c.in-Display.is) (c.display.ensures c.args.input.now c.args.out.now)

pub returns-in-Check-clause-performs : goal.returns-in-Check-clause-performs
returns-in-Check-clause-performs g c =
    subst (λ (call : Call). Performs (asks call c.args.input.now) (answer_in c.check.result c.check.new.room) c.args.disk.now c.check.new.disk
    (seen g.T.Shows c.args.stage.now) (seen g.T.Shows c.check.new.stage)) (sym c.in-Check.is) (c.check.ensures.performs c.args.input.now c.check.new.room)

pub returns-in-Close-clause-performs : goal.returns-in-Close-clause-performs
returns-in-Close-clause-performs g c =
    subst (λ (call : Call). Performs (asks call c.args.input.now) (answer_in c.close.result c.args.out.now) c.args.disk.now c.close.new.disk
    (seen g.T.Shows c.args.stage.now) (seen g.T.Shows c.close.new.stage)) (sym c.in-Close.is) (c.close.ensures c.args.input.now c.args.out.now)
