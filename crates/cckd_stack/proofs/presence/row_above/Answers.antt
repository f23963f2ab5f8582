use Rattle.std.proofs.Common.{◌+◌, ℕ, sym, subst, arith}
use Rattle.cckd_shelf.specs.Seen.{seen}
use Rattle.cckd_stack.proofs.RowLemmas.{HasLooked, base_looked, looked_none, looked_there}
use Rattle.cckd_stack.proofs.presence.row_above.Goals as goal
use Rattle.cckd_stack.proofs.presence.row_above.Goals.{then-there+else-count-number, else-there}

pub loop-number-init : goal.loop-number-init
loop-number-init g c = base_looked (seen g.T.Shows c.args.stage.now) c.requires.base

pub loop-number-preserved : goal.loop-number-preserved
loop-number-preserved g c =
    elim c.if-there.branch [
      | then-there+else-count-number w ↦
          subst (λ (k : ℕ). HasLooked (seen g.T.Shows c.args.stage.now) (seen g.T.Shows c.is_there.new.stage) (c.loop-number.number + 1) k) (sym w.count-is)
          (looked_there (seen g.T.Shows c.args.stage.now) (seen g.T.Shows c.loop-number.stage) (seen g.T.Shows c.is_there.new.stage) c.loop-number.number c.loop-number.count (λ told. told)
          c.loop-number.invariant c.in-Ok.there c.slot_of.result c.slot_of.ensures c.in-Ok.ensures.there c.in-Ok.ensures.looks.kept c.in-Ok.ensures.looks.counts w.if-there.true
          (omega (arith, w.if-count-number.false)))
      | else-there w ↦
          subst (λ (k : ℕ). HasLooked (seen g.T.Shows c.args.stage.now) (seen g.T.Shows c.is_there.new.stage) (c.loop-number.number + 1) k) (sym w.count-is)
          (looked_none (seen g.T.Shows c.args.stage.now) (seen g.T.Shows c.loop-number.stage) (seen g.T.Shows c.is_there.new.stage) c.loop-number.number c.loop-number.count (λ told. told)
          c.loop-number.invariant c.in-Ok.there c.slot_of.result c.slot_of.ensures c.in-Ok.ensures.there c.in-Ok.ensures.looks.kept c.in-Ok.ensures.looks.counts w.if-there.false)
    ]
