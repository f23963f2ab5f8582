use Rattle.std.proofs.Common.{◌≡◌, ◌∙◌, ◌+◌, ◌++◌, ◌∷◌, [], List, length, sym, ap, subst, arith}
use Rattle.std.proofs.lemmas.List.{length-append}
use Rattle.cckd_shelf.specs.Seen.{seen}
use Rattle.cckd_layer.specs.Mounted.{LayerState}
use Rattle.cckd_stack.specs.Mounting.{HasMounted}
use Rattle.cckd_stack.proofs.MountedLemmas.{one_mounted, next_cause, next_syncs}
use Rattle.cckd_stack.proofs.mounting.mount_layers.Goals as goal

pub returns-in-Err-clause-cause : goal.returns-in-Err-clause-cause
returns-in-Err-clause-cause g c =
    next_cause c.args.limit c.args.shape.now (seen g.T.Shows c.args.stage.now) (seen g.T.Shows c.loop-number.stage) (seen g.T.Shows c.mount_one.new.stage) c.loop-number.layers.items (λ told. told)
    c.loop-number.invariant.mounted c.loop-number.number (sym c.loop-number.invariant.long) c.slot_of.result c.slot_of.ensures
    c.args.count c.loop-number-test.true c.in-Err.fault c.in-Err.ensures.cause

pub returns-in-Err-clause-syncs : goal.returns-in-Err-clause-syncs
returns-in-Err-clause-syncs g c =
    next_syncs c.args.limit c.args.shape.now (seen g.T.Shows c.args.stage.now) (seen g.T.Shows c.loop-number.stage) (seen g.T.Shows c.mount_one.new.stage) c.loop-number.layers.items (λ told. told)
    c.loop-number.invariant.mounted c.loop-number.number (sym c.loop-number.invariant.long) c.slot_of.result c.slot_of.ensures
    (omega (arith, c.loop-number-test.true, c.requires.few)) c.in-Err.ensures.syncs

pub loop-number-preserved : goal.loop-number-preserved
loop-number-preserved g c =
    let items : c.push.new.self.items ≡ c.loop-number.layers.items ++ c.in-Ok-mount_one.layer ∷ [] = c.in-Ok-push.ensures.items in
    record {
      long = ap length items ∙ length-append c.loop-number.layers.items (c.in-Ok-mount_one.layer ∷ []) ∙ ap (λ k. k + 1) c.loop-number.invariant.long;
      room = omega (arith, c.loop-number.invariant.room, c.in-Ok-push.ensures.capacity);
      mounted = subst (λ (ls : List LayerState). HasMounted c.args.limit c.args.shape.now (seen g.T.Shows c.args.stage.now) (seen g.T.Shows c.mount_one.new.stage) ls) (sym items)
          (one_mounted c.args.limit c.args.shape.now (seen g.T.Shows c.args.stage.now) (seen g.T.Shows c.loop-number.stage) (seen g.T.Shows c.mount_one.new.stage) c.loop-number.layers.items (λ told. told)
          c.loop-number.invariant.mounted c.loop-number.number (sym c.loop-number.invariant.long) c.slot_of.result c.slot_of.ensures
          c.in-Ok-mount_one.layer (λ told. told) c.in-Ok-mount_one.ensures.fresh c.in-Ok-mount_one.ensures.shape c.in-Ok-mount_one.ensures.opened c.in-Ok-mount_one.ensures.stands
          c.in-Ok-mount_one.ensures.can_read c.in-Ok-mount_one.ensures.syncs c.in-Ok-mount_one.ensures.counts);
    }
