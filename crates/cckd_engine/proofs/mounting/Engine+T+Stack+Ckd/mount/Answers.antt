use Rattle.std.proofs.Common.{◌≤◌, length, ap, sym, subst}
use Rattle.cckd_stack.specs.Stacked.{StackState}
use Rattle.cckd_stack.specs.Writes.{AreUnchanged}
use Rattle.cckd_shelf.specs.Seen.{seen}
use Rattle.cckd_engine.proofs.FrameLemmas.{unchanged_lower}
use Rattle.cckd_engine.proofs.MountLemmas.{just_by, just_opens, just_new, just_runs, just_agrees, just_stops, just_room, fresh_unchanged, just_marks}
use Rattle.cckd_engine.proofs.mounting.Engine+T+Stack+Ckd.mount.Goals as goal

pub returns-in-Ok-clause-opens : goal.returns-in-Ok-clause-opens
returns-in-Ok-clause-opens g c =
    just_opens c.args.limit c.new.result.disk (seen g.T.Shows c.args.stage) (seen g.T.Shows c.new.result.stage)
    (just_by c.args.limit c.in-Ok.disk c.new.result.disk (seen g.T.Shows c.args.stage) (seen g.T.Shows c.mount.new.stage) (seen g.T.Shows c.new.result.stage)
    c.new.ensures.disk (ap (seen g.T.Shows) c.new.ensures.stage) (record {
      is = c.in-Ok.ensures.stack;
      whole = c.in-Ok.ensures.whole;
      fresh = c.in-Ok.ensures.fresh;
      tells = λ told. told;
      back = λ told. told;
      mounted = c.in-Ok.ensures.mounted;
      stand = c.in-Ok.ensures.stand;
      synced = c.in-Ok.ensures.synced;
      tied = c.in-Ok.ensures.tied;
    }))

pub returns-in-Ok-clause-runs : goal.returns-in-Ok-clause-runs
returns-in-Ok-clause-runs g c = λ none.
    just_runs c.args.limit c.new.result.disk (seen g.T.Shows c.args.stage) (seen g.T.Shows c.new.result.stage)
    (just_by c.args.limit c.in-Ok.disk c.new.result.disk (seen g.T.Shows c.args.stage) (seen g.T.Shows c.mount.new.stage) (seen g.T.Shows c.new.result.stage)
    c.new.ensures.disk (ap (seen g.T.Shows) c.new.ensures.stage) (record {
      is = c.in-Ok.ensures.stack;
      whole = c.in-Ok.ensures.whole;
      fresh = c.in-Ok.ensures.fresh;
      tells = λ told. told;
      back = λ told. told;
      mounted = c.in-Ok.ensures.mounted;
      stand = c.in-Ok.ensures.stand;
      synced = c.in-Ok.ensures.synced;
      tied = c.in-Ok.ensures.tied;
    }))

pub returns-in-Ok-clause-agrees : goal.returns-in-Ok-clause-agrees
returns-in-Ok-clause-agrees g c = λ told sure snug none.
    just_agrees c.args.limit c.new.result.disk (seen g.T.Shows c.args.stage) (seen g.T.Shows c.new.result.stage)
    (just_by c.args.limit c.in-Ok.disk c.new.result.disk (seen g.T.Shows c.args.stage) (seen g.T.Shows c.mount.new.stage) (seen g.T.Shows c.new.result.stage)
    c.new.ensures.disk (ap (seen g.T.Shows) c.new.ensures.stage) (record {
      is = c.in-Ok.ensures.stack;
      whole = c.in-Ok.ensures.whole;
      fresh = c.in-Ok.ensures.fresh;
      tells = λ told. told;
      back = λ told. told;
      mounted = c.in-Ok.ensures.mounted;
      stand = c.in-Ok.ensures.stand;
      synced = c.in-Ok.ensures.synced;
      tied = c.in-Ok.ensures.tied;
    })) told sure snug

pub returns-in-Ok-clause-stops : goal.returns-in-Ok-clause-stops
returns-in-Ok-clause-stops g c =
    just_stops c.args.limit c.new.result.disk (seen g.T.Shows c.args.stage) (seen g.T.Shows c.new.result.stage)
    (just_by c.args.limit c.in-Ok.disk c.new.result.disk (seen g.T.Shows c.args.stage) (seen g.T.Shows c.mount.new.stage) (seen g.T.Shows c.new.result.stage)
    c.new.ensures.disk (ap (seen g.T.Shows) c.new.ensures.stage) (record {
      is = c.in-Ok.ensures.stack;
      whole = c.in-Ok.ensures.whole;
      fresh = c.in-Ok.ensures.fresh;
      tells = λ told. told;
      back = λ told. told;
      mounted = c.in-Ok.ensures.mounted;
      stand = c.in-Ok.ensures.stand;
      synced = c.in-Ok.ensures.synced;
      tied = c.in-Ok.ensures.tied;
    }))

pub returns-in-Ok-clause-stands : goal.returns-in-Ok-clause-stands
returns-in-Ok-clause-stands g c =
    just_new c.args.limit c.new.result.disk (seen g.T.Shows c.args.stage) (seen g.T.Shows c.new.result.stage)
    (just_by c.args.limit c.in-Ok.disk c.new.result.disk (seen g.T.Shows c.args.stage) (seen g.T.Shows c.mount.new.stage) (seen g.T.Shows c.new.result.stage)
    c.new.ensures.disk (ap (seen g.T.Shows) c.new.ensures.stage) (record {
      is = c.in-Ok.ensures.stack;
      whole = c.in-Ok.ensures.whole;
      fresh = c.in-Ok.ensures.fresh;
      tells = λ told. told;
      back = λ told. told;
      mounted = c.in-Ok.ensures.mounted;
      stand = c.in-Ok.ensures.stand;
      synced = c.in-Ok.ensures.synced;
      tied = c.in-Ok.ensures.tied;
    }))
    c.new.result.calls c.new.result.broken c.new.result.tally c.new.ensures.calls c.new.ensures.broken c.new.ensures.tally

pub returns-in-Ok-clause-unchanged : goal.returns-in-Ok-clause-unchanged
returns-in-Ok-clause-unchanged g c =
    subst (λ (s : StackState). AreUnchanged s.layers) (sym c.new.ensures.disk) (fresh_unchanged c.args.limit 0 c.in-Ok.disk.layers c.in-Ok.ensures.fresh)

pub returns-in-Ok-clause-spares : goal.returns-in-Ok-clause-spares
returns-in-Ok-clause-spares g c =
    unchanged_lower c.new.result.disk
    (subst (λ (s : StackState). AreUnchanged s.layers) (sym c.new.ensures.disk) (fresh_unchanged c.args.limit 0 c.in-Ok.disk.layers c.in-Ok.ensures.fresh))

pub returns-in-Ok-clause-few : goal.returns-in-Ok-clause-few
returns-in-Ok-clause-few g c =
    subst (λ (s : StackState). (1 ≤ length s.layers) × (length s.layers ≤ 9)) (sym c.new.ensures.disk) (c.in-Ok.ensures.stack.some, c.in-Ok.ensures.stack.few)

pub returns-in-Ok-clause-room : goal.returns-in-Ok-clause-room
returns-in-Ok-clause-room g c =
    just_room c.args.limit c.new.result.disk (seen g.T.Shows c.args.stage) (seen g.T.Shows c.new.result.stage)
    (just_by c.args.limit c.in-Ok.disk c.new.result.disk (seen g.T.Shows c.args.stage) (seen g.T.Shows c.mount.new.stage) (seen g.T.Shows c.new.result.stage)
    c.new.ensures.disk (ap (seen g.T.Shows) c.new.ensures.stage) (record {
      is = c.in-Ok.ensures.stack;
      whole = c.in-Ok.ensures.whole;
      fresh = c.in-Ok.ensures.fresh;
      tells = λ told. told;
      back = λ told. told;
      mounted = c.in-Ok.ensures.mounted;
      stand = c.in-Ok.ensures.stand;
      synced = c.in-Ok.ensures.synced;
      tied = c.in-Ok.ensures.tied;
    }))

pub returns-in-Ok-clause-marks : goal.returns-in-Ok-clause-marks
returns-in-Ok-clause-marks g c = λ told sure snug.
    just_marks c.args.limit c.new.result.disk (seen g.T.Shows c.args.stage) (seen g.T.Shows c.new.result.stage)
    (just_by c.args.limit c.in-Ok.disk c.new.result.disk (seen g.T.Shows c.args.stage) (seen g.T.Shows c.mount.new.stage) (seen g.T.Shows c.new.result.stage)
    c.new.ensures.disk (ap (seen g.T.Shows) c.new.ensures.stage) (record {
      is = c.in-Ok.ensures.stack;
      whole = c.in-Ok.ensures.whole;
      fresh = c.in-Ok.ensures.fresh;
      tells = λ told. told;
      back = λ told. told;
      mounted = c.in-Ok.ensures.mounted;
      stand = c.in-Ok.ensures.stand;
      synced = c.in-Ok.ensures.synced;
      tied = c.in-Ok.ensures.tied;
    })) told sure snug
