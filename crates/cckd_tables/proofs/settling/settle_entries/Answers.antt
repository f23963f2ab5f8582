use Rattle.std.proofs.Common.{refl}
use Rattle.cckd_tables.specs.declared.staged.StagedEntry.{StagedEntry}
use Rattle.cckd_tables.specs.Cached.{tables_in}
use Rattle.cckd_tables.proofs.SettleLemmas.{all_put_first}
use Rattle.cckd_tables.proofs.settling.settle_entries.Goals as goal

pub loop-staged-init : goal.loop-staged-init
loop-staged-init c = record { cache = c.requires.cache; put = all_put_first c.args.order (tables_in c.args.cache.now.entries) }

pub loop-staged-preserved : goal.loop-staged-preserved
loop-staged-preserved c =
    let d : StagedEntry = record { track = 0; entry = record { pos = 0; len = 0; size = 0 } } in
    record {
      cache = c.settle_entry.ensures.cache;
      put = c.settle_entry.ensures.put c.args.entries.now c.loop-staged.staged-index d (tables_in c.args.cache.now.entries) c.requires.order c.loop-staged-test.true refl c.loop-staged.invariant.put;
    }
