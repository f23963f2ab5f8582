use Rattle.std.proofs.Common.{List, ℕ, subst, rules}
use Rattle.cckd_base.specs.Put.{IsPut}
use Rattle.cckd_tables.specs.declared.staged.StagedEntry.{StagedEntry}
use Rattle.cckd_tables.proofs.PutRunLemmas.{run_put_more, encoded_by}
use Rattle.cckd_tables.proofs.table.put_run.Goals as goal

abbrev blank : StagedEntry
blank = record { track = 0; entry = record { pos = 0; len = 0; size = 0 } }

pub loop-staged-preserved : goal.loop-staged-preserved
loop-staged-preserved c =
    run_put_more c.args.order c.args.run.now c.loop-staged.staged-index blank c.loop-staged.end c.put_bytes-end.result c.loop-staged.into c.put_bytes-end.new.buffer c.loop-staged-test.true c.loop-staged.invariant
    (encoded_by c.args.order _ c.encode-bytes.result c.encode-bytes.ensures.value c.encode-bytes.ensures.undone (search rules))
    (subst (λ (bytes : List ℕ). IsPut c.loop-staged.end c.put_bytes-end.result bytes c.loop-staged.into c.put_bytes-end.new.buffer) c.encode-bytes.ensures.value c.put_bytes-end.ensures)
