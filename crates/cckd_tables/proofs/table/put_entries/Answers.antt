use Rattle.std.proofs.Common.{◌+◌, ◌*◌, ◌%◌, List, ℕ, get_or, sym, ◌∙◌, subst, rules}
use Rattle.cckd_base.specs.Put.{IsPut}
use Rattle.cckd_tables.specs.declared.staged.StagedEntry.{StagedEntry}
use Rattle.cckd_tables.proofs.PutRunLemmas.{encoded_by}
use Rattle.cckd_tables.proofs.TableLemmas.{ArePut, put_first, put_all, put_over_more, put_over_skip}
use Rattle.cckd_tables.proofs.table.put_entries.Goals as goal
use Rattle.cckd_tables.proofs.table.put_entries.Goals.{then-staged-group, else-staged-group}

abbrev blank : StagedEntry
blank = record { track = 0; entry = record { pos = 0; len = 0; size = 0 } }

pub loop-staged-preserved : goal.loop-staged-preserved
loop-staged-preserved c =
    let i = c.loop-staged.staged-index in
    let P : List ℕ → Type 0 = ArePut c.args.order c.args.group c.args.entries.now (i + 1) c.args.table.now in
    elim c.if-staged-group.branch [
      | then-staged-group w ↦ subst P (sym w.table-is)
          (put_over_more c.args.order c.args.group c.args.entries.now i blank c.args.table.now c.loop-staged.table c.requires.order c.loop-staged-test.true c.loop-staged.invariant
          w.put_bytes.result w.put_bytes.new.buffer (c.loop-staged.auto.table ∙ c.requires.size) w.if-staged-group.true
          (encoded_by c.args.order (get_or c.args.entries.now i blank).entry w.encode-bytes.result w.encode-bytes.ensures.value w.encode-bytes.ensures.undone (search rules))
          (subst (λ (bytes : List ℕ). IsPut (8 * ((get_or c.args.entries.now i blank).track % 256)) w.put_bytes.result bytes c.loop-staged.table w.put_bytes.new.buffer) w.encode-bytes.ensures.value w.put_bytes.ensures))
      | else-staged-group w ↦ subst P (sym w.table-is)
          (put_over_skip c.args.order c.args.group c.args.entries.now i blank c.args.table.now c.loop-staged.table c.requires.order c.loop-staged-test.true c.loop-staged.invariant w.if-staged-group.false)
    ]

pub loop-staged-init : goal.loop-staged-init
loop-staged-init c = put_first c.args.order c.args.group c.args.entries.now c.args.table.now

pub returns-clause-bytes : goal.returns-clause-bytes
returns-clause-bytes c =
    (put_all c.args.order c.args.group c.args.entries.now c.loop-staged.staged-index c.args.table.now c.loop-staged.table c.loop-staged-test.false c.loop-staged.invariant).0

pub returns-clause-entries : goal.returns-clause-entries
returns-clause-entries c =
    (put_all c.args.order c.args.group c.args.entries.now c.loop-staged.staged-index c.args.table.now c.loop-staged.table c.loop-staged-test.false c.loop-staged.invariant).1
