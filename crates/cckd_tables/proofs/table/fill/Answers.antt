use Rattle.std.proofs.Common.{◌*◌, ◌%◌, List, ℕ, ◌∙◌, subst, arith, rules}
use Rattle.cckd_base.specs.Put.{IsPut}
use Rattle.cckd_tables.proofs.PutRunLemmas.{encoded_by}
use Rattle.cckd_tables.proofs.TableLemmas.{fill_more}
use Rattle.cckd_tables.proofs.table.fill.Goals as goal

pub loop-at-preserved : goal.loop-at-preserved
loop-at-preserved c =
    fill_more c.args.order c.args.entry c.loop-at.at c.put_bytes.result c.loop-at.table c.put_bytes.new.buffer (c.loop-at.auto.table ∙ c.requires) (omega arith)
    (encoded_by c.args.order c.args.entry c.encode-bytes.result c.encode-bytes.ensures.value c.encode-bytes.ensures.undone (search rules))
    (subst (λ (bytes : List ℕ). IsPut (8 * c.loop-at.at) c.put_bytes.result bytes c.loop-at.table c.put_bytes.new.buffer) c.encode-bytes.ensures.value c.put_bytes.ensures)
    c.loop-at.invariant

pub returns : goal.returns
returns c = λ t. c.loop-at.invariant (t % 256) (omega arith)
