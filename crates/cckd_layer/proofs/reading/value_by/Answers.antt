use Rattle.std.proofs.Common.{◌≡◌, length, take, None}
use Rattle.cckd_base.specs.Entry.{bytes_by_entry}
use Rattle.cckd_shelf.specs.World.{file_of}
use Rattle.cckd_shelf.proofs.WorldLemmas.{on_ok}
use Rattle.cckd_layer.proofs.ReadLemmas.{then_settled, then_checked, then_refused}
use Rattle.cckd_layer.proofs.reading.value_by.Goals as goal

pub returns-in-Ok-Here-clause-answer : goal.returns-in-Ok-Here-clause-answer
returns-in-Ok-Here-clause-answer g c = λ told sure.
    let bytes = take c.in-Ok-Here.len c.bytes_by.new.out in
    let found = bytes_by_entry g.U.Unit.null_bytes c.args.l.now (file_of (g.T.Shows.world c.args.stage.now) c.args.slot) c.args.t.0 c.args.entry in
    then_settled g.U.Unit.value found c.in-Ok-Here.len c.args.out.now c.bytes_by.new.out c.settle.new.out c.settle.result
    (rw c.in-Ok-Here.field-0-is at (c.in-Ok-Here.ensures.answer told sure))
    (on_ok (g.U.Unit.fault c.args.l.now.geo c.args.t.0 bytes ≡ None) (length (g.U.Unit.value bytes) ≡ length bytes) c.settle.result
    (λ e. g.met.U.Unit.value_length c.args.l.now.geo c.args.t.0 bytes e) c.settle.ensures.checked)
    c.settle.ensures.answer

pub returns-in-Ok-Here-clause-checked : goal.returns-in-Ok-Here-clause-checked
returns-in-Ok-Here-clause-checked g c = λ told sure.
    let found = bytes_by_entry g.U.Unit.null_bytes c.args.l.now (file_of (g.T.Shows.world c.args.stage.now) c.args.slot) c.args.t.0 c.args.entry in
    then_checked (g.U.Unit.fault c.args.l.now.geo c.args.t.0) found c.in-Ok-Here.len c.args.out.now c.bytes_by.new.out c.settle.result
    (rw c.in-Ok-Here.field-0-is at (c.in-Ok-Here.ensures.answer told sure)) c.settle.ensures.checked

pub returns-in-Ok-Here-clause-refusal : goal.returns-in-Ok-Here-clause-refusal
returns-in-Ok-Here-clause-refusal g c = λ told sure.
    let found = bytes_by_entry g.U.Unit.null_bytes c.args.l.now (file_of (g.T.Shows.world c.args.stage.now) c.args.slot) c.args.t.0 c.args.entry in
    then_refused (g.U.Unit.fault c.args.l.now.geo c.args.t.0) found c.in-Ok-Here.len c.args.out.now c.bytes_by.new.out c.settle.result
    (rw c.in-Ok-Here.field-0-is at (c.in-Ok-Here.ensures.answer told sure)) c.settle.ensures.refusal
