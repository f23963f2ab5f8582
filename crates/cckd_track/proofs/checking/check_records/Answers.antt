use Rattle.std.proofs.Common.{◌≡◌, ◌+◌, drop, Ok, sym, ◌∙◌, ap, arith, length-drop}
use Rattle.std.proofs.lemmas.List.{take_rest, drop-drop}
use Rattle.cckd_base.specs.Track.{record_at, records_fault}
use Rattle.cckd_base.proofs.RecordLemmas.{IsCount, counted, record_passed, verdict_stands}
use Rattle.cckd_track.proofs.checking.check_records.Goals as goal

measured : (c : goal.In-Ok) → record_at c.loop-len.at (drop c.loop-len.at c.args.bytes.now) ≡ Ok c.in-Ok.len
measured c = rw take_rest at (sym c.in-Ok.ensures)

whole_record : (c : goal.In-Ok) → IsCount c.loop-len.at (drop c.loop-len.at c.args.bytes.now) c.in-Ok.len
whole_record c = counted c.loop-len.at (drop c.loop-len.at c.args.bytes.now) c.in-Ok.len (measured c)

pub overflow_add-at : goal.overflow_add-at
overflow_add-at c =
    let e = whole_record c in
    omega (arith, e.whole, length-drop c.loop-len.at c.args.bytes.now, c.requires.length)

pub loop-len-smaller : goal.loop-len-smaller
loop-len-smaller c =
    let e = whole_record c in
    omega (arith, e.whole, e.size, length-drop c.loop-len.at c.args.bytes.now)

pub loop-len-preserved : goal.loop-len-preserved
loop-len-preserved c =
    let at = c.loop-len.at in
    let e = whole_record c in
    record {
      behind = omega arith;
      within = omega (arith, e.whole, length-drop at c.args.bytes.now, c.loop-len.invariant.within);
      left = c.loop-len.invariant.left ∙ record_passed _ _ _ (measured c) ∙ ap (λ bytes. records_fault (at + c.in-Ok.len) 0 bytes) (drop-drop c.in-Ok.len at c.args.bytes.now);
    }

pub returns-in-Err-None : goal.returns-in-Err-None
returns-in-Err-None c =
    let found = rw take_rest at (sym (rw c.in-Err-None.field-0-is at c.in-Err-None.ensures)) in
    c.loop-len.invariant.left ∙ verdict_stands _ _ _ found

pub returns-in-Err-Some : goal.returns-in-Err-Some
returns-in-Err-Some c =
    let found = rw take_rest at (sym (rw c.in-Err-Some.field-0-is at c.in-Err-Some.ensures)) in
    c.loop-len.invariant.left ∙ verdict_stands _ _ _ found
