use Rattle.std.proofs.Common.{◌≡◌, length, arith}
use Rattle.cckd_script.specs.declared.phrase.Part.TheVariants.{Number}
use Rattle.cckd_script.proofs.PhraseLemmas.{none_so_far, one_more, room_for_one, room_behind}
use Rattle.cckd_script.proofs.phrase.put_phrase.Goals as goal

pub loop-part-init : goal.loop-part-init
loop-part-init c = none_so_far _ _ _ _ _ c.put_bytes-end.ensures

pub put_bytes-from-requires : goal.put_bytes-from-requires
put_bytes-from-requires c =
    let room = room_for_one _ _ (length c.args.line.now) _ c.args.parts.now c.loop-part.part-index (Number 0) _ _ c.loop-part-test.true c.loop-part.invariant c.requires in
    omega (arith, room, c.loop-part.auto.line)

pub put_part-end-requires : goal.put_part-end-requires
put_part-end-requires c =
    let same : length c.args.line.now ≡ length c.put_bytes-from.new.buffer = omega (arith, c.loop-part.auto.line, c.put_bytes-from.auto.buffer) in
    room_behind _ _ _ _ _ c.args.parts.now c.loop-part.part-index _ _ _ _ c.loop-part-test.true c.loop-part.invariant (omega (arith, c.requires, same)) c.put_bytes-from.ensures

pub loop-part-preserved : goal.loop-part-preserved
loop-part-preserved c =
    one_more _ _ _ _ _ c.args.parts.now c.loop-part.part-index _ _ _ _ _ c.loop-part-test.true c.loop-part.invariant
    c.put_bytes-from.ensures c.put_part-end.ensures.put c.put_part-end.ensures.short
