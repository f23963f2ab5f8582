use Rattle.std.proofs.Common.{◌+◌, ◌-◌, length, arith, rules}
use Rattle.std.proofs.lemmas.Slice.{drop-put_mid}
use Rattle.std.proofs.lemmas.Grind.{common_steps}
use Rattle.cckd_base.proofs.put.put_bytes.Goals as goal

pub returns : goal.returns
returns c =
    let at = c.args.at in
    let end = at + length c.args.bytes.now in
    record {
      ends = search rules;
      front = grind (arith, common_steps);
      rest = drop-put_mid at (end - at) c.args.buffer.now c.copy_from_slice.new.self end (omega arith) (omega (arith, c.requires)) (omega (arith, c.copy_from_slice.auto.self));
    }
