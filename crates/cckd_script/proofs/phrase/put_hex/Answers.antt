use Rattle.std.proofs.Common.{◌+◌, ◌-◌, ◌*◌, ◌<◌, length, sym, ◌∙◌, ap, arith, rules}
use Rattle.std.proofs.lemmas.Slice.{drop-put_mid}
use Rattle.std.proofs.lemmas.Grind.{common_steps}
use Rattle.hex.proofs.HexLemmas.{length-encode_with}
use Rattle.hex.specs.Hex.{lower_digits}
use Rattle.cckd_script.proofs.PhraseLemmas.{hex_some}
use Rattle.cckd_script.proofs.phrase.put_hex.Goals as goal

pub returns-clause-put : goal.returns-clause-put
returns-clause-put c =
    let at = c.args.at in
    let bytes = c.args.bytes.now in
    let end = at + 2 * length bytes in
    let some : 0 < length bytes = search rules in
    let text = c.encode_hex.ensures ∙ sym (hex_some bytes some) in
    let len = ap length c.encode_hex.ensures ∙ length-encode_with lower_digits bytes in
    record {
      ends = omega (arith, len, ap length text);
      front = rw (← text) (grind (arith, common_steps));
      rest = drop-put_mid at (end - at) c.args.line.now c.encode_hex.new.digits end (omega arith) (omega (arith, c.requires)) (omega (arith, c.encode_hex.auto.digits));
    }
