use Rattle.std.proofs.Common.{◌≡◌, ℕ, ◌+◌, ◌-◌, List, length, take, drop, replicate, ap, ◌∙◌, arith, length-drop}
use Rattle.std.proofs.lemmas.List.{length-replicate, length-take-le}
use Rattle.std.proofs.lemmas.Slice.{drop-put_mid}
use Rattle.std.proofs.lemmas.Grind.{common_steps}
use Rattle.cckd_script.proofs.fill.put_equal.Goals as goal

pub returns : goal.returns
returns c =
    let from = c.args.from in
    let end = from + c.args.count in
    let old = c.args.out.now in
    let dropped = length-drop from old in
    let many : length (take (end - from) (drop from old)) ≡ c.args.count =
    length-take-le (end - from) (drop from old) (omega (arith, dropped, c.requires)) ∙ omega arith in
    let equal : c.fill.new.self ≡ replicate c.args.count c.args.byte =
    c.fill.ensures.after (λ y e. e) ∙ ap (λ (m : ℕ). replicate m c.args.byte) many in
    let len = length-replicate c.args.count c.args.byte in
    let sized : length c.fill.new.self ≡ c.args.count = ap (λ (xs : List ℕ). length xs) equal ∙ len in
    record {
      ends = omega (arith, len);
      front = grind (arith, common_steps);
      rest = drop-put_mid from (end - from) old c.fill.new.self end (omega arith) (omega (arith, c.requires)) (omega (arith, sized));
    }
