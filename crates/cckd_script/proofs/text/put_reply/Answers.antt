use Rattle.std.proofs.Common.{◌≡◌, ◌+◌, ◌-◌, take, drop, sym, ◌∙◌, ap, arith}
use Rattle.std.proofs.lemmas.List.{take-take, drop-take}
use Rattle.cckd_script.proofs.text.put_reply.Goals as goal

pub returns-in-Record-clause-put : goal.returns-in-Record-clause-put
returns-in-Record-clause-put c =
    let out = c.args.out.now in
    let k = c.in-Record.key_len in
    let b = c.in-Record.body_len in
    let some : k + b - k ≡ b = omega arith in
    let key : take k (take (k + b) out) ≡ take k out = take-take k (k + b) out (omega arith) in
    let body : drop k (take (k + b) out) ≡ take (k + b - k) (drop k out) = drop-take k b out ∙ ap (λ n. take n (drop k out)) (sym some) in
    rw (c.in-Record.is, key, body) c.put_record.ensures.put

pub returns-in-Shown-clause-numbers : goal.returns-in-Shown-clause-numbers
returns-in-Shown-clause-numbers c = rw (c.in-Shown.is) (omega arith, c.put_layers.ensures.numbers)
