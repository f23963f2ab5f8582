use Rattle.std.proofs.Common.{◌+◌, ◌∙◌, ap, length, take, drop, replicate, ◌-◌, ◌++◌, arith}
use Rattle.cckd_memory.proofs.FileLemmas.{given_back, overlaid_within, overlaid_past}
use Rattle.cckd_memory.proofs.bytes.overlay.Goals as goal

pub returns-then-end-len-clause-put : goal.returns-then-end-len-clause-put
returns-then-end-len-clause-put c =
    let whole = c.args.file.now.ok.0 in
    given_back _ _ _ whole (c.copy_over.auto.file ∙ ap length c.as_mut_slice.ensures.value)
    ∙ (c.copy_over.ensures ∙ (ap (λ s. take c.args.pos s ++ (c.args.bytes.now ++ drop (c.args.pos + length c.args.bytes.now) s)) c.as_mut_slice.ensures.value
    ∙ overlaid_within _ _ _ (omega (arith, whole, c.if-end-len.true, c.len.ensures))))

pub returns-clause-put : goal.returns-clause-put
returns-clause-put c =
    let whole = c.resize.new.self.ok.0 in
    given_back _ _ _ whole (c.copy_over-2.auto.file ∙ ap length c.as_mut_slice-2.ensures.value)
    ∙ (c.copy_over-2.ensures ∙ (ap (λ s. take c.args.pos s ++ (c.args.bytes.now ++ drop (c.args.pos + length c.args.bytes.now) s)) c.as_mut_slice-2.ensures.value
    ∙ overlaid_past _ _ _ _ (omega (arith, c.args.file.now.ok.0, c.if-end-len.false, c.len.ensures)) (c.in_ok-resize.ensures.items ∙ ap (λ n. take (c.args.pos + length c.args.bytes.now) c.args.file.now.items ++ replicate (c.args.pos + length c.args.bytes.now - n) 0) c.args.file.now.ok.0)))
