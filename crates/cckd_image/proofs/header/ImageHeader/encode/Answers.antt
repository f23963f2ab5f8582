use Rattle.std.proofs.Common.{◌≡◌, ◌∙◌, ◌++◌, ap, rules}
use Rattle.cckd_base.proofs.PutLemmas.{puts_join, put_fills}
use Rattle.cckd_image.specs.Image.{header_of}
use Rattle.cckd_image.proofs.header.ImageHeader.encode.Goals as goal

both : (c : goal.After-bytes-2-1) → c.put_bytes.new.buffer ≡ c.encode.result ++ c.encode-2.result
both c = put_fills _ _ _ _ (puts_join _ _ _ _ _ _ _ _ c.put_bytes-at.ensures c.put_bytes.ensures) (search rules)

pub returns-clause-value : goal.returns-clause-value
returns-clause-value c = both c ∙ (λ i. c.encode.ensures.value i ++ c.encode-2.ensures.value i)

pub returns-clause-undone : goal.returns-clause-undone
returns-clause-undone c =
    let dev = c.encode.ensures.undone c.encode-2.result in
    let cckd = c.encode-2.ensures.undone c.encode.result (search rules) in
    ap header_of (both c) ∙ (λ i. record { dev = dev i; cckd = cckd i })
