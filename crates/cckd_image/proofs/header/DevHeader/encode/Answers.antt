use Rattle.std.proofs.Common.{◌≡◌, ◌∙◌, ℕ, List, [], ◌∷◌, ◌++◌, ap, rules}
use Rattle.std.specs.Int.{w16, w32}
use Rattle.cckd_base.specs.declared.order.Order.TheVariants.{Little}
use Rattle.cckd_base.specs.Numbers.{bytes_of}
use Rattle.cckd_base.proofs.PutLemmas.{puts_join, put_as, put_fills}
use Rattle.cckd_image.specs.Image.{dev_bytes, dev_header_of}
use Rattle.cckd_image.proofs.BackLemmas.{is_back, dev_back}
use Rattle.cckd_image.proofs.PartLemmas.{behind_is_before}
use Rattle.cckd_image.proofs.header.DevHeader.encode.Goals as goal

spelled : (c : goal.After-bytes-2-1) → c.put_bytes.new.buffer ≡ dev_bytes c.args.self.now
unfolding dev_bytes
spelled c =
    let d = c.args.self.now in
    let two = puts_join _ _ _ _ _ _ _ _ c.put_bytes-at.ensures (put_as _ _ _ _ _ _ c.u32_bytes.ensures.value c.put_bytes-at-2.ensures) in
    let three = puts_join _ _ _ _ _ _ _ _ two (put_as _ _ _ _ _ _ c.u32_bytes-2.ensures.value c.put_bytes-at-3.ensures) in
    let four = puts_join _ _ _ _ _ _ _ _ three c.put_bytes-at-4.ensures in
    let five = puts_join _ _ _ _ _ _ _ _ four (put_as _ _ _ _ _ _ c.u16_bytes.ensures.value c.put_bytes-at-5.ensures) in
    let six = puts_join _ _ _ _ _ _ _ _ five c.put_bytes.ensures in
    put_fills _ _ _ _ six (search rules) ∙ behind_is_before d.id (
    bytes_of Little w32 d.heads ∷ bytes_of Little w32 d.track_size ∷ (d.devtype ∷ d.sequence ∷ []) ∷ bytes_of Little w16 d.highest
    ∷ d.reserved ∷ []
    )

pub returns-clause-value : goal.returns-clause-value
returns-clause-value c = spelled c

pub returns-clause-undone : goal.returns-clause-undone
returns-clause-undone c = λ rest.
    let d = c.args.self.now in
    ap (λ (bytes : List ℕ). dev_header_of (bytes ++ rest)) (spelled c)
    ∙ dev_back d rest (search rules) (search rules)
    (is_back Little w32 d.heads _ c.u32_bytes.ensures.value c.u32_bytes.ensures.undone)
    (is_back Little w32 d.track_size _ c.u32_bytes-2.ensures.value c.u32_bytes-2.ensures.undone)
    (is_back Little w16 d.highest _ c.u16_bytes.ensures.value c.u16_bytes.ensures.undone)
