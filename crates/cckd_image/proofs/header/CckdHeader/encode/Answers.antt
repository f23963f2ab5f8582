use Rattle.std.proofs.Common.{◌≡◌, ◌∙◌, ℕ, List, ap, [], ◌∷◌, ◌++◌, length, subst, rules}
use Rattle.std.proofs.lemmas.Int.{to_z-of_z}
use Rattle.std.specs.Int.{w16, w32, cast_signed, cast_unsigned}
use Rattle.cckd_base.specs.declared.order.Order.{Order}
use Rattle.cckd_base.specs.declared.order.Order.TheVariants.{Little}
use Rattle.cckd_base.specs.Numbers.{bytes_of}
use Rattle.cckd_base.proofs.PutLemmas.{puts_join, put_as, put_fills}
use Rattle.cckd_image.specs.Image.{order_by, cckd_bytes, count_bytes, cckd_header_of, HasCounts}
use Rattle.cckd_image.proofs.BackLemmas.{IsBack, is_back, cckd_back}
use Rattle.cckd_image.proofs.PartLemmas.{behind_is_before}
use Rattle.cckd_image.proofs.header.CckdHeader.encode.Goals as goal

counts : (c : goal.After-bytes-2-1) → c.encode_counts.result ≡ count_bytes (order_by c.args.self.now.options) c.args.self.now
counts c = c.encode_counts.ensures.value ∙ ap (λ (o : Order). count_bytes o c.args.self.now) c.order_in-order.ensures

number : (c : goal.After-bytes-2-1) → c.cast_unsigned.result ≡ cast_unsigned w16 c.args.self.now.param
number c = c.cast_unsigned.ensures ∙ ap (cast_unsigned w16) (to_z-of_z w16 c.args.self.now.param (search rules))

param : (c : goal.After-bytes-2-1) → c.u16_bytes.result ≡ bytes_of (order_by c.args.self.now.options) w16 (cast_unsigned w16 c.args.self.now.param)
param c = c.u16_bytes.ensures.value ∙ (λ i. bytes_of (c.order_in-order.ensures i) w16 (number c i))

spelled : (c : goal.After-bytes-2-1) → c.put_bytes.new.buffer ≡ cckd_bytes c.args.self.now
unfolding cckd_bytes
spelled c =
    let d = c.args.self.now in
    let one = c.put_bytes-at.ensures in
    let two = puts_join _ _ _ _ _ _ _ _ one c.put_bytes-at-2.ensures in
    let three = puts_join _ _ _ _ _ _ _ _ two (put_as _ _ _ _ _ _ (counts c) c.put_bytes-at-3.ensures) in
    let four = puts_join _ _ _ _ _ _ _ _ three (put_as _ _ _ _ _ _ c.u32_bytes.ensures.value c.put_bytes-at-4.ensures) in
    let five = puts_join _ _ _ _ _ _ _ _ four c.put_bytes-at-5.ensures in
    let six = puts_join _ _ _ _ _ _ _ _ five (put_as _ _ _ _ _ _ (param c) c.put_bytes-at-6.ensures) in
    let seven = puts_join _ _ _ _ _ _ _ _ six c.put_bytes.ensures in
    put_fills _ _ _ _ seven (search rules) ∙ behind_is_before d.version (
    (d.options ∷ []) ∷ count_bytes (order_by d.options) d ∷ bytes_of Little w32 d.cyls ∷ (d.null_fmt ∷ d.compress ∷ [])
    ∷ bytes_of (order_by d.options) w16 (cast_unsigned w16 d.param) ∷ d.reserved ∷ []
    )

pub returns-clause-value : goal.returns-clause-value
returns-clause-value c = spelled c

pub returns-clause-undone : goal.returns-clause-undone
returns-clause-undone c = λ front half.
    let d = c.args.self.now in
    let long : length c.encode_counts.result ≡ 36 = search rules in
    let counted : length (count_bytes (order_by d.options) d) ≡ 36 = subst (λ (bytes : List ℕ). length bytes ≡ 36) (counts c) long in
    let held : HasCounts c.order_in-order.result (count_bytes (order_by d.options) d) d = subst (λ (bytes : List ℕ). HasCounts c.order_in-order.result bytes d) (counts c) c.encode_counts.ensures.undone in
    let back : IsBack c.order_in-order.result w16 c.cast_unsigned.result = is_back c.order_in-order.result w16 c.cast_unsigned.result _ c.u16_bytes.ensures.value c.u16_bytes.ensures.undone in
    let signed : cast_signed w16 (cast_unsigned w16 d.param) ≡ d.param = to_z-of_z w16 d.param (search rules) in
    ap (λ (bytes : List ℕ). cckd_header_of (front ++ bytes)) (spelled c)
    ∙ cckd_back d front half (search rules) (search rules) counted
    (subst (λ (o : Order). HasCounts o (count_bytes (order_by d.options) d) d) c.order_in-order.ensures held)
    (is_back Little w32 d.cyls _ c.u32_bytes.ensures.value c.u32_bytes.ensures.undone)
    (subst (λ (o : Order). IsBack o w16 (cast_unsigned w16 d.param)) c.order_in-order.ensures (subst (λ (n : ℕ). IsBack c.order_in-order.result w16 n) (number c) back))
    signed
