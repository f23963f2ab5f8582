use Rattle.std.proofs.Common.{◌≡◌, ◌∙◌, ap, sym, ℕ, List, slice_index, rules, arith}
use Rattle.std.specs.Int.{Width, w16, w32, cast_signed, cast_unsigned}
use Rattle.std.proofs.lemmas.Int.{of_z-to_z}
use Rattle.cckd_base.specs.declared.order.Order.{Order}
use Rattle.cckd_base.specs.Numbers.{number_at, bytes_of, bytes_at}
use Rattle.cckd_image.specs.Image.{cckd_bytes, count_bytes}
use Rattle.cckd_image.proofs.PartLemmas.{joined, joined_byte}
use Rattle.cckd_image.proofs.read.cckd_in.Goals as goal

-- a number that was read in the order that was read
in_order : (w : Width) (headers : List ℕ) (place n : ℕ) (o p : Order) → n ≡ number_at o w headers place → o ≡ p → n ≡ number_at p w headers place
in_order w headers place n o p e f = e ∙ ap (λ (x : Order). number_at x w headers place) f

pub returns-clause-value : goal.returns-clause-value
returns-clause-value c =
    let at = in_order w32 c.args.headers.now in
    let e = c.order_in-order.ensures in
    λ i. record {
      version = c.part.ensures i;
      options = slice_index c.args.headers.now 515;
      words = at 516 _ _ _ c.number.ensures.value e i;
      entries = at 520 _ _ _ c.number-2.ensures.value e i;
      size = at 524 _ _ _ c.number-3.ensures.value e i;
      used = at 528 _ _ _ c.number-4.ensures.value e i;
      free = at 532 _ _ _ c.number-5.ensures.value e i;
      free_total = at 536 _ _ _ c.number-6.ensures.value e i;
      free_largest = at 540 _ _ _ c.number-7.ensures.value e i;
      free_number = at 544 _ _ _ c.number-8.ensures.value e i;
      free_imbed = at 548 _ _ _ c.number-9.ensures.value e i;
      cyls = c.number-10.ensures.value i;
      null_fmt = slice_index c.args.headers.now 556;
      compress = slice_index c.args.headers.now 557;
      param = (
          ap (cast_signed w16) (ap (cast_unsigned w16) c.cast_signed.ensures ∙ of_z-to_z w16 c.small_number.result (search rules))
          ∙ ap (cast_signed w16) (in_order w16 c.args.headers.now 558 _ _ _ c.small_number.ensures.value e)
          ) i;
      reserved = c.part-2.ensures i;
    }

pub returns-clause-undone : goal.returns-clause-undone
unfolding cckd_bytes count_bytes
returns-clause-undone c =
    let headers = c.args.headers.now in
    let e = c.order_in-order.ensures in
    let bound = of_z-to_z w16 c.small_number.result (search rules) in
    let once = ap (cast_unsigned w16) c.cast_signed.ensures ∙ bound in
    let twice = ap (λ (n : ℕ). cast_unsigned w16 (cast_signed w16 n)) once ∙ bound in
    let param = (λ i. bytes_of (sym e i) w16 (twice i)) ∙ c.small_number.ensures.undone in
    let own = λ (place n : ℕ) (f : bytes_of c.order_in-order.result w32 n ≡ bytes_at headers place 4).
    ap (λ (o : Order). bytes_of o w32 n) (sym e) ∙ f in
    let counts =
    joined headers 516 4 32 (own 516 _ c.number.ensures.undone) (
    joined headers 520 4 28 (own 520 _ c.number-2.ensures.undone) (
    joined headers 524 4 24 (own 524 _ c.number-3.ensures.undone) (
    joined headers 528 4 20 (own 528 _ c.number-4.ensures.undone) (
    joined headers 532 4 16 (own 532 _ c.number-5.ensures.undone) (
    joined headers 536 4 12 (own 536 _ c.number-6.ensures.undone) (
    joined headers 540 4 8 (own 540 _ c.number-7.ensures.undone) (
    joined headers 544 4 4 (own 544 _ c.number-8.ensures.undone) (own 548 _ c.number-9.ensures.undone)))))))) in
    joined headers 512 3 509 c.part.ensures (
    joined_byte headers 515 508 (omega arith) (
    joined headers 516 36 472 counts (
    joined headers 552 4 468 c.number-10.ensures.undone (
    joined_byte headers 556 467 (omega arith) (
    joined_byte headers 557 466 (omega arith) (
    joined headers 558 2 464 param c.part-2.ensures))))))
