use Rattle.std.proofs.Common.{◌≡◌, ◌∙◌, ℕ, List, [], ◌∷◌, subst, sym, rules}
use Rattle.std.specs.Int.{w32}
use Rattle.cckd_base.specs.Numbers.{bytes_of}
use Rattle.cckd_base.proofs.PutLemmas.{puts_join, put_as, put_fills}
use Rattle.cckd_image.specs.Image.{count_bytes, HasCounts}
use Rattle.cckd_image.proofs.BackLemmas.{is_back, counts_back}
use Rattle.cckd_image.proofs.PartLemmas.{behind_is_before}
use Rattle.cckd_image.proofs.header.CckdHeader.encode_counts.Goals as goal

spelled : (c : goal.After-bytes-2-1) → c.put_bytes.new.buffer ≡ count_bytes c.args.order c.args.self.now
unfolding count_bytes
spelled c =
    let d = c.args.self.now in
    let bytes = bytes_of c.args.order w32 in
    let one = put_as _ _ _ _ _ _ c.u32_bytes.ensures.value c.put_bytes-at.ensures in
    let two = puts_join _ _ _ _ _ _ _ _ one (put_as _ _ _ _ _ _ c.u32_bytes-2.ensures.value c.put_bytes-at-2.ensures) in
    let three = puts_join _ _ _ _ _ _ _ _ two (put_as _ _ _ _ _ _ c.u32_bytes-3.ensures.value c.put_bytes-at-3.ensures) in
    let four = puts_join _ _ _ _ _ _ _ _ three (put_as _ _ _ _ _ _ c.u32_bytes-4.ensures.value c.put_bytes-at-4.ensures) in
    let five = puts_join _ _ _ _ _ _ _ _ four (put_as _ _ _ _ _ _ c.u32_bytes-5.ensures.value c.put_bytes-at-5.ensures) in
    let six = puts_join _ _ _ _ _ _ _ _ five (put_as _ _ _ _ _ _ c.u32_bytes-6.ensures.value c.put_bytes-at-6.ensures) in
    let seven = puts_join _ _ _ _ _ _ _ _ six (put_as _ _ _ _ _ _ c.u32_bytes-7.ensures.value c.put_bytes-at-7.ensures) in
    let eight = puts_join _ _ _ _ _ _ _ _ seven (put_as _ _ _ _ _ _ c.u32_bytes-8.ensures.value c.put_bytes-at-8.ensures) in
    let nine = puts_join _ _ _ _ _ _ _ _ eight (put_as _ _ _ _ _ _ c.u32_bytes-9.ensures.value c.put_bytes.ensures) in
    put_fills _ _ _ _ nine (search rules) ∙ behind_is_before (bytes d.words) (
    bytes d.entries ∷ bytes d.size ∷ bytes d.used ∷ bytes d.free ∷ bytes d.free_total ∷ bytes d.free_largest ∷ bytes d.free_number
    ∷ bytes d.free_imbed ∷ []
    )

pub returns-clause-value : goal.returns-clause-value
returns-clause-value c = spelled c

pub returns-clause-undone : goal.returns-clause-undone
returns-clause-undone c =
    let d = c.args.self.now in
    let o = c.args.order in
    subst (λ (bytes : List ℕ). HasCounts o bytes d) (sym (spelled c)) (counts_back o d
    (is_back o w32 d.words _ c.u32_bytes.ensures.value c.u32_bytes.ensures.undone)
    (is_back o w32 d.entries _ c.u32_bytes-2.ensures.value c.u32_bytes-2.ensures.undone)
    (is_back o w32 d.size _ c.u32_bytes-3.ensures.value c.u32_bytes-3.ensures.undone)
    (is_back o w32 d.used _ c.u32_bytes-4.ensures.value c.u32_bytes-4.ensures.undone)
    (is_back o w32 d.free _ c.u32_bytes-5.ensures.value c.u32_bytes-5.ensures.undone)
    (is_back o w32 d.free_total _ c.u32_bytes-6.ensures.value c.u32_bytes-6.ensures.undone)
    (is_back o w32 d.free_largest _ c.u32_bytes-7.ensures.value c.u32_bytes-7.ensures.undone)
    (is_back o w32 d.free_number _ c.u32_bytes-8.ensures.value c.u32_bytes-8.ensures.undone)
    (is_back o w32 d.free_imbed _ c.u32_bytes-9.ensures.value c.u32_bytes-9.ensures.undone))
