use Rattle.std.proofs.Common.{◌<◌, ◌≤◌, ◌*◌, ◌+◌, ℕ, List, refl, sym, ap, ◌∙◌, subst, arith}
use Rattle.std.proofs.lemmas.List.{get_or-replicate}
use Rattle.std.proofs.Math.Facts.{to_z_pos}
use Rattle.std.proofs.Math.IntN.{nat_abs}
use mir.Syntax.{w64}
use denote.RawPtr.{Ptr, ◌+ₚ◌}
use Rattle.cckd_frames.specs.Nodes.{word}
use Rattle.cckd_frames.proofs.Calls.{seen, kept_here}
use Rattle.cckd_frames.proofs.Writes.{sound_emptied}
use Rattle.cckd_frames.proofs.frames.Frames.new.Goals as goal

pub invariant_of-result : goal.invariant_of-result
invariant_of-result c =
    let ws = c.new-nodes.result.words in let bs = c.new-bytes.result.bytes in
    let block = c.in_ok-first.ensures in
    let first = c.clear.ensures.first ∙ c.new-nodes.ensures.first in
    let few : 2 * c.args.count + 1 < 9223372036854775808 = (let most = c.requires.count.1 in omega arith) in
    let far = ap nat_abs (to_z_pos w64 {n = 2 * c.args.count + 1} few) in
    let back = c.back_of-back.ensures in (
      sound_emptied c.args.count c.args.frame_len ws c.clear.new.nodes.words bs c.requires.count.0 c.requires.count.1 c.requires.frame_len.0 c.requires.frame_len.1
          (λ x h. subst (λ (l : List ℕ). word l 6 x ≤ c.args.frame_len) (sym c.new-nodes.ensures.words) (rw (get_or-replicate {A = ℕ} (9 * (2 * c.args.count + 1)) (9 * x + 6) 0 0 (omega arith)) (omega arith)))
          c.clear.ensures.table c.clear.ensures.emptied,
      record {
        deed_at = block.7 ∙ sym first;
        front = block.8;
        back = block.9 ∙ back;
        from = block.10;
        behind = c.new-bytes.ensures.place.0 ∙ c.offset.ensures.value ∙ ap (λ n. c.in_ok-first.first +ₚ n * 56) far ∙ ap (λ (p : Ptr). p +ₚ (2 * c.args.count + 1) * 56) (sym first);
        roomy = c.new-bytes.ensures.place.1 ∙ block.5 ∙ ap (λ n. n * 56) back;
      },
    )

pub returns-clause-kept : goal.returns-clause-kept
returns-clause-kept c =
    let ws = c.clear.new.nodes.words in let bs = c.new-bytes.result.bytes in
    kept_here c.args.count c.args.frame_len 0 ws bs (invariant_of-result c).0 (seen c.args.count c.args.frame_len 0 ws bs) refl
