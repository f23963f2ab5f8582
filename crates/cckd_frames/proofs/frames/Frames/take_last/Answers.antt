use Rattle.std.proofs.Common.{◌≢◌, ◌<◌, ◌≤◌, ◌+◌, ◌*◌, ℕ, List, length, min, IsNone, refl, sym, ap, ◌∙◌, subst, arith}
use Rattle.cckd_frames.specs.Frames.{Kept, entry_of}
use Rattle.cckd_frames.specs.Nodes.{word}
use Rattle.cckd_frames.specs.Store.{filled}
use Rattle.cckd_frames.specs.Table.{IsSound, IsTable, bucket_of, taken, chosen, cleared}
use Rattle.cckd_frames.proofs.ByteLemmas.{length-filled}
use Rattle.cckd_frames.proofs.Calls.{reached, seen, seen_reached, seen_taken, kept_here, seen_used}
use Rattle.cckd_frames.proofs.States.{last_used, now_free, sound_taken, member_at_least, members_at_most}
use Rattle.cckd_frames.proofs.Writes.{no_such_key, sound_reached}
use Rattle.cckd_frames.proofs.frames.Frames.take_last.Goals as goal

pub choose-frame-requires-clause-member : goal.choose-frame-requires-clause-member
choose-frame-requires-clause-member c =
    let i = c.self.inside in let end = c.min-used.result * i.frame_len in let cs = c.reach.new.self.bytes in
    let s = sound_reached i.count i.frame_len i.used i.nodes.words i.bytes.bytes c.self.invariant.0 end cs c.reach.ensures.filled in let some = s.some_frames in
    λ full. (member_at_least i.count (word i.nodes.words 1 (2 * i.count)) i.nodes.words (λ x. x < i.used) (omega arith) s.index (last_used i.count i.frame_len i.used i.nodes.words cs s (omega arith)))

pub enter-requires-clause-frame : goal.enter-requires-clause-frame
enter-requires-clause-frame c =
    let i = c.self.inside in let end = c.min-used.result * i.frame_len in let cs = c.reach.new.self.bytes in
    let s = sound_reached i.count i.frame_len i.used i.nodes.words i.bytes.bytes c.self.invariant.0 end cs c.reach.ensures.filled in
    let at = c.choose-frame.ensures.chosen in
    subst (λ x. x < i.count) (sym at) (now_free i.count i.frame_len i.used i.nodes.words cs s).number

pub enter-requires-clause-members : goal.enter-requires-clause-members
enter-requires-clause-members c =
    let i = c.self.inside in let end = c.min-used.result * i.frame_len in let cs = c.reach.new.self.bytes in
    let s = sound_reached i.count i.frame_len i.used i.nodes.words i.bytes.bytes c.self.invariant.0 end cs c.reach.ensures.filled in let some = s.some_frames in
    let left = c.choose-frame.ensures.cleared in
    let x = chosen i.count i.used i.nodes.words in
    subst (λ (ws : List ℕ). word ws 5 (bucket_of i.count c.args.key) ≤ i.count) (sym left)
    (members_at_most i.count c.args.key (cleared i.count i.used i.nodes.words) (λ y. (y < min i.count (i.used + 1)) × y ≢ x) (omega arith) (now_free i.count i.frame_len i.used i.nodes.words cs s).part.index)

pub invariant_of-self : goal.invariant_of-self
invariant_of-self c =
    let i = c.self.inside in let end = c.min-used.result * i.frame_len in let cs = c.reach.new.self.bytes in
    let s = sound_reached i.count i.frame_len i.used i.nodes.words i.bytes.bytes c.self.invariant.0 end cs c.reach.ensures.filled in
    let is = seen_reached i.count i.frame_len i.used i.nodes.words i.bytes.bytes c.self.invariant.0 end cs c.reach.ensures.filled c.args.self.now c.self.view_is in
    let x = c.choose-frame.result in
    let at = c.choose-frame.ensures.chosen in
    let left = c.choose-frame.ensures.cleared in
    let new = c.enter.ensures.taken ∙ ap (λ (l : List ℕ). taken i.count x c.args.key l) left in
    let back = new in
    let made : min i.count (i.used + 1) * i.frame_len ≤ length cs = subst (λ (l : List ℕ). min i.count (i.used + 1) * i.frame_len ≤ length l) (sym c.reach.ensures.filled)
    (subst (λ n. n * i.frame_len ≤ length (filled end i.bytes.bytes)) c.min-used.ensures (length-filled end i.bytes.bytes)) in
    let fresh = no_such_key i.count i.frame_len i.used i.nodes.words cs s c.args.key (subst (λ (k : Kept). IsNone (entry_of c.args.key k.entries)) (sym is) c.requires.absent) in
    let whole = back ∙ ap (λ y. taken i.count y c.args.key (cleared i.count i.used i.nodes.words)) at in (
      subst (λ (l : List ℕ). IsSound i.count i.frame_len c.min-used.result l cs) (sym whole)
          (subst (λ n. IsSound i.count i.frame_len n (taken i.count (chosen i.count i.used i.nodes.words) c.args.key (cleared i.count i.used i.nodes.words)) cs) (sym c.min-used.ensures)
          (sound_taken i.count i.frame_len i.used i.nodes.words cs s c.args.key fresh
          (subst (λ (l : List ℕ). IsTable i.count l) (new ∙ ap (λ y. taken i.count y c.args.key (cleared i.count i.used i.nodes.words)) at) c.enter.ensures.table) made)),
      reached i.count i.frame_len (c.enter.ensures.first ∙ c.choose-frame.ensures.first) c.reach.ensures.place.0 c.reach.ensures.place.1 c.self.invariant.1,
    )

pub returns-clause-taken : goal.returns-clause-taken
returns-clause-taken c =
    let i = c.self.inside in let end = c.min-used.result * i.frame_len in let cs = c.reach.new.self.bytes in
    let s = sound_reached i.count i.frame_len i.used i.nodes.words i.bytes.bytes c.self.invariant.0 end cs c.reach.ensures.filled in
    let is = seen_reached i.count i.frame_len i.used i.nodes.words i.bytes.bytes c.self.invariant.0 end cs c.reach.ensures.filled c.args.self.now c.self.view_is in
    let x = c.choose-frame.result in
    let at = c.choose-frame.ensures.chosen in
    let left = c.choose-frame.ensures.cleared in
    let new = c.enter.ensures.taken ∙ ap (λ (l : List ℕ). taken i.count x c.args.key l) left in
    let back = new in
    seen_taken i.count i.frame_len i.used i.nodes.words cs s c.args.self.now is c.args.key x c.min-used.result c.enter.new.nodes.words at c.min-used.ensures back c.requires.absent

pub returns-clause-kept : goal.returns-clause-kept
returns-clause-kept c =
    let i = c.self.inside in let end = c.min-used.result * i.frame_len in let cs = c.reach.new.self.bytes in
    let s = sound_reached i.count i.frame_len i.used i.nodes.words i.bytes.bytes c.self.invariant.0 end cs c.reach.ensures.filled in let ws = c.enter.new.nodes.words in let n = c.min-used.result in
    kept_here i.count i.frame_len n ws cs (invariant_of-self c).0 (seen i.count i.frame_len n ws cs) refl

pub returns-clause-used : goal.returns-clause-used
returns-clause-used c =
    let i = c.self.inside in let end = c.min-used.result * i.frame_len in let cs = c.reach.new.self.bytes in
    let s = sound_reached i.count i.frame_len i.used i.nodes.words i.bytes.bytes c.self.invariant.0 end cs c.reach.ensures.filled in let x = c.choose-frame.result in let ws = c.enter.new.nodes.words in let n = c.min-used.result in
    let at = c.choose-frame.ensures.chosen in
    let h = subst (λ y. y < min i.count (i.used + 1)) (sym at) (now_free i.count i.frame_len i.used i.nodes.words cs s).taken_up in
    seen_used i.count i.frame_len n ws cs (invariant_of-self c).0 x (subst (λ k. x < k) (sym c.min-used.ensures) h)
