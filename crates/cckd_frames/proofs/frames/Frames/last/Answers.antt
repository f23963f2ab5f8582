use Rattle.std.proofs.Common.{◌≡◌, ◌-◌, Some, length, refl, slice_get, sym, ap, ◌∙◌, subst, true≢false}
use Rattle.cckd_frames.specs.Frames.{Kept, keys}
use Rattle.cckd_frames.proofs.Calls.{last_key, no_last_key}
use Rattle.cckd_frames.proofs.Writes.{length-entries}
use Rattle.cckd_frames.proofs.frames.Frames.last.Goals as goal

pub returns-then-self-clause-full : goal.returns-then-self-clause-full
returns-then-self-clause-full c =
    let i = c.self.inside in
    (λ _. subst (λ (k : Kept). length k.entries ≡ k.count) c.self.view_is (length-entries i.count i.frame_len i.used i.nodes.words i.bytes.bytes c.self.invariant.0 ∙ c.if-self.true), λ _. refl)

pub returns-then-self-clause-key : goal.returns-then-self-clause-key
returns-then-self-clause-key c =
    let i = c.self.inside in
    ap (λ k. Some k) c.last_key.ensures ∙ (sym (last_key i.count i.frame_len i.used i.nodes.words i.bytes.bytes c.self.invariant.0 c.if-self.true) ∙ ap (λ (k : Kept). slice_get (keys k.entries) (k.count - 1)) c.self.view_is)

pub returns-else-self-clause-full : goal.returns-else-self-clause-full
returns-else-self-clause-full c =
    let i = c.self.inside in
    (λ e. absurd (true≢false (sym e)), λ e. absurd (c.if-self.false (sym (length-entries i.count i.frame_len i.used i.nodes.words i.bytes.bytes c.self.invariant.0) ∙ subst (λ (k : Kept). length k.entries ≡ k.count) (sym c.self.view_is) e)))

pub returns-else-self-clause-key : goal.returns-else-self-clause-key
returns-else-self-clause-key c =
    let i = c.self.inside in
    sym (no_last_key i.count i.frame_len i.used i.nodes.words i.bytes.bytes c.self.invariant.0 c.if-self.false) ∙ ap (λ (k : Kept). slice_get (keys k.entries) (k.count - 1)) c.self.view_is
