use Rattle.std.proofs.Common.{Some, slice_get, sym, ap, ◌∙◌}
use Rattle.cckd_frames.specs.Frames.{Kept, keys}
use Rattle.cckd_frames.specs.Nodes.{word}
use Rattle.cckd_frames.proofs.Calls.{key_here, no_key_here}
use Rattle.cckd_frames.proofs.frames.Frames.key_at.Goals as goal

pub returns-then-place-self : goal.returns-then-place-self
returns-then-place-self c =
    let i = c.self.inside in let place = c.args.place in
    let key = c.key_of.ensures ∙ ap (λ x. word i.nodes.words 4 x) c.frame_at-frame.ensures.value in
    ap (λ k. Some k) key ∙ (sym (key_here i.count i.frame_len i.used i.nodes.words i.bytes.bytes c.self.invariant.0 place c.if-place-self.true) ∙ ap (λ (k : Kept). slice_get (keys k.entries) place) c.self.view_is)

pub returns-else-place-self : goal.returns-else-place-self
returns-else-place-self c =
    let i = c.self.inside in let place = c.args.place in
    sym (no_key_here i.count i.frame_len i.used i.nodes.words i.bytes.bytes c.self.invariant.0 place c.if-place-self.false) ∙ ap (λ (k : Kept). slice_get (keys k.entries) place) c.self.view_is
