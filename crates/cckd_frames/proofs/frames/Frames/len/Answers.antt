use Rattle.std.proofs.Common.{length, sym, ap, ◌∙◌}
use Rattle.cckd_frames.specs.Frames.{Kept}
use Rattle.cckd_frames.proofs.Calls.{kept_here}
use Rattle.cckd_frames.proofs.Writes.{length-entries}
use Rattle.cckd_frames.proofs.frames.Frames.len.Goals as goal

pub returns-clause-len : goal.returns-clause-len
returns-clause-len c =
    let i = c.self.inside in sym (length-entries i.count i.frame_len i.used i.nodes.words i.bytes.bytes c.self.invariant.0) ∙ ap (λ (k : Kept). length k.entries) c.self.view_is

pub returns-clause-kept : goal.returns-clause-kept
returns-clause-kept c = let i = c.self.inside in kept_here i.count i.frame_len i.used i.nodes.words i.bytes.bytes c.self.invariant.0 c.args.self.now c.self.view_is
