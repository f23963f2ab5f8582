use Rattle.std.proofs.Common.{ap, ◌∙◌}
use Rattle.cckd_frames.specs.Frames.{Kept, keys, frames}
use Rattle.cckd_frames.proofs.CallerLemmas.{keys_written, keys_marked, frames_written, frames_marked}
use Rattle.cckd_frames.proofs.tests.write_and_mark.Goals as goal

pub returns-clause-keys : goal.returns-clause-keys
returns-clause-keys c = ap (λ (k : Kept). keys k.entries) c.mark.ensures.marked ∙ (keys_marked _ _ _ ∙ keys_written _ _ _)

pub returns-clause-frames : goal.returns-clause-frames
returns-clause-frames c = ap (λ (k : Kept). frames k.entries) c.mark.ensures.marked ∙ (frames_marked _ _ _ ∙ frames_written _ _ _)
