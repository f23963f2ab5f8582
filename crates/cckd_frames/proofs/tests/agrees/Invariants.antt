use Rattle.std.proofs.Common.{◌≡◌}
use Rattle.cckd_frames.proofs.tests.agrees.Given as goal

abbrev pub invariant-loop-call : goal.invariant-loop-call
invariant-loop-call l = l.frames.frame_len ≡ 9
