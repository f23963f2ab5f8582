use Rattle.std.proofs.Common.{refl}
use Rattle.cckd_frames.proofs.Calls.{moved, seen, kept_here}
use Rattle.cckd_frames.proofs.Writes.{sound_emptied}
use Rattle.cckd_frames.proofs.frames.Frames.forget_all.Goals as goal

pub invariant_of-self : goal.invariant_of-self
invariant_of-self c =
    let i = c.self.inside in let s = c.self.invariant.0 in (
      sound_emptied i.count i.frame_len i.nodes.words c.clear.new.nodes.words i.bytes.bytes s.some_frames s.most_frames s.some_room s.most_room s.fitting c.clear.ensures.table c.clear.ensures.emptied,
      moved i.count i.frame_len c.clear.ensures.first c.self.invariant.1,
    )

pub returns-clause-kept : goal.returns-clause-kept
returns-clause-kept c =
    let i = c.self.inside in let ws = c.clear.new.nodes.words in
    kept_here i.count i.frame_len 0 ws i.bytes.bytes (invariant_of-self c).0 (seen i.count i.frame_len 0 ws i.bytes.bytes) refl
