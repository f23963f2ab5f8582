-- The layered disk's answer to a read.
use Rattle.std.specs.Prelude.{ℕ, List, length, Option, Some, None}
use Rattle.cckd_base.specs.declared.fault.TrackFault.{TrackFault}
use Rattle.cckd_base.specs.declared.reply.Reply.{Reply}
use Rattle.cckd_base.specs.declared.reply.Reply.TheVariants as reply
use Rattle.cckd_base.specs.declared.reply.Refusal.TheVariants as refusal

-- the track's length, or the fault that the track check finds
abbrev pub reply_by_fault : List ℕ → Option TrackFault → Reply
reply_by_fault bytes None = reply.Track (length bytes)
reply_by_fault bytes (Some fault) = reply.Refused (refusal.Track fault)
