-- The operations of a stage in memory are events.
use Rattle.std.specs.Prelude.{ℕ, Bool, true, false, List, [], ◌∷◌}
use Rattle.cckd_memory.specs.declared.op.Op.{Op}
use Rattle.cckd_memory.specs.declared.op.Op.TheVariants as op
use Rattle.cckd_shelf.specs.Events.{Event, Written, Torn, Cut, HalfCut, Synced, Put, Bound}

-- the event that an operation is
abbrev pub event_of : Op → Event
event_of (op.Write slot position bytes) = Written slot position bytes
event_of (op.Torn slot position bytes) = Torn slot position bytes
event_of (op.Cut slot len) = Cut slot len
event_of (op.HalfCut slot len) = HalfCut slot len
event_of (op.Sync slot) = Synced slot
event_of (op.Put bytes) = Put bytes

-- the bytes that an operation puts
abbrev pub put_by : Op → List ℕ
put_by (op.Write slot position bytes) = []
put_by (op.Torn slot position bytes) = []
put_by (op.Cut slot len) = []
put_by (op.HalfCut slot len) = []
put_by (op.Sync slot) = []
put_by (op.Put bytes) = bytes

-- a write that failed half way, or was made
abbrev pub write_op : Bool → ℕ → ℕ → List ℕ → Op
write_op true slot position bytes = op.Torn slot position bytes
write_op false slot position bytes = op.Write slot position bytes

-- a cut that failed half way, or was made
abbrev pub cut_op : Bool → ℕ → ℕ → Op
cut_op true slot len = op.HalfCut slot len
cut_op false slot len = op.Cut slot len

-- the events of these operations, the oldest first, behind earlier ones
abbrev pub events_onto : List Op → List Event → List Event
events_onto [] earlier = earlier
events_onto (o ∷ rest) earlier = events_onto rest (event_of o ∷ earlier)

-- the events of a slot that got a file with these bytes, and of these operations, the oldest first
abbrev pub events_from : ℕ → List ℕ → List Op → List Event
events_from slot start ops = events_onto ops (Bound slot [] start ∷ [])
