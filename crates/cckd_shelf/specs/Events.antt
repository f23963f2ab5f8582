-- All that can happen to a shelf and a stage, and which name each slot has by then.
use Rattle.std.specs.Prelude.{ℕ, ◌==◌, bytes_eq, Bool, true, false, ◌&&◌, ◌||◌, not, if◌then◌else◌, List, [], ◌∷◌, ◌++◌, take, Option, Some, None, unwrap_or}
use Rattle.cckd_shelf.specs.Files.{overlaid}

-- what happened; of a list of events the newest comes first
pub data Event : Type 0 where
  -- a slot's file got these bytes at a position
  Written : ℕ → ℕ → List ℕ → Event
  -- such a write failed, and any part of it may have been made
  Torn : ℕ → ℕ → List ℕ → Event
  -- a slot's file was cut to a length
  Cut : ℕ → ℕ → Event
  -- such a cut failed, and may have been made
  HalfCut : ℕ → ℕ → Event
  -- what was done to a slot's file was made to stay
  Synced : ℕ → Event
  -- bytes were put out
  Put : List ℕ → Event
  -- a slot got the file of a name, which held these bytes then
  Bound : ℕ → List ℕ → List ℕ → Event

-- whether a slot's name is this one
abbrev pub is_name : Option (List ℕ) → List ℕ → Bool
is_name None name = false
is_name (Some other) name = bytes_eq other name

-- Which name a slot has. A slot loses its name when another one gets it.
abbrev pub name_of : List Event → ℕ → Option (List ℕ)
name_of [] slot = None
name_of (Written s position bytes ∷ earlier) slot = name_of earlier slot
name_of (Torn s position bytes ∷ earlier) slot = name_of earlier slot
name_of (Cut s len ∷ earlier) slot = name_of earlier slot
name_of (HalfCut s len ∷ earlier) slot = name_of earlier slot
name_of (Synced s ∷ earlier) slot = name_of earlier slot
name_of (Put bytes ∷ earlier) slot = name_of earlier slot
name_of (Bound s name bytes ∷ earlier) slot =
    if s == slot then Some name else (if is_name (name_of earlier slot) name then None else name_of earlier slot)

-- some slot got the file of this name before
abbrev pub was_bound : List Event → List ℕ → Bool
was_bound [] name = false
was_bound (Written slot position bytes ∷ earlier) name = was_bound earlier name
was_bound (Torn slot position bytes ∷ earlier) name = was_bound earlier name
was_bound (Cut slot len ∷ earlier) name = was_bound earlier name
was_bound (HalfCut slot len ∷ earlier) name = was_bound earlier name
was_bound (Synced slot ∷ earlier) name = was_bound earlier name
was_bound (Put bytes ∷ earlier) name = was_bound earlier name
was_bound (Bound slot other bytes ∷ earlier) name = bytes_eq other name || was_bound earlier name

-- what a file goes by: its name, or, in a slot without one, that slot
pub data Name : Type 0 where
  Named : List ℕ → Name
  Nameless : ℕ → Name

abbrev pub is_same : Name → Name → Bool
is_same (Named name) (Named other) = bytes_eq name other
is_same (Named name) (Nameless slot) = false
is_same (Nameless slot) (Named name) = false
is_same (Nameless slot) (Nameless other) = slot == other

-- what the file of a slot goes by, from the slot's name
abbrev pub named_by : ℕ → Option (List ℕ) → Name
named_by slot None = Nameless slot
named_by slot (Some name) = Named name

-- what the file of a slot goes by
abbrev pub goes_by : List Event → ℕ → Name
goes_by events slot = named_by slot (name_of events slot)

-- what is done to a slot is done to this file
abbrev pub is_about : List Event → ℕ → Name → Bool
is_about events slot name = is_same (goes_by events slot) name

-- What a file begins with at a bind. Only the first bind of a name brings its bytes in. A slot that loses its
-- name is empty.
abbrev pub begun : List Event → List ℕ → List ℕ → Name → Option (List ℕ)
begun earlier name bytes (Named other) = if bytes_eq name other && not (was_bound earlier other) then Some bytes else None
begun earlier name bytes (Nameless slot) = if is_name (name_of earlier slot) name then Some [] else None

-- what a file holds now, with every operation made
abbrev pub held_now : List Event → Name → List ℕ
held_now [] name = []
held_now (Written slot position bytes ∷ earlier) name = if is_about earlier slot name then overlaid (held_now earlier name) position bytes else held_now earlier name
held_now (Torn slot position bytes ∷ earlier) name = if is_about earlier slot name then overlaid (held_now earlier name) position bytes else held_now earlier name
held_now (Cut slot len ∷ earlier) name = if is_about earlier slot name then take len (held_now earlier name) else held_now earlier name
held_now (HalfCut slot len ∷ earlier) name = if is_about earlier slot name then take len (held_now earlier name) else held_now earlier name
held_now (Synced slot ∷ earlier) name = held_now earlier name
held_now (Put bytes ∷ earlier) name = held_now earlier name
held_now (Bound slot other bytes ∷ earlier) name = unwrap_or (begun earlier other bytes name) (held_now earlier name)

-- the file in a slot now
abbrev pub file_now : List Event → ℕ → List ℕ
file_now events slot = held_now events (goes_by events slot)

-- No operation has failed half way. After one that did, what the files hold isn't told any more.
abbrev pub is_sure : List Event → Bool
is_sure [] = true
is_sure (Written slot position bytes ∷ earlier) = is_sure earlier
is_sure (Torn slot position bytes ∷ earlier) = false
is_sure (Cut slot len ∷ earlier) = is_sure earlier
is_sure (HalfCut slot len ∷ earlier) = false
is_sure (Synced slot ∷ earlier) = is_sure earlier
is_sure (Put bytes ∷ earlier) = is_sure earlier
is_sure (Bound slot name bytes ∷ earlier) = is_sure earlier

-- the operations: the events but for the binds, the oldest first
abbrev pub ops_of : List Event → List Event
ops_of [] = []
ops_of (Written slot position bytes ∷ earlier) = ops_of earlier ++ Written slot position bytes ∷ []
ops_of (Torn slot position bytes ∷ earlier) = ops_of earlier ++ Torn slot position bytes ∷ []
ops_of (Cut slot len ∷ earlier) = ops_of earlier ++ Cut slot len ∷ []
ops_of (HalfCut slot len ∷ earlier) = ops_of earlier ++ HalfCut slot len ∷ []
ops_of (Synced slot ∷ earlier) = ops_of earlier ++ Synced slot ∷ []
ops_of (Put bytes ∷ earlier) = ops_of earlier ++ Put bytes ∷ []
ops_of (Bound slot name bytes ∷ earlier) = ops_of earlier

-- all bytes that were put
abbrev pub output_of : List Event → List ℕ
output_of [] = []
output_of (Written slot position bytes ∷ earlier) = output_of earlier
output_of (Torn slot position bytes ∷ earlier) = output_of earlier
output_of (Cut slot len ∷ earlier) = output_of earlier
output_of (HalfCut slot len ∷ earlier) = output_of earlier
output_of (Synced slot ∷ earlier) = output_of earlier
output_of (Put bytes ∷ earlier) = output_of earlier ++ bytes
output_of (Bound slot name bytes ∷ earlier) = output_of earlier
