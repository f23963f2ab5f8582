-- The outcome of a stop that choices ask for. The first choice is for a slot's first write or cut since its last sync,
-- the next one for the next. Past their end each is 0.
use Rattle.std.specs.Prelude.{ℕ, ◌+◌, ◌-◌, ◌%◌, ◌==◌, nat_le, min, if◌then◌else◌, List, [], ◌∷◌, length, take, replicate, slice_index_or}
use Rattle.cckd_memory.specs.declared.op.Op.{Op}
use Rattle.cckd_memory.specs.Ops.{events_from}
use Rattle.cckd_shelf.specs.Files.{overlaid}
use Rattle.cckd_shelf.specs.Events.{Event, Written, Torn, Cut, HalfCut, Synced, Put, Bound}

-- What is left of a write: 0 leaves it out. Another byte makes it where it lies inside a sector; elsewhere the byte
-- fills its range and the gap before it.
abbrev pub write_by : ℕ → ℕ → List ℕ → List ℕ → List ℕ
write_by choice position bytes file =
    if choice == 0 then file
    else (if nat_le (position % 512 + length bytes) 512 then overlaid file position bytes
    else overlaid file (min (length file) position) (replicate (position + length bytes - min (length file) position) choice))

-- of a cut: 0 leaves it out, and another byte makes it
abbrev pub cut_by : ℕ → ℕ → List ℕ → List ℕ
cut_by choice len file = if choice == 0 then file else take len file

-- how many choices were used for a slot after an event, where it were n before it
abbrev pub used_after : ℕ → Event → ℕ → ℕ
used_after slot (Written s position bytes) n = if s == slot then n + 1 else n
used_after slot (Torn s position bytes) n = if s == slot then n + 1 else n
used_after slot (Cut s len) n = if s == slot then n + 1 else n
used_after slot (HalfCut s len) n = if s == slot then n + 1 else n
used_after slot (Synced s) n = if s == slot then 0 else n
used_after slot (Put bytes) n = n
used_after slot (Bound s name bytes) n = n

-- what a slot holds after an event: what failed half way goes by the choice
abbrev pub held_after : ℕ → ℕ → Event → List ℕ → List ℕ
held_after choice slot (Written s position bytes) held = if s == slot then overlaid held position bytes else held
held_after choice slot (Torn s position bytes) held = if s == slot then write_by choice position bytes held else held
held_after choice slot (Cut s len) held = if s == slot then take len held else held
held_after choice slot (HalfCut s len) held = if s == slot then cut_by choice len held else held
held_after choice slot (Synced s) held = held
held_after choice slot (Put bytes) held = held
held_after choice slot (Bound s name bytes) held = held

-- what a stop leaves after it: each write and cut goes by the choice, and a sync keeps what was held
abbrev pub left_after : ℕ → ℕ → Event → List ℕ → List ℕ → List ℕ
left_after choice slot (Written s position bytes) held left = if s == slot then write_by choice position bytes left else left
left_after choice slot (Torn s position bytes) held left = if s == slot then write_by choice position bytes left else left
left_after choice slot (Cut s len) held left = if s == slot then cut_by choice len left else left
left_after choice slot (HalfCut s len) held left = if s == slot then cut_by choice len left else left
left_after choice slot (Synced s) held left = if s == slot then held else left
left_after choice slot (Put bytes) held left = left
left_after choice slot (Bound s name bytes) held left = left

-- how many choices were used for a slot since its last sync
abbrev pub used : ℕ → List Event → ℕ
used slot [] = 0
used slot (event ∷ earlier) = used_after slot event (used slot earlier)

-- the choice for what happens next
abbrev pub next_choice : List ℕ → ℕ → List Event → ℕ
next_choice choices slot events = slice_index_or choices (used slot events) 0

-- what a slot holds that began with a file
abbrev pub held_by : List ℕ → ℕ → List ℕ → List Event → List ℕ
held_by choices slot start [] = start
held_by choices slot start (event ∷ earlier) = held_after (next_choice choices slot earlier) slot event (held_by choices slot start earlier)

-- what a stop leaves of it
abbrev pub left_by : List ℕ → ℕ → List ℕ → List Event → List ℕ
left_by choices slot start [] = start
left_by choices slot start (event ∷ earlier) =
    left_after (next_choice choices slot earlier) slot event (held_by choices slot start earlier) (left_by choices slot start earlier)

-- the outcome that the choices ask for after these operations, the oldest first
abbrev pub chosen : List ℕ → ℕ → List ℕ → List Op → List ℕ
chosen choices slot start ops = left_by choices slot start (events_from slot start ops)
