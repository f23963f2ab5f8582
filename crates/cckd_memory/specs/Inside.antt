-- How a stage in memory keeps what it tells.
use Rattle.std.specs.Prelude.{ℕ, ◌≡◌, ◌+◌, ◌<◌, bytes_eq, true, if◌then◌else◌, List, [], ◌∷◌, ◌++◌, length, reverse, drop, slice_index_or, slice_set, Option, Some, None, unwrap_or}
use Rattle.std.specs.List.{position_from}
use Rattle.cckd_memory.specs.declared.bytes.FileIn.{FileIn}
use Rattle.cckd_memory.specs.declared.op.Op.{Op}
use Rattle.cckd_memory.specs.declared.history.Note.{Note}
use Rattle.cckd_memory.specs.declared.history.Note.TheVariants as note
use Rattle.cckd_memory.specs.declared.places.Place.{Place}
use Rattle.cckd_memory.specs.Files.{file_named}
use Rattle.cckd_memory.specs.Ops.{event_of}
use Rattle.cckd_shelf.specs.Events.{Event, Bound, Named, Nameless, is_name, name_of, was_bound, held_now, output_of}
use Rattle.cckd_shelf.specs.World.{with_file}

-- how many of the notes have an operation
abbrev pub op_count : List Note → ℕ
op_count [] = 0
op_count (note.Op ∷ rest) = op_count rest + 1
op_count (note.Bound slot name bytes ∷ rest) = op_count rest

-- each note with its operation, in order
abbrev pub woven : List Note → List Op → List Event
woven [] ops = []
woven (note.Op ∷ rest) [] = []
woven (note.Op ∷ rest) (op ∷ ops) = event_of op ∷ woven rest ops
woven (note.Bound slot name bytes ∷ rest) ops = Bound slot name bytes ∷ woven rest ops

-- the newest first
abbrev pub events_of : List Note → List Op → List Event
events_of notes ops = reverse (woven notes ops)

-- each operation has its note, and the output is what was put
pub record IsWritten (notes : List Note) (ops : List Op) (output : List ℕ) : Type 0 where
  pub noted : op_count notes ≡ length ops
  pub put : output ≡ output_of (events_of notes ops)

-- these are the others without the newest event
pub record IsBack (notes : List Note) (ops : List Op) (more : List Note) (more_ops : List Op) : Type 0 where
  pub noted : op_count notes ≡ length ops
  pub events : events_of notes ops ≡ drop 1 (events_of more more_ops)

-- where the first file of this name stands
abbrev pub place_in : List FileIn → List ℕ → Option ℕ
place_in files name = position_from (λ (file : FileIn). bytes_eq file.name name) 0 files

-- the file at this place is the first of the name
pub record IsFirst (files : List FileIn) (name : List ℕ) (place : ℕ) : Type 0 where
  pub within : place < length files
  pub named : (d : FileIn) → file_named files name ≡ Some (slice_index_or files place d).bytes
  pub edited : (d : FileIn) (bytes other : List ℕ)
      → file_named (slice_set files place (record (slice_index_or files place d) { bytes = bytes })) other ≡ with_file (file_named files) (Some name) bytes other

-- no file has the name
pub record HasNone (files : List FileIn) (name : List ℕ) : Type 0 where
  pub named : file_named files name ≡ None
  pub added : (bytes other : List ℕ) → file_named (files ++ record { name = name; bytes = bytes } ∷ []) other ≡ with_file (file_named files) (Some name) bytes other

-- a slot without a name or bytes
abbrev pub no_place : Place
no_place = record { name = None; loose = [] }

-- the place of a slot
abbrev pub place_at : List Place → ℕ → Place
place_at places slot = slice_index_or places slot no_place

-- a slot that loses this name if it has it
abbrev pub without : List ℕ → Place → Place
without name place = if is_name place.name name then no_place else place

-- what a slot with this name, or these bytes if it has none, holds
abbrev pub content_by : (List ℕ → Option (List ℕ)) → Option (List ℕ) → List ℕ → List ℕ
content_by files None loose = loose
content_by files (Some name) loose = unwrap_or (files name) []

-- what the slot of a place holds
abbrev pub content : (List ℕ → Option (List ℕ)) → Place → List ℕ
content files place = content_by files place.name place.loose

-- the bytes that a slot keeps beside the files, after its content is changed
abbrev pub loose_after : Option (List ℕ) → List ℕ → List ℕ → List ℕ
loose_after None old bytes = bytes
loose_after (Some name) old bytes = old

-- the place of a slot that now holds these bytes
abbrev pub with_content : Place → List ℕ → Place
with_content place bytes = record place { loose = loose_after place.name place.loose bytes }

-- the nine slots and the files are as the events say
pub record IsStored (files : List ℕ → Option (List ℕ)) (places : List Place) (events : List Event) : Type 0 where
  pub nine : length places ≡ 9
  pub names : (slot : ℕ) → (place_at places slot).name ≡ name_of events slot
  pub named : (name : List ℕ) → was_bound events name ≡ true → unwrap_or (files name) [] ≡ held_now events (Named name)
  pub nameless : (slot : ℕ) → (place_at places slot).name ≡ None → (place_at places slot).loose ≡ held_now events (Nameless slot)
