-- Entries of the two-level tables of a CCKD image, and the bytes that they give a track.
use Rattle.std.specs.Prelude.{ℕ, ◌+◌, ◌*◌, ◌/◌, ◌%◌, ◌==◌, if◌then◌else◌, List, ◌++◌, take, drop, Option, Some, None}
use Rattle.std.specs.Int.{w16, w32}
use Rattle.cckd_base.specs.declared.order.Order.{Order}
use Rattle.cckd_base.specs.declared.geometry.Geometry.{Geometry}
use Rattle.cckd_base.specs.declared.geometry.Layout.{Layout}
use Rattle.cckd_base.specs.declared.entry.L2Entry.{L2Entry}
use Rattle.cckd_base.specs.Numbers.{number_of, bytes_of, bytes_at, number_at}

-- the position that sends a look-up to the file below
abbrev pub see_parent : ℕ
see_parent = 4294967295

-- position, length and size
abbrev pub entry_of : Order → List ℕ → L2Entry
entry_of order bytes = record {
  pos = number_of order w32 (take 4 bytes);
  len = number_of order w16 (take 2 (drop 4 bytes));
  size = number_of order w16 (drop 6 bytes);
}

-- the eight bytes that spell an entry
abbrev pub entry_bytes : Order → L2Entry → List ℕ
entry_bytes order e = bytes_of order w32 e.pos ++ bytes_of order w16 e.len ++ bytes_of order w16 e.size

-- an entry whose track is null
abbrev pub null_entry : ℕ → L2Entry
null_entry format = record { pos = 0; len = format; size = format }

-- an entry whose track is looked up in the file below
abbrev pub parent_entry : L2Entry
parent_entry = record { pos = see_parent; len = 65535; size = 65535 }

-- the level-one word of a group
abbrev pub word_at : Layout → List ℕ → ℕ → ℕ
word_at l file group = number_at l.order w32 file (1024 + 4 * group)

-- the entry at a track's place in the table at a position
abbrev pub entry_in_table : Layout → List ℕ → ℕ → ℕ → L2Entry
entry_in_table l file table t = entry_of l.order (bytes_at file (table + 8 * (t % 256)) 8)

-- the entry that a level-one word gives to all tracks of its group, where it names no table
abbrev pub group_entry : Layout → ℕ → Option L2Entry
group_entry l word =
    if word == 0 then Some (null_entry l.null_fmt) else if word == see_parent then Some parent_entry else None

-- the entry that a level-one word gives a track: a word 0 and a see-parent word speak for the whole group
abbrev pub entry_by_word : Layout → List ℕ → ℕ → ℕ → L2Entry
entry_by_word l file word t =
    if word == 0 then null_entry l.null_fmt
    else if word == see_parent then parent_entry
    else entry_in_table l file word t

-- the entry that a file gives a track
abbrev pub entry_at : Layout → List ℕ → ℕ → L2Entry
entry_at l file t = entry_by_word l file (word_at l file (t / 256)) t

-- the bytes that an entry gives a track, where null tracks have these; none where the file below is asked
abbrev pub bytes_by_entry : (Geometry → ℕ → ℕ → List ℕ) → Layout → List ℕ → ℕ → L2Entry → Option (List ℕ)
bytes_by_entry null l file t e =
    if e.pos == 0 then Some (null l.geo t e.len)
    else if e.pos == see_parent then None
    else Some (bytes_at file e.pos e.len)

-- the stored bytes of a track
abbrev pub stored_bytes : (Geometry → ℕ → ℕ → List ℕ) → Layout → List ℕ → ℕ → Option (List ℕ)
stored_bytes null l file t = bytes_by_entry null l file t (entry_at l file t)
