-- Level-one words and level-two entries that a CCKD image can't have, each taken by itself.
use Rattle.std.specs.Prelude.{ℕ, ◌+◌, ◌==◌, nat_lt, Bool, ◌||◌, if◌then◌else◌, Option, Some, None}
use Rattle.cckd_base.specs.declared.geometry.Layout.{Layout}
use Rattle.cckd_base.specs.declared.entry.L2Entry.{L2Entry}
use Rattle.cckd_base.specs.declared.space.Owner.TheVariants.{Table, Track}
use Rattle.cckd_base.specs.declared.misfit.Misfit.{Misfit}
use Rattle.cckd_base.specs.declared.misfit.Misfit.TheVariants.{BadTable, BadEntry, ParentInBase}
use Rattle.cckd_base.specs.Geometry.{area_of, is_null_format}
use Rattle.cckd_base.specs.Entry.{see_parent}

-- whether a space of a file of this length begins in the header area or passes the end
abbrev pub is_misplaced : Layout → ℕ → ℕ → ℕ → Bool
is_misplaced l file_len pos len = nat_lt pos (area_of l.groups) || nat_lt file_len (pos + len)

-- What is wrong with a level-one word by itself. Nothing is with 0, with see-parent in a shadow, and with the position of a table.
abbrev pub table_misfit : Layout → ℕ → ℕ → ℕ → Option Misfit
table_misfit l file_len group word =
    if word == 0 then None
    else if word == see_parent then (if l.shadow then None else Some (ParentInBase (Table group)))
    else if is_misplaced l file_len word 2048 then Some (BadTable group word)
    else None

-- whether stored bytes have a length that their space or a table's fields can't hold
abbrev pub is_missized : L2Entry → Bool
is_missized e = e.len == 0 || nat_lt 65528 e.len || nat_lt e.size e.len

-- What is wrong with an entry by itself. Nothing is with a null entry of a format of the device, with see-parent in a shadow,
-- and with the entry of stored bytes.
abbrev pub entry_misfit : Layout → ℕ → ℕ → L2Entry → Option Misfit
entry_misfit l file_len t e =
    if e.pos == 0 then (if is_null_format l.geo e.len then None else Some (BadEntry t e))
    else if e.pos == see_parent then (if l.shadow then None else Some (ParentInBase (Track t)))
    else if is_misplaced l file_len e.pos e.len || is_missized e then Some (BadEntry t e)
    else None
