-- The files of a stage in memory, by name.
use Rattle.std.specs.Prelude.{ℕ, bytes_eq, if◌then◌else◌, List, [], ◌∷◌, Option, Some, None}
use Rattle.cckd_shelf.specs.World.{World}
use Rattle.cckd_memory.specs.declared.bytes.FileIn.{FileIn}

-- the first file of that name in a list
abbrev pub file_named : List FileIn → List ℕ → Option (List ℕ)
file_named [] name = None
file_named (file ∷ rest) name = if bytes_eq file.name name then Some file.bytes else file_named rest name

-- at the beginning, with these files and this script
abbrev pub fresh : List FileIn → List ℕ → World
fresh files script = record { files = file_named files; events = []; script = script }
