-- What the files and slots of a stage in memory tell.
use Rattle.std.specs.Prelude.{ℕ, Bool, List, ◌∷◌, take}
use Rattle.cckd_memory.specs.declared.holdings.Holdings.{Holdings}
use Rattle.cckd_memory.specs.Files.{file_named}
use Rattle.cckd_memory.specs.Ops.{event_of, write_op, cut_op}
use Rattle.cckd_shelf.specs.Events.{name_of}
use Rattle.cckd_shelf.specs.Files.{overlaid}
use Rattle.cckd_shelf.specs.World.{World, file_of, with_file, with_present}

-- with what is left of a script
abbrev pub world_in : Holdings → List ℕ → World
world_in held script = record { files = file_named held.files.items; events = held.history; script = script }

-- after a write that failed half way, or was made
abbrev pub after_overlay : Bool → ℕ → ℕ → List ℕ → World → World
after_overlay half slot position bytes w = record w {
  files = with_file w.files (name_of w.events slot) (overlaid (file_of w slot) position bytes);
  events = event_of (write_op half slot position bytes) ∷ w.events;
}

-- after a cut that failed half way, or was made
abbrev pub after_cut_off : Bool → ℕ → ℕ → World → World
after_cut_off half slot len w = record w {
  files = with_present w.files (name_of w.events slot) (take len (file_of w slot));
  events = event_of (cut_op half slot len) ∷ w.events;
}
