-- What a shelf and a stage hold, as far as they tell it: the files by name, all that happened, and the script.
use Rattle.std.specs.Prelude.{ℕ, ◌≡◌, bytes_eq, true, if◌then◌else◌, IsTrue, List, [], ◌∷◌, take, drop, Option, Some, None, unwrap_or, option_map}
use Rattle.cckd_shelf.specs.Files.{overlaid}
use Rattle.cckd_shelf.specs.Events.{Event, Written, Torn, Cut, HalfCut, Synced, Put, Bound, Named, is_name, name_of, was_bound, held_now, file_now, is_sure}

-- all that a stage holds
pub record World : Type 0 where
  -- what each name holds, where a file has it
  pub files : List ℕ → Option (List ℕ)
  -- all that happened, the newest first
  pub events : List Event
  -- what is left of the script
  pub script : List ℕ

-- the file in a slot now
abbrev pub file_of : World → ℕ → List ℕ
file_of w slot = file_now w.events slot

-- what the files hold is told
abbrev pub IsSure : World → Type 0
IsSure w = IsTrue (is_sure w.events)

-- what a name holds; an absent file counts as an empty one
abbrev pub held_by : World → List ℕ → List ℕ
held_by w name = unwrap_or (w.files name) []

-- a name that some slot got once holds what was done to it
pub record IsTied (w : World) : Type 0 where
  pub named : (name : List ℕ) → was_bound w.events name ≡ true → held_by w name ≡ held_now w.events (Named name)

-- the files, where the one of this name, if there is a name, now has these bytes
abbrev pub with_file : (List ℕ → Option (List ℕ)) → Option (List ℕ) → List ℕ → List ℕ → Option (List ℕ)
with_file files None bytes other = files other
with_file files (Some name) bytes other = if bytes_eq name other then Some bytes else files other

-- the same, where a file that is absent stays so
abbrev pub with_present : (List ℕ → Option (List ℕ)) → Option (List ℕ) → List ℕ → List ℕ → Option (List ℕ)
with_present files None bytes other = files other
with_present files (Some name) bytes other = if bytes_eq name other then option_map (λ _. bytes) (files other) else files other

-- after a slot got the file of a name; nothing happens where it has that name
abbrev pub after_bind : ℕ → List ℕ → World → World
after_bind slot name w =
    if is_name (name_of w.events slot) name then w else record w { events = Bound slot name (held_by w name) ∷ w.events }

-- after a write
abbrev pub after_write : ℕ → ℕ → List ℕ → World → World
after_write slot position bytes w = record w {
  files = with_file w.files (name_of w.events slot) (overlaid (file_of w slot) position bytes);
  events = Written slot position bytes ∷ w.events;
}

-- after a write that failed half way. No answer is tied to the files any more, which stand as if it had been made
abbrev pub after_torn : ℕ → ℕ → List ℕ → World → World
after_torn slot position bytes w = record w {
  files = with_file w.files (name_of w.events slot) (overlaid (file_of w slot) position bytes);
  events = Torn slot position bytes ∷ w.events;
}

-- after a cut
abbrev pub after_cut : ℕ → ℕ → World → World
after_cut slot len w = record w {
  files = with_present w.files (name_of w.events slot) (take len (file_of w slot));
  events = Cut slot len ∷ w.events;
}

-- after a cut that failed half way, as after such a write
abbrev pub after_half_cut : ℕ → ℕ → World → World
after_half_cut slot len w = record w {
  files = with_present w.files (name_of w.events slot) (take len (file_of w slot));
  events = HalfCut slot len ∷ w.events;
}

-- after a sync
abbrev pub after_sync : ℕ → World → World
after_sync slot w = record w { events = Synced slot ∷ w.events }

-- after these bytes were put
abbrev pub after_put : List ℕ → World → World
after_put bytes w = record w { events = Put bytes ∷ w.events }

-- after n bytes of the script were taken
abbrev pub after_take : ℕ → World → World
after_take n w = record w { script = drop n w.script }
