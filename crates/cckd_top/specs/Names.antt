-- The names of a disk's files, and the slots that get them.
use Rattle.std.specs.Prelude.{◌≡◌, ℕ, zero, suc, ◌+◌, ◌<◌, ◌==◌, if◌then◌else◌, List, [], ◌∷◌, ◌++◌, codes, Some}
use Rattle.cckd_shelf.specs.Events.{name_of}
use Rattle.cckd_shelf.specs.World.{World, held_by, after_bind}

-- slot 0 has the file's own name, and slot k the name with `.sf` and the digit k
abbrev pub slot_name : List ℕ → ℕ → List ℕ
slot_name file slot = if slot == 0 then file else file ++ codes ".sf" ++ (48 + slot) ∷ []

-- the files of a disk's names, by slot
abbrev pub files_of : List ℕ → World → ℕ → List ℕ
files_of file w slot = held_by w (slot_name file slot)

-- after the first slots got their files, one after another
abbrev pub after_binds : List ℕ → ℕ → World → World
after_binds file zero w = w
after_binds file (suc n) w = after_bind n (slot_name file n) (after_binds file n w)

-- only some of the nine did, and nothing else was done
pub record BindsSome (file : List ℕ) (old new : World) : Type 0 where
  pub count : ℕ
  pub few : count < 9
  pub done : new ≡ after_binds file count old

-- the slots below this one have the names of a disk's files
abbrev pub AreNamed : World → List ℕ → ℕ → Type 0
AreNamed w file slots = (slot : ℕ) → slot < slots → name_of w.events slot ≡ Some (slot_name file slot)
