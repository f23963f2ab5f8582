-- The words of `dasdinit -0 [-r] FILE DEVICE [VOLSER]`.
use Rattle.std.specs.Prelude.{ℕ, ◌+◌, Bool, true, false, if◌then◌else◌, List, [], ◌∷◌, codes, bytes_eq, Option, Some, None, Result, Ok, Err}
use Rattle.cckd_base.specs.declared.geometry.Geometry.{Geometry}
use Rattle.cckd_base.specs.Device.{geometry_named}
use Rattle.cckd_command.specs.Words.{is_file_word}
use Rattle.cckd_dasdinit.specs.Serial.{serial_named}

-- the base that words name: its file, its device with the geometry, and the serial of its label, if it gets one
pub record NewBase : Type 0 where
  pub file : List ℕ
  pub device : List ℕ
  pub geometry : Geometry
  pub label : Option (List ℕ)

-- the name of the command
abbrev pub init_command : List ℕ
init_command = codes "dasdinit"

-- the option that tracks are stored uncompressed, which is required
abbrev pub plain_option : List ℕ
plain_option = codes "-0"

-- the option that no label is written
abbrev pub raw_option : List ℕ
raw_option = codes "-r"

-- The base, or the number of the first wrong word, or of the missing one, where this is the number of the first word that is left.
-- Behind the serial there is no word.
abbrev pub labelled_as : Option (List ℕ) → ℕ → NewBase → List (List ℕ) → Result NewBase ℕ
labelled_as None n base more = Err n
labelled_as (Some serial) n base [] = Ok (record base { label = Some serial })
labelled_as (Some serial) n base (other ∷ more) = Err (n + 1)

-- behind the device comes the serial exactly where a label is wanted
abbrev pub label_in : Bool → ℕ → NewBase → List (List ℕ) → Result NewBase ℕ
label_in true n base [] = Ok base
label_in true n base (word ∷ more) = Err n
label_in false n base [] = Err n
label_in false n base (word ∷ more) = labelled_as (serial_named word) n base more

-- the device is one that can be made
abbrev pub device_as : Option Geometry → Bool → ℕ → List ℕ → List ℕ → List (List ℕ) → Result NewBase ℕ
device_as None raw n file device rest = Err n
device_as (Some geometry) raw n file device rest =
    label_in raw (n + 1) (record { file = file; device = device; geometry = geometry; label = None }) rest

-- behind the file comes the device
abbrev pub device_in : Bool → ℕ → List ℕ → List (List ℕ) → Result NewBase ℕ
device_in raw n file [] = Err n
device_in raw n file (device ∷ rest) = device_as (geometry_named device) raw n file device rest

-- behind the options comes the file
abbrev pub base_in : Bool → ℕ → List (List ℕ) → Result NewBase ℕ
base_in raw n [] = Err n
base_in raw n (file ∷ rest) = if is_file_word file then device_in raw (n + 1) file rest else Err n

-- the words behind a first option: the other one may come, and `-0` has to
abbrev pub behind_plain : List (List ℕ) → Result NewBase ℕ
behind_plain [] = Err 2
behind_plain (word ∷ rest) = if bytes_eq word raw_option then base_in true 3 rest else base_in false 2 (word ∷ rest)

abbrev pub behind_raw : List (List ℕ) → Result NewBase ℕ
behind_raw [] = Err 2
behind_raw (word ∷ rest) = if bytes_eq word plain_option then base_in true 3 rest else Err 2

-- the words behind the command, which begin with an option
abbrev pub behind_command : List (List ℕ) → Result NewBase ℕ
behind_command [] = Err 1
behind_command (word ∷ rest) =
    if bytes_eq word plain_option then behind_plain rest else if bytes_eq word raw_option then behind_raw rest else Err 1

-- the base that the words of a run name, or the number of the first wrong word, counted from 0, or of the missing one
abbrev pub named_base : List (List ℕ) → Result NewBase ℕ
named_base [] = Err 0
named_base (command ∷ rest) = if bytes_eq command init_command then behind_command rest else Err 0
