-- The words of a run: `cckdrun [-limit N] FILE`.
use Rattle.std.specs.Prelude.{ℕ, ◌+◌, ◌%◌, ◌==◌, nat_le, nat_lt, Bool, ◌&&◌, ◌||◌, not, if◌then◌else◌, List, [], ◌∷◌, length, slice_index, codes, bytes_eq, Option, Some, None, Result, Ok, Err}
use Rattle.cckd_base.specs.Geometry.{format_limit}
use Rattle.cckd_script.specs.Grammar.{spelled_number}

-- the disk that words name: the file of its base, and how many bytes each file may have
pub record Named : Type 0 where
  pub file : List ℕ
  pub limit : ℕ

-- the name of the command
abbrev pub run_command : List ℕ
run_command = codes "cckdrun"

-- the option in front of a limit
abbrev pub limit_option : List ℕ
limit_option = codes "-limit"

-- whether a number is a limit: a multiple of 8 from 4,096 to the format's limit
abbrev pub is_limit : ℕ → Bool
is_limit n = nat_le 4096 n && nat_le n format_limit && n % 8 == 0

-- the number, if there is one and it is a limit
abbrev pub kept_limit : Option ℕ → Option ℕ
kept_limit None = None
kept_limit (Some n) = if is_limit n then Some n else None

-- the limit that a word spells in decimal digits, without a sign or a leading zero
abbrev pub limit_in : List ℕ → Option ℕ
limit_in word = kept_limit (spelled_number word)

-- whether a word names a file: 1 to 255 bytes, which don't begin with `-`
abbrev pub is_file_word : List ℕ → Bool
is_file_word word = not (length word == 0 || nat_lt 255 (length word) || slice_index word 0 == 45)

-- The disk of the one word that is left, with a limit, or the number of the first wrong word, or of the missing one, where
-- this is the number of the first word that is left.
abbrev pub disk_in : ℕ → ℕ → List (List ℕ) → Result Named ℕ
disk_in limit number [] = Err number
disk_in limit number (file ∷ []) = if is_file_word file then Ok (record { file = file; limit = limit }) else Err number
disk_in limit number (file ∷ other ∷ more) = if is_file_word file then Err (number + 1) else Err number

-- the same of the words behind a limit, where there is one
abbrev pub disk_by : Option ℕ → List (List ℕ) → Result Named ℕ
disk_by None rest = Err 2
disk_by (Some limit) rest = disk_in limit 3 rest

-- the same of the words behind the option
abbrev pub disk_limited : List (List ℕ) → Result Named ℕ
disk_limited [] = Err 2
disk_limited (number ∷ rest) = disk_by (limit_in number) rest

-- the same of the words behind the command
abbrev pub disk_behind : List (List ℕ) → Result Named ℕ
disk_behind [] = Err 1
disk_behind (word ∷ rest) = if bytes_eq word limit_option then disk_limited rest else disk_in format_limit 1 (word ∷ rest)

-- the disk that the words of a run name, or the number of the first wrong word, counted from 0, or of the missing one
abbrev pub named_disk : List (List ℕ) → Result Named ℕ
named_disk [] = Err 0
named_disk (command ∷ rest) = if bytes_eq command run_command then disk_behind rest else Err 0
