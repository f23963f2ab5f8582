-- Words that commands have in common.
use Rattle.std.specs.Prelude.{ℕ, ◌==◌, nat_lt, Bool, ◌||◌, not, List, length, slice_index}

-- whether a word names a file: 1 to 255 bytes, which don't begin with `-`
abbrev pub is_file_word : List ℕ → Bool
is_file_word word = not (length word == 0 || nat_lt 255 (length word) || slice_index word 0 == 45)
