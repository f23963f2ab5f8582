-- The bytes of a file, and what a write makes of them.
use Rattle.std.specs.Prelude.{ℕ, ◌+◌, ◌-◌, List, ◌++◌, length, take, drop, replicate}

-- n bytes from a position on
abbrev pub bytes_at : List ℕ → ℕ → ℕ → List ℕ
bytes_at file position n = take n (drop position file)

-- The file with these bytes put at a position. A gap between its old end and them is zeros.
unfoldable pub overlaid : List ℕ → ℕ → List ℕ → List ℕ
overlaid file position bytes =
    take position (file ++ replicate (position - length file) 0) ++ (bytes ++ drop (position + length bytes) file)
