-- The serial of a volume, in EBCDIC.
use Rattle.std.specs.Prelude.{ℕ, ◌+◌, ◌-◌, ◌==◌, nat_le, Bool, true, ◌&&◌, ◌||◌, if◌then◌else◌, List, [], ◌∷◌, ◌++◌, map, length, replicate, Option, Some, None}
use Rattle.cckd_tools.specs.Label.{blank}

-- whether a character lies between two, both included
abbrev pub is_between : ℕ → ℕ → ℕ → Bool
is_between low high c = nat_le low c && nat_le c high

-- the characters of a serial: A to Z, 0 to 9, `@`, `#` and `$`
abbrev pub is_serial_character : ℕ → Bool
is_serial_character c = is_between 65 90 c || is_between 48 57 c || c == 64 || c == 35 || c == 36

-- such a character in EBCDIC: A to I from c1 on, J to R from d1 on, S to Z from e2 on, 0 to 9 from f0 on, `@` 7c, `#` 7b, `$` 5b
abbrev pub in_ebcdic : ℕ → ℕ
in_ebcdic c =
    if is_between 65 73 c then c - 65 + 0xc1 else if is_between 74 82 c then c - 74 + 0xd1 else if is_between 83 90 c then c - 83 + 0xe2
    else if is_between 48 57 c then c - 48 + 0xf0 else if c == 64 then 0x7c else if c == 35 then 0x7b else 0x5b

-- each is such a character
abbrev pub are_characters : List ℕ → Bool
are_characters [] = true
are_characters (c ∷ more) = is_serial_character c && are_characters more

-- a serial has 1 to 6 of them
abbrev pub is_serial : List ℕ → Bool
is_serial word = nat_le 1 (length word) && nat_le (length word) 6 && are_characters word

-- it is filled with blanks on the right
abbrev pub serial_bytes : List ℕ → List ℕ
serial_bytes word = map in_ebcdic word ++ replicate (6 - length word) blank

-- the serial that a word names
abbrev pub serial_named : List ℕ → Option (List ℕ)
serial_named word = if is_serial word then Some (serial_bytes word) else None
