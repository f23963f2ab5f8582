-- The tokens of a line by their kinds: what they say, how it is spelled, and where the first wrong one begins.
use Rattle.std.specs.Prelude.{ℕ, ◌+◌, ◌-◌, nat_le, Bool, ◌&&◌, if◌then◌else◌, List, [], ◌∷◌, length, bytes_eq, codes, decimal, Option, Some, None, Result, Ok, Err}
use Rattle.std.specs.Str.Parse.{digits_value}
use Rattle.std.specs.Result.{result_ok}
use Rattle.hex.specs.Hex.{decode_of}

-- The kinds of tokens: a word, a number of at least and at most so much, and bytes, so many at least and at most.
pub data Kind : Type 0 where
  word : List ℕ → Kind
  number : ℕ → ℕ → Kind
  bytes : ℕ → ℕ → Kind

-- what a token says beside its word
pub data Value : Type 0 where
  nothing : Value
  amount : ℕ → Value
  given : List ℕ → Value

-- the number that digits spell, read from the left
abbrev pub number_value : List ℕ → ℕ
number_value digits = digits_value 10 digits

-- whether a number lies in a range
abbrev pub is_within : ℕ → ℕ → ℕ → Bool
is_within least most n = nat_le least n && nat_le n most

-- the number that a token spells in decimal digits
abbrev pub spelled_number : List ℕ → Option ℕ
spelled_number token = if bytes_eq token (decimal (number_value token)) then Some (number_value token) else None

-- The bytes that a token spells as pairs of hexadecimal digits of either case: there is no empty token of none, but `-`.
abbrev pub spelled_bytes : List ℕ → Option (List ℕ)
spelled_bytes [] = None
spelled_bytes (c ∷ token) = if bytes_eq (c ∷ token) (codes "-") then Some [] else result_ok (decode_of (c ∷ token))

-- a number in a range
abbrev pub number_within : ℕ → ℕ → Option ℕ → Option Value
number_within least most None = None
number_within least most (Some n) = if is_within least most n then Some (amount n) else None

-- bytes whose count is in a range
abbrev pub bytes_within : ℕ → ℕ → Option (List ℕ) → Option Value
bytes_within least most None = None
bytes_within least most (Some bs) = if is_within least most (length bs) then Some (given bs) else None

-- what a token of a kind says, if it is one
abbrev pub value_of : Kind → List ℕ → Option Value
value_of (word text) token = if bytes_eq token text then Some nothing else None
value_of (number least most) token = number_within least most (spelled_number token)
value_of (bytes least most) token = bytes_within least most (spelled_bytes token)

-- a token's value in front of those behind it, or the column of the first wrong token, where the token begins at a column
abbrev pub value_before : ℕ → Option Value → Result (List Value) ℕ → Result (List Value) ℕ
value_before column None more = Err column
value_before column (Some value) (Ok values) = Ok (value ∷ values)
value_before column (Some value) (Err later) = Err later

-- What tokens of these kinds say, or the column where the first token begins that isn't of its kind; the first of them
-- begins at this column. A token too many is wrong where it begins, and a token that is missing is wrong where the line
-- has ended.
abbrev pub values_of : ℕ → List Kind → List (List ℕ) → Result (List Value) ℕ
values_of column [] [] = Ok []
values_of column [] (token ∷ rest) = Err column
values_of column (kind ∷ kinds) [] = Err (column - 1)
values_of column (kind ∷ kinds) (token ∷ rest) =
    value_before column (value_of kind token) (values_of (column + length token + 1) kinds rest)
