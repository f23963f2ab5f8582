-- What the parts of the reading of a line say of their piece of it.
use Rattle.std.specs.Prelude.{◌≡◌, ℕ, ◌+◌, ◌*◌, ◌≤◌, ◌==◌, Bool, List, [], ◌∷◌, length, drop, codes, Some, Result, Ok, Err}
use Rattle.std.specs.Result.{result_unwrap_or}
use Rattle.hex.specs.Hex.{decode_of}
use Rattle.cckd_script.specs.declared.tokens.Number.{Number}
use Rattle.cckd_script.specs.declared.tokens.Digits.{Digits}
use Rattle.cckd_script.specs.declared.tokens.Place.{Place}
use Rattle.cckd_script.specs.declared.parse.Asked.{Asked}
use Rattle.cckd_script.specs.declared.parse.Given.{Given}
use Rattle.cckd_script.specs.declared.parse.Given.TheVariants as gives
use Rattle.cckd_script.specs.declared.parse.LineFault.{LineFault}
use Rattle.cckd_script.specs.declared.parse.Word.{Word}
use Rattle.cckd_script.specs.declared.parse.Word.TheVariants as word
use Rattle.cckd_script.specs.Lines.{tokens}
use Rattle.cckd_script.specs.Grammar.{Kind, number, bytes, Value, amount, given, value_before, values_of}
use Rattle.cckd_script.specs.Filled.{filled_track}
use Rattle.cckd_script.specs.Parse.{Request, one, Form, kinds_behind, asked_by}

-- whether a byte is a blank
abbrev pub is_blank : ℕ → Bool
is_blank b = b == 32

-- the tokens behind a token, where the blank that ends it and all that follows are left
abbrev pub behind : List ℕ → List (List ℕ)
behind [] = []
behind (blank ∷ rest) = tokens rest

-- what is left of a line at a place
abbrev pub rest_tokens : List ℕ → ℕ → List (List ℕ)
rest_tokens line end = behind (drop end line)

-- what the tokens behind a place say, or the column of the first that is wrong
abbrev pub values_behind : List ℕ → ℕ → List Kind → Result (List Value) ℕ
values_behind line end kinds = values_of (end + 2) kinds (rest_tokens line end)

-- a token of a kind is the next behind a place; it says this value and ends at another place
pub record IsBehind (line : List ℕ) (end : ℕ) (kind : Kind) (value : Value) (after : ℕ) : Type 0 where
  pub passes : (kinds : List Kind)
      → values_behind line end (kind ∷ kinds) ≡ value_before (end + 2) (Some value) (values_behind line after kinds)
  pub within : after ≤ length line

-- no token of a kind is the next behind a place, and this is the column where that is seen
abbrev pub IsNone : List ℕ → ℕ → Kind → ℕ → Type 0
IsNone line end kind column = (kinds : List Kind) → values_behind line end (kind ∷ kinds) ≡ Err column

-- a number in a range is the next token behind a place
pub record IsNumberBehind (line : List ℕ) (end least most : ℕ) (n : Number) : Type 0 where
  pub read : IsBehind line end (number least most) (amount n.value) n.end
  pub least_is : least ≤ n.value
  pub most_is : n.value ≤ most

-- the bytes that pairs of hexadecimal digits spell
abbrev pub decoded : List ℕ → List ℕ
decoded digits = result_unwrap_or (decode_of digits) []

-- digits that spell bytes, at least and at most so many
pub record AreDigits (digits : List ℕ) (least most : ℕ) : Type 0 where
  pub decode : decode_of digits ≡ Ok (decoded digits)
  pub len : length digits ≡ 2 * length (decoded digits)
  pub least_is : least ≤ length (decoded digits)
  pub most_is : length (decoded digits) ≤ most

-- digits that spell bytes are the next token behind a place
pub record AreDigitsBehind (line : List ℕ) (end least most : ℕ) (found : Digits) : Type 0 where
  pub read : IsBehind line end (bytes least most) (given (decoded found.text.now)) found.end
  pub digits : AreDigits found.text.now least most

-- the number of a cylinder or a head
abbrev pub coordinate : Kind
coordinate = number 0 65535

-- cylinder and head are the next two tokens behind a place
pub record IsAddressBehind (line : List ℕ) (end : ℕ) (place : Place) : Type 0 where
  pub middle : ℕ
  pub cylinder : IsBehind line end coordinate (amount place.at.cyl) middle
  pub head : IsBehind line middle coordinate (amount place.at.head) place.end

-- they aren't, and this is the column where that is seen
abbrev pub IsNoAddress : List ℕ → ℕ → ℕ → Type 0
IsNoAddress line end column = (kinds : List Kind) → values_behind line end (coordinate ∷ coordinate ∷ kinds) ≡ Err column

-- the bytes that a call gives
abbrev pub bytes_of : Given → List ℕ
bytes_of gives.Nothing = []
bytes_of (gives.Digits digits) = decoded digits.now
bytes_of (gives.Filled at count byte) = filled_track at count byte

-- they fit into 65,535 bytes
abbrev pub GivenFits : Given → Type 0
GivenFits gives.Nothing = Unit {0}
GivenFits (gives.Digits digits) = AreDigits digits.now 1 65535
GivenFits (gives.Filled at count byte) = count ≤ 65498

-- what is asked for
abbrev pub request_of : Asked → Request
request_of asked = one asked.call (bytes_of asked.gives)

-- what an answer says of it
abbrev pub request_in : Result Asked LineFault → Result Request LineFault
request_in (Ok asked) = Ok (request_of asked)
request_in (Err fault) = Err fault

-- what a form asks for is answered, by the tokens behind its word
abbrev pub AsksFor : Form → List ℕ → ℕ → Result Asked LineFault → Type 0
AsksFor form line end answer =
    request_in answer ≡ asked_by form (values_behind line end (kinds_behind form (rest_tokens line end)))

-- the word that begins a line
abbrev pub word_text : Word → List ℕ
word_text word.Read = codes "read"
word_text word.Write = codes "write"
word_text word.Fill = codes "fill"
word_text word.Harden = codes "harden"
word_text word.Display = codes "sfd"
word_text word.Check = codes "sfk"
