-- A text of words, numbers and bytes.
use Rattle.std.specs.Prelude.{ℕ, ◌+◌, ◌*◌, List, [], ◌∷◌, ◌++◌, length, flat_map, map, codes, decimal}
use Rattle.hex.specs.Hex.{encode_lower}
use Rattle.cckd_script.specs.declared.phrase.Part.{Part as Given}
use Rattle.cckd_script.specs.declared.phrase.Part.TheVariants as given

-- a part of a text: words as they stand, a number, a number with a mark behind it, and bytes
pub data Part : Type 0 where
  words : List ℕ → Part
  number : ℕ → Part
  marked : ℕ → ℕ → Part
  hex : List ℕ → Part

-- words, and the parts that follow them
pub record Phrase : Type 0 where
  pub front : List ℕ
  pub parts : List Part

-- these words with these parts behind them
abbrev pub say : List ℕ → List Part → Phrase
say front parts = record { front = front; parts = parts }

-- bytes as two digits each, and `-` for no bytes
abbrev pub hex_text : List ℕ → List ℕ
hex_text [] = codes "-"
hex_text (b ∷ bytes) = encode_lower (b ∷ bytes)

-- the text of a part
abbrev pub part_text : Part → List ℕ
part_text (words text) = text
part_text (number n) = decimal n
part_text (marked n mark) = decimal n ++ mark ∷ []
part_text (hex bytes) = hex_text bytes

-- parts, each with a blank before it
abbrev pub parts_text : List Part → List ℕ
parts_text parts = flat_map (λ part. 32 ∷ part_text part) parts

-- words, and parts behind them
abbrev pub phrase : List ℕ → List Part → List ℕ
phrase front parts = front ++ parts_text parts

-- the text of a phrase
abbrev pub phrase_text : Phrase → List ℕ
phrase_text p = phrase p.front p.parts

-- the part that a program gives
abbrev pub part_of : Given → Part
part_of (given.Words text) = words text.now
part_of (given.Number n) = number n
part_of (given.Marked n mark) = marked n mark
part_of (given.Hex bytes) = hex bytes.now

-- the parts that it gives
abbrev pub parts_of : List Given → List Part
parts_of parts = map part_of parts

-- so many bytes hold a part: a number has at most 20 digits
abbrev pub part_room : Part → ℕ
part_room (words text) = length text
part_room (number n) = 20
part_room (marked n mark) = 21
part_room (hex bytes) = 2 * length bytes + 1

-- so many hold parts with their blanks
abbrev pub parts_room : List Part → ℕ
parts_room [] = 0
parts_room (part ∷ parts) = 1 + part_room part + parts_room parts
