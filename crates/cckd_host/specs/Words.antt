-- The words behind a program's name, and what a run gets of them.
use Rattle.std.specs.Prelude.{◌≡◌, ◌<◌, ℕ, ◌+◌, nat_le, ◌&&◌, if◌then◌else◌, List, [], ◌∷◌, ◌++◌, length, take, drop, map, codes, Option, Some, None, Result, Ok, Err}
use Rattle.std.specs.Str.{is_utf8}
use Rattle.std.specs.declared.env.FillError.{FillError}
use Rattle.std.specs.declared.env.FillError.TheVariants.{NotPresent, TooLong}
use Rattle.cckd_shelf.specs.Seen.{Seen}
use Rattle.cckd_shelf.specs.Frame.{PutsSome}
use Rattle.cckd_console.specs.Saying.{IsSaid, plain_text}

-- a word as a run gets it: one that is no text, or has more than 255 bytes, may stand nowhere, and is made empty
abbrev pub kept_word : List ℕ → List ℕ
kept_word word = if nat_le (length word) 255 && is_utf8 word then word else []

-- from this number on the words are this one and the others behind it
abbrev pub StandsAt : List ℕ → ℕ → List (List ℕ) → Type 0
StandsAt word number words = drop number words ≡ word ∷ drop (number + 1) words

-- what is answered to the word of a number: its length, with its bytes in front, or that there is no room for it, or no such word
abbrev pub IsWordAt : List (List ℕ) → ℕ → ℕ → List ℕ → Result ℕ FillError → Type 0
IsWordAt words number size room (Ok len) = StandsAt (take len room) number words
IsWordAt words number size room (Err TooLong) = (word : List ℕ) × StandsAt word number words × (size < length word)
IsWordAt words number size room (Err NotPresent) = drop number words ≡ []

-- the word of a number as a run gets it, and none behind the last
abbrev pub IsKeptAt : List (List ℕ) → ℕ → Option (List ℕ) → Type 0
IsKeptAt words number None = drop number words ≡ []
IsKeptAt words number (Some text) = (word : List ℕ) × StandsAt word number words × (text ≡ kept_word word)

-- what is said where there is no memory for the words
abbrev pub no_memory_line : List ℕ
no_memory_line = codes "no memory" ++ 10 ∷ []

-- A run with all these words, each in its place, explains the status. Or there was no memory for them: then that was said, as
-- far as the output took it, and nothing else was done, and the status is 8.
pub data IsRun (told : Type 0) (given : List (List ℕ)) (Explains : List (List ℕ) → Type 0) (old new : Seen) (status : ℕ) : Type 0 where
  with_words : (words : List (List ℕ)) → (told → words ≡ map kept_word given) → Explains words → IsRun told given Explains old new status
  without_memory : IsSaid (plain_text no_memory_line 8) old new status → PutsSome no_memory_line old new → IsRun told given Explains old new status
