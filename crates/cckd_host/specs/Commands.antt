-- The commands of the program.
use Rattle.std.specs.Prelude.{◌≡◌, ℕ, Bool, true, false, List, [], ◌∷◌, bytes_eq}
use Rattle.cckd_shelf.specs.Seen.{Seen}
use Rattle.cckd_dasdinit.specs.Words.{init_command}
use Rattle.cckd_dasdinit.specs.Explained.{ExplainsInit}
use Rattle.cckd_top.specs.Explained.{IsExplained}

-- whether the first word is the name of this command
abbrev pub is_command : List ℕ → List (List ℕ) → Bool
is_command name [] = false
is_command name (word ∷ more) = bytes_eq word name

-- A run whose first word is `dasdinit` is explained as the making of a base, and any other as one that serves a script.
pub record RunsCommand (words : List (List ℕ)) (old new : Seen) (status : ℕ) : Type 0 where
  pub makes : is_command init_command words ≡ true → ExplainsInit words old new status
  pub serves : is_command init_command words ≡ false → IsExplained words old new status
