-- The lines of a script, and the tokens of a line.
use Rattle.std.specs.Prelude.{◌≡◌, ◌≢◌, ◌⊎◌, ℕ, ◌==◌, if◌then◌else◌, List, [], ◌∷◌, ◌++◌}
use Rattle.std.specs.List.{AllByRecursion}

-- the most bytes of a line, without its line feed
abbrev pub line_limit : ℕ
line_limit = 131072

-- a byte in front of the first part, and a part of its own where there is none
abbrev pub begun : ℕ → List (List ℕ) → List (List ℕ)
begun b [] = (b ∷ []) ∷ []
begun b (part ∷ parts) = (b ∷ part) ∷ parts

-- a byte in front of the first part, and nothing where there is none
abbrev pub led : ℕ → List (List ℕ) → List (List ℕ)
led b [] = []
led b (part ∷ parts) = (b ∷ part) ∷ parts

-- the lines of a text: each ends with a line feed, which the last may lack
abbrev pub lines_of : List ℕ → List (List ℕ)
lines_of [] = []
lines_of (b ∷ rest) = if b == 10 then [] ∷ lines_of rest else begun b (lines_of rest)

-- the lines whose line feed is there
abbrev pub ended_lines : List ℕ → List (List ℕ)
ended_lines [] = []
ended_lines (b ∷ rest) = if b == 10 then [] ∷ ended_lines rest else led b (ended_lines rest)

-- a text that stops where a line stops: it is empty, or its last line has its line feed
abbrev pub StopsAtLine : List ℕ → Type 0
StopsAtLine text = (text ≡ []) ⊎ ((front : List ℕ) × (text ≡ front ++ 10 ∷ []))

-- a text without a line feed
abbrev pub HasNoFeed : List ℕ → Type 0
HasNoFeed text = AllByRecursion (λ b. b ≢ 10) text

-- the tokens of a line, which is cut at each single blank
abbrev pub tokens : List ℕ → List (List ℕ)
tokens [] = [] ∷ []
tokens (b ∷ rest) = if b == 32 then [] ∷ tokens rest else begun b (tokens rest)

-- tokens with a blank between each two
abbrev pub joined : List (List ℕ) → List ℕ
joined [] = []
joined (part ∷ []) = part
joined (part ∷ next ∷ parts) = part ++ 32 ∷ joined (next ∷ parts)
