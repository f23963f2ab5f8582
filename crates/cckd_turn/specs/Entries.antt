-- A history is a list of entries, each of which names the pass that made it.
use Rattle.std.specs.Prelude.{◌≡◌, ℕ, ◌+◌, ◌==◌, Bool, true, false, List, [], ◌∷◌, filter}

-- the entries that name the pass n, in their order
abbrev pub entries_of : {E : Type 0} → (E → ℕ) → ℕ → List E → List E
entries_of by n log = filter (λ e. by e == n) log

-- P holds of each element
abbrev pub Each : {A : Type 0} → (A → Type 0) → List A → Type 0
Each P [] = Unit {0}
Each P (x ∷ xs) = P x × Each P xs

-- f of each element, added up
abbrev pub total : {A : Type 0} → (A → ℕ) → List A → ℕ
total f [] = 0
total f (x ∷ xs) = f x + total f xs

-- 1 for what is counted, and 0 for anything else
abbrev pub one_if : Bool → ℕ
one_if true = 1
one_if false = 0

-- of each name, the list has just the entries that stand beside it
abbrev pub Owns : {E : Type 0} → (E → ℕ) → List E → List (ℕ × List E) → Type 0
Owns by log names = Each (λ name. entries_of by name.0 log ≡ name.1) names
