-- What a seat knows that has taken in other passes.
use Rattle.std.specs.Prelude.{◌≡◌, ℕ, List, [], ◌∷◌, ◌⊎◌, Some, slice_get}
use Rattle.cckd_turn.specs.declared.view.PassState.TheVariants.{Idle}
use Rattle.cckd_turn.specs.declared.view.View.{View}
use Rattle.cckd_turn.specs.declared.pass.Pass.{Pass}
use Rattle.cckd_turn.specs.Passes.{number_of, seen_by, own_of}

-- x is one of the list
abbrev pub Among : {A : Type 0} → A → List A → Type 0
Among x [] = ⊥
Among x (y ∷ ys) = (x ≡ y) ⊎ Among x ys

module _ {E : Type 0} where
  -- the view has the pass's name, and has heard what the pass had seen
  abbrev pub HasTakenIn : Pass E → View E → Type 0
  HasTakenIn p v = Among (number_of p, own_of p) v.names × Among (seen_by p) (v.seen ∷ v.heard)

  pub record HasAll (passes : List (Pass E)) (v : View E) : Type 0 where
    pub idle : v.state ≡ Idle
    pub each : (k : ℕ) (p : Pass E) → slice_get passes k ≡ Some p → HasTakenIn p v
