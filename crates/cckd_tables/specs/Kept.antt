-- Spaces that share no byte, in order of position.
use Rattle.std.specs.Prelude.{ℕ, ◌≡◌, ◌+◌, ◌≤◌, nat_le, nat_lt, Bool, true, ◌&&◌, if◌then◌else◌, List, [], ◌∷◌, ◌++◌}
use Rattle.std.specs.List.{AllByRecursion}
use Rattle.std.specs.Map.{values_of}
use Rattle.cckd_base.specs.declared.space.Extent.{Extent}

-- a space holds a byte, counted
abbrev pub holding : ℕ → Extent → ℕ
holding at e = if nat_le e.pos at && nat_lt at (e.pos + e.size) then 1 else 0

-- how many of the spaces hold a byte
abbrev pub holders : ℕ → List Extent → ℕ
holders at [] = 0
holders at (e ∷ es) = holding at e + holders at es

-- no byte is in two of the spaces
pub record ShareNone (spaces : List Extent) : Type 0 where
  pub each : (at : ℕ) → holders at spaces ≤ 1

-- each of the spaces has a byte
abbrev pub HaveBytes : List Extent → Type 0
HaveBytes spaces = AllByRecursion (λ e. 1 ≤ e.size) spaces

-- each begins where the one before has ended, or later
abbrev pub stand_apart : ℕ → List Extent → Bool
stand_apart at [] = true
stand_apart at (e ∷ es) = nat_le at e.pos && stand_apart (e.pos + e.size) es

-- where the last of them ends
abbrev pub end_of : ℕ → List Extent → ℕ
end_of at [] = at
end_of at (e ∷ es) = end_of (e.pos + e.size) es

-- each space is found by its position
abbrev pub AreKeyed : List (ℕ × Extent) → Type 0
AreKeyed late = AllByRecursion (λ p. p.0 ≡ p.1.pos) late

-- a run in order, and spaces by their position before its end, all of them apart
pub record KeepsOrder (run : List Extent) (late : List (ℕ × Extent)) : Type 0 where
  pub bytes : HaveBytes (run ++ values_of late)
  pub apart : ShareNone (run ++ values_of late)
  pub run_ordered : stand_apart 0 run ≡ true
  pub late_ordered : stand_apart 0 (values_of late) ≡ true
  pub keyed : AreKeyed late
  pub before : AllByRecursion (λ e. e.pos + e.size ≤ end_of 0 run) (values_of late)
