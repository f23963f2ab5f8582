-- Versions of a record in a row.
use Rattle.std.specs.Prelude.{ℕ, ◌≡◌, ◌⊎◌, ◌+◌, ◌^◌, ◌<◌, ◌≤◌, ⊤, List, [], ◌∷◌, length}
use Rattle.cckd_record_example.specs.declared.updating.Version.{Version}
use Rattle.cckd_record_example.specs.Records.{Shows, LieApart}

-- the value is a record, and its place lies behind the entry
pub record IsFit (version : Version) : Type 0 where
  pub size : length version.value.items ≡ 600
  pub behind : 8 ≤ version.place
  pub room : version.place + 600 < 2 ^ 63

-- each goes to a place apart from the one before
abbrev pub AreInTurn : ℕ → List Version → Type 0
AreInTurn place [] = ⊤
AreInTurn place (next ∷ rest) = LieApart place next.place × AreInTurn next.place rest

-- the file reads as the old value, or as that of one of the versions
abbrev pub ShowsOne : ℕ → List ℕ → List Version → List ℕ → Type 0
ShowsOne place old [] file = Shows place old file
ShowsOne place old (next ∷ rest) file = Shows place old file ⊎ ShowsOne next.place next.value.items rest file

-- where the value lies after them
abbrev pub last_place : ℕ → List Version → ℕ
last_place place [] = place
last_place place (next ∷ rest) = last_place next.place rest

-- which value that is
abbrev pub last_value : List ℕ → List Version → List ℕ
last_value old [] = old
last_value old (next ∷ rest) = last_value next.value.items rest
