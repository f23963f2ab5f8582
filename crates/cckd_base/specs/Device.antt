-- The devices of `dasdinit`: names, geometries and track sizes.
use Rattle.std.specs.Prelude.{ℕ, ◌+◌, ◌*◌, ◌/◌, List, [], ◌∷◌, codes, if◌then◌else◌, Option, Some, None}
use Rattle.std.specs.Str.{bytes_eq}
use Rattle.cckd_base.specs.declared.geometry.Geometry.{Geometry}

-- a model of a device, with the greatest data length of a track's one record
pub record Device : Type 0 where
  pub name : List ℕ
  pub devtype : ℕ
  pub cylinders : ℕ
  pub heads : ℕ
  pub greatest : ℕ

-- the models that can be made
abbrev pub devices : List Device
devices =
    record { name = codes "2311"; devtype = 0x11; cylinders = 200; heads = 10; greatest = 3625 }
    ∷ record { name = codes "2314"; devtype = 0x14; cylinders = 200; heads = 20; greatest = 7294 }
    ∷ record { name = codes "3330"; devtype = 0x30; cylinders = 404; heads = 19; greatest = 13030 }
    ∷ record { name = codes "3350"; devtype = 0x50; cylinders = 555; heads = 30; greatest = 19069 }
    ∷ record { name = codes "3380"; devtype = 0x80; cylinders = 885; heads = 15; greatest = 47476 }
    ∷ record { name = codes "3380-E"; devtype = 0x80; cylinders = 1770; heads = 15; greatest = 47476 }
    ∷ record { name = codes "3380-K"; devtype = 0x80; cylinders = 2655; heads = 15; greatest = 47476 }
    ∷ record { name = codes "3390-1"; devtype = 0x90; cylinders = 1113; heads = 15; greatest = 56664 }
    ∷ record { name = codes "3390-2"; devtype = 0x90; cylinders = 2226; heads = 15; greatest = 56664 }
    ∷ record { name = codes "3390-3"; devtype = 0x90; cylinders = 3339; heads = 15; greatest = 56664 }
    ∷ record { name = codes "3390-9"; devtype = 0x90; cylinders = 10017; heads = 15; greatest = 56664 }
    ∷ []

-- home address, record zero, one record and the end mark, rounded up to 512
abbrev pub track_size_for : ℕ → ℕ
track_size_for greatest = (37 + greatest + 511) / 512 * 512

-- the geometry of a model
abbrev pub geometry_for : Device → Geometry
geometry_for d =
    record { devtype = d.devtype; heads = d.heads; cyls = d.cylinders; track_size = track_size_for d.greatest }

-- the geometry of the first device of the list that has the name
abbrev pub geometry_among : List Device → List ℕ → Option Geometry
geometry_among [] name = None
geometry_among (d ∷ ds) name = if bytes_eq name d.name then Some (geometry_for d) else geometry_among ds name

-- the geometry of the model of this name
abbrev pub geometry_named : List ℕ → Option Geometry
geometry_named name = geometry_among devices name
