-- What the calls of a layer make one after another.
use Rattle.std.specs.Prelude.{ℕ, List, [], ◌∷◌, Some}
use Rattle.cckd_shelf.specs.Seen.{Seen, Tells}
use Rattle.cckd_shelf.specs.World.{IsSure}
use Rattle.cckd_shelf.specs.Outcomes.{EachOutcome, AtEach}
use Rattle.cckd_base.specs.Geometry.{track_count}
use Rattle.cckd_layer.specs.Held.{NullBytes, Tracks, Later, Stores, LiesWithin, Keeps, Holds}
use Rattle.cckd_layer.specs.Mounted.{LayerState}
use Rattle.cckd_layer.specs.Writes.{Agrees, StaysClosed, StoresIn, map_of}

-- a track that is written, and what is stored of its bytes
abbrev pub written : (List ℕ → List ℕ) → ℕ → List ℕ → Later
written value t bytes = record { track = t; bytes = value bytes }

-- At each operation of all calls together a stop leaves what was once hardened or was written since, this write among it,
-- where it left that before and the layer had nothing else. Nothing else comes up.
abbrev pub StopsWritten : NullBytes → Later → LayerState → Seen → Seen → Type 0
StopsWritten null more s old new =
    (d : Tracks) (later : List Later) → Tells old → Agrees s old.world → LiesWithin (track_count s.tables.layout.geo) d later (map_of null s old)
    → EachOutcome s.slot (Keeps null s.tables.layout d later) old.world.events
    → AtEach old.world.events new.world.events (EachOutcome s.slot (Keeps null s.tables.layout d (more ∷ later)))

-- a stop leaves exactly one map, where the layer agreed with its file before: that which it had, with what was written in it
abbrev pub HoldsWritten : NullBytes → Later → LayerState → Seen → Seen → Type 0
HoldsWritten null more s old new =
    Tells old → Agrees s old.world
    → (m : Tracks) × Stores (track_count s.tables.layout.geo) more.track (Some more.bytes) (map_of null s old) m × EachOutcome s.slot (Holds null s.tables.layout m) new.world.events

-- the file is that of a closed image then, and a stop leaves it as it is
abbrev pub ClosesFile : LayerState → Seen → Seen → Type 0
ClosesFile s old new = Tells old → Agrees s old.world → StaysClosed s.tables.layout s.slot new.world

-- a layer that was tied to its file agrees with it then, and has these bytes of the track, and of the others those that it had
abbrev pub StoresTied : NullBytes → Later → LayerState → LayerState → Seen → Seen → Type 0
StoresTied null more s next old new = Tells old → IsSure old.world → StoresIn [] null s next more.track (Some more.bytes) old new
