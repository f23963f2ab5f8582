-- The layer of a sound file whose last space may pass the file's end, and what completing makes of it.
use Rattle.std.specs.Prelude.{ℕ, ◌≡◌, ◌⊎◌, ◌+◌, ◌-◌, ◌<◌, ◌≤◌, true, false, List, [], length, Some}
use Rattle.cckd_shelf.specs.Seen.{Seen, Tells, Stays}
use Rattle.cckd_shelf.specs.World.{World, IsSure, file_of}
use Rattle.cckd_shelf.specs.Outcomes.{EachOutcome}
use Rattle.cckd_base.specs.declared.entry.L2Entry.{L2Entry}
use Rattle.cckd_base.specs.declared.space.Owner.TheVariants.{Track}
use Rattle.cckd_base.specs.Entry.{entry_at}
use Rattle.cckd_base.specs.Geometry.{track_count, format_limit}
use Rattle.cckd_base.specs.Survey.{used_spaces}
use Rattle.cckd_base.specs.Image.{IsSound, IsPlace}
use Rattle.cckd_space.specs.declared.piece.Piece.{Piece}
use Rattle.cckd_space.specs.Pieces.{pieces_of, last, begins_by}
use Rattle.cckd_space.specs.Plan.{IsSound as IsSoundPlan}
use Rattle.cckd_tables.specs.Looking.{with_cached}
use Rattle.cckd_tables.specs.Tables.{TableView, AreOf}
use Rattle.cckd_layer.specs.Held.{NullBytes, AreSame}
use Rattle.cckd_layer.specs.Marks.{FitsLayout}
use Rattle.cckd_layer.specs.Mounted.{LayerState, with_tables}
use Rattle.cckd_layer.specs.Sits.{identifiers_for}
use Rattle.cckd_layer.specs.Stands.{nothing_staged}
use Rattle.cckd_layer.specs.Writes.{Agrees, AgreesAgain, map_of}

-- The layer is as it was mounted from a sound file: nothing was changed, its words and its cached tables are the file's, and its
-- pieces are those of the file's survey. A stop leaves the file as it is. One space may pass the file's end, and its piece ends
-- with the file.
pub record Loose (s : LayerState) (w : World) : Type 0 where
  pub sure : IsSure w
  pub sound : IsSound (identifiers_for s.tables.layout) s.tables.layout (file_of w s.slot)
  pub stages : s.tables.stages ≡ nothing_staged
  pub marked : s.marked ≡ false
  pub hardened : s.hardened ≡ true
  pub are : AreOf s.tables (file_of w s.slot)
  pub fits : FitsLayout s.tables.layout s.header.cckd
  pub pieces : s.plan.pieces ≡ pieces_of 0 (used_spaces s.tables.layout (file_of w s.slot)) (length (file_of w s.slot))
  pub size : s.plan.size ≡ length (file_of w s.slot)
  pub laid : IsSoundPlan s.plan
  pub limited : s.plan.limit ≤ format_limit
  pub alone : EachOutcome s.slot (λ file. file ≡ file_of w s.slot) w.events

-- A layer is tied to the file of its slot: it agrees with it, or is as it was mounted from it.
abbrev pub Tied : LayerState → World → Type 0
Tied s w = Agrees s w ⊎ Loose s w

-- so it is, as far as it is told and no operation failed half way
abbrev pub TiedIn : LayerState → Seen → Type 0
TiedIn s seen = Tells seen → IsSure seen.world → Tied s seen.world

-- a layer that was tied to its file agrees with it, and has the bytes of each track that it had
pub record IsComplete (null : NullBytes) (s next : LayerState) (old new : Seen) : Type 0 where
  pub agrees : Agrees next new.world
  pub same : AreSame (track_count s.tables.layout.geo) (map_of null next new) (map_of null s old)

-- so it does, as far as it is told and no operation had failed half way
abbrev pub Completes : NullBytes → LayerState → LayerState → Seen → Seen → Type 0
Completes null s next old new = Tells old → IsSure old.world → IsComplete null s next old new

-- the layer is the same but for its cached tables and whether it is broken
pub record IsSameBeside (s next : LayerState) : Type 0 where
  pub rest : next ≡ record s { tables = next.tables; broken = next.broken }
  pub layout : next.tables.layout ≡ s.tables.layout
  pub stages : next.tables.stages ≡ s.tables.stages

-- a layer that agreed with its file agrees with it as before: all that changed is which tables are cached
pub record IsUndisturbed (null : NullBytes) (s next : LayerState) (old new : Seen) : Type 0 where
  pub world : new.world ≡ old.world
  pub rest : next ≡ with_tables s (with_cached s.tables next.tables.cached)
  pub again : AgreesAgain null s next old new

-- nothing was changed but which tables are cached, and the layer is tied to its file as before
pub record IsOnlyLooked (s next : LayerState) (old new : Seen) : Type 0 where
  pub kept : Stays old new
  pub rest : next ≡ with_tables s (with_cached s.tables next.tables.cached)
  pub tied : TiedIn next new

-- ---- what is found of a file that isn't snug

-- the entry with a size that ends at the end of a file of this length
abbrev pub clipped_entry : ℕ → L2Entry → L2Entry
clipped_entry n e = record { pos = e.pos; len = e.len; size = n - e.pos }

-- the last piece of a file is that of a track, and has so many bytes
pub record IsLastTrack (ps : List Piece) (t size : ℕ) : Type 0 where
  pub piece : Piece
  pub last_is : last (begins_by 4294967295) ps ≡ Some piece
  pub owner : piece.owner ≡ Track t
  pub size_is : piece.size ≡ size

-- the space of a track passes the file's end, and this is its entry with the size up to that end
pub record PassesEnd (s : LayerState) (w : World) (t : ℕ) (e : L2Entry) : Type 0 where
  pub loose : Loose s w
  pub low : t < track_count s.tables.layout.geo
  pub place : IsPlace (entry_at s.tables.layout (file_of w s.slot) t).pos
  pub past : length (file_of w s.slot) < (entry_at s.tables.layout (file_of w s.slot) t).pos + (entry_at s.tables.layout (file_of w s.slot) t).size
  pub clipped : e ≡ clipped_entry (length (file_of w s.slot)) (entry_at s.tables.layout (file_of w s.slot) t)

-- the tables once the level-one words were read anew: no table is in memory
abbrev pub bare_tables : TableView → List ℕ → TableView
bare_tables v words = record { layout = v.layout; words = words; stages = v.stages; cached = [] }
