-- Which places a write took, on which pieces they were found, and what became of the old ones.
use Rattle.std.specs.Prelude.{ℕ, ◌≡◌, ◌⊎◌, ◌/◌, ◌<◌, ◌≤◌, Bool, List, length, Option, Some, None}
use Rattle.cckd_shelf.specs.Seen.{Seen, Tells}
use Rattle.cckd_shelf.specs.World.{file_of}
use Rattle.cckd_base.specs.declared.entry.L2Entry.{L2Entry}
use Rattle.cckd_space.specs.declared.piece.Piece.{Piece}
use Rattle.cckd_space.specs.Plan.{Plan, Becomes, place_of}
use Rattle.cckd_tables.specs.Staging.{Stages, entry_for}
use Rattle.cckd_tables.specs.Stages.{free_count, with_entry, with_word}
use Rattle.cckd_tables.specs.Looking.{with_stages, with_cached, word_of}
use Rattle.cckd_layer.specs.Held.{NullBytes}
use Rattle.cckd_layer.specs.Acts.{left_at}
use Rattle.cckd_layer.specs.Mounted.{LayerState, with_tables}
use Rattle.cckd_layer.specs.declared.claiming.Places.{Places}
use Rattle.cckd_layer.specs.declared.writing.Stored.{Stored}
use Rattle.cckd_layer.specs.Writes.{Agrees, AgreesAgain, IsCommitted, IsSettled, IsGranted, FreesOld, entry_now, table_need, with_plan}
use Rattle.cckd_layer.specs.Preparing.{WantsTable, FindsRoom}
use Rattle.cckd_layer.specs.Storing.{IsStoredOf, need_of, entry_of_stored}

-- where that is put which is wanted, if something is: where it first fits, or else at the end
abbrev pub place_found : Option ℕ → List Piece → Option ℕ
place_found (Some need) ps = Some (place_of need ps)
place_found None ps = None

-- The places of a write were found on these pieces: first that of a new table, where one is wanted; and then, while that is held,
-- that of what is stored, where anything is.
pub record ArePlaced (wanted : Bool) (need : Option ℕ) (places : Places) (tried placed : Plan) : Type 0 where
  pub held : Plan
  pub table : places.table ≡ place_found (table_need wanted) tried.pieces
  pub table_held : IsGranted (table_need wanted) tried held
  pub track : places.track ≡ place_found need held.pieces
  pub track_held : IsGranted need held placed

-- they were found on the pieces of a layer, with a table's where the group of the track has none at a multiple of 8
pub record FindsPlaces (s : LayerState) (t : ℕ) (need : Option ℕ) (places : Places) (placed : Plan) : Type 0 where
  pub wanted : Bool
  pub wants : WantsTable s t wanted
  pub are : ArePlaced wanted need places s.plan placed

-- Where the places of a write are tried: on a layer as it is; or once all is hardened, and only where the layer had no room, or too
-- few pieces could be added.
abbrev pub IsTriedAt : LayerState → ℕ → Option ℕ → LayerState → Type 0
IsTriedAt s t need at = (at ≡ s) ⊎ (IsSettled at × (4 ≤ s.plan.spare → FindsRoom s t need → ⊥))

-- The places of a write to a layer were found and are held. It agreed with its file where they were tried, and had the map that it
-- had.
pub record TakesPlaces (null : NullBytes) (s next : LayerState) (t : ℕ) (need : Option ℕ) (places : Places) (old new : Seen) : Type 0 where
  pub at : LayerState
  pub again : AgreesAgain null s at old new
  pub tried : IsTriedAt s t need at
  pub finds : FindsPlaces at t need places next.plan
  pub rest : next ≡ with_plan at next.plan

-- A layer is readied for a write: it is as it was where two more entries and words could be staged, and else it was committed. No
-- more than which tables are cached changed then.
pub record IsReadied (s ready : LayerState) : Type 0 where
  pub first : LayerState
  pub free : 2 ≤ free_count s.tables.stages → first ≡ s
  pub few : free_count s.tables.stages < 2 → IsCommitted s first
  pub looked : ready ≡ with_tables first (with_cached first.tables ready.tables.cached)

-- the places of a write were found, on a layer that was readied for it
pub record IsTaken (null : NullBytes) (s next : LayerState) (t : ℕ) (need : Option ℕ) (places : Places) (old new : Seen) : Type 0 where
  pub ready : LayerState
  pub readied : IsReadied s ready
  pub moment : Seen
  pub again : AgreesAgain null s ready old moment
  pub takes : TakesPlaces null ready next t need places moment new

-- what is staged, with a group's new table where it gets one
abbrev pub staged_table : ℕ → Option ℕ → Stages → Stages
staged_table g (Some pos) stages = with_word (record { group = g; pos = pos }) stages
staged_table g None stages = stages

-- the pieces once a group's old table leaves, where it gets a new one
abbrev pub LeavesTable : ℕ → Option ℕ → LayerState → Plan → Type 0
LeavesTable g (Some pos) s plan = Becomes s.plan plan (left_at (word_of s.tables g) s.plan.pieces) s.plan.size
LeavesTable g None s plan = plan ≡ s.plan

-- The places of a write were staged: the group's new table, where it gets one, whose old one leaves; and the entry of the track,
-- whose old space is given back at once where that was staged, and else leaves.
pub record StagesPlaces (s next : LayerState) (t old : ℕ) (table : Option ℕ) (e : L2Entry) (len : ℕ) : Type 0 where
  pub between : Plan
  pub leaves : LeavesTable (t / 256) table s between
  pub frees : FreesOld (entry_for t s.tables.stages.entries) old len between next.plan
  pub tables : next.tables ≡ with_stages s.tables (with_entry (record { track = t; entry = e }) (staged_table (t / 256) table s.tables.stages))

-- A write of these bytes took its places: they were found and held, and what is stored of the bytes has its entry at the track's.
-- Nothing else became of the pieces.
pub record IsPlacedAt (null : NullBytes) (s next : LayerState) (t : ℕ) (bytes : List ℕ) (old new : Seen) : Type 0 where
  pub kept : Stored
  pub is_kept : IsStoredOf null s.tables.layout.geo t bytes kept
  pub places : Places
  pub found : LayerState
  pub moment : Seen
  pub taken : IsTaken null s found t (need_of kept) places old moment
  pub staged : StagesPlaces found next t (entry_now s old t).pos places.table (entry_of_stored kept places.track) (length (file_of new.world s.slot))

-- so it did where the layer agreed with its file
abbrev pub PlacesTrack : NullBytes → LayerState → LayerState → ℕ → List ℕ → Seen → Seen → Type 0
PlacesTrack null s next t bytes old new = Tells old → Agrees s old.world → IsPlacedAt null s next t bytes old new
