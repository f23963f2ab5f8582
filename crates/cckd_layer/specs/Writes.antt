-- What writing makes of a layer, and what a stop leaves of it.
use Rattle.std.specs.Prelude.{ℕ, ◌≡◌, ◌⊎◌, ◌<◌, Bool, true, false, List, [], ◌∷◌, ◌++◌, map, Option, Some, None, IsNone, IsSome, Result, Err}
use Rattle.cckd_shelf.specs.declared.fault.Faults.{Faults}
use Rattle.cckd_shelf.specs.declared.fault.Kind.TheVariants.{Reads, Writes, Syncs}
use Rattle.cckd_shelf.specs.Faults.{Raises}
use Rattle.cckd_shelf.specs.Seen.{Seen, Tells}
use Rattle.cckd_shelf.specs.World.{World, IsSure, file_of}
use Rattle.cckd_shelf.specs.Outcomes.{EachOutcome, AtEach}
use Rattle.cckd_shelf.specs.Frame.{OnlyIn}
use Rattle.cckd_base.specs.declared.geometry.Layout.{Layout}
use Rattle.cckd_base.specs.declared.layer_fault.LayerFault.{LayerFault}
use Rattle.cckd_base.specs.declared.layer_fault.LayerFault.TheVariants as fault
use Rattle.cckd_base.specs.declared.space.Full.{Full}
use Rattle.cckd_base.specs.declared.space.Extent.{Extent}
use Rattle.cckd_base.specs.declared.entry.L2Entry.{L2Entry}
use Rattle.cckd_base.specs.Geometry.{track_count}
use Rattle.cckd_space.specs.Pieces.{counted, is_leaving, is_pending, merged, released}
use Rattle.cckd_space.specs.Plan.{Plan, Becomes, IsSound, totals_of}
use Rattle.cckd_tables.specs.declared.device.Device.{Device}
use Rattle.cckd_tables.specs.declared.device.Device.TheVariants as device
use Rattle.cckd_tables.specs.Staging.{Stages, new_entry}
use Rattle.cckd_tables.specs.Stages.{with_entry, with_word}
use Rattle.cckd_tables.specs.Looking.{with_stages}
use Rattle.cckd_tables.specs.Tables.{AreOf}
use Rattle.cckd_tables.specs.Settling.{Settles}
use Rattle.cckd_layer.specs.Held.{Tracks, NullBytes, Later, AreSame, Stores, LiesWithin, Keeps, Holds, held}
use Rattle.cckd_layer.specs.Stands.{LayerView, Stands, nothing_staged}
use Rattle.cckd_layer.specs.Mounted.{LayerState, kept_view}
use Rattle.cckd_layer.specs.Acts.{committed_pieces, left_at, MayGiveBack}
use Rattle.cckd_base.specs.Image.{IsPlace}
use Rattle.cckd_layer.specs.Current.{claim, CanBeEntry}
use Rattle.cckd_layer.specs.Puts.{IsReserved, HasNoRoom}
use Rattle.cckd_layer.specs.declared.claiming.Places.{Places}
use Rattle.cckd_layer.specs.Marks.{FitsLayout}
use Rattle.cckd_layer.specs.Chain.{opened_header, closed_header}
use Rattle.cckd_layer.specs.Closed.{IsClosed}

-- what goes with the file of a layer that has claimed these places
abbrev pub claimed_view : List Extent → LayerState → LayerView
claimed_view claims s = record (kept_view s) { claims = claims }

-- The layer agrees with the file of its slot, and has claimed these places: it stands, and its words and its cached tables
-- are the file's. Its headers say the layout. Once it is hardened, nothing is staged, and a stop leaves the file as it is.
pub record AgreesWith (claims : List Extent) (s : LayerState) (w : World) : Type 0 where
  pub stands : Stands (claimed_view claims s) s.slot w
  pub are : AreOf s.tables (file_of w s.slot)
  pub fits : FitsLayout s.tables.layout s.header.cckd
  pub empty : s.hardened ≡ true → s.tables.stages ≡ nothing_staged
  pub alone : s.hardened ≡ true → EachOutcome s.slot (λ file. file ≡ file_of w s.slot) w.events

-- it has claimed none
abbrev pub Agrees : LayerState → World → Type 0
Agrees = AgreesWith []

-- so it does, as far as it is told and no operation failed half way
abbrev pub AgreesIn : LayerState → Seen → Type 0
AgreesIn s seen = Tells seen → IsSure seen.world → Agrees s seen.world

-- the bytes of each track that the layer has now
abbrev pub map_of : NullBytes → LayerState → Seen → Tracks
map_of null s seen = held null s.tables.layout s.tables.stages (file_of seen.world s.slot)

-- the entry that each track has now, the staged one or that of the file
abbrev pub entry_now : LayerState → Seen → ℕ → L2Entry
entry_now s seen t = new_entry s.tables.layout s.tables.stages (file_of seen.world s.slot) t

-- the layer agrees with its file, with these claims, and has the entry and the bytes of each track that it had
pub record AgreesAgainWith (claims : List Extent) (null : NullBytes) (s next : LayerState) (old new : Seen) : Type 0 where
  pub agrees : AgreesWith claims next new.world
  pub entries : (t : ℕ) → t < track_count s.tables.layout.geo → entry_now next new t ≡ entry_now s old t
  pub same : AreSame (track_count s.tables.layout.geo) (map_of null next new) (map_of null s old)

abbrev pub AgreesAgain : NullBytes → LayerState → LayerState → Seen → Seen → Type 0
AgreesAgain = AgreesAgainWith []

-- so it does where it agreed before, with other claims
abbrev pub KeepsMapWith : List Extent → List Extent → NullBytes → LayerState → LayerState → Seen → Seen → Type 0
KeepsMapWith before behind null s next old new = Tells old → AgreesWith before s old.world → AgreesAgainWith behind null s next old new

abbrev pub KeepsMap : NullBytes → LayerState → LayerState → Seen → Seen → Type 0
KeepsMap = KeepsMapWith [] []

-- At each operation a stop leaves what was once hardened or was written since, where it left that before and the layer has
-- nothing else. Nothing else comes up.
abbrev pub StopsWithinWith : List Extent → NullBytes → LayerState → Seen → Seen → Type 0
StopsWithinWith claims null s old new =
    (d : Tracks) (later : List Later) → Tells old → AgreesWith claims s old.world → LiesWithin (track_count s.tables.layout.geo) d later (map_of null s old)
    → EachOutcome s.slot (Keeps null s.tables.layout d later) old.world.events
    → AtEach old.world.events new.world.events (EachOutcome s.slot (Keeps null s.tables.layout d later))

abbrev pub StopsWithin : NullBytes → LayerState → Seen → Seen → Type 0
StopsWithin = StopsWithinWith []

-- what was Pending is Free; then what is staged is settled, and what it replaces is retired
pub record SettlesCommit (stages : Stages) (old new : Plan) : Type 0 where
  pub freed : Plan
  pub free : Becomes old freed (merged (map released old.pieces)) old.size
  pub sound : IsSound freed
  pub settled : Becomes freed new (committed_pieces stages freed.pieces) freed.size

-- What was staged stands in the tables, and is settled in the pieces. It isn't sure to stay.
pub record IsCommitted (old new : LayerState) : Type 0 where
  pub tables : Settles old.tables new.tables
  pub pieces : SettlesCommit old.tables.stages old.plan new.plan
  pub sound : IsSound new.plan
  pub rest : new ≡ record old { tables = new.tables; plan = new.plan; hardened = false }

-- a layer once a call failed: a read leaves it, and all else breaks it
abbrev pub failed_by : Device → LayerState → LayerState
failed_by device.Read s = s
failed_by device.Write s = record s { broken = true }
failed_by device.Sync s = record s { broken = true }

-- the fault of a layer that a fault of its tables is
abbrev pub fault_of : Device → LayerFault
fault_of device.Read = fault.ReadFault
fault_of device.Write = fault.WriteFault
fault_of device.Sync = fault.SyncFault

-- a call that writes or syncs and fails breaks the layer
abbrev pub is_broken_by : {A : Type 0} → Result A LayerFault → Bool
is_broken_by (Err fault.WriteFault) = true
is_broken_by (Err fault.SyncFault) = true
is_broken_by _ = false

-- a fault of the outside raised the count of its kind and no other, and all else left the counts
abbrev pub CountsLayer : {A : Type 0} → Result A LayerFault → Faults → Faults → Type 0
CountsLayer (Err fault.ReadFault) old new = Raises Reads old new
CountsLayer (Err fault.WriteFault) old new = Raises Writes old new
CountsLayer (Err fault.SyncFault) old new = Raises Syncs old new
CountsLayer _ old new = new ≡ old

-- a fault of the outside
abbrev pub IsOutside : LayerFault → Type 0
IsOutside (fault.Track why) = ⊥
IsOutside (fault.Full full) = ⊥
IsOutside _ = Unit {0}

-- the same slot, headers, layout and limit, and marked as before
pub record IsSameLayer (old new : LayerState) : Type 0 where
  pub slot : new.slot ≡ old.slot
  pub header : new.header ≡ old.header
  pub layout : new.tables.layout ≡ old.tables.layout
  pub limit : new.plan.limit ≡ old.plan.limit
  pub marked : new.marked ≡ old.marked

-- the same slot, layout and limit
pub record IsSameFile (old new : LayerState) : Type 0 where
  pub slot : new.slot ≡ old.slot
  pub layout : new.tables.layout ≡ old.tables.layout
  pub limit : new.plan.limit ≡ old.plan.limit

-- An act of a layer that has these claims: it is of the same file, and does nothing to another one. At each operation a
-- stop leaves what was once hardened or was written since, where it left that before.
pub record IsAct (claims : List Extent) (null : NullBytes) (s next : LayerState) (old new : Seen) : Type 0 where
  pub same : IsSameFile s next
  pub stopped : StopsWithinWith claims null s old new
  pub others : OnlyIn s.slot old new

-- something was written that isn't on the disk for good
abbrev pub IsPut : LayerState → LayerState → Type 0
IsPut old new = new ≡ record old { hardened = false }

-- the layer is the same, but for the headers, which say that it was opened
abbrev pub marked_layer : LayerState → LayerState
marked_layer s = record s { header = opened_header s.header; marked = true }

-- the layer is the same, but for the headers, which say that it was closed
abbrev pub closed_layer : LayerState → LayerState
closed_layer s = record s { header = closed_header (totals_of s.plan) s.header; marked = false }

-- the file of a slot is that of a closed image, and a stop leaves it as it is
pub record StaysClosed (l : Layout) (slot : ℕ) (w : World) : Type 0 where
  pub closed : IsClosed l (file_of w slot)
  pub alone : EachOutcome slot (λ file. file ≡ file_of w slot) w.events

-- what was Pending is Free, and all that was written is on the disk for good
pub record IsReleased (old new : LayerState) : Type 0 where
  pub pieces : Becomes old.plan new.plan (merged (map released old.plan.pieces)) old.plan.size
  pub sound : IsSound new.plan
  pub rest : new ≡ record old { plan = new.plan; hardened = true }

-- nothing is staged, no piece leaves, and none waits for a sync
pub record IsSettled (s : LayerState) : Type 0 where
  pub stages : s.tables.stages ≡ nothing_staged
  pub leaving : counted is_leaving s.plan.pieces ≡ 0
  pub pending : counted is_pending s.plan.pieces ≡ 0

-- a stop leaves what the layer has, and nothing else, where it agreed with its file before
abbrev pub StopHolds : NullBytes → LayerState → Seen → Seen → Type 0
StopHolds null s old new =
    Tells old → Agrees s old.world → EachOutcome s.slot (Holds null s.tables.layout (map_of null s old)) new.world.events

-- the same with other pieces
abbrev pub with_plan : LayerState → Plan → LayerState
with_plan s plan = record s { plan = plan }

-- the same with a new table staged for a group, and other pieces
abbrev pub with_table : ℕ → ℕ → LayerState → Plan → LayerState
with_table group pos s plan =
    record s { tables = with_stages s.tables (with_word (record { group = group; pos = pos }) s.tables.stages); plan = plan; hardened = false }

-- the same with an entry staged for a track, and other pieces
abbrev pub with_track : ℕ → L2Entry → LayerState → Plan → LayerState
with_track t e s plan =
    record s { tables = with_stages s.tables (with_entry (record { track = t; entry = e }) s.tables.stages); plan = plan; hardened = false }

-- An entry takes the claim of its space, where it names one. These claims are left.
pub record TakesClaim (e : L2Entry) (claims rest : List Extent) : Type 0 where
  pub space : IsPlace e.pos → claims ≡ claim e.pos e.size ∷ rest
  pub nothing : (IsPlace e.pos → ⊥) → claims ≡ rest

-- an entry can be staged for a track: its space is claimed, and it can be an entry of the file
pub record CanStage (claims rest : List Extent) (s : LayerState) (t : ℕ) (e : L2Entry) (w : Seen) : Type 0 where
  pub agrees : AgreesWith claims s w.world
  pub takes : TakesClaim e claims rest
  pub can : CanBeEntry s.tables.layout s.tables.stages (file_of w.world s.slot) t e

-- the layer agrees with its file, with these claims, and has these bytes for the track, and for the others those that it had
pub record StoresIn (claims : List Extent) (null : NullBytes) (s next : LayerState) (t : ℕ) (bytes : Option (List ℕ)) (old new : Seen) : Type 0 where
  pub agrees : AgreesWith claims next new.world
  pub stores : Stores (track_count s.tables.layout.geo) t bytes (map_of null s old) (map_of null next new)

-- What the pieces become where a track gets another entry: the space of its old one is given back, if that is staged, or else
-- leaves.
pub record FreesOld (staged : Option L2Entry) (pos len : ℕ) (old new : Plan) : Type 0 where
  pub leaves : IsNone staged → Becomes old new (left_at pos old.pieces) old.size
  pub given : IsSome staged → IsPlace pos → MayGiveBack pos len old new
  pub kept : IsSome staged → (IsPlace pos → ⊥) → new ≡ old

-- the claim of a place for so many bytes, where a place was wanted and given
abbrev pub claim_of : Option ℕ → Option ℕ → List Extent
claim_of (Some need) (Some pos) = claim pos need ∷ []
claim_of need place = []

-- the claims of a write: the place of the track's bytes, and that of the group's new table
abbrev pub claims_of : Option ℕ → Places → List Extent
claims_of need places = claim_of need places.track ++ claim_of (Some 2048) places.table

-- what a new table wants, where a group wants one
abbrev pub table_need : Bool → Option ℕ
table_need true = Some 2048
table_need false = None

-- a place was found for what was wanted, if something was
abbrev pub IsGranted : Option ℕ → Plan → Plan → Type 0
IsGranted (Some need) old new = IsReserved need old new
IsGranted None old new = new ≡ old

-- none was found for what was wanted
abbrev pub IsDenied : Option ℕ → Plan → Full → Type 0
IsDenied (Some need) plan full = HasNoRoom need plan full
IsDenied None plan full = ⊥

-- what a new table wants has no place, or what the track wants has none while the table's is held
abbrev pub HaveNoPlaces : Bool → Option ℕ → Plan → Full → Type 0
HaveNoPlaces wanted need plan full =
    IsDenied (table_need wanted) plan full ⊎ ((held : Plan) × IsGranted (table_need wanted) plan held × IsDenied need held full)
