-- What callers see of a layer, and what mounting makes of a file.
use Rattle.std.specs.Prelude.{ℕ, ◌≡◌, ◌+◌, ◌*◌, ◌<◌, ◌≤◌, Bool, true, false, List, [], length, Option, None, Some, Result, Err}
use Rattle.cckd_shelf.specs.declared.fault.Faults.{Faults}
use Rattle.cckd_shelf.specs.declared.fault.Kind.TheVariants.{Reads, Syncs}
use Rattle.cckd_shelf.specs.Faults.{Raises}
use Rattle.cckd_shelf.specs.World.{after_sync}
use Rattle.cckd_shelf.specs.Seen.{Seen, Stays, Makes}
use Rattle.cckd_base.specs.declared.geometry.Geometry.{Geometry}
use Rattle.cckd_base.specs.declared.geometry.Layout.{Layout}
use Rattle.cckd_base.specs.declared.fault.HeaderFault.{HeaderFault}
use Rattle.cckd_base.specs.declared.open_fault.OpenFault.{OpenFault}
use Rattle.cckd_base.specs.declared.open_fault.OpenFault.TheVariants as open_fault
use Rattle.cckd_base.specs.declared.space.Extent.{Extent}
use Rattle.cckd_base.specs.Geometry.{track_count}
use Rattle.cckd_base.specs.Header.{headers_of, header_fault, header_geometry, layout_of}
use Rattle.cckd_base.specs.Misfit.{entry_misfit}
use Rattle.cckd_base.specs.Survey.{header_space, misfits, used_spaces, HasNoMisfit}
use Rattle.cckd_base.specs.Image.{IsHeaded, IsSound}
use Rattle.cckd_image.specs.declared.header.ImageHeader.{ImageHeader}
use Rattle.cckd_image.specs.declared.roles.Roles.{Roles}
use Rattle.cckd_image.specs.Image.{identifiers_of, header_of}
use Rattle.cckd_space.specs.Pieces.{Has, pieces_of, used_piece}
use Rattle.cckd_space.specs.Plan.{Plan, IsSound as IsSoundPlan}
use Rattle.cckd_tables.specs.Scan.{first_misfit}
use Rattle.cckd_tables.specs.Staging.{new_entry}
use Rattle.cckd_tables.specs.Tables.{TableView, AreOf}
use Rattle.cckd_layer.specs.Stands.{LayerView, nothing_staged}
use Rattle.cckd_layer.specs.Reads.{OfFile}

-- All that a layer is: its slot, the headers that were last read from its file or written to it, its tables and its pieces; whether it was changed since
-- it was mounted or closed, whether all that was written is on the disk for good, and whether a write, a cut or a sync failed.
pub record LayerState : Type 0 where
  pub slot : ℕ
  pub header : ImageHeader
  pub tables : TableView
  pub plan : Plan
  pub marked : Bool
  pub hardened : Bool
  pub broken : Bool

-- what of it goes with the file
abbrev pub kept_view : LayerState → LayerView
kept_view s = record { layout = s.tables.layout; stages = s.tables.stages; claims = []; plan = s.plan; marked = s.marked }

-- the same with other tables
abbrev pub with_tables : LayerState → TableView → LayerState
with_tables s tables = record s { tables = tables }

-- What reading takes of a file: the words and the cached tables are the file's, and each entry, the staged ones put over, can be.
pub record ReadsFrom (tables : TableView) (file : List ℕ) : Type 0 where
  pub are : AreOf tables file
  pub entries : (t : ℕ) → t < track_count tables.layout.geo
      → entry_misfit tables.layout (length file) t (new_entry tables.layout tables.stages file t) ≡ None

-- so it is of the layer's file, as far as that is told
abbrev pub CanRead : LayerState → Seen → Type 0
CanRead s = OfFile s.slot (ReadsFrom s.tables)

-- how many pieces a layer has room for
abbrev pub reserve : Layout → ℕ
reserve l = 2 * (track_count l.geo + l.groups + 1024) + 1

-- there is room for so many pieces: those there are, and those that may still be added
abbrev pub IsRoomy : TableView → Plan → Type 0
IsRoomy tables plan = reserve tables.layout ≤ plan.spare + length plan.pieces

-- Nothing is staged, kept in memory or changed yet. The pieces cover the file, the header area is one of them, and there is
-- room for as many as a layer may have.
pub record IsFresh (slot limit : ℕ) (s : LayerState) : Type 0 where
  pub slot_is : s.slot ≡ slot
  pub limit_is : s.plan.limit ≡ limit
  pub stages : s.tables.stages ≡ nothing_staged
  pub cached : s.tables.cached ≡ []
  pub marked : s.marked ≡ false
  pub hardened : s.hardened ≡ true
  pub broken : s.broken ≡ false
  pub sound : IsSoundPlan s.plan
  pub room : IsRoomy s.tables s.plan
  pub area : Has (used_piece (header_space s.tables.layout.groups)) s.plan.pieces

-- the layer is that of a sound image: its layout, its headers, its words, and the spaces that its survey finds in use
pub record IsOf (roles : Roles) (file : List ℕ) (s : LayerState) : Type 0 where
  pub sound : IsSound (identifiers_of roles) s.tables.layout file
  pub header : s.header ≡ header_of (headers_of file)
  pub tables : AreOf s.tables file
  pub pieces : s.plan.pieces ≡ pieces_of 0 (used_spaces s.tables.layout file) (length file)
  pub size : s.plan.size ≡ length file

-- the headers of a file in roles, of which the layer's headers and layout are made, and its length
pub record HasHeaders (roles : Roles) (header : ImageHeader) (l : Layout) (len : ℕ) (file : List ℕ) : Type 0 where
  pub headed : IsHeaded (identifiers_of roles) l file
  pub read : header ≡ header_of (headers_of file)
  pub long : len ≡ length file

-- the spaces in use of a file without a misfit
pub record HasSpaces (l : Layout) (spaces : List Extent) (file : List ℕ) : Type 0 where
  pub clean : HasNoMisfit l file
  pub used : spaces ≡ used_spaces l file

-- the headers of a file in roles have no fault, and say this geometry
pub record SaysGeometry (roles : Roles) (geo : Geometry) (file : List ℕ) : Type 0 where
  pub sound : header_fault (identifiers_of roles) (headers_of file) (length file) ≡ None
  pub says : geo ≡ header_geometry (headers_of file)

-- why the headers of a file say none: their first fault, or a call that reads failed
abbrev pub IsLookCause : Roles → ℕ → Seen → OpenFault → Type 0
IsLookCause roles slot old (open_fault.Header at why) =
    (at ≡ slot) × OfFile slot (λ file. header_fault (identifiers_of roles) (headers_of file) (length file) ≡ Some why) old
IsLookCause roles slot old open_fault.ReadFault = Unit {0}
IsLookCause roles slot old _ = ⊥

-- the headers of the slot's file are refused by their first fault
abbrev pub IsHeaderRefusal : ℕ → Option HeaderFault → OpenFault → Type 0
IsHeaderRefusal slot found (open_fault.Header at why) = (at ≡ slot) × (found ≡ Some why)
IsHeaderRefusal slot found _ = ⊥

-- why the tables of a file give no spaces
abbrev pub IsSurveyCause : ℕ → Layout → Seen → OpenFault → Type 0
IsSurveyCause slot l old (open_fault.Scan at why) = (at ≡ slot) × OfFile slot (λ file. first_misfit (misfits l file) ≡ Some why) old
IsSurveyCause slot l old open_fault.ReadFault = Unit {0}
IsSurveyCause slot l old open_fault.Memory = Unit {0}
IsSurveyCause slot l old _ = ⊥

-- why the words of a file aren't loaded
abbrev pub IsLoadCause : OpenFault → Type 0
IsLoadCause open_fault.ReadFault = Unit {0}
IsLoadCause open_fault.Memory = Unit {0}
IsLoadCause _ = ⊥

-- why the file of a slot is none of a layer: the first fault of its headers, or, where they have none, its first misfit
abbrev pub IsFileCause : Roles → ℕ → Seen → OpenFault → Type 0
IsFileCause roles slot old (open_fault.Header at why) =
    (at ≡ slot) × OfFile slot (λ file. header_fault (identifiers_of roles) (headers_of file) (length file) ≡ Some why) old
IsFileCause roles slot old (open_fault.Scan at why) =
    (at ≡ slot) × OfFile slot (λ file. (header_fault (identifiers_of roles) (headers_of file) (length file) ≡ None)
    × (first_misfit (misfits (layout_of (headers_of file)) file) ≡ Some why)) old
IsFileCause roles slot old open_fault.ReadFault = Unit {0}
IsFileCause roles slot old open_fault.Memory = Unit {0}
IsFileCause roles slot old _ = ⊥

-- why a layer isn't mounted: the same, or the sync that comes first failed
abbrev pub IsOpenCause : Roles → ℕ → Seen → OpenFault → Type 0
IsOpenCause roles slot old open_fault.SyncFault = Unit {0}
IsOpenCause roles slot old why = IsFileCause roles slot old why

-- a fault of reading or of syncing raised its count and no other, and all else left the counts
abbrev pub CountsOpen : {A : Type 0} → Result A OpenFault → Faults → Faults → Type 0
CountsOpen (Err open_fault.ReadFault) old new = Raises Reads old new
CountsOpen (Err open_fault.SyncFault) old new = Raises Syncs old new
CountsOpen _ old new = new ≡ old

-- nothing was changed, and only such a fault was counted
pub record OnlyLooks {A : Type 0} (result : Result A OpenFault) (old new : Seen) : Type 0 where
  pub kept : Stays old new
  pub counts : CountsOpen result old.faults new.faults

-- the slot was synced and nothing else was done; a sync that failed did nothing
abbrev pub OnlySyncs : {A : Type 0} → ℕ → Result A OpenFault → Seen → Seen → Type 0
OnlySyncs slot (Err open_fault.SyncFault) old new = Stays old new
OnlySyncs slot _ old new = Makes (after_sync slot) old new
