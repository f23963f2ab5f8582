-- What the files of the slots are mounted as, or the first case by which they are refused.
use Rattle.std.specs.Prelude.{ℕ, zero, suc, ◌≡◌, ◌≢◌, ◌<◌, ◌≤◌, true, false, max, List, [], ◌∷◌, length, Some, None, Result, Ok, Err}
use Rattle.cckd_shelf.specs.Seen.{Seen, Tells, Makes, MayMake}
use Rattle.cckd_shelf.specs.World.{World, after_sync}
use Rattle.cckd_base.specs.declared.geometry.Geometry.{Geometry}
use Rattle.cckd_base.specs.declared.open_fault.OpenFault.{OpenFault}
use Rattle.cckd_base.specs.declared.open_fault.OpenFault.TheVariants as open_fault
use Rattle.cckd_base.specs.Header.{headers_of, header_fault, header_geometry, layout_of, is_present}
use Rattle.cckd_base.specs.Survey.{misfits}
use Rattle.cckd_base.specs.Image.{IsSnug, IsSound}
use Rattle.cckd_image.specs.declared.roles.Roles.{Roles}
use Rattle.cckd_image.specs.declared.roles.Roles.TheVariants.{Base, Shadow}
use Rattle.cckd_image.specs.Image.{identifiers_of}
use Rattle.cckd_tables.specs.Scan.{first_misfit}
use Rattle.cckd_layer.specs.Mounted.{LayerState, IsFresh, IsOf, kept_view}
use Rattle.cckd_layer.specs.Stands.{Stands}
use Rattle.cckd_layer.specs.Reads.{OfFile}
use Rattle.cckd_stack.specs.Stacked.{StackState, OfFiles, AreLayersFrom, AreWhole, CanReadAll}

-- ---- the slots that are there

-- so many slots are there, from the base on, and no other one
pub record IsRow (files : ℕ → List ℕ) (count : ℕ) : Type 0 where
  pub few : count ≤ 9
  pub there : (slot : ℕ) → slot < count → is_present (files slot) ≡ true
  pub none : (slot : ℕ) → count ≤ slot → slot ≤ 8 → is_present (files slot) ≡ false

-- the same, and where it is none, that the base isn't there
abbrev pub HasRow : (ℕ → List ℕ) → ℕ → Type 0
HasRow files zero = is_present (files 0) ≡ false
HasRow files (suc n) = IsRow files (suc n)

-- the slot is the first one that is there above one that isn't
pub record IsGap (files : ℕ → List ℕ) (slot : ℕ) : Type 0 where
  pub count : ℕ
  pub some : 1 ≤ count
  pub there : (k : ℕ) → k < count → is_present (files k) ≡ true
  pub none : (k : ℕ) → count ≤ k → k < slot → is_present (files k) ≡ false
  pub above : count < slot
  pub within : slot ≤ 8
  pub is : is_present (files slot) ≡ true

-- why it isn't told how many are there: one is there above one that isn't, or a call that reads failed
abbrev pub IsRowCause : Seen → OpenFault → Type 0
IsRowCause old (open_fault.Gap slot) = OfFiles (λ files. IsGap files slot) old
IsRowCause old open_fault.ReadFault = Unit {0}
IsRowCause old _ = ⊥

-- ---- the file of a slot

-- whose file stands in a slot: that of the base in slot 0, and shadows above
abbrev pub roles_in : ℕ → Roles
roles_in zero = Base
roles_in (suc n) = Shadow

-- what it begins with
abbrev pub identifiers_in : ℕ → List (List ℕ)
identifiers_in slot = identifiers_of (roles_in slot)

-- the geometry that the base's headers say
abbrev pub shape_of : (ℕ → List ℕ) → Geometry
shape_of files = header_geometry (headers_of (files 0))

-- a sound image that has its place in a slot, of a device of this shape
pub record IsImageIn (shape : Geometry) (slot : ℕ) (file : List ℕ) : Type 0 where
  pub sound : IsSound (identifiers_in slot) (layout_of (headers_of file)) file
  pub same : header_geometry (headers_of file) ≡ shape

-- The first case by which a file is refused in a slot: its headers have a fault, or they say another shape, or else its tables
-- have a misfit.
abbrev pub IsFileCase : Geometry → ℕ → List ℕ → OpenFault → Type 0
IsFileCase shape slot file (open_fault.Header at why) =
    (at ≡ slot) × (header_fault (identifiers_in slot) (headers_of file) (length file) ≡ Some why)
IsFileCase shape slot file (open_fault.Mismatch at base found) =
    (at ≡ slot) × (base ≡ shape) × (header_fault (identifiers_in slot) (headers_of file) (length file) ≡ None)
    × (found ≡ header_geometry (headers_of file)) × (found ≢ base)
IsFileCase shape slot file (open_fault.Scan at why) =
    (at ≡ slot) × (header_fault (identifiers_in slot) (headers_of file) (length file) ≡ None)
    × (header_geometry (headers_of file) ≡ shape) × (first_misfit (misfits (layout_of (headers_of file)) file) ≡ Some why)
IsFileCase shape slot file _ = ⊥

-- why a slot's file is no layer of a disk of this shape: its first case, or a call that reads or syncs failed, or memory was
-- wanted
abbrev pub IsSlotCause : Geometry → ℕ → Seen → OpenFault → Type 0
IsSlotCause shape slot old (open_fault.Gap at) = ⊥
IsSlotCause shape slot old open_fault.ReadFault = Unit {0}
IsSlotCause shape slot old open_fault.WriteFault = ⊥
IsSlotCause shape slot old open_fault.SyncFault = Unit {0}
IsSlotCause shape slot old open_fault.Memory = Unit {0}
IsSlotCause shape slot old why = OfFile slot (λ file. IsFileCase shape slot file why) old

-- the slot was synced, or, where there is no layer, maybe not, and nothing else was done
abbrev pub SyncsOne : ℕ → Result LayerState OpenFault → Seen → Seen → Type 0
SyncsOne slot (Ok s) old new = Makes (after_sync slot) old new
SyncsOne slot (Err why) old new = MayMake (after_sync slot) old new

-- ---- all files

-- the first case of so many slots: that of one of them, where no slot below it has one
pub record IsFirstCase (shape : Geometry) (files : ℕ → List ℕ) (count : ℕ) (why : OpenFault) : Type 0 where
  pub slot : ℕ
  pub low : slot < count
  pub sound : (k : ℕ) → k < slot → IsImageIn shape k (files k)
  pub case : IsFileCase shape slot (files slot) why

-- why so many slots have no layers of this shape: the same, or a call that reads or syncs failed, or memory was wanted
abbrev pub IsLayersCause : Geometry → ℕ → Seen → OpenFault → Type 0
IsLayersCause shape count old (open_fault.Gap at) = ⊥
IsLayersCause shape count old open_fault.ReadFault = Unit {0}
IsLayersCause shape count old open_fault.WriteFault = ⊥
IsLayersCause shape count old open_fault.SyncFault = Unit {0}
IsLayersCause shape count old open_fault.Memory = Unit {0}
IsLayersCause shape count old why = OfFiles (λ files. IsFirstCase shape files count why) old

-- The first case by which the files are refused, where no slot is there above one that isn't: that of a slot that is there, or
-- of the base where it isn't.
pub record IsRefused (files : ℕ → List ℕ) (why : OpenFault) : Type 0 where
  pub count : ℕ
  pub row : HasRow files count
  pub first : IsFirstCase (shape_of files) files (max 1 count) why

-- why there is no stack: the first case of the files, or a call that reads or syncs failed, or memory was wanted
abbrev pub IsMountCause : Seen → OpenFault → Type 0
IsMountCause old (open_fault.Gap slot) = OfFiles (λ files. IsGap files slot) old
IsMountCause old open_fault.ReadFault = Unit {0}
IsMountCause old open_fault.WriteFault = ⊥
IsMountCause old open_fault.SyncFault = Unit {0}
IsMountCause old open_fault.Memory = Unit {0}
IsMountCause old why = OfFiles (λ files. IsRefused files why) old

-- ---- what is mounted

-- each layer is new
abbrev pub AreFreshFrom : ℕ → ℕ → List LayerState → Type 0
AreFreshFrom limit slot [] = Unit {0}
AreFreshFrom limit slot (s ∷ ss) = IsFresh slot limit s × AreFreshFrom limit (suc slot) ss

-- each layer is that of its slot's file
abbrev pub AreOfFrom : (ℕ → List ℕ) → ℕ → List LayerState → Type 0
AreOfFrom files slot [] = Unit {0}
AreOfFrom files slot (s ∷ ss) = IsOf (roles_in slot) (files slot) s × AreOfFrom files (suc slot) ss

-- the layers are those of the slots that are there, of devices of one shape
pub record IsMounted (files : ℕ → List ℕ) (s : StackState) : Type 0 where
  pub row : IsRow files (length s.layers)
  pub shape : s.geometry ≡ shape_of files
  pub are : AreOfFrom files 0 s.layers

-- each layer of which the file is snug stands
abbrev pub StandFrom : (ℕ → List ℕ) → World → ℕ → List LayerState → Type 0
StandFrom files new slot [] = Unit {0}
StandFrom files new slot (s ∷ ss) =
    (IsSnug s.tables.layout (files slot) → Stands (kept_view s) slot new) × StandFrom files new (suc slot) ss

-- the first slots were synced, one after another
abbrev pub after_syncs : ℕ → World → World
after_syncs zero w = w
after_syncs (suc n) w = after_sync n (after_syncs n w)

-- the layers of the slots from the base on were mounted, as those of devices of this shape, and nothing was done but their syncs
pub record HasMounted (limit : ℕ) (shape : Geometry) (old new : Seen) (layers : List LayerState) : Type 0 where
  pub fresh : AreFreshFrom limit 0 layers
  pub shapes : AreLayersFrom shape 0 layers
  pub whole : AreWhole layers
  pub are : OfFiles (λ files. AreOfFrom files 0 layers) old
  pub stand : OfFiles (λ files. StandFrom files new.world 0 layers) old
  pub can_read : CanReadAll layers new
  pub synced : Makes (after_syncs (length layers)) old new
  pub counts : new.faults ≡ old.faults

-- nothing else was done
pub record OnlySyncsSome (old new : World) : Type 0 where
  pub count : ℕ
  pub few : count ≤ 9
  pub done : new ≡ after_syncs count old

-- the same as far as it is told
abbrev pub SyncsSome : Seen → Seen → Type 0
SyncsSome old new = Tells old → OnlySyncsSome old.world new.world
