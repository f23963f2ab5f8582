-- What callers see of a `Stack`, the stack of layers that it stands for, and what a read of it answers.
use Rattle.std.specs.Prelude.{ℕ, zero, suc, ◌≡◌, ◌-◌, ◌≤◌, nat_lt, Bool, false, if◌then◌else◌, List, [], ◌∷◌, ◌++◌, length, map, take, drop, replicate, slice_index_or, Option, Some, None, Result, Ok, Err}
use Rattle.std.specs.List.{AllByRecursion}
use Rattle.cckd_shelf.specs.declared.fault.Faults.{Faults}
use Rattle.cckd_shelf.specs.declared.fault.Kind.{Kind}
use Rattle.cckd_shelf.specs.declared.fault.Kind.TheVariants.{Reads, Writes, Syncs}
use Rattle.cckd_shelf.specs.Faults.{Raises}
use Rattle.cckd_shelf.specs.Seen.{Seen, Tells, Stays}
use Rattle.cckd_shelf.specs.World.{IsSure, file_of}
use Rattle.cckd_base.specs.declared.geometry.Geometry.{Geometry}
use Rattle.cckd_base.specs.declared.fault.TrackFault.{TrackFault}
use Rattle.cckd_base.specs.declared.layer_fault.LayerFault.{LayerFault}
use Rattle.cckd_base.specs.declared.layer_fault.LayerFault.TheVariants as fault
use Rattle.cckd_base.specs.declared.layer_fault.StackFault.{StackFault}
use Rattle.cckd_base.specs.declared.layer_fault.StackFault.TheVariants as stack_fault
use Rattle.cckd_base.specs.Geometry.{track_count, IsGeometry}
use Rattle.cckd_layer.specs.Held.{NullBytes, held}
use Rattle.cckd_layer.specs.Mounted.{LayerState, CanRead, with_tables}
use Rattle.cckd_tables.specs.Looking.{with_cached}
use Rattle.cckd_stack.specs.Layers.{Layer, Stack, base, shadow, empty_layer, layer_count}
use Rattle.cckd_stack.specs.Answers.{counts_shown}

-- The geometry of all layers, the layers, the base first, and whether a write or a sync failed, so that nothing may be called
-- any more.
pub record StackState : Type 0 where
  pub geometry : Geometry
  pub layers : List LayerState
  pub broken : Bool

-- ---- the stack that it stands for

-- the tracks of a layer whose slot has this file
abbrev pub map_of : NullBytes → LayerState → List ℕ → Layer
map_of null s file t =
    if nat_lt t (track_count s.tables.layout.geo) then held null s.tables.layout s.tables.stages file t else None

-- those of each layer, where the slots have these files
abbrev pub maps_of : NullBytes → List LayerState → (ℕ → List ℕ) → List Layer
maps_of null layers files = map (λ s. map_of null s (files s.slot)) layers

-- the layer of a number, the base being number 0
abbrev pub map_at : List Layer → ℕ → Layer
map_at maps n = slice_index_or maps n empty_layer

-- the layers up to that of a number, as a stack
abbrev pub stack_to : List Layer → ℕ → Stack
stack_to maps zero = base (map_at maps 0)
stack_to maps (suc n) = shadow (map_at maps (suc n)) (stack_to maps n)

-- all of them, as a stack
abbrev pub stack_by : List Layer → Stack
stack_by maps = stack_to maps (length maps - 1)

-- the stack of these layers, where the slots have these files
abbrev pub stack_of : NullBytes → List LayerState → (ℕ → List ℕ) → Stack
stack_of null layers files = stack_by (maps_of null layers files)

-- ---- what always holds

-- the layer is that of a slot, and of a device of this shape
pub record IsLayerIn (g : Geometry) (slot : ℕ) (s : LayerState) : Type 0 where
  pub slot_is : s.slot ≡ slot
  pub shape : s.tables.layout.geo ≡ g

-- the layers are those of the slots from one on
abbrev pub AreLayersFrom : Geometry → ℕ → List LayerState → Type 0
AreLayersFrom g slot [] = Unit {0}
AreLayersFrom g slot (s ∷ ss) = IsLayerIn g slot s × AreLayersFrom g (suc slot) ss

-- no layer is broken
abbrev pub AreWhole : List LayerState → Type 0
AreWhole layers = AllByRecursion (λ s. s.broken ≡ false) layers

-- slot k has layer k, of which there are one to nine
pub record IsStack (s : StackState) : Type 0 where
  pub geometry : IsGeometry s.geometry
  pub some : 1 ≤ length s.layers
  pub few : length s.layers ≤ 9
  pub layers : AreLayersFrom s.geometry 0 s.layers
  pub whole : s.broken ≡ false → AreWhole s.layers

-- ---- reading

-- a fact of the files by slot, as far as it is told what they hold
abbrev pub OfFiles : ((ℕ → List ℕ) → Type 0) → Seen → Type 0
OfFiles P s = Tells s → IsSure s.world → P (file_of s.world)

-- what reading takes of all layers: each one's tables go with its slot's file, as far as that is told
abbrev pub CanReadAll : List LayerState → Seen → Type 0
CanReadAll layers s = AllByRecursion (λ layer. CanRead layer s) layers

-- a layer without its cached tables
abbrev pub uncached : LayerState → LayerState
uncached s = with_tables s (with_cached s.tables [])

-- only the cached tables of some layers are others
abbrev pub OnlyCaches : List LayerState → List LayerState → Type 0
OnlyCaches old new = map uncached new ≡ map uncached old

-- the state with other layers
abbrev pub with_layers : StackState → List LayerState → StackState
with_layers s layers = record s { layers = layers }

-- these bytes stand at the front of a buffer, of which the rest is as it was
pub record IsPut (bytes : List ℕ) (len : ℕ) (old new : List ℕ) : Type 0 where
  pub length_is : len ≡ length bytes
  pub put : new ≡ bytes ++ drop (length bytes) old

-- so many bytes at the front of a buffer pass the check
pub record Passes (check : List ℕ → Option TrackFault) (buffer : List ℕ) (len : ℕ) : Type 0 where
  pub within : len ≤ length buffer
  pub none : check (take len buffer) ≡ None

-- one of the layers refused for this
abbrev pub InLayer : (LayerFault → Type 0) → StackFault → Type 0
InLayer P (stack_fault.Layer why) = P why
InLayer P _ = ⊥

-- ---- faults

-- the kind of fault that a refusal tells
abbrev pub kind_told : StackFault → Option Kind
kind_told (stack_fault.Layer fault.ReadFault) = Some Reads
kind_told (stack_fault.Layer fault.WriteFault) = Some Writes
kind_told (stack_fault.Layer fault.SyncFault) = Some Syncs
kind_told _ = None

-- one fault of this kind was counted, or none
abbrev pub CountsKind : Option Kind → Faults → Faults → Type 0
CountsKind None old new = new ≡ old
CountsKind (Some kind) old new = Raises kind old new

-- the fault that a refusal tells was counted, and no other
abbrev pub CountsFault : {A : Type 0} → Result A StackFault → Faults → Faults → Type 0
CountsFault (Ok a) old new = new ≡ old
CountsFault (Err why) old new = CountsKind (kind_told why) old new

-- nothing was changed, and only the fault that is told was counted
pub record OnlyReads {A : Type 0} (result : Result A StackFault) (old new : Seen) : Type 0 where
  pub kept : Stays old new
  pub counts : CountsFault result old.faults new.faults

-- how many layers there are, and how many tracks each has
pub record Shows (g : Geometry) (s : Stack) (shown : ℕ × List ℕ) : Type 0 where
  pub layers : shown.0 ≡ layer_count s
  pub counts : shown.1 ≡ counts_shown g s

-- at most nine layers are shown, and 0 for each of nine that isn't there
pub record FitsShown (shown : ℕ × List ℕ) : Type 0 where
  pub few : shown.0 ≤ 9
  pub rest : drop shown.0 shown.1 ≡ replicate (9 - shown.0) 0

-- the fault that a check of a track answered
abbrev pub told_fault : Result (Unit {0}) TrackFault → Option TrackFault
told_fault (Ok _) = None
told_fault (Err why) = Some why
