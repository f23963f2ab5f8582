-- What a write needs before it changes anything: room among what is staged, and places.
use Rattle.std.specs.Prelude.{ℕ, ◌≡◌, ◌/◌, ◌%◌, Bool, true, false, length, Option, Some, IfSome, Result, Ok}
use Rattle.std.specs.Option.{is_some}
use Rattle.cckd_shelf.specs.World.{World, file_of}
use Rattle.cckd_shelf.specs.Seen.{Seen, Tells, Stays}
use Rattle.cckd_base.specs.declared.space.Full.{Full}
use Rattle.cckd_base.specs.declared.layer_fault.LayerFault.{LayerFault}
use Rattle.cckd_base.specs.declared.layer_fault.LayerFault.TheVariants as fault
use Rattle.cckd_space.specs.Pieces.{counted, is_leaving, is_pending}
use Rattle.cckd_space.specs.Plan.{Plan}
use Rattle.cckd_tables.specs.Staging.{IsStaged}
use Rattle.cckd_tables.specs.Looking.{HasAlignedTable}
use Rattle.cckd_layer.specs.Mounted.{LayerState}
use Rattle.cckd_layer.specs.declared.preparing.Room.{Room}
use Rattle.cckd_layer.specs.Writes.{Agrees, HaveNoPlaces, with_plan}

-- nothing waits to be freed: no piece is Leaving, and none is Pending
pub record HasNoneToFree (plan : Plan) : Type 0 where
  pub leaving : counted is_leaving plan.pieces ≡ 0
  pub pending : counted is_pending plan.pieces ≡ 0

-- whether the group of a track wants a new table: it has none at a multiple of 8, and none is staged
pub record WantsTable (s : LayerState) (t : ℕ) (wanted : Bool) : Type 0 where
  pub new : wanted ≡ true → HasAlignedTable s.tables (t / 256) → ⊥
  pub old : wanted ≡ false → HasAlignedTable s.tables (t / 256)

-- The places of a write were given: one at a multiple of 8 for a table, or the group of its track has one; and one for what
-- is stored.
pub record IsRoom (s : LayerState) (t : ℕ) (need : Option ℕ) (room : Room) : Type 0 where
  pub aligned : IfSome room.places.table (λ pos. pos % 8 ≡ 0)
  pub table : is_some room.places.table ≡ false → HasAlignedTable s.tables (t / 256)
  pub track : is_some room.places.track ≡ is_some need

-- The group has no table at a multiple of 8 where one is given. The length that was noted is the file's, where a place may be
-- given back.
pub record SuitsFile (s : LayerState) (t : ℕ) (room : Room) (w : World) : Type 0 where
  pub new : is_some room.places.table ≡ true → HasAlignedTable s.tables (t / 256) → ⊥
  pub length_is : IsStaged t s.tables.stages → room.len ≡ length (file_of w s.slot)

-- A write has no room: its places aren't there on pieces with which the layer agrees with its file, with the layer's limit,
-- and of which none waits to be freed.
pub record LacksRoom (s : LayerState) (w : World) (t : ℕ) (need : Option ℕ) (full : Full) : Type 0 where
  pub tried : Plan
  pub agrees : Agrees (with_plan s tried) w
  pub limit : tried.limit ≡ s.plan.limit
  pub none : HasNoneToFree tried
  pub wanted : Bool
  pub wants : WantsTable s t wanted
  pub lacks : HaveNoPlaces wanted need tried full

-- why a write isn't given its places: no room, or a call failed
abbrev pub IsNoRoom : LayerState → World → ℕ → Option ℕ → LayerFault → Type 0
IsNoRoom s w t need (fault.Full full) = LacksRoom s w t need full
IsNoRoom s w t need (fault.Track why) = ⊥
IsNoRoom s w t need why = Unit {0}

-- so it is where the layer agreed with its file before
abbrev pub IsNoRoomIn : LayerState → LayerState → Seen → Seen → ℕ → Option ℕ → LayerFault → Type 0
IsNoRoomIn s next old new t need why = Tells old → Agrees s old.world → IsNoRoom next new.world t need why

-- no place was given: there is no room, or a call that reads failed
abbrev pub IsDenial : LayerFault → Type 0
IsDenial (fault.Full full) = Unit {0}
IsDenial fault.ReadFault = Unit {0}
IsDenial why = ⊥

-- why a try has no places: they aren't there on the pieces of the layer
abbrev pub IsDeniedFor : LayerState → ℕ → Option ℕ → LayerFault → Type 0
IsDeniedFor s t need (fault.Full full) = (wanted : Bool) × WantsTable s t wanted × HaveNoPlaces wanted need s.plan full
IsDeniedFor s t need why = Unit {0}

-- what a write may be refused for, but for the bytes given
abbrev pub IsUnwritten : LayerFault → Type 0
IsUnwritten (fault.Track why) = ⊥
IsUnwritten why = Unit {0}

-- there is room for a write on the pieces as they are
abbrev pub FindsRoom : LayerState → ℕ → Option ℕ → Type 0
FindsRoom s t need = (wanted : Bool) (full : Full) → WantsTable s t wanted → HaveNoPlaces wanted need s.plan full → ⊥

-- no place was given
abbrev pub IsUnplaced : Result (Option Room) LayerFault → Type 0
IsUnplaced (Ok (Some room)) = ⊥
IsUnplaced result = Unit {0}

-- nothing was done to the outside, and of the layer no more than its pieces changed
pub record IsUntouched (s next : LayerState) (old new : Seen) : Type 0 where
  pub rest : next ≡ with_plan s next.plan
  pub stays : Stays old new

-- nothing was done to the outside, and the layer counts as changed and as hardened where it did before
pub record IsUndone (s next : LayerState) (old new : Seen) : Type 0 where
  pub stays : Stays old new
  pub marked : next.marked ≡ s.marked
  pub hardened : next.hardened ≡ s.hardened
