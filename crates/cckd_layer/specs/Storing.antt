-- How the bytes that are given to a write are stored.
use Rattle.std.specs.Prelude.{ℕ, ◌≡◌, ◌⊎◌, ◌-◌, ◌+◌, ◌/◌, ◌<◌, ◌≤◌, max, List, [], ◌++◌, length, replicate, Bool, true, false, Option, Some, None, Result, Ok, Err}
use Rattle.std.specs.Option.{is_some, unwrap_or}
use Rattle.cckd_shelf.specs.Seen.{Seen, Tells}
use Rattle.cckd_shelf.specs.World.{file_of, after_write, after_torn}
use Rattle.cckd_base.specs.declared.geometry.Geometry.{Geometry}
use Rattle.cckd_base.specs.declared.entry.L2Entry.{L2Entry}
use Rattle.cckd_base.specs.Geometry.{track_count, IsNullFormat}
use Rattle.cckd_base.specs.Numbers.{bytes_at}
use Rattle.cckd_base.specs.Entry.{null_entry}
use Rattle.cckd_base.specs.Misfit.{entry_misfit}
use Rattle.cckd_base.specs.Image.{IsPlace}
use Rattle.cckd_space.specs.Pieces.{aligned_up}
use Rattle.cckd_tables.specs.Staging.{IsStaged}
use Rattle.cckd_tables.specs.Looking.{HasAlignedTable}
use Rattle.cckd_tables.specs.declared.device.Device.{Device}
use Rattle.cckd_tables.specs.declared.device.Device.TheVariants as device
use Rattle.cckd_layer.specs.declared.writing.Form.{Form}
use Rattle.cckd_layer.specs.declared.writing.Form.TheVariants as form
use Rattle.cckd_layer.specs.declared.writing.Stored.{Stored}
use Rattle.cckd_layer.specs.declared.writing.Stored.TheVariants as stored
use Rattle.cckd_base.specs.declared.space.Extent.{Extent}
use Rattle.cckd_layer.specs.Current.{claim, IsAmong}
use Rattle.cckd_layer.specs.Held.{NullBytes}
use Rattle.cckd_layer.specs.Mounted.{LayerState}
use Rattle.cckd_base.specs.declared.fault.TrackFault.{TrackFault}
use Rattle.cckd_base.specs.declared.layer_fault.LayerFault.{LayerFault}
use Rattle.cckd_base.specs.declared.layer_fault.LayerFault.TheVariants as fault
use Rattle.cckd_layer.specs.declared.writing.Prepared.{Prepared}
use Rattle.cckd_layer.specs.Writes.{Agrees, AgreesWith, AgreesAgainWith, StoresIn, TakesClaim, claim_of, claims_of, entry_now}
use Rattle.cckd_layer.specs.Preparing.{SuitsFile, LacksRoom, FindsRoom}

-- the bytes that are stored: those given, or what they say
abbrev pub stored_as : (List ℕ → List ℕ) → Form → List ℕ → List ℕ
stored_as value form.Given bytes = bytes
stored_as value form.Value bytes = value bytes

-- bytes with zeros up to a multiple of 8
abbrev pub padded : List ℕ → List ℕ
padded bytes = bytes ++ replicate (aligned_up (length bytes) - length bytes) 0

-- how many bytes want a place
abbrev pub need_of : Stored → Option ℕ
need_of (stored.Null format) = None
need_of (stored.Bytes len size) = Some size

-- the entry of a track of which this is stored, at this place
abbrev pub entry_of_stored : Stored → Option ℕ → L2Entry
entry_of_stored (stored.Null format) place = null_entry format
entry_of_stored (stored.Bytes len size) place = record { pos = unwrap_or place 0; len = len; size = size }

-- The bytes are stored so: as a format of which they are the null track, and as they are where there is none.
abbrev pub IsStoredOf : NullBytes → Geometry → ℕ → List ℕ → Stored → Type 0
IsStoredOf null g t bytes (stored.Null format) = IsNullFormat g format × (bytes ≡ null g t format)
IsStoredOf null g t bytes (stored.Bytes len size) =
    (len ≡ length bytes) × (size ≡ aligned_up (length bytes)) × ((format : ℕ) → IsNullFormat g format → bytes ≡ null g t format → ⊥)

-- bytes were put to their place in a file, with their zeros, or none were, where they have none
abbrev pub IsPutTo : Option ℕ → List ℕ → List ℕ → List ℕ → Type 0
IsPutTo (Some pos) bytes was file =
    (bytes_at file pos (length bytes) ≡ bytes) × (length file ≡ max (length was) (pos + aligned_up (length bytes)))
IsPutTo None bytes was file = length file ≡ length was

-- the place is claimed for so many bytes, where there is one
abbrev pub IsClaimed : Option ℕ → ℕ → List Extent → Type 0
IsClaimed (Some pos) n claims = IsAmong (claim pos n) claims
IsClaimed None n claims = Unit {0}

-- at most one write of these bytes was done to the slot's file, in whole or in part, and nothing else
abbrev pub IsOneWrite : ℕ → List ℕ → Seen → Seen → Type 0
IsOneWrite slot bytes old new =
    Tells old → (new.world ≡ old.world)
    ⊎ ((pos : ℕ) × ((new.world ≡ after_write slot pos bytes old.world) ⊎ (new.world ≡ after_torn slot pos bytes old.world)))

-- the places of a write of these bytes are there, on the layer's pieces as they are
abbrev pub HasRoomFor : NullBytes → LayerState → ℕ → List ℕ → Type 0
HasRoomFor null s t bytes = (st : Stored) → IsStoredOf null s.tables.layout.geo t bytes st → FindsRoom s t (need_of st)

-- of the layer no more than the mark changed, and whether it is hardened
abbrev pub IsMarkedFrom : LayerState → LayerState → Type 0
IsMarkedFrom s next = next ≡ record s { header = next.header; marked = next.marked; hardened = next.hardened }

-- a call that failed breaks the layer, unless it was one that reads
abbrev pub breaks : Result (Unit {0}) Device → Bool
breaks (Ok done) = false
breaks (Err device.Read) = false
breaks (Err device.Write) = true
breaks (Err device.Sync) = true

-- An entry of a track can be staged, whose old one points there: it can be in the file, and its space and that of the
-- group's new table are claimed, where it has one and one is given. One is given only where the group has none at a multiple
-- of 8. The length is the file's, where an entry is staged for the track.
pub record CanPlace (claims : List Extent) (s : LayerState) (t old : ℕ) (table : Option ℕ) (e : L2Entry) (len : ℕ) (w : Seen) : Type 0 where
  pub agrees : AgreesWith (claims ++ claim_of (Some 2048) table) s w.world
  pub takes : TakesClaim e claims []
  pub low : t < track_count s.tables.layout.geo
  pub fits : entry_misfit s.tables.layout (length (file_of w.world s.slot)) t e ≡ None
  pub snug : IsPlace e.pos → e.pos + e.size ≤ length (file_of w.world s.slot)
  pub new : is_some table ≡ true → HasAlignedTable s.tables (t / 256) → ⊥
  pub points : old ≡ (entry_now s w t).pos
  pub length_is : IsStaged t s.tables.stages → len ≡ length (file_of w.world s.slot)

-- A layer is ready for a write: it agrees with its file, with these places claimed, and has the map that it had. The places
-- suit the file, and the old entry points where it was noted.
pub record IsPrepared (null : NullBytes) (s next : LayerState) (t : ℕ) (old new : Seen) (p : Prepared) : Type 0 where
  pub again : AgreesAgainWith (claims_of (need_of p.stored) p.room.places) null s next old new
  pub suits : SuitsFile next t p.room new.world
  pub points : p.old ≡ (entry_now next new t).pos

-- what a write is refused for, but for bytes that are no track: that there is no room, or that a call failed
abbrev pub IsStoreRefusal : NullBytes → LayerState → LayerState → Seen → Seen → ℕ → List ℕ → LayerFault → Type 0
IsStoreRefusal null s next old new t bytes (fault.Full full) =
    Tells old → Agrees s old.world → (st : Stored) × IsStoredOf null s.tables.layout.geo t bytes st × LacksRoom next new.world t (need_of st) full
IsStoreRefusal null s next old new t bytes (fault.Track why) = ⊥
IsStoreRefusal null s next old new t bytes why = Unit {0}

-- where the layer agreed with its file it does again, and has these bytes of the track, and of the others those that it had
abbrev pub StoresTrack : NullBytes → LayerState → LayerState → ℕ → List ℕ → Seen → Seen → Type 0
StoresTrack null s next t bytes old new = Tells old → Agrees s old.world → StoresIn [] null s next t (Some bytes) old new

-- what a write of bytes with this fault as a track, if there is one, is refused for
abbrev pub IsWriteRefusal : NullBytes → Option TrackFault → LayerState → LayerState → Seen → Seen → ℕ → List ℕ → LayerFault → Type 0
IsWriteRefusal null found s next old new t bytes (fault.Track why) = found ≡ Some why
IsWriteRefusal null found s next old new t bytes why = (found ≡ None) × IsStoreRefusal null s next old new t bytes why

-- a refusal that doesn't break the layer
abbrev pub IsHarmless : LayerFault → Type 0
IsHarmless fault.WriteFault = ⊥
IsHarmless fault.SyncFault = ⊥
IsHarmless why = Unit {0}
