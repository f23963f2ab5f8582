-- What the parts of a check say to each other.
use Rattle.std.specs.Prelude.{◌≡◌, ℕ, zero, suc, ◌+◌, ◌<◌, ◌≤◌, ◌==◌, nat_lt, Bool, ◌&&◌, not, if◌then◌else◌, List, ◌++◌, length, find, slice_get, slice_index, slice_set, Option, Some, None, Result, Ok, Err}
use Rattle.cckd_base.specs.declared.damage.Damage.{Damage}
use Rattle.cckd_base.specs.declared.geometry.Layout.{Layout}
use Rattle.cckd_base.specs.declared.order.Order.{Order}
use Rattle.cckd_base.specs.declared.geometry.Geometry.{Geometry}
use Rattle.cckd_base.specs.declared.fault.TrackFault.{TrackFault}
use Rattle.cckd_base.specs.declared.space.Extent.{Extent}
use Rattle.cckd_base.specs.declared.space.Owner.{Owner}
use Rattle.cckd_base.specs.declared.space.Owner.TheVariants.{Nobody, Header, Table, Track}
use Rattle.cckd_shelf.specs.Seen.{Seen, IsLength}
use Rattle.cckd_base.specs.Geometry.{track_count, IsGeometry}
use Rattle.cckd_base.specs.Survey.{used_spaces, StandApart}
use Rattle.cckd_check.specs.declared.report.Report.{Report}
use Rattle.cckd_check.specs.declared.tracking.Tracks.{Tracks}
use Rattle.cckd_check.specs.Chain.{link_at, next_at, may_follow, is_marked}
use Rattle.cckd_check.specs.Damage.{is_space_of, damage_by, unread_by, damage_below, unread_below, chain_damage, damage, unread}

-- the place of the next free space, where one may stand at a place behind another place
abbrev pub next_behind : Order → List Extent → List ℕ → ℕ → ℕ → Option ℕ
next_behind order used file before at =
    if may_follow used (length file) before (link_at order file at) then Some (next_at order file at) else None

-- the space that a number names: by its place in the list, counted from 1
abbrev pub space_named : List Extent → ℕ → Option Extent
space_named spaces zero = None
space_named spaces (suc n) = slice_get spaces n

-- of each track a number names the first of some spaces that is its own
pub record AreNoted (spaces some : List Extent) (places : List ℕ) : Type 0 where
  pub each : (t : ℕ) → t < length places → space_named spaces (slice_index places t) ≡ find (is_space_of t) some
  pub within : (t : ℕ) → slice_index places t ≤ length some

-- numbers with one more noted, where the track has none yet
abbrev pub noted : List ℕ → ℕ → ℕ → List ℕ
noted places track place =
    if nat_lt track (length places) && (slice_index places track == 0) then slice_set places track place else places

-- the same for the owner of a space, where that is a track
abbrev pub noted_for : Owner → List ℕ → ℕ → List ℕ
noted_for Nobody places place = places
noted_for Header places place = places
noted_for (Table group) places place = places
noted_for (Track track) places place = noted places track place

-- what a check answers as a fault, if it is one
abbrev pub fault_told : Result (Unit {0}) TrackFault → Option TrackFault
fault_told (Ok _) = None
fault_told (Err fault) = Some fault

-- the fault of a track was added to a report
pub record AddsFault (t : ℕ) (fault : Option TrackFault) (old new : Report) : Type 0 where
  pub found : new.found ≡ old.found ++ damage_by t fault
  pub unread_is : new.unread ≡ old.unread + unread_by fault

-- the faults of the first n tracks were added
pub record AddsTracks (level : ℕ) (g : Geometry) (used : List Extent) (file : List ℕ) (n : ℕ) (old new : Report) : Type 0 where
  pub found : new.found ≡ old.found ++ damage_below level g used file n
  pub unread_is : new.unread ≡ old.unread + unread_below level g used file n

-- the chain of free spaces is looked at: from level 1 on, in an image that was closed
abbrev pub wants_chain : ℕ → ℕ → Bool
wants_chain level options = not (level == 0) && not (is_marked options)

-- this damage was added, and nothing else
pub record AddsDamage (more : List Damage) (old new : Report) : Type 0 where
  pub found : new.found ≡ old.found ++ more
  pub unread_is : new.unread ≡ old.unread

-- so was that of the chain of free spaces
abbrev pub AddsChain : ℕ → Layout → List ℕ → Report → Report → Type 0
AddsChain level l file old new = AddsDamage (chain_damage level l file) old new

-- the faults of all tracks that the survey keeps were added
abbrev pub AddsAllTracks : ℕ → Layout → List ℕ → Report → Report → Type 0
AddsAllTracks level l file old new = AddsTracks level l.geo (used_spaces l file) file (track_count l.geo) old new

-- the report says all damage of a file with this layout, in order
pub record IsReportBy (l : Layout) (file : List ℕ) (level : ℕ) (r : Report) : Type 0 where
  pub found : r.found ≡ damage l file level
  pub unread_is : r.unread ≡ unread l file level

-- the device can be, the level is one at which tracks are looked at, and the spaces stand in order inside the slot's file
pub record CanCheck (tracks : Tracks) (slot : ℕ) (s : Seen) : Type 0 where
  pub geometry : IsGeometry tracks.geo.now
  pub level : 2 ≤ tracks.level
  pub apart : StandApart 0 tracks.spaces.now tracks.len
  pub length : IsLength slot tracks.len s
