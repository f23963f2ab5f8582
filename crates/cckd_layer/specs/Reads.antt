-- What a layer answers to a read of a track, and what a read does to the outside.
use Rattle.std.specs.Prelude.{ℕ, zero, suc, if◌then◌else◌, ◌≡◌, ◌⊎◌, ◌+◌, ◌≤◌, ◌/◌, List, ◌++◌, length, take, drop, Option, Some, None, Result, Err}
use Rattle.cckd_shelf.specs.declared.fault.Faults.{Faults}
use Rattle.cckd_shelf.specs.declared.fault.Kind.TheVariants.{Reads}
use Rattle.cckd_shelf.specs.Faults.{Raises}
use Rattle.cckd_shelf.specs.Seen.{Seen, Tells, Stays}
use Rattle.cckd_shelf.specs.World.{IsSure, file_of}
use Rattle.cckd_base.specs.declared.fault.TrackFault.{TrackFault}
use Rattle.cckd_base.specs.declared.layer_fault.LayerFault.{LayerFault}
use Rattle.cckd_base.specs.declared.layer_fault.LayerFault.TheVariants as fault
use Rattle.cckd_tables.specs.Tables.{TableView}
use Rattle.cckd_tables.specs.Cached.{IsCached, KeepsCached}
use Rattle.cckd_tables.specs.Looking.{NeedsTable, NeedsNoTable, with_cached}
use Rattle.std.specs.Option.{is_some}
use Rattle.cckd_layer.specs.Held.{Tracks}
use Rattle.cckd_layer.specs.declared.held.Held.{Held}
use Rattle.cckd_layer.specs.declared.held.Held.TheVariants.{Here, Below}

-- a fact of the file in a slot, as far as it is told what the file holds
abbrev pub OfFile : ℕ → (List ℕ → Type 0) → Seen → Type 0
OfFile slot P s = Tells s → IsSure s.world → P (file_of s.world slot)

-- whether the layer has the track, by the bytes that it has of it
abbrev pub held_of : Option (List ℕ) → Held
held_of (Some bytes) = Here (length bytes)
held_of None = Below

-- a buffer with these bytes, if there are some, put over its front
abbrev pub filled_with : Option (List ℕ) → List ℕ → List ℕ
filled_with (Some bytes) out = bytes ++ drop (length bytes) out
filled_with None out = out

-- The answer to a read of a track of which the layer has these bytes: how many they are, and the bytes at the front of the
-- buffer; or that the track is looked up below, and a buffer that is as it was.
pub record Answers (bytes : Option (List ℕ)) (answer : Held) (old new : List ℕ) : Type 0 where
  pub said : answer ≡ held_of bytes
  pub filled : new ≡ filled_with bytes old

-- the first fault that a check finds in the bytes, if there are some
abbrev pub fault_in : (List ℕ → Option TrackFault) → Option (List ℕ) → Option TrackFault
fault_in check (Some bytes) = check bytes
fault_in check None = None

-- a check that found this refuses the bytes by their fault
abbrev pub CheckRefuses : Option TrackFault → LayerFault → Type 0
CheckRefuses None refusal = ⊥
CheckRefuses (Some why) refusal = refusal ≡ fault.Track why

-- the bytes that were answered pass the check, whether or not it is told what the file holds
abbrev pub IsAccepted : (List ℕ → Option TrackFault) → List ℕ → Held → Type 0
IsAccepted check out (Here len) = (len ≤ length out) × (check (take len out) ≡ None)
IsAccepted check out Below = Unit {0}

-- a read is refused for a track's fault, or because a call that reads failed
abbrev pub IsReadFault : LayerFault → Type 0
IsReadFault (fault.Track why) = Unit {0}
IsReadFault fault.ReadFault = Unit {0}
IsReadFault _ = ⊥

-- why a read has no answer: the bytes have this fault, or a call that reads failed
abbrev pub IsReadRefusal : Option TrackFault → LayerFault → Type 0
IsReadRefusal found (fault.Track why) = found ≡ Some why
IsReadRefusal found fault.ReadFault = Unit {0}
IsReadRefusal found _ = ⊥

-- a fault of reading raised its count and no other, and all else left the counts
abbrev pub CountsReads : {A : Type 0} → Result A LayerFault → Faults → Faults → Type 0
CountsReads (Err fault.ReadFault) old new = Raises Reads old new
CountsReads _ old new = new ≡ old

-- Of the tables only the cached ones changed: that of the track's group, if it was cached, still is, no other one is new, and
-- at most one other left. Where no table was needed, nothing changed.
pub record LooksUp (t : ℕ) (old new : TableView) : Type 0 where
  pub rest : new ≡ with_cached old new.cached
  pub cached : KeepsCached (t / 256) old.cached new.cached
  pub bare : NeedsNoTable t old → new ≡ old

-- no table has to be read for a track: none is needed, or it is cached
abbrev pub IsAtHand : ℕ → TableView → Type 0
IsAtHand t v = NeedsNoTable t v ⊎ IsCached (t / 256) v.cached

-- What a read of a track does to the calls and to the tables: it makes at most two calls, and at most one where the table is
-- at hand; a table that was needed is cached then, unless a call failed.
pub record LooksOnce {A : Type 0} (t : ℕ) (result : Result A LayerFault) (v next : TableView) (old new : Seen) : Type 0 where
  pub looks : LooksUp t v next
  pub used : NeedsTable t v → (result ≡ Err fault.ReadFault → ⊥) → IsCached (t / 256) next.cached
  pub called : new.calls ≤ old.calls + 2
  pub once : IsAtHand t v → new.calls ≤ old.calls + 1

-- nothing was changed, and only a fault of reading was counted
pub record OnlyReads {A : Type 0} (result : Result A LayerFault) (old new : Seen) : Type 0 where
  pub kept : Stays old new
  pub counts : CountsReads result old.faults new.faults

-- how many of the first tracks a map has
abbrev pub tracks_in : Tracks → ℕ → ℕ
tracks_in m zero = 0
tracks_in m (suc n) = tracks_in m n + (if is_some (m n) then 1 else 0)
