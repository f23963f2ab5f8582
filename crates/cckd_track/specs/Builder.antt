-- A track that is built record by record.
use Rattle.std.specs.Prelude.{◌≡◌, ◌<◌, ◌≤◌, ℕ, ◌+◌, ◌^◌, List, [], ◌∷◌, ◌++◌, length, take, drop, Result, Ok, Err}
use Rattle.std.specs.List.{flat_map}
use Rattle.cckd_base.specs.declared.geometry.Geometry.{Geometry}
use Rattle.cckd_base.specs.declared.geometry.Addr.{Addr}
use Rattle.cckd_base.specs.declared.fault.TrackFault.{TrackFault}
use Rattle.cckd_base.specs.declared.fault.TrackFault.TheVariants.{TooLong}
use Rattle.cckd_base.specs.Geometry.{address_of}
use Rattle.cckd_base.specs.Track.{CountKeyData, spelling, home_address, spelled_track, AreRecords}
use Rattle.cckd_track.specs.declared.building.Builder.{Builder}

-- a record with this address in its count
abbrev pub record_at_address : Addr → ℕ → List ℕ → List ℕ → CountKeyData
record_at_address a number key body = record { cylinder = a.cyl; head = a.head; number = number; key = key; body = body }

-- home address and records, without an end mark
abbrev pub open_track : Geometry → ℕ → List CountKeyData → List ℕ
open_track geo t records = home_address geo t 0 ++ flat_map spelling records

-- the track t of these records stands at the front of the buffer, with room for its end mark; what is behind it was there before
pub record Builds (geo : Geometry) (t : ℕ) (records : List CountKeyData) (before : List ℕ) (b : Builder) : Type 0 where
  pub here : b.address ≡ address_of geo t
  pub cylinder : b.address.cyl < 2 ^ 16
  pub head : b.address.head < 2 ^ 16
  pub most : b.max ≡ geo.track_size
  pub end : b.at ≡ length (open_track geo t records)
  pub front : take b.at b.out.now ≡ open_track geo t records
  pub behind : drop b.at b.out.now ≡ drop b.at before
  pub in_order : AreRecords records
  pub room : b.at + 8 ≤ b.max
  pub short : b.max ≤ 65024
  pub within : b.max ≤ length b.out.now

-- it builds some track
abbrev pub IsBuilding : Builder → Type 0
IsBuilding b = (geo : Geometry) × (t : ℕ) × (records : List CountKeyData) × (before : List ℕ) × Builds geo t records before b

-- The record was added behind these; or the track with it is longer than the track size, and nothing is changed.
abbrev pub Adds : Geometry → ℕ → List CountKeyData → CountKeyData → List ℕ → Result (Unit {0}) TrackFault → Builder → Type 0
Adds geo t records r before (Ok done) b = Builds geo t (records ++ r ∷ []) before b
Adds geo t records r before (Err fault) b =
    (fault ≡ TooLong (length (spelled_track geo t 0 (records ++ r ∷ []))) geo.track_size)
    × (geo.track_size < length (spelled_track geo t 0 (records ++ r ∷ [])))
    × Builds geo t records before b

-- the whole track was built at the front of the buffer, so many bytes, and is one
pub record IsBuilt (geo : Geometry) (t : ℕ) (records : List CountKeyData) (before : List ℕ) (len : ℕ) (out : List ℕ) : Type 0 where
  pub length_is : len ≡ length (spelled_track geo t 0 records)
  pub bytes : out ≡ spelled_track geo t 0 records ++ drop len before
  pub in_order : AreRecords records
  pub fits : len ≤ geo.track_size
