-- Where the first fault behind a track's home address stands: behind whole records.
use Rattle.std.specs.Prelude.{◌≡◌, ◌≢◌, ◌⊎◌, ℕ, ◌+◌, ◌%◌, ◌<◌, ◌≤◌, List, [], ◌++◌, length, take}
use Rattle.std.specs.List.{flat_map}
use Rattle.cckd_base.specs.declared.geometry.Geometry.{Geometry}
use Rattle.cckd_base.specs.declared.fault.TrackFault.{TrackFault}
use Rattle.cckd_base.specs.declared.fault.TrackFault.TheVariants.{NoEnd, BadRecord, TooLong, Compressed, WrongTrack}
use Rattle.cckd_base.specs.Track.{CountKeyData, spelling, end_mark, home_address, IsRecordZero, IsUserRecord, AreRecords}

-- the record may stand at a place: record zero at place 5, and any other behind it
abbrev pub MayStandAt : ℕ → CountKeyData → Type 0
MayStandAt at r = ((at ≡ 5) × IsRecordZero r) ⊎ ((5 < at) × IsUserRecord r)

-- the bytes at a place begin with a record that may stand there
abbrev pub HasRecord : ℕ → List ℕ → Type 0
HasRecord at rest = (r : CountKeyData) × (more : List ℕ) × MayStandAt at r × (rest ≡ spelling r ++ more)

-- the bytes at a place are no record that may stand there, and no end mark behind record zero
pub record IsNoRecord (at : ℕ) (rest : List ℕ) : Type 0 where
  pub enough : 8 ≤ length rest
  pub no_record : ¬ HasRecord at rest
  pub no_end : 5 < at → take 8 rest ≢ end_mark

-- the end mark stands at a place behind record zero, with bytes behind it
pub record HasMore (at : ℕ) (rest : List ℕ) : Type 0 where
  pub behind : 5 < at
  pub marked : take 8 rest ≡ end_mark
  pub more : 8 < length rest

-- the fault is that of the bytes at a place
abbrev pub IsFaultAt : ℕ → List ℕ → TrackFault → Type 0
IsFaultAt at rest (NoEnd place) = (place ≡ at) × (length rest < 8)
IsFaultAt at rest (BadRecord place) = ((place ≡ at) × IsNoRecord at rest) ⊎ ((place ≡ at + 8) × HasMore at rest)
IsFaultAt at rest (TooLong len max) = ⊥
IsFaultAt at rest (Compressed byte) = ⊥
IsFaultAt at rest (WrongTrack cylinder head) = ⊥

-- whole records, record zero first, and then a place with this fault
pub record StopsAt (bytes : List ℕ) (fault : TrackFault) : Type 0 where
  pub records : List CountKeyData
  pub rest : List ℕ
  pub front : bytes ≡ flat_map spelling records ++ rest
  pub in_order : (records ≡ []) ⊎ AreRecords records
  pub stop : IsFaultAt (5 + length (flat_map spelling records)) rest fault

-- a fault of bytes that fit and begin with the track's home address stands behind whole records
abbrev pub StopsBehindRecords : Geometry → ℕ → List ℕ → TrackFault → Type 0
StopsBehindRecords geo t bytes fault =
    (flag : ℕ) (rest : List ℕ) → length bytes ≤ geo.track_size → flag % 4 ≡ 0
    → bytes ≡ home_address geo t flag ++ rest → StopsAt rest fault
