-- A track of a CKD device: home address, records and end mark, and the first fault of bytes that are none.
use Rattle.std.specs.Prelude.{◌≡◌, ◌<◌, ◌≤◌, ℕ, zero, suc, ◌+◌, ◌^◌, ◌/◌, ◌%◌, ◌==◌, nat_lt, Bool, ◌&&◌, not, if◌then◌else◌, List, [], ◌∷◌, ◌++◌, length, take, drop, replicate, slice_index, pred, Option, Some, None, Result, Ok, Err}
use Rattle.std.specs.List.{flat_map, AllByRecursion}
use Rattle.std.specs.Option.{option_or}
use Rattle.std.specs.Int.{w16, to_be_bytes, from_be_bytes}
use Rattle.std.specs.Str.{bytes_eq}
use Rattle.cckd_base.specs.declared.geometry.Geometry.{Geometry}
use Rattle.cckd_base.specs.declared.geometry.Addr.{Addr}
use Rattle.cckd_base.specs.declared.fault.TrackFault.{TrackFault}
use Rattle.cckd_base.specs.declared.fault.TrackFault.TheVariants.{TooLong, NoEnd, Compressed, WrongTrack, BadRecord}
use Rattle.cckd_base.specs.Geometry.{address_of}

-- a record: the address in its count, its number, key and data
pub record CountKeyData : Type 0 where
  pub cylinder : ℕ
  pub head : ℕ
  pub number : ℕ
  pub key : List ℕ
  pub body : List ℕ

-- cylinder and head, two bytes each
abbrev pub address_bytes : ℕ → ℕ → List ℕ
address_bytes cylinder head = to_be_bytes w16 cylinder ++ to_be_bytes w16 head

-- count, key and data
abbrev pub spelling : CountKeyData → List ℕ
spelling r =
    address_bytes r.cylinder r.head ++ r.number ∷ length r.key ∷ []
    ++ to_be_bytes w16 (length r.body) ++ r.key ++ r.body

-- what ends a track
abbrev pub end_mark : List ℕ
end_mark = replicate 8 255

-- a flag byte and the address of a track
abbrev pub home_address : Geometry → ℕ → ℕ → List ℕ
home_address geo t flag = flag ∷ address_bytes (t / geo.heads) (t % geo.heads)

-- home address, records and end mark
unfoldable pub spelled_track : Geometry → ℕ → ℕ → List CountKeyData → List ℕ
spelled_track geo t flag records = home_address geo t flag ++ flat_map spelling records ++ end_mark

-- a count holds two bytes of cylinder, two of head, one each of number and key length, two of data length
pub record FitsCount (r : CountKeyData) : Type 0 where
  pub cylinder : r.cylinder < 2 ^ 16
  pub head : r.head < 2 ^ 16
  pub number : r.number < 2 ^ 8
  pub key : length r.key < 2 ^ 8
  pub body : length r.body < 2 ^ 16

-- the record that each track begins with
pub record IsRecordZero (r : CountKeyData) : Type 0 where
  pub fits : FitsCount r
  pub number : r.number ≡ 0
  pub key : r.key ≡ []
  pub body : length r.body ≡ 8

-- a record behind it
pub record IsUserRecord (r : CountKeyData) : Type 0 where
  pub fits : FitsCount r
  pub number : 0 < r.number

-- record zero, and any number of user records behind it
abbrev pub AreRecords : List CountKeyData → Type 0
AreRecords [] = ⊥
AreRecords (r ∷ rs) = IsRecordZero r × AllByRecursion IsUserRecord rs

-- the bytes are these records of track t, in a flag byte whose low two bits name no compression
pub record IsTrackOf (geo : Geometry) (t : ℕ) (bytes : List ℕ) (flag : ℕ) (records : List CountKeyData) : Type 0 where
  pub spelled : bytes ≡ spelled_track geo t flag records
  pub uncompressed : flag % 4 ≡ 0
  pub in_order : AreRecords records
  pub fits : length bytes ≤ geo.track_size

-- the bytes of a track: with some flag byte and some records
abbrev pub IsTrack : Geometry → ℕ → List ℕ → Type 0
IsTrack geo t bytes = (flag : ℕ) × (records : List CountKeyData) × IsTrackOf geo t bytes flag records

-- a record zero of eight zero bytes, with this address
abbrev pub null_record_zero : Addr → CountKeyData
null_record_zero a = record { cylinder = a.cyl; head = a.head; number = 0; key = []; body = replicate 8 0 }

-- a record one without key and data
abbrev pub null_record_one : Addr → CountKeyData
null_record_one a = record { cylinder = a.cyl; head = a.head; number = 1; key = []; body = [] }

-- the records of a null track, by its format: both of these, or record zero alone
abbrev pub null_records : Addr → ℕ → List CountKeyData
null_records a zero = null_record_zero a ∷ null_record_one a ∷ []
null_records a (suc zero) = null_record_zero a ∷ []
null_records a (suc (suc format)) = []

-- the bytes of a null track
unfoldable pub null_track : Geometry → ℕ → ℕ → List ℕ
null_track geo t format = spelled_track geo t 0 (null_records (address_of geo t) format)

-- the bytes of a track that was accepted, without the other bits of the flag byte
abbrev pub track_value : List ℕ → List ℕ
track_value bytes = 0 ∷ drop 1 bytes

-- the fields of a count: the record's number
abbrev pub record_number : List ℕ → ℕ
record_number count = slice_index count 4

-- the bytes of its key
abbrev pub key_length : List ℕ → ℕ
key_length count = slice_index count 5

-- the bytes of its data
abbrev pub body_length : List ℕ → ℕ
body_length count = from_be_bytes w16 (take 2 (drop 6 count))

-- whether a count may stand at a place: record zero stands at place 5 alone
abbrev pub may_stand : ℕ → List ℕ → Bool
may_stand at count =
    if at == 5 then record_number count == 0 && key_length count == 0 && body_length count == 8
    else not (record_number count == 0)

-- how the end mark at a place is judged: it stands behind record zero, and nothing stands behind it
abbrev pub end_verdict : ℕ → List ℕ → Option TrackFault
end_verdict at bytes =
    if at == 5 then Some (BadRecord at)
    else if length bytes == 8 then None
    else Some (BadRecord (at + 8))

-- what stands at the place of a record: a record of so many bytes, or what ends the track
abbrev pub record_at : ℕ → List ℕ → Result ℕ (Option TrackFault)
record_at at bytes =
    if nat_lt (length bytes) 8 then Err (Some (NoEnd at))
    else if bytes_eq (take 8 bytes) end_mark then Err (end_verdict at bytes)
    else if not (may_stand at bytes) then Err (Some (BadRecord at))
    else if nat_lt (length bytes) (8 + key_length bytes + body_length bytes) then Err (Some (BadRecord at))
    else Ok (8 + key_length bytes + body_length bytes)

-- the first fault from a place on, where so many bytes of a record are still to be passed
unfoldable pub records_fault : ℕ → ℕ → List ℕ → Option TrackFault
records_fault at (suc pass) (b ∷ bytes) = records_fault (suc at) pass bytes
records_fault at (suc pass) [] = Some (NoEnd at)
records_fault at zero [] = Some (NoEnd at)
records_fault at zero (b ∷ bytes) =
    elim (record_at at (b ∷ bytes)) [
      | Ok count ↦ records_fault (suc at) (pred count) bytes
      | Err verdict ↦ verdict
    ]

-- the fault of more bytes than a track of the device may have
abbrev pub size_fault : Geometry → List ℕ → Option TrackFault
size_fault geo bytes =
    if nat_lt geo.track_size (length bytes) then Some (TooLong (length bytes) geo.track_size) else None

-- the first fault of the home address as that of track t
unfoldable pub home_fault : Geometry → ℕ → List ℕ → Option TrackFault
home_fault geo t bytes =
    if nat_lt (length bytes) 5 then Some (NoEnd (length bytes))
    else if not (slice_index bytes 0 % 4 == 0) then Some (Compressed (slice_index bytes 0))
    else if not (bytes_eq (take 4 (drop 1 bytes)) (address_bytes (t / geo.heads) (t % geo.heads)))
    then Some (WrongTrack (from_be_bytes w16 (take 2 (drop 1 bytes))) (from_be_bytes w16 (take 2 (drop 3 bytes))))
    else None

-- the first fault of bytes as those of track t, if there is one: of their size, of the home address, or of the records
unfoldable pub track_fault : Geometry → ℕ → List ℕ → Option TrackFault
track_fault geo t bytes =
    option_or (size_fault geo bytes) (option_or (home_fault geo t bytes) (records_fault 5 0 (drop 5 bytes)))

-- the answer is Ok where there is no fault, and else the fault
abbrev pub OkUnless : Result (Unit {0}) TrackFault → Option TrackFault → Type 0
OkUnless (Ok _) fault = fault ≡ None
OkUnless (Err found) fault = fault ≡ Some found
