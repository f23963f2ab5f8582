-- The records of a track's bytes, and a track whose record has another body.
use Rattle.std.specs.Prelude.{ℕ, zero, suc, ◌+◌, ◌==◌, nat_lt, if◌then◌else◌, bytes_eq, List, [], ◌∷◌, ◌++◌, length, take, drop, Option, Some, None}
use Rattle.std.specs.List.{flat_map}
use Rattle.std.specs.Int.{w16, from_be_bytes}
use Rattle.cckd_base.specs.Track.{CountKeyData, end_mark, spelling, record_number, key_length, body_length}

-- the record whose count begins the bytes
abbrev pub record_in : List ℕ → CountKeyData
record_in bytes = record {
  cylinder = from_be_bytes w16 (take 2 bytes);
  head = from_be_bytes w16 (take 2 (drop 2 bytes));
  number = record_number bytes;
  key = take (key_length bytes) (drop 8 bytes);
  body = take (body_length bytes) (drop (key_length bytes) (drop 8 bytes));
}

-- the records that stand one behind the other up to the end mark, at most n
abbrev pub records_up_to : ℕ → List ℕ → List CountKeyData
records_up_to zero bytes = []
records_up_to (suc n) bytes =
    if nat_lt (length bytes) 8 then []
    else if bytes_eq (take 8 bytes) end_mark then []
    else record_in bytes ∷ records_up_to n (drop (8 + key_length bytes + body_length bytes) bytes)

-- the records of a track, record zero first
abbrev pub records_of : List ℕ → List CountKeyData
records_of bytes = records_up_to (length bytes) (drop 5 bytes)

-- the first record with a number
abbrev pub record_numbered : ℕ → List CountKeyData → Option CountKeyData
record_numbered number [] = None
record_numbered number (r ∷ rs) = if r.number == number then Some r else record_numbered number rs

-- the records, where the first one with a number has another body
abbrev pub with_body : ℕ → List ℕ → List CountKeyData → List CountKeyData
with_body number body [] = []
with_body number body (r ∷ rs) = if r.number == number then record r { body = body } ∷ rs else r ∷ with_body number body rs

-- what a track says once its record with a number has another body
abbrev pub value_with_body : ℕ → List ℕ → List ℕ → List ℕ
value_with_body number body bytes =
    0 ∷ take 4 (drop 1 bytes) ++ flat_map spelling (with_body number body (records_of bytes)) ++ end_mark
