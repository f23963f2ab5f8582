-- The bytes that `fill` gives: a track whose record one has so many equal bytes.
use Rattle.std.specs.Prelude.{ℕ, List, [], ◌∷◌, ◌++◌, replicate}
use Rattle.std.specs.List.{flat_map}
use Rattle.cckd_base.specs.declared.geometry.Addr.{Addr}
use Rattle.cckd_base.specs.Track.{CountKeyData, address_bytes, spelling, null_record_zero, end_mark}

-- a record one without key, whose data are so many equal bytes, at an address
abbrev pub filled_record : Addr → ℕ → ℕ → CountKeyData
filled_record at count byte =
    record { cylinder = at.cyl; head = at.head; number = 1; key = []; body = replicate count byte }

-- a flag byte 0 and the address, record zero of eight zero bytes, that record, and what ends a track
abbrev pub filled_track : Addr → ℕ → ℕ → List ℕ
filled_track at count byte =
    0 ∷ address_bytes at.cyl at.head
    ++ flat_map spelling (null_record_zero at ∷ filled_record at count byte ∷ []) ++ end_mark
