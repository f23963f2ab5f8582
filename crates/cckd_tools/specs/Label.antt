-- The volume label of a base, on its track 0.
use Rattle.std.specs.Prelude.{ℕ, ◌+◌, ◌-◌, ◌*◌, ◌/◌, List, [], ◌∷◌, ◌++◌, replicate}
use Rattle.std.specs.Int.{w32, to_le_bytes}
use Rattle.cckd_base.specs.declared.geometry.Geometry.{Geometry}
use Rattle.cckd_base.specs.declared.geometry.Layout.{Layout}
use Rattle.cckd_base.specs.declared.geometry.Addr.{Addr}
use Rattle.cckd_base.specs.declared.entry.L2Entry.{L2Entry}
use Rattle.cckd_base.specs.declared.order.Order.TheVariants.{Little}
use Rattle.cckd_base.specs.Geometry.{area_of, address_of}
use Rattle.cckd_base.specs.Entry.{entry_bytes}
use Rattle.cckd_base.specs.Track.{CountKeyData, null_record_zero, spelled_track}
use Rattle.cckd_track.specs.Builder.{record_at_address}
use Rattle.cckd_image.specs.declared.header.ImageHeader.{ImageHeader}
use Rattle.cckd_image.specs.Image.{header_bytes}
use Rattle.cckd_image.specs.Fresh.{new_header}

-- the letters and digits of the keys in EBCDIC: IPL1, IPL2 and VOL1
abbrev pub ipl1 : List ℕ
ipl1 = 0xc9 ∷ 0xd7 ∷ 0xd3 ∷ 0xf1 ∷ []

abbrev pub ipl2 : List ℕ
ipl2 = 0xc9 ∷ 0xd7 ∷ 0xd3 ∷ 0xf2 ∷ []

abbrev pub vol1 : List ℕ
vol1 = 0xe5 ∷ 0xd6 ∷ 0xd3 ∷ 0xf1 ∷ []

-- a blank in EBCDIC
abbrev pub blank : ℕ
blank = 0x40

-- the data of the label: its name, the volume's serial, a blank, no place of a table of contents, and blanks to 80 bytes
abbrev pub label_data : List ℕ → List ℕ
label_data serial = vol1 ++ (serial ++ (blank ∷ (replicate 5 0 ++ replicate 64 blank)))

-- the records of a labelled track at an address: none that starts a system, and the label
abbrev pub label_records : Addr → List ℕ → List CountKeyData
label_records a serial =
    null_record_zero a ∷ record_at_address a 1 ipl1 (replicate 24 0) ∷ record_at_address a 2 ipl2 (replicate 144 0)
    ∷ record_at_address a 3 vol1 (label_data serial) ∷ []

-- the bytes of the labelled track
abbrev pub label_track : Geometry → List ℕ → List ℕ
label_track geo serial = spelled_track geo 0 0 (label_records (address_of geo 0) serial)

-- how many they are
abbrev pub label_length : ℕ
label_length = 313

-- The table of group 0 stands at the first multiple of 8 behind the header area, and the track behind it, in a space that ends at a multiple of 8.
abbrev pub label_table : Layout → ℕ
label_table l = (area_of l.groups + 7) / 8 * 8

-- the entry of the labelled track
abbrev pub label_entry : Layout → L2Entry
label_entry l = record { pos = label_table l + 2048; len = label_length; size = 320 }

-- the length of a labelled image
abbrev pub label_size : Layout → ℕ
label_size l = label_table l + 2048 + 320

-- the bytes of it that are in use
abbrev pub label_used : Layout → ℕ
label_used l = area_of l.groups + 2048 + label_length

-- The headers of a labelled image are those of a new one but for its totals: no free space has 8 bytes, and what isn't used lies between.
abbrev pub label_header : Layout → ImageHeader
label_header l = record (new_header l) {
  cckd = record (new_header l).cckd { size = label_size l; used = label_used l; free_imbed = label_size l - label_used l };
}

-- The headers, the words of which the first names the table, the table of which the first entry is the labelled track's, and these
-- bytes in its space. All else is zeros: words and entries of null tracks of format 0, and what lies between.
unfoldable pub image_with : Layout → List ℕ → List ℕ
image_with l space =
    header_bytes (label_header l)
    ++ (to_le_bytes w32 (label_table l) ++ (replicate (label_table l - 1028) 0 ++ (entry_bytes Little (label_entry l) ++ (replicate 2040 0 ++ space))))

-- a whole labelled image: zeros fill up the track's space
abbrev pub label_image : Layout → List ℕ → List ℕ
label_image l serial = image_with l (label_track l.geo serial ++ replicate 7 0)
