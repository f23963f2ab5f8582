-- The two headers of a CCKD image, 512 bytes each: what they say, and the first fault of a file that has none.
use Rattle.std.specs.Prelude.{ℕ, ◌/◌, ◌%◌, ◌==◌, nat_lt, nat_le, Bool, ◌||◌, ◌&&◌, not, if◌then◌else◌, List, [], ◌∷◌, ◌++◌, length, take, replicate, slice_index, codes, Option, Some, None}
use Rattle.std.specs.List.{list_any, list_all}
use Rattle.std.specs.Int.{w32}
use Rattle.std.specs.Str.{bytes_eq}
use Rattle.cckd_base.specs.declared.order.Order.{Order}
use Rattle.cckd_base.specs.declared.order.Order.TheVariants.{Little, Big}
use Rattle.cckd_base.specs.declared.geometry.Geometry.{Geometry}
use Rattle.cckd_base.specs.declared.geometry.Layout.{Layout}
use Rattle.cckd_base.specs.declared.fault.HeaderFault.{HeaderFault}
use Rattle.cckd_base.specs.declared.fault.HeaderFault.TheVariants.{NotCckd, BadGeometry, BadCounts, BadNullFormat}
use Rattle.cckd_base.specs.declared.fault.GeoField.TheVariants.{Heads, Cylinders, Tracks, TrackSize, Sequence}
use Rattle.cckd_base.specs.declared.fault.CountField.TheVariants.{LevelOne, LevelTwo, Length}
use Rattle.cckd_base.specs.Numbers.{number_at}
use Rattle.cckd_base.specs.Geometry.{track_count, group_count, area_of, format_limit, is_null_format}

-- what the file of a base begins with
abbrev pub base_identifier : List ℕ
base_identifier = codes "CKD_C370"

-- what the file of a shadow begins with
abbrev pub shadow_identifier : List ℕ
shadow_identifier = codes "CKD_S370"

-- the bytes of the two headers, with zeros past the end of a short file
abbrev pub headers_of : List ℕ → List ℕ
headers_of file = take 1024 (file ++ replicate 1024 0)

-- whether a slot with this file is there: it isn't where the file is empty, or begins with 512 zeros
abbrev pub is_present : List ℕ → Bool
is_present file = not (length file == 0) && not (nat_le 512 (length file) && list_all (λ b. b == 0) (take 512 file))

-- what the file begins with
abbrev pub identifier : List ℕ → List ℕ
identifier headers = take 8 headers

-- Heads, track size and cylinders stand in little-endian order in every image.
-- the heads of the device
abbrev pub header_heads : List ℕ → ℕ
header_heads headers = number_at Little w32 headers 8

-- the greatest length of a track
abbrev pub header_track_size : List ℕ → ℕ
header_track_size headers = number_at Little w32 headers 12

-- the cylinders of the device
abbrev pub header_cylinders : List ℕ → ℕ
header_cylinders headers = number_at Little w32 headers 552

-- the device's type
abbrev pub header_device_type : List ℕ → ℕ
header_device_type headers = slice_index headers 16

-- the file's number within a set of files
abbrev pub header_sequence : List ℕ → ℕ
header_sequence headers = slice_index headers 17

-- the option bits
abbrev pub header_options : List ℕ → ℕ
header_options headers = slice_index headers 515

-- the format of null tracks
abbrev pub header_null_format : List ℕ → ℕ
header_null_format headers = slice_index headers 556

-- option bit 2: the image's own numbers have their high byte first
abbrev pub is_big : List ℕ → Bool
is_big headers = header_options headers / 2 % 2 == 1

-- the order of the image's own numbers
abbrev pub image_order : List ℕ → Order
image_order headers = if is_big headers then Big else Little

-- the words of the level-one table
abbrev pub level_one_count : List ℕ → ℕ
level_one_count headers = number_at (image_order headers) w32 headers 516

-- the entries of a level-two table
abbrev pub level_two_count : List ℕ → ℕ
level_two_count headers = number_at (image_order headers) w32 headers 520

-- the geometry of the device
abbrev pub header_geometry : List ℕ → Geometry
header_geometry headers = record {
  devtype = header_device_type headers;
  heads = header_heads headers;
  cyls = header_cylinders headers;
  track_size = header_track_size headers;
}

-- the layout that the headers say
abbrev pub layout_of : List ℕ → Layout
layout_of headers = record {
  order = image_order headers;
  geo = header_geometry headers;
  groups = group_count (header_geometry headers);
  shadow = bytes_eq (identifier headers) shadow_identifier;
  null_fmt = header_null_format headers;
}

-- whether a number lies outside of a range
abbrev pub is_outside : ℕ → ℕ → ℕ → Bool
is_outside low high n = nat_lt n low || nat_lt high n

-- what of the headers is judged
pub record Judged : Type 0 where
  pub id : List ℕ
  pub geometry : Geometry
  pub sequence : ℕ
  pub words : ℕ
  pub entries : ℕ
  pub null_fmt : ℕ

-- what these headers have of it
abbrev pub judged_in : List ℕ → Judged
judged_in headers = record {
  id = identifier headers;
  geometry = header_geometry headers;
  sequence = header_sequence headers;
  words = level_one_count headers;
  entries = level_two_count headers;
  null_fmt = header_null_format headers;
}

-- the case of another file: it is too short, or begins with none of these identifiers
abbrev pub other_file_cases : List (List ℕ) → Judged → ℕ → List (Bool × HeaderFault)
other_file_cases identifiers j len = (nat_lt len 1024 || not (list_any (bytes_eq j.id) identifiers), NotCckd j.id) ∷ []

-- the cases of the geometry, in the order in which they are looked at
abbrev pub geometry_cases : Judged → List (Bool × HeaderFault)
geometry_cases j =
    (is_outside 1 65536 j.geometry.heads, BadGeometry Heads j.geometry.heads)
    ∷ (is_outside 1 65536 j.geometry.cyls, BadGeometry Cylinders j.geometry.cyls)
    ∷ (nat_lt 1048576 (track_count j.geometry), BadGeometry Tracks (track_count j.geometry))
    ∷ (is_outside 37 65024 j.geometry.track_size, BadGeometry TrackSize j.geometry.track_size)
    ∷ (nat_lt 1 j.sequence, BadGeometry Sequence j.sequence)
    ∷ []

-- the cases of the counts and of the file's length
abbrev pub count_cases : Judged → ℕ → List (Bool × HeaderFault)
count_cases j len =
    (not (j.words == group_count j.geometry), BadCounts LevelOne j.words)
    ∷ (not (j.entries == 256), BadCounts LevelTwo j.entries)
    ∷ (is_outside (area_of (group_count j.geometry)) format_limit len, BadCounts Length len)
    ∷ []

-- the case of a format that null tracks of the device don't have
abbrev pub format_cases : Judged → List (Bool × HeaderFault)
format_cases j = (not (is_null_format j.geometry j.null_fmt), BadNullFormat j.null_fmt) ∷ []

-- every way in which the headers of a file of this length may be at fault, in the order in which they are looked at
abbrev pub header_cases : List (List ℕ) → Judged → ℕ → List (Bool × HeaderFault)
header_cases identifiers j len = other_file_cases identifiers j len ++ (geometry_cases j ++ (count_cases j len ++ format_cases j))

-- the first case that stands
abbrev pub first_case : List (Bool × HeaderFault) → Option HeaderFault
first_case [] = None
first_case (c ∷ cs) = if c.0 then Some c.1 else first_case cs

-- the first fault of the headers of a file of this length, where these identifiers are wanted
unfoldable pub header_fault : List (List ℕ) → List ℕ → ℕ → Option HeaderFault
header_fault identifiers headers len = first_case (header_cases identifiers (judged_in headers) len)
