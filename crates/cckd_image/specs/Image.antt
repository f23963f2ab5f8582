-- What the two headers of an image say, field by field, and the bytes that spell them.
use Rattle.std.specs.Prelude.{◌≡◌, ◌≤◌, Bool, true, false, ℕ, ◌/◌, ◌%◌, ◌==◌, if◌then◌else◌, List, [], ◌∷◌, ◌++◌, slice_index, Option, Some, None, Result, Ok, Err}
use Rattle.std.specs.Str.{bytes_eq}
use Rattle.std.specs.Int.{w16, w32, cast_signed, cast_unsigned}
use Rattle.cckd_base.specs.declared.order.Order.{Order}
use Rattle.cckd_base.specs.declared.order.Order.TheVariants.{Little, Big}
use Rattle.cckd_base.specs.declared.geometry.Geometry.{Geometry}
use Rattle.cckd_base.specs.declared.geometry.Layout.{Layout}
use Rattle.cckd_base.specs.declared.fault.HeaderFault.{HeaderFault}
use Rattle.cckd_base.specs.Geometry.{group_count, area_of, format_limit, IsGeometry, IsNullFormat}
use Rattle.cckd_base.specs.Numbers.{bytes_of, bytes_at, number_at}
use Rattle.cckd_base.specs.Header.{base_identifier, shadow_identifier, identifier, header_heads, header_track_size, header_cylinders, header_device_type, header_sequence, header_options, header_null_format, level_one_count, level_two_count, image_order}
use Rattle.cckd_image.specs.declared.roles.Roles.{Roles}
use Rattle.cckd_image.specs.declared.roles.Roles.TheVariants.{Base, Shadow, Either}
use Rattle.cckd_image.specs.declared.header.DevHeader.{DevHeader}
use Rattle.cckd_image.specs.declared.header.CckdHeader.{CckdHeader}
use Rattle.cckd_image.specs.declared.header.ImageHeader.{ImageHeader}

-- what a file of these roles may begin with
abbrev pub identifiers_of : Roles → List (List ℕ)
identifiers_of Base = base_identifier ∷ []
identifiers_of Shadow = shadow_identifier ∷ []
identifiers_of Either = base_identifier ∷ shadow_identifier ∷ []

-- whether a file of these roles is a shadow
abbrev pub HasRole : Roles → Bool → Type 0
HasRole Base shadow = shadow ≡ false
HasRole Shadow shadow = shadow ≡ true
HasRole Either shadow = Unit {0}

-- the order that the option byte names
abbrev pub order_by : ℕ → Order
order_by options = if options / 2 % 2 == 1 then Big else Little

-- the device header that stands in these headers
abbrev pub dev_header_of : List ℕ → DevHeader
dev_header_of headers = record {
  id = identifier headers;
  heads = header_heads headers;
  track_size = header_track_size headers;
  devtype = header_device_type headers;
  sequence = header_sequence headers;
  highest = number_at Little w16 headers 18;
  reserved = bytes_at headers 20 492;
}

-- the header of a compressed device that stands in these headers
abbrev pub cckd_header_of : List ℕ → CckdHeader
cckd_header_of headers = record {
  version = bytes_at headers 512 3;
  options = header_options headers;
  words = level_one_count headers;
  entries = level_two_count headers;
  size = number_at (image_order headers) w32 headers 524;
  used = number_at (image_order headers) w32 headers 528;
  free = number_at (image_order headers) w32 headers 532;
  free_total = number_at (image_order headers) w32 headers 536;
  free_largest = number_at (image_order headers) w32 headers 540;
  free_number = number_at (image_order headers) w32 headers 544;
  free_imbed = number_at (image_order headers) w32 headers 548;
  cyls = header_cylinders headers;
  null_fmt = header_null_format headers;
  compress = slice_index headers 557;
  param = cast_signed w16 (number_at (image_order headers) w16 headers 558);
  reserved = bytes_at headers 560 464;
}

-- both of them
abbrev pub header_of : List ℕ → ImageHeader
header_of headers = record { dev = dev_header_of headers; cckd = cckd_header_of headers }

-- the geometry that the fields say
abbrev pub geometry : ImageHeader → Geometry
geometry h = record { devtype = h.dev.devtype; heads = h.dev.heads; cyls = h.cckd.cyls; track_size = h.dev.track_size }

-- the layout that they say
abbrev pub layout_by : ImageHeader → Layout
layout_by h = record {
  order = order_by h.cckd.options;
  geo = geometry h;
  groups = group_count (geometry h);
  shadow = bytes_eq h.dev.id shadow_identifier;
  null_fmt = h.cckd.null_fmt;
}

-- the lengths of an image with so many groups
abbrev pub IsLength : ℕ → ℕ → Type 0
IsLength groups len = (area_of groups ≤ len) × (len ≤ format_limit)

-- headers that an image of this length may have
pub record IsHeader (h : ImageHeader) (len : ℕ) : Type 0 where
  pub shape : IsGeometry (geometry h)
  pub fits : IsLength (group_count (geometry h)) len
  pub format : IsNullFormat (geometry h) h.cckd.null_fmt

-- the bytes of a device header
unfoldable pub dev_bytes : DevHeader → List ℕ
dev_bytes d =
    d.id ++ (bytes_of Little w32 d.heads ++ (bytes_of Little w32 d.track_size
    ++ ((d.devtype ∷ d.sequence ∷ []) ++ (bytes_of Little w16 d.highest ++ d.reserved))))

-- the bytes of the nine counts, in this order
unfoldable pub count_bytes : Order → CckdHeader → List ℕ
count_bytes order c =
    bytes_of order w32 c.words ++ (bytes_of order w32 c.entries ++ (bytes_of order w32 c.size
    ++ (bytes_of order w32 c.used ++ (bytes_of order w32 c.free ++ (bytes_of order w32 c.free_total
    ++ (bytes_of order w32 c.free_largest ++ (bytes_of order w32 c.free_number ++ bytes_of order w32 c.free_imbed)))))))

-- each of the nine counts stands in its four bytes
pub record HasCounts (order : Order) (bytes : List ℕ) (c : CckdHeader) : Type 0 where
  pub words : number_at order w32 bytes 0 ≡ c.words
  pub entries : number_at order w32 bytes 4 ≡ c.entries
  pub size : number_at order w32 bytes 8 ≡ c.size
  pub used : number_at order w32 bytes 12 ≡ c.used
  pub free : number_at order w32 bytes 16 ≡ c.free
  pub free_total : number_at order w32 bytes 20 ≡ c.free_total
  pub free_largest : number_at order w32 bytes 24 ≡ c.free_largest
  pub free_number : number_at order w32 bytes 28 ≡ c.free_number
  pub free_imbed : number_at order w32 bytes 32 ≡ c.free_imbed

-- the bytes of a header of a compressed device
unfoldable pub cckd_bytes : CckdHeader → List ℕ
cckd_bytes c =
    c.version ++ ((c.options ∷ []) ++ (count_bytes (order_by c.options) c ++ (bytes_of Little w32 c.cyls
    ++ ((c.null_fmt ∷ c.compress ∷ []) ++ (bytes_of (order_by c.options) w16 (cast_unsigned w16 c.param) ++ c.reserved)))))

-- the bytes of both
abbrev pub header_bytes : ImageHeader → List ℕ
header_bytes h = dev_bytes h.dev ++ cckd_bytes h.cckd

-- the answer to headers of this first fault, which say this
abbrev pub decoded : Option HeaderFault → ImageHeader → Result ImageHeader HeaderFault
decoded (Some fault) header = Err fault
decoded None header = Ok header
