-- Track numbers and addresses of a device.
use Rattle.std.specs.Prelude.{◌≡◌, ◌<◌, ◌≤◌, ℕ, ◌+◌, ◌*◌, ◌/◌, ◌%◌, nat_lt, Bool, ◌&&◌, if◌then◌else◌, Option, Some, None}
use Rattle.cckd_base.specs.declared.geometry.Geometry.{Geometry}
use Rattle.cckd_base.specs.declared.geometry.Layout.{Layout}
use Rattle.cckd_base.specs.declared.geometry.Addr.{Addr}
use Rattle.cckd_base.specs.declared.geometry.Track.{Track}

-- how many tracks the device has
abbrev pub track_count : Geometry → ℕ
track_count g = g.cyls * g.heads

-- how many groups of 256 tracks it has
abbrev pub group_count : Geometry → ℕ
group_count g = (track_count g + 255) / 256

-- the greatest length of an image
abbrev pub format_limit : ℕ
format_limit = 2147483640

-- the bytes of the two headers and of a level-one table of so many words
abbrev pub area_of : ℕ → ℕ
area_of groups = 1024 + 4 * groups

-- the track at an address, where the device has the address
abbrev pub track_at : Geometry → Addr → Option Track
track_at g a =
    if nat_lt a.cyl g.cyls && nat_lt a.head g.heads then Some (record { 0 = a.cyl * g.heads + a.head }) else None

-- the address of a track
abbrev pub address_of : Geometry → ℕ → Addr
address_of g t = record { cyl = t / g.heads; head = t % g.heads }

-- the formats that a null track of the device may have
abbrev pub IsNullFormat : Geometry → ℕ → Type 0
IsNullFormat g format = format < 2

-- the same as a test
abbrev pub is_null_format : Geometry → ℕ → Bool
is_null_format g format = nat_lt format 2

-- the geometries that an image may have
pub record IsGeometry (g : Geometry) : Type 0 where
  pub some_heads : 1 ≤ g.heads
  pub most_heads : g.heads ≤ 65536
  pub some_cylinders : 1 ≤ g.cyls
  pub most_cylinders : g.cyls ≤ 65536
  pub most_tracks : track_count g ≤ 1048576
  pub least_track : 37 ≤ g.track_size
  pub greatest_track : g.track_size ≤ 65024

-- the layouts that an image may have
pub record IsLayout (l : Layout) : Type 0 where
  pub geometry : IsGeometry l.geo
  pub groups : l.groups ≡ group_count l.geo
  pub format : IsNullFormat l.geo l.null_fmt
