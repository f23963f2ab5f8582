-- The headers of a new image, in which nothing is stored yet.
use Rattle.std.specs.Prelude.{Bool, true, false, if◌then◌else◌, negsuc, [], ◌∷◌, replicate}
use Rattle.cckd_base.specs.declared.geometry.Layout.{Layout}
use Rattle.cckd_base.specs.declared.order.Order.TheVariants.{Little}
use Rattle.cckd_base.specs.Geometry.{area_of}
use Rattle.cckd_base.specs.Header.{base_identifier, shadow_identifier}
use Rattle.cckd_image.specs.declared.roles.Roles.{Roles}
use Rattle.cckd_image.specs.declared.roles.Roles.TheVariants.{Base, Shadow, Either}
use Rattle.cckd_image.specs.declared.header.DevHeader.{DevHeader}
use Rattle.cckd_image.specs.declared.header.CckdHeader.{CckdHeader}
use Rattle.cckd_image.specs.declared.header.ImageHeader.{ImageHeader}

-- whether a new image in these roles is a shadow: as the one role says, and where both are allowed, as wished
abbrev pub is_new_shadow : Roles → Bool → Bool
is_new_shadow Base wished = false
is_new_shadow Shadow wished = true
is_new_shadow Either wished = wished

-- the layout of a new image in these roles: its numbers have their low byte first
abbrev pub new_layout : Roles → Layout → Layout
new_layout roles l = record l { order = Little; shadow = is_new_shadow roles l.shadow }

-- its device header: sequence, highest cylinder and reserved bytes are zeros
abbrev pub new_dev_header : Layout → DevHeader
new_dev_header l = record {
  id = if l.shadow then shadow_identifier else base_identifier;
  heads = l.geo.heads;
  track_size = l.geo.track_size;
  devtype = l.geo.devtype;
  sequence = 0;
  highest = 0;
  reserved = replicate 492 0;
}

-- its second header: version 0.3.1, closed, in use to its end, without free space and without compression
abbrev pub new_cckd_header : Layout → CckdHeader
new_cckd_header l = record {
  version = 0 ∷ 3 ∷ 1 ∷ [];
  options = 0;
  words = l.groups;
  entries = 256;
  size = area_of l.groups;
  used = area_of l.groups;
  free = 0;
  free_total = 0;
  free_largest = 0;
  free_number = 0;
  free_imbed = 0;
  cyls = l.geo.cyls;
  null_fmt = l.null_fmt;
  compress = 0;
  param = negsuc 0;
  reserved = replicate 464 0;
}

-- both of them
abbrev pub new_header : Layout → ImageHeader
new_header l = record { dev = new_dev_header l; cckd = new_cckd_header l }
