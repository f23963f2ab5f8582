-- A whole new image, in which nothing is stored yet.
use Rattle.std.specs.Prelude.{◌≡◌, ◌<◌, ℕ, ◌*◌, if◌then◌else◌, List, [], ◌∷◌, ◌++◌, length, replicate, Option, Some, None}
use Rattle.cckd_base.specs.declared.geometry.Geometry.{Geometry}
use Rattle.cckd_base.specs.declared.geometry.Layout.{Layout}
use Rattle.cckd_base.specs.declared.order.Order.TheVariants.{Little}
use Rattle.cckd_base.specs.Geometry.{track_count, area_of}
use Rattle.cckd_base.specs.Header.{base_identifier, shadow_identifier, headers_of}
use Rattle.cckd_base.specs.Entry.{stored_bytes}
use Rattle.cckd_base.specs.Survey.{header_space, used_spaces}
use Rattle.cckd_base.specs.Image.{IsSound, IsSnug}
use Rattle.cckd_image.specs.Image.{header_of, header_bytes}
use Rattle.cckd_image.specs.Fresh.{new_header}

-- a new image's numbers have their low byte first
abbrev pub made_layout : Layout → Layout
made_layout l = record l { order = Little }

-- Its level-one words: in a base all tracks are null, and in a shadow all are looked up in the file below.
abbrev pub new_words : Layout → List ℕ
new_words l = replicate (4 * l.groups) (if l.shadow then 255 else 0)

-- both headers and the words
unfoldable pub new_image : Layout → List ℕ
new_image l = header_bytes (new_header (made_layout l)) ++ new_words l

-- what it begins with
abbrev pub identifier_for : Layout → List ℕ
identifier_for l = if l.shadow then shadow_identifier else base_identifier

-- the bytes of each of its tracks, where null tracks have these: in a base they are null, and a shadow has none
abbrev pub new_track : (Geometry → ℕ → ℕ → List ℕ) → Layout → ℕ → Option (List ℕ)
new_track null l t = if l.shadow then None else Some (null l.geo t l.null_fmt)

-- A sound image of this layout, in whose file only the header area is in use, and no track is stored.
pub record IsNew (l : Layout) (file : List ℕ) : Type 0 where
  pub sound : IsSound (identifier_for l ∷ []) (made_layout l) file
  pub snug : IsSnug (made_layout l) file
  pub header : header_of (headers_of file) ≡ new_header (made_layout l)
  pub ends : length file ≡ area_of l.groups
  pub spaces : used_spaces (made_layout l) file ≡ header_space l.groups ∷ []
  pub each : (null : Geometry → ℕ → ℕ → List ℕ) (t : ℕ) → t < track_count l.geo → stored_bytes null (made_layout l) file t ≡ new_track null l t
