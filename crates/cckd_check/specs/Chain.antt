-- The chain of free spaces, as a file has it, and the first place of it at which none may stand.
use Rattle.std.specs.Prelude.{ℕ, zero, suc, ◌+◌, ◌/◌, ◌%◌, ◌==◌, nat_lt, nat_le, Bool, ◌&&◌, ◌||◌, if◌then◌else◌, List, [], ◌∷◌, length, codes, Option, Some, None}
use Rattle.std.specs.List.{list_all}
use Rattle.std.specs.Int.{w32}
use Rattle.std.specs.Str.{bytes_eq}
use Rattle.cckd_base.specs.declared.order.Order.{Order}
use Rattle.cckd_base.specs.declared.geometry.Layout.{Layout}
use Rattle.cckd_base.specs.declared.space.Extent.{Extent}
use Rattle.cckd_base.specs.Numbers.{bytes_at, number_at}
use Rattle.cckd_base.specs.Header.{headers_of, header_options, image_order}
use Rattle.cckd_base.specs.Survey.{used_spaces}

-- a free space of a chain: its place, and the size that it says
pub record Link : Type 0 where
  pub place : ℕ
  pub size : ℕ

-- the free space that a file has at a place: it begins with the place of the next one, and its own size
abbrev pub link_at : Order → List ℕ → ℕ → Link
link_at order file at = record { place = at; size = number_at order w32 file (at + 4) }

abbrev pub next_at : Order → List ℕ → ℕ → ℕ
next_at order file at = number_at order w32 file at

-- the free spaces of a chain from a place on, at most so many; place 0 is its end
abbrev pub links : Order → List ℕ → ℕ → ℕ → List Link
links order file zero at = []
links order file (suc most) at = if at == 0 then [] else link_at order file at ∷ links order file most (next_at order file at)

-- The chain from a place on. Of a chain whose places rise a file has fewer than bytes, so that no more are looked at.
unfoldable pub free_chain : Order → List ℕ → ℕ → List Link
free_chain order file at = links order file (suc (length file)) at

-- a space in use ends at or before a place, or begins behind so many bytes from there
abbrev pub is_beside : ℕ → ℕ → Extent → Bool
is_beside at size e = nat_le (e.pos + e.size) at || nat_le (at + size) e.pos

-- so many bytes from a place on lie inside a file of this length, and none of these spaces in use has one of them
abbrev pub is_unused : List Extent → ℕ → ℕ → ℕ → Bool
is_unused used file_len at size = nat_le (at + size) file_len && list_all (is_beside at size) used

-- a free space may follow a place: it lies past it, and has at least 8 bytes, which are unused
abbrev pub may_follow : List Extent → ℕ → ℕ → Link → Bool
may_follow used file_len before link = nat_lt before link.place && (nat_le 8 link.size && is_unused used file_len link.place link.size)

-- the place of the first free space of a chain that may not follow the one before it
abbrev pub misplaced : List Extent → ℕ → ℕ → List Link → Option ℕ
misplaced used file_len before [] = None
misplaced used file_len before (link ∷ chain) =
    if may_follow used file_len before link then misplaced used file_len link.place chain else Some link.place

-- the position of the first free space that the headers say
abbrev pub header_free : List ℕ → ℕ
header_free headers = number_at (image_order headers) w32 headers 532

-- option bit 128: the image is open, or was not closed
abbrev pub is_marked : ℕ → Bool
is_marked options = options / 128 % 2 == 1

-- what stands at a free space of another form, which is accepted unread
abbrev pub foreign_form : List ℕ
foreign_form = codes "FREE_BLK"

-- the free space at a place has that form
abbrev pub has_foreign_form : List ℕ → ℕ → Bool
has_foreign_form file at = bytes_eq (bytes_at file at 8) foreign_form

-- where the chain of a file is at fault that begins at a place, where these spaces are in use
abbrev pub chain_fault : Order → List Extent → List ℕ → ℕ → Option ℕ
chain_fault order used file at =
    if has_foreign_form file at then None else misplaced used (length file) 0 (free_chain order file at)

-- Where the chain of an image's free spaces is at fault. That of an image that wasn't closed isn't looked at.
abbrev pub free_fault : Layout → List ℕ → Option ℕ
free_fault l file =
    if is_marked (header_options (headers_of file)) then None
    else chain_fault l.order (used_spaces l file) file (header_free (headers_of file))
