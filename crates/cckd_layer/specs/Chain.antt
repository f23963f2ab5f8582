-- The chain of free spaces, as it is written into a file.
use Rattle.std.specs.Prelude.{ℕ, ◌≡◌, ◌⊎◌, ◌+◌, ◌%◌, List, [], ◌∷◌, ◌++◌, filter}
use Rattle.std.specs.Int.{w32}
use Rattle.cckd_base.specs.declared.order.Order.{Order}
use Rattle.cckd_base.specs.Numbers.{bytes_of}
use Rattle.cckd_image.specs.declared.header.CckdHeader.{CckdHeader}
use Rattle.cckd_shelf.specs.Files.{overlaid}
use Rattle.cckd_shelf.specs.Events.{Event}
use Rattle.cckd_space.specs.declared.piece.Piece.{Piece}
use Rattle.cckd_space.specs.declared.piece.Totals.{Totals}
use Rattle.cckd_space.specs.Pieces.{is_roomy, is_roomy_from}
use Rattle.cckd_image.specs.declared.header.ImageHeader.{ImageHeader}
use Rattle.cckd_layer.specs.Changes.{IsChained}
use Rattle.cckd_layer.specs.Marks.{SpellsSecond}

-- what a free space begins with: the place of the next one, and its own length
abbrev pub link_bytes : Order → ℕ → ℕ → List ℕ
link_bytes order next size = bytes_of order w32 next ++ bytes_of order w32 size

-- the place of the first of these spaces, or 0
abbrev pub first_place : List Piece → ℕ
first_place [] = 0
first_place (p ∷ ps) = p.pos

-- a file with the links of these spaces
abbrev pub chained : Order → List Piece → List ℕ → List ℕ
chained order [] file = file
chained order (p ∷ ps) file = chained order ps (overlaid file p.pos (link_bytes order (first_place ps) p.size))

-- the free spaces of at least 8 bytes from a place on
abbrev pub roomy_from : ℕ → List Piece → List Piece
roomy_from from ps = filter (is_roomy_from from) ps

-- all of them
abbrev pub roomy_pieces : List Piece → List Piece
roomy_pieces ps = filter is_roomy ps

-- a second header that says that the image was opened
abbrev pub opened_second : CckdHeader → CckdHeader
opened_second c = record c { options = c.options % 128 + 128 }

-- a second header that says that it was closed with these totals
abbrev pub closed_second : Totals → CckdHeader → CckdHeader
closed_second t c = record c {
  options = c.options % 128;
  size = t.size;
  used = t.used;
  free = t.free;
  free_total = t.free_total;
  free_largest = t.free_largest;
  free_number = t.free_number;
  free_imbed = t.free_imbed;
}

-- what a stop leaves while an image is closed: some links were written, and then the second header, or not
abbrev pub IsClosing : List Event → ℕ → List Piece → ℕ → List ℕ → List ℕ → Type 0
IsClosing events slot ps size bytes file =
    (was : List ℕ) × IsChained events slot ps size was × ((file ≡ was) ⊎ (file ≡ overlaid was 512 bytes))

-- the same with the bytes of a second header that says this
abbrev pub IsClosingAs : List Event → ℕ → List Piece → ℕ → CckdHeader → List ℕ → Type 0
IsClosingAs events slot ps size c file = (bytes : List ℕ) × SpellsSecond bytes c × IsClosing events slot ps size bytes file

-- a file with all links and with this second header
abbrev pub IsClosedFrom : Order → List Piece → CckdHeader → List ℕ → List ℕ → Type 0
IsClosedFrom order ps c old new = (bytes : List ℕ) × SpellsSecond bytes c × (new ≡ overlaid (chained order (roomy_from 0 ps) old) 512 bytes)

-- what a stop leaves while an image is closed whose file was this: some links were written, or all of them and then this second header
abbrev pub IsEnding : List Event → ℕ → List Piece → ℕ → Order → CckdHeader → List ℕ → List ℕ → Type 0
IsEnding events slot ps size order c was file = IsChained events slot ps size file ⊎ IsClosedFrom order ps c was file

-- the headers of an image once it is opened, and once it is closed
abbrev pub opened_header : ImageHeader → ImageHeader
opened_header h = record h { cckd = opened_second h.cckd }

abbrev pub closed_header : Totals → ImageHeader → ImageHeader
closed_header t h = record h { cckd = closed_second t h.cckd }
