-- A closed image: what its second header says of its free space, and the chain of its free spaces.
use Rattle.std.specs.Prelude.{ℕ, ◌≡◌, ◌+◌, ◌-◌, ◌/◌, ◌%◌, List, [], ◌∷◌, length, filter, unwrap_or, option_map}
use Rattle.std.specs.List.{sum_by}
use Rattle.std.specs.Int.{w32}
use Rattle.cckd_base.specs.declared.order.Order.{Order}
use Rattle.cckd_base.specs.declared.geometry.Layout.{Layout}
use Rattle.cckd_base.specs.declared.space.Extent.{Extent}
use Rattle.cckd_base.specs.Numbers.{number_at}
use Rattle.cckd_base.specs.Header.{headers_of, header_options}
use Rattle.cckd_base.specs.Survey.{used_spaces}
use Rattle.cckd_image.specs.Image.{cckd_header_of}
use Rattle.cckd_image.specs.declared.header.CckdHeader.{CckdHeader}
use Rattle.cckd_space.specs.declared.piece.Piece.{Piece}
use Rattle.cckd_space.specs.declared.piece.Totals.{Totals}
use Rattle.cckd_space.specs.Pieces.{free_runs, is_roomy, first, summed, greatest}

-- the runs of at least 8 bytes of a file that no space in use has, in order
abbrev pub roomy_runs : Layout → List ℕ → List Piece
roomy_runs l file = filter is_roomy (free_runs 0 (used_spaces l file) (length file))

-- the totals of these runs, in a file of which these spaces are used
abbrev pub totals_by : List Extent → List Piece → ℕ → Totals
totals_by used runs size =
    let in_use = sum_by (λ (e : Extent). e.len) used in
    let free = summed (λ p. p.size) runs in
    record {
      size = size;
      used = in_use;
      free = unwrap_or (option_map (λ p. p.pos) (first is_roomy runs)) 0;
      free_total = free;
      free_largest = greatest (λ p. p.size) runs;
      free_number = length runs;
      free_imbed = size - in_use - free;
    }

-- the totals of a file
abbrev pub file_totals : Layout → List ℕ → Totals
file_totals l file = totals_by (used_spaces l file) (roomy_runs l file) (length file)

-- the totals that a second header says
abbrev pub said_totals : CckdHeader → Totals
said_totals c = record {
  size = c.size;
  used = c.used;
  free = c.free;
  free_total = c.free_total;
  free_largest = c.free_largest;
  free_number = c.free_number;
  free_imbed = c.free_imbed;
}

-- A chain lists these runs, in order, from the place of its first: each begins with the place of the next, or 0, and its
-- own length.
abbrev pub IsChain : Order → List ℕ → ℕ → List Piece → Type 0
IsChain order file at [] = at ≡ 0
IsChain order file at (p ∷ ps) =
    (at ≡ p.pos) × (number_at order w32 file (at + 4) ≡ p.size) × IsChain order file (number_at order w32 file at) ps

-- Option bit 128 is off, the totals are the file's, and the chain lists its runs of at least 8 free bytes.
pub record IsClosed (l : Layout) (file : List ℕ) : Type 0 where
  pub unmarked : header_options (headers_of file) / 128 % 2 ≡ 0
  pub totals : said_totals (cckd_header_of (headers_of file)) ≡ file_totals l file
  pub chain : IsChain l.order file (cckd_header_of (headers_of file)).free (roomy_runs l file)
