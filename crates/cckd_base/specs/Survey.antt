-- The survey of a CCKD image: which spaces of its file are kept, and which words and entries are misfits.
use Rattle.std.specs.Prelude.{◌≡◌, ℕ, ◌+◌, ◌-◌, ◌*◌, ◌≤◌, min, ◌==◌, nat_lt, nat_le, Bool, ◌&&◌, if◌then◌else◌, List, [], ◌∷◌, ◌++◌, length, map, Option, Some, None, Result, Ok, Err}
use Rattle.std.specs.List.{flat_map, range_with_len}
use Rattle.std.specs.Option.{option_map, option_to_list, is_none}
use Rattle.cckd_base.specs.declared.geometry.Layout.{Layout}
use Rattle.cckd_base.specs.declared.entry.L2Entry.{L2Entry}
use Rattle.cckd_base.specs.declared.space.Extent.{Extent}
use Rattle.cckd_base.specs.declared.space.Owner.{Owner}
use Rattle.cckd_base.specs.declared.space.Owner.TheVariants.{Nobody, Header, Table, Track}
use Rattle.cckd_base.specs.declared.misfit.Misfit.{Misfit}
use Rattle.cckd_base.specs.declared.misfit.Misfit.TheVariants.{Overlap}
use Rattle.cckd_base.specs.Geometry.{track_count, area_of}
use Rattle.cckd_base.specs.Entry.{see_parent, word_at, entry_in_table}
use Rattle.cckd_base.specs.Misfit.{table_misfit, entry_misfit}

-- the headers and the level-one table
abbrev pub header_space : ℕ → Extent
header_space groups = record { pos = 0; len = area_of groups; size = area_of groups; owner = Header }

-- the space of a group's table
abbrev pub table_space : ℕ → ℕ → Extent
table_space group pos = record { pos = pos; len = 2048; size = 2048; owner = Table group }

-- the space of a track's stored bytes, which the end of the file cuts short
abbrev pub track_space : ℕ → ℕ → L2Entry → Extent
track_space file_len t e = record { pos = e.pos; len = e.len; size = min e.size (file_len - e.pos); owner = Track t }

-- What stands at one place of the tables: a misfit by itself, or a space, or neither.
abbrev pub Item : Type 0
Item = Result (Option Extent) Misfit

-- a position that is 0 or sends to the file below names no space
abbrev pub space_at : ℕ → Extent → Option Extent
space_at pos space = if pos == 0 then None else if pos == see_parent then None else Some space

-- a misfit, or else the space
abbrev pub item_of : Option Misfit → Option Extent → Item
item_of (Some misfit) space = Err misfit
item_of None space = Ok space

-- the level-one word of a group
abbrev pub table_item : Layout → ℕ → ℕ → ℕ → Item
table_item l file_len group word = item_of (table_misfit l file_len group word) (space_at word (table_space group word))

-- the level-two entry of a track
abbrev pub entry_item : Layout → ℕ → ℕ → L2Entry → Item
entry_item l file_len t e = item_of (entry_misfit l file_len t e) (space_at e.pos (track_space file_len t e))

-- each begins before the other one ends
abbrev pub share_a_byte : Extent → Extent → Bool
share_a_byte a b = nat_lt a.pos (b.pos + b.size) && nat_lt b.pos (a.pos + a.size)

-- the one of lower position
abbrev pub lower : Option Extent → Option Extent → Option Extent
lower None b = b
lower (Some a) None = Some a
lower (Some a) (Some b) = if nat_lt b.pos a.pos then Some b else Some a

-- the kept space of least position among those that share a byte with this one
abbrev pub met : List Extent → Extent → Option Extent
met [] space = None
met (k ∷ kept) space = lower (if share_a_byte k space then Some k else None) (met kept space)

-- an item is kept where it is no misfit by itself and its space shares no byte with one kept before
abbrev pub kept_with : List Extent → Item → List Extent
kept_with kept (Err misfit) = kept
kept_with kept (Ok None) = kept
kept_with kept (Ok (Some space)) = if is_none (met kept space) then kept ++ space ∷ [] else kept

-- else it is a misfit
abbrev pub misfit_beside : List Extent → Item → Option Misfit
misfit_beside kept (Err misfit) = Some misfit
misfit_beside kept (Ok None) = None
misfit_beside kept (Ok (Some space)) = option_map (λ first. Overlap first space) (met kept space)

-- the spaces kept of these items in turn, behind those that were kept before
abbrev pub kept_after : List Extent → List Item → List Extent
kept_after kept [] = kept
kept_after kept (i ∷ is) = kept_after (kept_with kept i) is

-- the misfits among these items
abbrev pub misfits_after : List Extent → List Item → List Misfit
misfits_after kept [] = []
misfits_after kept (i ∷ is) = option_to_list (misfit_beside kept i) ++ misfits_after (kept_with kept i) is

-- the tables, in the order of their groups
unfoldable pub table_items : Layout → List ℕ → List Item
table_items l file = map (λ group. table_item l (length file) group (word_at l file group)) (range_with_len 0 l.groups)

-- the header area is kept first
abbrev pub kept_tables : Layout → List ℕ → List Extent
kept_tables l file = kept_after (header_space l.groups ∷ []) (table_items l file)

-- the tracks of a group, of which the last group may have fewer
unfoldable pub tracks_of : Layout → ℕ → List ℕ
tracks_of l group = range_with_len (256 * group) (min 256 (track_count l.geo - 256 * group))

-- the entries in the table of a group that stands at a position
abbrev pub entry_items_at : Layout → List ℕ → ℕ → Owner → List Item
entry_items_at l file pos (Table group) =
    map (λ t. entry_item l (length file) t (entry_in_table l file pos t)) (tracks_of l group)
entry_items_at l file pos Nobody = []
entry_items_at l file pos Header = []
entry_items_at l file pos (Track t) = []

-- the entries in a table that was kept
abbrev pub entry_items_in : Layout → List ℕ → Extent → List Item
entry_items_in l file space = entry_items_at l file space.pos space.owner

-- the entries of the kept tables, in the order of their tracks
unfoldable pub entry_items : Layout → List ℕ → List Item
entry_items l file = flat_map (entry_items_in l file) (kept_tables l file)

-- all that is surveyed, in the order of the survey
abbrev pub items : Layout → List ℕ → List Item
items l file = table_items l file ++ entry_items l file

-- what an image's tables have that can't be, in the order of the survey
unfoldable pub misfits : Layout → List ℕ → List Misfit
misfits l file = misfits_after (header_space l.groups ∷ []) (items l file)

-- all tables and entries can be
abbrev pub HasNoMisfit : Layout → List ℕ → Type 0
HasNoMisfit l file = misfits l file ≡ []

-- a space before the first one that doesn't stand below it
abbrev pub placed_among : Extent → List Extent → List Extent
placed_among space [] = space ∷ []
placed_among space (e ∷ es) = if nat_le space.pos e.pos then space ∷ e ∷ es else e ∷ placed_among space es

-- the same spaces in order of position
abbrev pub by_position : List Extent → List Extent
by_position [] = []
by_position (e ∷ es) = placed_among e (by_position es)

-- the spaces of an image's file that are in use: the header area, the kept tables and the stored bytes of kept tracks
unfoldable pub used_spaces : Layout → List ℕ → List Extent
used_spaces l file = by_position (kept_after (header_space l.groups ∷ []) (items l file))

-- the spaces stand in order from a place on, apart from each other and inside the file, and each is in use from
-- its first byte on
abbrev pub StandApart : ℕ → List Extent → ℕ → Type 0
StandApart at [] file_len = at ≤ file_len
StandApart at (e ∷ es) file_len = (at ≤ e.pos) × (1 ≤ e.len) × (e.len ≤ e.size) × StandApart (e.pos + e.size) es file_len
