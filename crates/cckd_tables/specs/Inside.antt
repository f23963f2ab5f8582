-- What the parts of a survey say to each other.
use Rattle.std.specs.Prelude.{Result, Vec, ℕ, ◌≡◌, ◌≢◌, ◌⊎◌, ◌+◌, ◌*◌, ◌-◌, ◌<◌, ◌≤◌, ◌%◌, min, List, [], ◌∷◌, ◌++◌, map, Some, None, Ok, Err}
use Rattle.std.specs.List.{range_with_len, AllByRecursion}
use Rattle.std.specs.Int.{w32}
use Rattle.cckd_base.specs.declared.geometry.Layout.{Layout}
use Rattle.cckd_base.specs.declared.space.Extent.{Extent}
use Rattle.cckd_base.specs.declared.space.Owner.{Owner}
use Rattle.cckd_base.specs.declared.space.Owner.TheVariants.{Nobody, Header, Table, Track}
use Rattle.cckd_base.specs.Numbers.{number_at, bytes_at}
use Rattle.cckd_base.specs.Entry.{entry_of}
use Rattle.cckd_base.specs.Survey.{Item, header_space, table_item, entry_item, kept_after, misfits_after, by_position, items}
use Rattle.cckd_shelf.specs.Seen.{Seen, Tells}
use Rattle.cckd_shelf.specs.World.{IsSure, file_of}
use Rattle.cckd_base.specs.Geometry.{track_count}
use Rattle.cckd_tables.specs.declared.progress.Progress.{Progress}
use Rattle.cckd_tables.specs.declared.progress.Until.{Until}
use Rattle.cckd_tables.specs.declared.progress.Until.TheVariants.{FirstMisfit}
use Rattle.cckd_base.specs.declared.misfit.ScanFault.{ScanFault}
use Rattle.cckd_base.specs.declared.misfit.ScanFault.TheVariants as fault
use Rattle.cckd_tables.specs.Scan.{first_misfit}
use Rattle.cckd_tables.specs.Kept.{ShareNone}

-- it is in use from its first byte on, and ends inside the file
pub record IsFormed (file_len : ℕ) (e : Extent) : Type 0 where
  pub some : 1 ≤ e.len
  pub holds : e.len ≤ e.size
  pub within : e.pos + e.size ≤ file_len

-- so is each of the spaces
abbrev pub AreFormed : ℕ → List Extent → Type 0
AreFormed file_len spaces = AllByRecursion (IsFormed file_len) spaces

-- so is the space of an item, where it has one
abbrev pub HasFormed : ℕ → Item → Type 0
HasFormed file_len (Err misfit) = Unit {0}
HasFormed file_len (Ok None) = Unit {0}
HasFormed file_len (Ok (Some space)) = IsFormed file_len space

-- the level-one words of the first groups
unfoldable pub items_of_words : Layout → ℕ → List ℕ → ℕ → List Item
items_of_words l file_len words to =
    map (λ group. table_item l file_len group (number_at l.order w32 words (4 * group))) (range_with_len 0 to)

-- the entries in a table from one track up to another
unfoldable pub items_of_table : Layout → ℕ → List ℕ → ℕ → ℕ → List Item
items_of_table l file_len bytes from to =
    map (λ t. entry_item l file_len t (entry_of l.order (bytes_at bytes (8 * (t % 256)) 8))) (range_with_len from (to - from))

-- the track behind the last one of a group
abbrev pub tracks_end : Layout → ℕ → ℕ
tracks_end l group = min (256 * group + 256) (track_count l.geo)

-- a space that is a table's is that of a group
abbrev pub IsTableSpace : ℕ → ℕ → Owner → Type 0
IsTableSpace groups size (Table group) = (group < groups) × (size ≡ 2048)
IsTableSpace groups size Nobody = Unit {0}
IsTableSpace groups size Header = Unit {0}
IsTableSpace groups size (Track t) = Unit {0}

-- so is each of the spaces that is a table's
abbrev pub AreTableSpaces : ℕ → List Extent → Type 0
AreTableSpaces groups spaces = AllByRecursion (λ e. IsTableSpace groups e.size e.owner) spaces

-- the spaces that a survey keeps are formed and apart, and it finds them by position
pub record IsUnderWay (file_len : ℕ) (s : Progress) : Type 0 where
  pub formed : AreFormed file_len s.spaces.items
  pub apart : ShareNone s.spaces.items
  pub found : s.kept ≡ by_position s.spaces.items

-- a survey has taken these items
pub record Takes (file_len : ℕ) (items : List Item) (old new : Progress) : Type 0 where
  pub kept : new.spaces.items ≡ kept_after old.spaces.items items
  pub misfits : new.misfits.items ≡ old.misfits.items ++ misfits_after old.spaces.items items
  pub under_way : IsUnderWay file_len new

-- it has taken some items
pub record TakesSome (file_len : ℕ) (old new : Progress) : Type 0 where
  pub items : List Item
  pub takes : Takes file_len items old new

-- no item is left, or there was a misfit at which it should end
abbrev pub HasReached : Until → Progress → List Item → Type 0
HasReached until s left = (left ≡ []) ⊎ ((until ≡ FirstMisfit) × (s.misfits.items ≢ []))

-- it has taken a front of these items, as far as it should
pub record TakesFront (file_len : ℕ) (until : Until) (items : List Item) (old new : Progress) : Type 0 where
  pub front : List Item
  pub left : List Item
  pub parts : items ≡ front ++ left
  pub takes : Takes file_len front old new
  pub reached : HasReached until new left

-- a survey has taken a file as far as it should, beginning with the header area
pub record HasTaken (l : Layout) (until : Until) (file : List ℕ) (s : Progress) : Type 0 where
  pub front : List Item
  pub left : List Item
  pub parts : items l file ≡ front ++ left
  pub kept : s.spaces.items ≡ kept_after (header_space l.groups ∷ []) front
  pub misfits : s.misfits.items ≡ misfits_after (header_space l.groups ∷ []) front
  pub reached : HasReached until s left

-- the header area comes first
pub record IsHeaded (groups : ℕ) (spaces : List Extent) : Type 0 where
  pub rest : List Extent
  pub headed : spaces ≡ header_space groups ∷ rest

-- so is the file of a slot, as far as it is told
abbrev pub HasTakenIn : Layout → Until → ℕ → Seen → Progress → Type 0
HasTakenIn l until slot s taken = Tells s → IsSure s.world → HasTaken l until (file_of s.world slot) taken

-- the kept spaces in order of position where there is no misfit, and else the first misfit
abbrev pub Answers : {Z : Type 0} → Progress → Result (Vec Extent Z) ScanFault → Type 0
Answers s (Ok spaces) = (s.misfits.items ≡ []) × (spaces.items ≡ by_position s.spaces.items)
Answers s (Err (fault.Misfit m)) = first_misfit s.misfits.items ≡ Some m
Answers s (Err fault.ReadFault) = ⊥
Answers s (Err fault.Memory) = ⊥
