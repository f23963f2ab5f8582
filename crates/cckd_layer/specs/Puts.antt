-- Bytes that are put to a free place: where they go, what is done to the file, and when they aren't.
use Rattle.std.specs.Prelude.{ℕ, ◌≡◌, ◌⊎◌, ◌+◌, ◌<◌, ◌≤◌, max, List, Result, Ok, Err}
use Rattle.cckd_base.specs.declared.space.Full.{Full}
use Rattle.cckd_shelf.specs.declared.fault.Faults.{Faults}
use Rattle.cckd_shelf.specs.declared.fault.Kind.TheVariants.{Writes}
use Rattle.cckd_shelf.specs.Faults.{Raises}
use Rattle.cckd_shelf.specs.Seen.{Seen, Stays, Makes, MayMake}
use Rattle.cckd_shelf.specs.World.{after_write, after_torn}
use Rattle.cckd_space.specs.Pieces.{largest}
use Rattle.cckd_space.specs.Plan.{Plan, Becomes, room, numbers, place_of, with_reserved, size_with}
use Rattle.cckd_layer.specs.declared.placing.PutFault.{PutFault}
use Rattle.cckd_layer.specs.declared.placing.PutFault.TheVariants as fault

-- so many bytes are reserved where they first fit, or else at the end, where there is room below the limit
pub record IsReserved (need : ℕ) (old new : Plan) : Type 0 where
  pub roomy : (need ≤ largest old.pieces) ⊎ (need ≤ room old)
  pub within : place_of need old.pieces + need ≤ max old.limit old.size
  pub becomes : Becomes old new (with_reserved need old.pieces) (size_with need old)

-- neither a free piece nor the end has room for so many bytes
pub record HasNoRoom (need : ℕ) (plan : Plan) (full : Full) : Type 0 where
  pub no_piece : largest plan.pieces < need
  pub no_end : room plan < need
  pub numbers_are : full ≡ numbers need plan

-- the place is where so many bytes go; it is Full exactly where they have no room, and then no piece changed
abbrev pub Puts : ℕ → Plan → Plan → Result ℕ PutFault → Type 0
Puts need old new (Ok pos) = (pos ≡ place_of need old.pieces) × IsReserved need old new
Puts need old new (Err (fault.Full full)) = HasNoRoom need old full × (new ≡ old)
Puts need old new (Err fault.Write) = IsReserved need old new

-- the file has these bytes at the place, and is as it was where they have none
abbrev pub MakesPut : ℕ → ℕ → List ℕ → Result ℕ PutFault → Seen → Seen → Type 0
MakesPut slot at bytes (Ok pos) old new = Makes (after_write slot at bytes) old new
MakesPut slot at bytes (Err (fault.Full full)) old new = Stays old new
MakesPut slot at bytes (Err fault.Write) old new = MayMake (after_torn slot at bytes) old new

-- a write fault raised its count, and nothing else did
abbrev pub CountsPut : Result ℕ PutFault → Faults → Faults → Type 0
CountsPut (Ok pos) old new = new ≡ old
CountsPut (Err (fault.Full full)) old new = new ≡ old
CountsPut (Err fault.Write) old new = Raises Writes old new
