-- What the headers of a file are at each operation: those that it had before, until a second one is put over.
use Rattle.std.specs.Prelude.{ℕ, ◌≡◌, ◌⊎◌, true, List, [], ◌++◌, take}
use Rattle.cckd_base.specs.Header.{headers_of}
use Rattle.cckd_base.specs.declared.geometry.Layout.{Layout}
use Rattle.cckd_base.specs.declared.space.Extent.{Extent}
use Rattle.cckd_space.specs.declared.piece.Totals.{Totals}
use Rattle.cckd_image.specs.declared.header.CckdHeader.{CckdHeader}
use Rattle.cckd_shelf.specs.Events.{Event}
use Rattle.cckd_shelf.specs.Outcomes.{IsOutcome, EachOutcome, AtEach}
use Rattle.cckd_shelf.specs.Seen.{Seen, Tells}
use Rattle.cckd_layer.specs.Sits.{IsMarked}
use Rattle.cckd_layer.specs.Marks.{SpellsSecond}
use Rattle.cckd_layer.specs.Chain.{opened_second, closed_second}
use Rattle.cckd_layer.specs.Closed.{IsClosed}
use Rattle.cckd_layer.specs.Mounted.{LayerState}
use Rattle.cckd_layer.specs.Writes.{Agrees, AgreesWith}

-- its headers are those of an outcome of earlier events
abbrev pub IsHeadedAs : List Event → ℕ → List ℕ → Type 0
IsHeadedAs events slot file = (was : List ℕ) × IsOutcome events slot was × (headers_of file ≡ headers_of was)

-- its first header is that of such an outcome, and its second one says this
abbrev pub IsHeadedWith : CckdHeader → List Event → ℕ → List ℕ → Type 0
IsHeadedWith c events slot file =
    (was : List ℕ) × IsOutcome events slot was × ((bytes : List ℕ) × SpellsSecond bytes c × (headers_of file ≡ take 512 (headers_of was) ++ bytes))

-- At each operation a stop leaves the headers that it left before, where the layer agreed with its file.
abbrev pub KeepsHeadersWith : List Extent → LayerState → Seen → Seen → Type 0
KeepsHeadersWith claims s old new =
    Tells old → AgreesWith claims s old.world → AtEach old.world.events new.world.events (EachOutcome s.slot (IsHeadedAs old.world.events s.slot))

-- At each operation a stop leaves the headers that it left before; and where all was on the disk for good, it leaves nothing else
-- than it left before.
pub record HoldsHeaders (s : LayerState) (old new : Seen) : Type 0 where
  pub headers : AtEach old.world.events new.world.events (EachOutcome s.slot (IsHeadedAs old.world.events s.slot))
  pub still : s.hardened ≡ true → AtEach old.world.events new.world.events (EachOutcome s.slot (IsOutcome old.world.events s.slot))

-- so it is where the layer agreed with its file
abbrev pub KeepsHeaders : LayerState → Seen → Seen → Type 0
KeepsHeaders s old new = Tells old → Agrees s old.world → HoldsHeaders s old new

-- The layer has the same headers, and is marked as before; and where all was on the disk for good, it still is.
pub record IsSteady (s next : LayerState) : Type 0 where
  pub header : next.header ≡ s.header
  pub marked : next.marked ≡ s.marked
  pub hardened : s.hardened ≡ true → next.hardened ≡ true

abbrev pub StaysSteady : LayerState → LayerState → Seen → Type 0
StaysSteady s next old = Tells old → Agrees s old.world → IsSteady s next

-- At each operation a stop leaves the headers that it left before, or these with a second header that says that the image was opened.
-- Of a layer that was marked, or of which all was on the disk for good, it leaves nothing else than it left before, until the file says
-- so: each other outcome has option bit 128 on.
pub record MarksFirst (s : LayerState) (old new : Seen) : Type 0 where
  pub headers : AtEach old.world.events new.world.events
      (EachOutcome s.slot (λ file. IsHeadedAs old.world.events s.slot file ⊎ IsHeadedWith (opened_second s.header.cckd) old.world.events s.slot file))
  pub first : (s.marked ≡ true) ⊎ (s.hardened ≡ true)
      → AtEach old.world.events new.world.events (EachOutcome s.slot (λ file. IsOutcome old.world.events s.slot file ⊎ IsMarked file))

-- so it is where the layer agreed with its file, with these claims
abbrev pub KeepsMarkWith : List Extent → LayerState → Seen → Seen → Type 0
KeepsMarkWith claims s old new = Tells old → AgreesWith claims s old.world → MarksFirst s old new

abbrev pub KeepsMark : LayerState → Seen → Seen → Type 0
KeepsMark = KeepsMarkWith []

-- a closed image: its first header is that of an outcome of earlier events, and its second one says totals and no mark
abbrev pub IsClosedOver : Layout → CckdHeader → List Event → ℕ → List ℕ → Type 0
IsClosedOver l c events slot file = IsClosed l file × ((totals : Totals) × IsHeadedWith (closed_second totals c) events slot file)

-- At each operation a stop leaves the headers that it left before, or a closed image, where the layer agreed with its file.
abbrev pub ClosesLast : LayerState → Seen → Seen → Type 0
ClosesLast s old new =
    Tells old → Agrees s old.world
    → AtEach old.world.events new.world.events
    (EachOutcome s.slot (λ file. IsHeadedAs old.world.events s.slot file ⊎ IsClosedOver s.tables.layout s.header.cckd old.world.events s.slot file))
