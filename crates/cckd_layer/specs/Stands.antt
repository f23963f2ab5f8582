-- What holds of a layer and its slot between calls.
use Rattle.std.specs.Prelude.{ℕ, ◌≡◌, Bool, true, List, []}
use Rattle.std.specs.List.Sorted.{IsStrictlyIncreasing}
use Rattle.cckd_shelf.specs.Seen.{Seen, Tells}
use Rattle.cckd_shelf.specs.World.{World, IsSure, file_of}
use Rattle.cckd_shelf.specs.Outcomes.{EachOutcome}
use Rattle.cckd_base.specs.declared.geometry.Layout.{Layout}
use Rattle.cckd_base.specs.declared.space.Extent.{Extent}
use Rattle.cckd_space.specs.Plan.{Plan}
use Rattle.cckd_tables.specs.Staging.{Stages}
use Rattle.cckd_tables.specs.Commit.{staged_tracks, staged_groups}
use Rattle.cckd_layer.specs.Sits.{IsMarked, Sits}
use Rattle.cckd_layer.specs.Current.{Current}

-- what is staged stands in the order of tracks and groups, each once
pub record AreRising (s : Stages) : Type 0 where
  pub tracks : IsStrictlyIncreasing (staged_tracks s.entries)
  pub groups : IsStrictlyIncreasing (staged_groups s.words)

-- nothing is staged
abbrev pub nothing_staged : Stages
nothing_staged = record { entries = []; words = [] }

-- What a layer keeps of its file: the layout, what is staged, the places that are claimed and not staged, the pieces,
-- and whether it has been changed since it was closed.
pub record LayerView : Type 0 where
  pub layout : Layout
  pub stages : Stages
  pub claims : List Extent
  pub plan : Plan
  pub marked : Bool

-- No operation failed half way. The file now goes with what the layer keeps of it. Whatever a stop leaves is a whole
-- image that rests in the pieces, and says so where the layer was changed.
pub record Stands (v : LayerView) (slot : ℕ) (w : World) : Type 0 where
  pub sure : IsSure w
  pub now : Current v.layout v.stages v.claims v.plan (file_of w slot)
  pub each : EachOutcome slot (Sits v.layout v.plan.pieces) w.events
  pub marked : v.marked ≡ true → EachOutcome slot IsMarked w.events

-- it stands, as far as it is told
abbrev pub StandsIn : LayerView → ℕ → Seen → Type 0
StandsIn v slot s = Tells s → Stands v slot s.world
