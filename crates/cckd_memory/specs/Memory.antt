-- What a `MemoryStage` tells.
use Rattle.std.specs.Prelude.{◌≡◌, ◌⊎◌, true, drop}
use Rattle.cckd_memory.specs.declared.counts.Counts.{Counts}
use Rattle.cckd_memory.specs.declared.memory.MemoryStage.{MemoryStage}
use Rattle.cckd_shelf.specs.Seen.{Seen}
use Rattle.cckd_shelf.specs.World.{World, IsTied}
use Rattle.cckd_memory.specs.Counts.{IsNext}
use Rattle.cckd_memory.specs.Held.{world_in}

-- what a stage in memory holds
abbrev pub world_of : MemoryStage → World
world_of stage = world_in stage.held (drop stage.taken stage.script)

-- its counts
abbrev pub counts_of : MemoryStage → Counts
counts_of stage = stage.counts

-- what it shows
abbrev pub seen_of : MemoryStage → Seen
seen_of stage = record { tells = true; world = world_of stage; faults = stage.counts.faults; calls = stage.counts.calls }

-- A call that failed noted what it may have made in part, or else memory was wanted in it and nothing was made.
abbrev pub Notes : (World → World) → MemoryStage → MemoryStage → Type 0
Notes change old new =
    ((new.counts.wanted ≡ old.counts.wanted) × (world_of new ≡ change (world_of old)))
    ⊎ (IsNext old.counts.wanted new.counts.wanted × (world_of new ≡ world_of old))

pub world_tied : (stage : MemoryStage) → IsTied (world_of stage)
world_tied stage = record { named = stage.held.stored.named }
