-- What a stop leaves after a write at the front, and a sync.
use Rattle.std.proofs.Common.{ℕ, List, Result, Ok, Err, OnOk, ◌∙◌, ap}
use Rattle.std.specs.Prelude.{⊤}
use Rattle.cckd_shelf.specs.declared.fault.Failed.{Failed}
use Rattle.cckd_shelf.specs.Events.{name_of}
use Rattle.cckd_shelf.specs.World.{World, after_bind, after_write, after_sync}
use Rattle.cckd_shelf.specs.Outcomes.{MayHold}
use Rattle.cckd_shelf.specs.Seen.{Seen, Tells, Makes}
use Rattle.cckd_shelf.specs.Stops.{StopLeaves, StopLeavesHeld}
use Rattle.cckd_shelf.proofs.OutcomeLemmas.{overlaid_within_range}
use Rattle.cckd_shelf.proofs.MomentLemmas.{held_wrote, sync_done}
use Rattle.cckd_shelf.proofs.WorldLemmas.{bind_names}
use Rattle.cckd_record_example.specs.Records.{BeginsWith, HasName}

-- a sync leaves what was held
pub stays : (slot : ℕ) (old new : Seen) (result : Result (Unit {0}) Failed) → OnOk result (Makes (after_sync slot) old new) → OnOk result (StopLeavesHeld slot old new)
stays slot old new result synced = sync_done (MayHold old.world.events slot) slot old new result synced (λ told file h. h)

-- the name is there when the write is made
pub has_name : (slot : ℕ) (name bytes : List ℕ) (old bound new : Seen) → (Tells new → Tells bound) → (Tells bound → Tells old)
    → Makes (after_bind slot name) old bound → Makes (after_write slot 0 bytes) bound new → HasName slot name new
has_name slot name bytes old bound new back first gave wrote = λ told.
    ap (λ (w : World). name_of w.events slot) (wrote (back told)) ∙ (ap (λ (w : World). name_of w.events slot) (gave (first (back told))) ∙ bind_names old.world slot name)

-- whatever the slot held before, it begins with the bytes, and so does each outcome once that stays
pub stored : (slot : ℕ) (bytes : List ℕ) (old mid new : Seen) (result : Result (Unit {0}) Failed) → (Tells new → Tells mid) → (Tells mid → Tells old)
    → Makes (after_write slot 0 bytes) old mid → OnOk result (StopLeavesHeld slot mid new) → OnOk result (StopLeaves slot (BeginsWith bytes) new)
stored slot bytes old mid new (Ok u) back first wrote held = λ told file outcome.
    held_wrote (λ file. ⊤) (BeginsWith bytes) slot 0 bytes old mid wrote (first (back told)) (λ file h. tt) (λ file h. overlaid_within_range file 0 bytes) file
    (held (back told) file outcome)
stored slot bytes old mid new (Err e) back first wrote held = tt

-- a sync leaves the name
pub keeps_name : (slot : ℕ) (name : List ℕ) (old new : Seen) (result : Result (Unit {0}) Failed) → (Tells new → Tells old)
    → HasName slot name old → OnOk result (Makes (after_sync slot) old new) → OnOk result (HasName slot name new)
keeps_name slot name old new (Ok u) back has synced = λ told. ap (λ (w : World). name_of w.events slot) (synced (back told)) ∙ has (back told)
keeps_name slot name old new (Err e) back has synced = tt
