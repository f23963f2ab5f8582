-- There is a layer still, and what is sure behind a call was sure before it.
use Rattle.std.proofs.Common.{◌≡◌, ◌≤◌, ℕ, zero, suc, length, true, List, [], ◌∷◌, ap, subst, arith}
use Rattle.std.proofs.lemmas.List.{length-append}
use Rattle.cckd_shelf.specs.Events.{Event, is_sure}
use Rattle.cckd_shelf.specs.World.{World, IsSure}
use Rattle.cckd_layer.specs.Mounted.{LayerState}
use Rattle.cckd_layer.proofs.SureLemmas.{sure_before}
use Rattle.cckd_stack.specs.Mounting.{after_syncs}
use Rattle.cckd_stack.specs.Writes.{ChangesLast, AreSameFiles, SparesUnchanged}

pub changes_some : (P : LayerState → LayerState → Type 0) (old new : List LayerState) → ChangesLast P old new → 1 ≤ length new
changes_some P old new h = omega (arith, ap length h.new_is, length-append h.lower (h.next ∷ []))

pub files_some : (old new : List LayerState) → AreSameFiles old new → 1 ≤ length old → 1 ≤ length new
files_some [] [] same some = some
files_some (s ∷ ss) (n ∷ ns) same some = omega arith
files_some [] (n ∷ ns) same some = absurd same
files_some (s ∷ ss) [] same some = absurd same

pub sure_changed : (layers : List LayerState) (old new : World) → SparesUnchanged layers old new → IsSure new → IsSure old
sure_changed layers old new h sure = sure_before h.others.newer old.events (subst (λ (es : List Event). is_sure es ≡ true) h.others.grown sure)

pub sure_unsynced : (n : ℕ) (w : World) → IsSure (after_syncs n w) → IsSure w
sure_unsynced zero w sure = sure
sure_unsynced (suc n) w sure = sure_unsynced n w sure
