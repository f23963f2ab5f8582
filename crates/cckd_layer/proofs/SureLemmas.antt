-- An operation that failed half way stays so: what is sure now was sure before.
use Rattle.std.proofs.Common.{ℕ, ◌≡◌, ◌++◌, List, [], ◌∷◌, true, subst}
use Rattle.std.proofs.lemmas.Bool.{false≢true}
use Rattle.cckd_shelf.specs.Events.{Event, Written, Torn, Cut, HalfCut, Synced, Put, Bound, is_sure}
use Rattle.cckd_shelf.specs.World.{World, IsSure}
use Rattle.cckd_shelf.specs.Frame.{SparesOthers}

pub sure_before : (newer old : List Event) → is_sure (newer ++ old) ≡ true → is_sure old ≡ true
sure_before [] old sure = sure
sure_before (Written slot position bytes ∷ newer) old sure = sure_before newer old sure
sure_before (Torn slot position bytes ∷ newer) old sure = absurd (false≢true sure)
sure_before (Cut slot len ∷ newer) old sure = sure_before newer old sure
sure_before (HalfCut slot len ∷ newer) old sure = absurd (false≢true sure)
sure_before (Synced slot ∷ newer) old sure = sure_before newer old sure
sure_before (Put bytes ∷ newer) old sure = sure_before newer old sure
sure_before (Bound slot name bytes ∷ newer) old sure = sure_before newer old sure

-- so it is where nothing was done but to one slot's file
pub sure_spared : (slot : ℕ) (old new : World) → SparesOthers slot old new → IsSure new → IsSure old
sure_spared slot old new h sure = sure_before h.others.newer old.events (subst (λ (es : List Event). is_sure es ≡ true) h.others.grown sure)
