-- What a stop may leave of the layered disk, between calls and within one.
use Rattle.std.specs.Prelude.{◌≡◌, ◌⊎◌, ℕ, Bool, true, false, if◌then◌else◌, List, [], ◌∷◌, ◌++◌, Option, Some, None}
use Rattle.std.specs.Option.{option_to_list}
use Rattle.cckd_base.specs.declared.geometry.Geometry.{Geometry}
use Rattle.cckd_base.specs.declared.call.Call.{Call}
use Rattle.cckd_base.specs.declared.call.Call.TheVariants as call
use Rattle.cckd_base.specs.declared.reply.Reply.{Reply}
use Rattle.cckd_stack.specs.Layers.{Layer, Stack, top, below, shadow, empty_layer, merged, dropped}
use Rattle.cckd_stack.specs.Answers.{Request, Pair, pair_by, pairs_written, is_refused}
use Rattle.cckd_stack.specs.History.{History, breaks, broken_at, stack_after}

-- the track has these bytes in one of the pairs
abbrev pub IsAmong : ℕ → List ℕ → List Pair → Type 0
IsAmong t bytes [] = ⊥
IsAmong t bytes (p ∷ ps) = ((p.0 ≡ t) × (p.1 ≡ bytes)) ⊎ IsAmong t bytes ps

-- a track is as it was, or has bytes that were written later
abbrev pub TrackLies : ℕ → List Pair → Option (List ℕ) → Option (List ℕ) → Type 0
TrackLies t later old new = (new ≡ old) ⊎ ((bytes : List ℕ) × (new ≡ Some bytes) × IsAmong t bytes later)

-- so is each track of a layer
abbrev pub LayerLies : Layer → List Pair → Layer → Type 0
LayerLies old later new = (t : ℕ) → TrackLies t later (old t) (new t)

-- the same layers stand below the last one, and each track of the last is as it was, or was written later
pub record Lies (hard : Stack) (later : List Pair) (s : Stack) : Type 0 where
  pub below : below s ≡ below hard
  pub tracks : LayerLies (top hard) later (top s)

-- Within a merge each track of the layer below the last is as it was, or has the bytes of the layer that is merged into it.
pub record LiesMerging (hard : Stack) (later : List Pair) (now s : Stack) : Type 0 where
  pub lower_hard : Stack
  pub lower : Stack
  pub has_hard : below hard ≡ Some lower_hard
  pub has : below s ≡ Some lower
  pub far : below lower ≡ below lower_hard
  pub merging : (t : ℕ) → (top lower t ≡ top lower_hard t) ⊎ ((bytes : List ℕ) × (top lower t ≡ Some bytes) × (top now t ≡ Some bytes))
  pub tracks : LayerLies (top hard) later (top s)

-- What a stop within a call may leave, where this stack was hardened, these pairs were written later, and the call finds
-- this stack. A call that adds, takes off or merges a layer may have done it.
abbrev pub LiesCalling : Stack → List Pair → Stack → Call → Stack → Type 0
LiesCalling hard later now call.Add s = Lies hard later s ⊎ (s ≡ shadow empty_layer now)
LiesCalling hard later now call.Merge s = Lies hard later s ⊎ LiesMerging hard later now s ⊎ (s ≡ merged now)
LiesCalling hard later now call.Drop s = Lies hard later s ⊎ (s ≡ dropped now)
LiesCalling hard later now _ s = Lies hard later s

-- The same, where what the call writes may be there already.
abbrev pub LiesWithin : Geometry → Stack → List Pair → Stack → Request → Stack → Type 0
LiesWithin g hard later now r s = LiesCalling hard (option_to_list (pair_by g now r) ++ later) now r.asked s

-- the calls that harden what was written, when they are answered
abbrev pub call_hardens : Call → Bool
call_hardens call.Harden = true
call_hardens call.Add = true
call_hardens call.Merge = true
call_hardens call.Drop = true
call_hardens call.Compress = true
call_hardens call.Close = true
call_hardens _ = false

-- an entry that hardened
abbrev pub hardens : Call → Reply → Bool
hardens c said = if is_refused said then false else call_hardens c

-- the stack after the last entry that hardened, or the first stack
abbrev pub hardened : Geometry → Stack → History → Stack
hardened g s0 [] = s0
hardened g s0 (e ∷ earlier) =
    if hardens e.request.asked e.answer.reply then stack_after g s0 (e ∷ earlier) else hardened g s0 earlier

-- what was written since
abbrev pub written_later : Geometry → Stack → History → List Pair
written_later g s0 [] = []
written_later g s0 (e ∷ earlier) =
    if hardens e.request.asked e.answer.reply then [] else pairs_written g (stack_after g s0 earlier) e.request e.answer.reply ++ written_later g s0 earlier

-- what may be left by a stop within a call, behind a history without a break
abbrev pub StaysWithin : Geometry → Stack → History → Request → Stack → Type 0
StaysWithin g s0 h r s = LiesWithin g (hardened g s0 h) (written_later g s0 h) (stack_after g s0 h) r s

-- one of three, by whether a history was broken, and whether its newest entry breaks it
abbrev pub by_break : {A : Type 1} → Option ℕ → Bool → A → A → A → A
by_break (Some at) breaks broken breaking whole = broken
by_break None true broken breaking whole = breaking
by_break None false broken breaking whole = whole

-- What may be left by a stop between calls: each track as it was hardened last, or as written later. Once a call broke
-- the history, it is what that call may leave.
abbrev pub Survives : Geometry → Stack → History → Stack → Type 0
Survives g s0 [] s = Lies s0 [] s
Survives g s0 (e ∷ earlier) s =
    by_break (broken_at earlier) (breaks e)
    (Survives g s0 earlier s)
    (StaysWithin g s0 earlier e.request s)
    (Lies (hardened g s0 (e ∷ earlier)) (written_later g s0 (e ∷ earlier)) s)

-- what may be left by a stop within a call
abbrev pub SurvivesWithin : Geometry → Stack → History → Request → Stack → Type 0
SurvivesWithin g s0 h r s = by_break (broken_at h) false (Survives g s0 h s) (StaysWithin g s0 h r s) (StaysWithin g s0 h r s)
