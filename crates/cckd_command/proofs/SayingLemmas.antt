-- A text that is said behind others.
use Rattle.std.proofs.Common.{◌≡◌, ℕ, List, [], ◌++◌, sym, ◌∙◌, ap, subst, append_assoc, append-nil}
use Rattle.cckd_shelf.specs.declared.fault.Faults.{Faults}
use Rattle.cckd_shelf.specs.Events.{output_of}
use Rattle.cckd_shelf.specs.Frame.{PutsFront}
use Rattle.cckd_shelf.specs.Seen.{Seen, Tells}
use Rattle.cckd_shelf.specs.World.{World}
use Rattle.cckd_console.specs.Counts.{RoseBy}
use Rattle.cckd_engine.specs.Lines.{HasFront}
use Rattle.cckd_engine.proofs.ServeLemmas.{front_put}
use Rattle.cckd_console.specs.Saying.{plain_text, IsSaidBehind, IsSaid, whole, cut_short}
use Rattle.cckd_console.proofs.CountLemmas.{rose_and_none, rose_and_put}

-- a text behind what was put and what failed before it
pub said_behind : (a b c : Seen) (tells : Tells a → Tells b) (before text : List ℕ) (failed : Faults) (code status : ℕ)
    → (Tells a → output_of b.world.events ≡ output_of a.world.events ++ before) → RoseBy failed a.faults b.faults
    → IsSaid (plain_text text code) b c status → IsSaidBehind before (record { text = text; status = code; failed = failed }) a c status
said_behind a b c tells before text failed code status said rose printed = elim printed [
  | whole says ↦ whole (record {
    put = λ t.
        says.put (tells t) ∙ ap (λ (s : List ℕ). s ++ text) (said t) ∙ append_assoc (output_of a.world.events) before text;
    asked = says.asked;
    counted = rose_and_none failed a.faults b.faults c.faults rose says.counted;
  })
  | cut_short says is ↦ cut_short (record {
    front = λ t.
        subst (λ (s : List ℕ). HasFront s text (output_of c.world.events)) (append-nil (output_of b.world.events) ∙ said t) (says.front (tells t));
    counted = rose_and_put failed a.faults b.faults c.faults rose says.counted;
  }) is
]

-- a front that was put is one of the output
pub front_said : (text : List ℕ) (old new : World) → PutsFront text old new → HasFront (output_of old.events ++ []) text (output_of new.events)
front_said text old new h = front_put text (output_of old.events ++ []) old new (sym (append-nil (output_of old.events))) h
