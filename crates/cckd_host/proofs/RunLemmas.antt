-- A run without memory for its words.
use Rattle.std.proofs.Common.{ℕ, List, Result, Ok, Err, OnOk, refl, arith}
use Rattle.cckd_shelf.specs.declared.fault.Failed.{Failed}
use Rattle.cckd_shelf.specs.declared.fault.Kind.TheVariants.{Puts}
use Rattle.cckd_shelf.specs.Frame.{PutsAll, PutsSome}
use Rattle.cckd_shelf.specs.Seen.{Seen, Fails}
use Rattle.cckd_shelf.proofs.PutLemmas.{puts_output}
use Rattle.cckd_console.specs.Saying.{IsSaid, plain_text, whole, cut_short}
use Rattle.cckd_console.proofs.CountLemmas.{rose_still, rose_one}
use Rattle.cckd_top.proofs.SayingLemmas.{front_said}

-- a text of status 8 was put, as far as the output took it
pub said_or_cut : {A : Type 0} (text : List ℕ) (result : Result A Failed) (old new : Seen) → OnOk result (PutsAll text old new) → PutsSome text old new
    → Fails Puts result old new → IsSaid (plain_text text 8) old new 8
said_or_cut text (Ok value) old new all some fails = whole (record {
  put = λ t. puts_output text old.world new.world (all t);
  asked = refl;
  counted = rose_still old.faults new.faults fails.still;
})
said_or_cut text (Err fault) old new all some fails = cut_short (record {
  front = λ t. front_said text old.world new.world (some t);
  counted = rose_one Puts old.faults new.faults fails.rose;
}) (omega arith)
