use Rattle.std.proofs.Common.{refl}
use Rattle.cckd_shelf.specs.declared.fault.Kind.TheVariants.{Puts}
use Rattle.cckd_shelf.proofs.PutLemmas.{puts_output}
use Rattle.cckd_console.specs.Saying.{whole, cut_short}
use Rattle.cckd_console.proofs.CountLemmas.{rose_still, rose_one}
use Rattle.cckd_command.proofs.SayingLemmas.{front_said}
use Rattle.cckd_command.proofs.ending.end_with.Goals as goal

pub returns-in-Ok-clause-said : goal.returns-in-Ok-clause-said
returns-in-Ok-clause-said g c = whole (record {
  put = λ t. puts_output _ _ _ (c.in-Ok.ensures.whole t);
  asked = refl;
  counted = rose_still _ _ c.in-Ok.ensures.fails.still;
})

pub returns-in-Err-clause-said : goal.returns-in-Err-clause-said
returns-in-Err-clause-said g c = cut_short (record {
  front = λ t. front_said _ _ _ (c.put_all.ensures.front t);
  counted = rose_one Puts _ _ c.in-Err.ensures.fails.rose;
}) c.max.ensures
