use Rattle.std.proofs.Common.{◌∙◌, ap, take, drop, length, arith}
use Rattle.std.proofs.lemmas.List.{nil_from_length}
use Rattle.cckd_memory.proofs.memory.MemoryStageStage.take.Goals as goal

pub returns-clause-next : goal.returns-clause-next
returns-clause-next c = λ _. record {
  bytes_are = c.copy_front-n.ensures.front ∙ ap (take c.copy_front-n.result) c.rest.ensures.rest;
  within = omega (arith, c.copy_front-n.ensures.count, ap length c.rest.ensures.rest);
  end = λ none. nil_from_length (drop c.args.self.now.taken c.args.self.now.script) (omega (arith, none, c.copy_front-n.ensures.count, c.requires, ap length c.rest.ensures.rest));
}
