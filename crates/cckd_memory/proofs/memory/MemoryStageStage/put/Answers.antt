use Rattle.std.proofs.Common.{ap, ◌∙◌, sym, drop, length, arith}
use Rattle.std.proofs.lemmas.List.{take_all}
use Rattle.cckd_shelf.specs.World.{after_put}
use Rattle.cckd_memory.specs.Memory.{world_of}
use Rattle.cckd_memory.proofs.memory.MemoryStageStage.put.Goals as goal

pub returns-in_default-clause-kept : goal.returns-in_default-clause-kept
returns-in_default-clause-kept c = λ _. c.in_default.ensures.kept (drop c.args.self.now.taken c.args.self.now.script)

pub returns-clause-put : goal.returns-clause-put
returns-clause-put c = λ _.
    c.in-Ok.ensures.put (drop c.args.self.now.taken c.args.self.now.script)
    ∙ ap (λ bytes. after_put bytes (world_of c.args.self.now)) (sym (take_all (length c.args.bytes.now) c.args.bytes.now (omega arith)))
