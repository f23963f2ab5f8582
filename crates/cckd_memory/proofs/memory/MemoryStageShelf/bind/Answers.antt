use Rattle.std.proofs.Common.{drop}
use Rattle.cckd_memory.proofs.memory.MemoryStageShelf.bind.Goals as goal

pub returns-in_default-clause-kept : goal.returns-in_default-clause-kept
returns-in_default-clause-kept c = λ _. c.in_default.ensures.kept (drop c.args.self.now.taken c.args.self.now.script)
