use Rattle.std.proofs.Common.{ap, drop, length}
use Rattle.cckd_memory.proofs.memory.MemoryStageShelf.len.Goals as goal

pub returns-clause-len : goal.returns-clause-len
returns-clause-len c = λ _ sure. ap length (c.get.ensures (drop c.args.self.now.taken c.args.self.now.script))
