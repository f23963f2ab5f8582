use Rattle.std.proofs.Common.{◌∙◌, ap}
use Rattle.cckd_memory.specs.Files.{fresh}
use Rattle.cckd_memory.proofs.memory.MemoryStage.new.Goals as goal

pub returns-clause-world : goal.returns-clause-world
returns-clause-world c = c.in_ok-new.ensures c.in_ok-of.field-0 ∙ ap (fresh c.args.files.now) c.in_ok-of.ensures
