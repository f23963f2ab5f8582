use Rattle.std.proofs.Common.{ap, ◌∙◌, drop, length}
use Rattle.cckd_shelf.specs.Files.{bytes_at}
use Rattle.cckd_memory.proofs.memory.MemoryStageShelf.read.Goals as goal

pub returns-clause-bytes : goal.returns-clause-bytes
returns-clause-bytes c = λ told sure. let held = c.get.ensures (drop c.args.self.now.taken c.args.self.now.script) in
    c.copy_part.ensures (rw held (c.requires told sure)) ∙ ap (λ file. bytes_at file c.args.pos (length c.args.into.now)) held
