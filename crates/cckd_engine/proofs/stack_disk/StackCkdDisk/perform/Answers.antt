use Rattle.cckd_engine.proofs.stack_disk.StackCkdDisk.perform.Goals as goal

pub returns-clause-room : goal.returns-clause-room
returns-clause-room g c = λ room told sure has. (c.make.ensures.performs.room told sure).kept room has
