use Rattle.cckd_stack.proofs.WritesLemmas.{keeps_stack, stores_on_top, lies_at_each, settles_then}
use Rattle.cckd_stack.proofs.laws.last_layers_count.Goals as goal

pub returns-clause-keeps : goal.returns-clause-keeps
returns-clause-keeps c = λ null g lower x y old new are same others keeps. keeps_stack null g lower x y old new are same others keeps

pub returns-clause-stores : goal.returns-clause-stores
returns-clause-stores c = λ null g lower x y old new t bytes are same others device stores. stores_on_top null g lower x y old new are same others t bytes device stores

pub returns-clause-lies : goal.returns-clause-lies
returns-clause-lies c = λ null g lower x old new are others stopped was has. lies_at_each null g lower x old new are was has others stopped

pub returns-clause-settles : goal.returns-clause-settles
returns-clause-settles c = λ null g lower x old new are others holds was has. settles_then null g lower x old new are was has others holds
