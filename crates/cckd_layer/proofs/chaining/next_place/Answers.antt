use Rattle.cckd_layer.proofs.ChainLemmas.{next_is, next_none}
use Rattle.cckd_layer.proofs.chaining.next_place.Goals as goal

pub returns-in-Some : goal.returns-in-Some
returns-in-Some c = next_is c.args.space.now.pieces c.args.space.now.size c.args.from c.in-Some.pos c.in-Some.field-0-1 c.pieces-pieces.ensures.sound.laid c.in-Some.ensures

pub returns-in-None : goal.returns-in-None
returns-in-None c = next_none c.args.space.now.pieces c.args.from c.in-None.ensures
