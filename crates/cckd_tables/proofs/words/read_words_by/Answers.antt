use Rattle.cckd_shelf.specs.World.{file_of}
use Rattle.cckd_tables.proofs.LookLemmas.{words_read}
use Rattle.cckd_tables.proofs.words.read_words_by.Goals as goal

pub returns-clause-words : goal.returns-clause-words
returns-clause-words g c = λ told sure.
    words_read c.args.l.now (file_of (g.T.Shows.world c.args.stage.now) c.args.slot) c.read.new.into c.decode_words.new.words _ _
    (c.in-Ok.ensures.bytes told sure) c.from.ensures c.requires.bytes c.decode_words.ensures
