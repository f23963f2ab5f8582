use Rattle.cckd_tools.proofs.ZeroLemmas.{filled}
use Rattle.cckd_tools.proofs.labelled.fill.Goals as goal

pub returns : goal.returns
returns c =
    filled c.args.table c.args.headers.now c.args.word.now c.args.entry.now c.args.track.now c.args.file.now _ _ _ _ _ _ _ _ c.requires.zeros c.requires.table
    c.requires.headers c.requires.word c.requires.entry c.requires.track c.put_bytes-words_at.ensures c.put_bytes.ensures c.put_bytes-2.ensures c.put_bytes-3.ensures
