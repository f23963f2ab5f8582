use Rattle.cckd_track.proofs.BuilderLemmas.{builds_whole}
use Rattle.cckd_track.proofs.building.Builder.finish.Goals as goal

pub returns : goal.returns
returns c = λ geo t records before h. builds_whole geo t records before c.args.self c.put_bytes.result c.put_bytes.new.buffer h c.put_bytes.ensures
