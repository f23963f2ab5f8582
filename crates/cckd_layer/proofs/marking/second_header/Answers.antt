use Rattle.std.proofs.Common.{rules}
use Rattle.cckd_layer.proofs.RemarkLemmas.{spells_second}
use Rattle.cckd_layer.proofs.marking.second_header.Goals as goal

pub returns : goal.returns
returns c =
    spells_second c.encode-both.result c.copy_from_slice.new.self c.args.header.now c.copy_from_slice.ensures.len (search rules) c.copy_from_slice.ensures.after c.encode-both.ensures.undone
