use Rattle.std.proofs.Common.{◌++◌, codes}
use Rattle.cckd_base.proofs.PutLemmas.{puts_join}
use Rattle.cckd_top.specs.Text.{space_text}
use Rattle.cckd_top.proofs.text.put_overlap.Goals as goal

pub returns-clause-put : goal.returns-clause-put
returns-clause-put c =
    let one = codes " overlap" ++ space_text c.args.first in
    let two = one ++ codes " and" in
    puts_join c.args.at c.put_bytes-end-2.result c.put_space.result two (space_text c.args.second) c.args.line.now c.put_bytes-end-2.new.buffer
    c.put_space.new.line
    (puts_join c.args.at c.put_space-end.result c.put_bytes-end-2.result one (codes " and") c.args.line.now c.put_space-end.new.line
    c.put_bytes-end-2.new.buffer
    (puts_join c.args.at c.put_bytes-end.result c.put_space-end.result (codes " overlap") (space_text c.args.first) c.args.line.now
    c.put_bytes-end.new.buffer c.put_space-end.new.line c.put_bytes-end.ensures c.put_space-end.ensures.put)
    c.put_bytes-end-2.ensures)
    c.put_space.ensures.put
