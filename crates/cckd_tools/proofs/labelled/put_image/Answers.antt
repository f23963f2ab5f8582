use Rattle.cckd_tools.proofs.LabelLemmas.{image_is}
use Rattle.cckd_tools.proofs.labelled.put_image.Goals as goal

pub returns-clause-bytes : goal.returns-clause-bytes
returns-clause-bytes c =
    image_is c.args.l.now c.table_at-table.result c.label_headers-headers.result c.u32_bytes-word.result c.label_entry-entry.result c.args.track.now c.fill.new.file
    c.table_at-table.ensures.value c.label_headers-headers.ensures c.u32_bytes-word.ensures.value c.label_entry-entry.ensures c.fill.ensures
