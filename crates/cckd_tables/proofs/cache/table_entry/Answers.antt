use Rattle.cckd_tables.proofs.CacheLemmas.{frame_whole}
use Rattle.cckd_tables.proofs.cache.table_entry.Goals as goal

pub entry_in-requires : goal.entry_in-requires
entry_in-requires g c =
    frame_whole c.in_ok-frame.frame.0 c.load_table.new.cache.entries c.bytes.result.now c.bytes.ensures c.in_ok-frame.ensures.frame c.load_table.ensures.cache.whole
