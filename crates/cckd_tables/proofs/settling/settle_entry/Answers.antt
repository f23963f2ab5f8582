use Rattle.std.proofs.Common.{◌/◌, refl, ◌∙◌}
use Rattle.cckd_tables.proofs.SettleLemmas.{cache_written, put_in_frame, put_in_none}
use Rattle.cckd_tables.proofs.CacheLemmas.{frame_whole, body_peeked}
use Rattle.cckd_tables.proofs.settling.settle_entry.Goals as goal

pub put_entry-requires : goal.put_entry-requires
put_entry-requires c =
    frame_whole c.in-Some.frame.0 c.args.cache.now.entries c.bytes_mut.result.now c.bytes_mut.ensures.value c.in-Some.ensures.used c.requires.whole

pub returns-in-Some-clause-cache : goal.returns-in-Some-clause-cache
returns-in-Some-clause-cache c =
    let whole = frame_whole c.in-Some.frame.0 c.args.cache.now.entries c.bytes_mut.result.now c.bytes_mut.ensures.value c.in-Some.ensures.used c.requires.whole in
    cache_written c.args.cache.now c.in-Some.frame.0 c.put_entry.new.table c.requires (c.put_entry.auto.table ∙ whole)

pub returns-in-Some-clause-put : goal.returns-in-Some-clause-put
returns-in-Some-clause-put c = λ entries i d first rising low is so.
    let k = c.args.cache.now in
    let g = c.args.staged.now.track / 256 in
    let f = c.in-Some.frame.0 in
    let whole = frame_whole f k.entries c.bytes_mut.result.now c.bytes_mut.ensures.value c.in-Some.ensures.used c.requires.whole in
    put_in_frame c.args.order entries i d c.args.staged.now first k f g c.bytes_mut.result.now c.put_entry.new.table c.requires c.in-Some.ensures.found
    (body_peeked k g f c.bytes_mut.result.now c.requires c.bytes_mut.ensures.value) (c.put_entry.auto.table ∙ whole) refl c.put_entry.ensures rising low is so

pub returns-in-None-clause-put : goal.returns-in-None-clause-put
returns-in-None-clause-put c = λ entries i d first rising low is so.
    put_in_none c.args.order entries i d c.args.staged.now first c.args.cache.now (c.args.staged.now.track / 256) c.in-None.ensures.found refl rising low is so
