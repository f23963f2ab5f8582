use Rattle.cckd_shelf.specs.Seen.{seen}
use Rattle.cckd_shelf.proofs.FrameLemmas.{only_twice}
use Rattle.cckd_layer.proofs.CloseLemmas.{spells_closed, closing_first, closing_both, closed_from, closed_sure}
use Rattle.cckd_layer.proofs.EndedLemmas.{ending_first, ending_both}
use Rattle.cckd_layer.proofs.closing.close_image.Goals as goal

pub returns-in_err-keep_chain-clause-stopped : goal.returns-in_err-keep_chain-clause-stopped
returns-in_err-keep_chain-clause-stopped g c =
    closing_first c.args.slot c.args.space.now.pieces c.args.space.now.size c.second_header-second.result _ (seen g.S.Shows c.args.shelf.now) (seen g.S.Shows c.keep_chain.new.shelf)
    (spells_closed c.second_header-second.result c.args.header.now c.totals.result _ c.close_header-closed.result c.close_header-closed.ensures c.totals.ensures.totals c.second_header-second.ensures)
    c.keep_chain.ensures.stopped

pub returns-in_err-put_second-clause-others : goal.returns-in_err-put_second-clause-others
returns-in_err-put_second-clause-others g c =
    only_twice c.args.slot (seen g.S.Shows c.args.shelf.now) (seen g.S.Shows c.keep_chain.new.shelf) (seen g.S.Shows c.put_second.new.shelf) (λ told. told) c.keep_chain.ensures.others c.put_second.ensures.others

pub returns-in_err-put_second-clause-stopped : goal.returns-in_err-put_second-clause-stopped
returns-in_err-put_second-clause-stopped g c =
    closing_both c.args.slot c.args.space.now.pieces c.args.space.now.size c.second_header-second.result _ (seen g.S.Shows c.args.shelf.now) (seen g.S.Shows c.keep_chain.new.shelf) (seen g.S.Shows c.put_second.new.shelf) (λ told. told)
    (spells_closed c.second_header-second.result c.args.header.now c.totals.result _ c.close_header-closed.result c.close_header-closed.ensures c.totals.ensures.totals c.second_header-second.ensures)
    c.keep_chain.ensures.stopped c.put_second.ensures.stopped

pub returns-clause-now : goal.returns-clause-now
returns-clause-now g c = λ told.
    closed_from c.args.slot c.args.order c.args.space.now.pieces c.second_header-second.result _ (seen g.S.Shows c.args.shelf.now) (seen g.S.Shows c.keep_chain.new.shelf) (seen g.S.Shows c.put_second.new.shelf)
    (spells_closed c.second_header-second.result c.args.header.now c.totals.result _ c.close_header-closed.result c.close_header-closed.ensures c.totals.ensures.totals c.second_header-second.ensures)
    (c.in_ok-keep_chain.ensures.now told) (c.in_ok-put_second.ensures.made told)

pub returns-clause-others : goal.returns-clause-others
returns-clause-others g c =
    only_twice c.args.slot (seen g.S.Shows c.args.shelf.now) (seen g.S.Shows c.keep_chain.new.shelf) (seen g.S.Shows c.put_second.new.shelf) (λ told. told) c.keep_chain.ensures.others c.put_second.ensures.others

pub returns-clause-stopped : goal.returns-clause-stopped
returns-clause-stopped g c =
    closing_both c.args.slot c.args.space.now.pieces c.args.space.now.size c.second_header-second.result _ (seen g.S.Shows c.args.shelf.now) (seen g.S.Shows c.keep_chain.new.shelf) (seen g.S.Shows c.put_second.new.shelf) (λ told. told)
    (spells_closed c.second_header-second.result c.args.header.now c.totals.result _ c.close_header-closed.result c.close_header-closed.ensures c.totals.ensures.totals c.second_header-second.ensures)
    c.keep_chain.ensures.stopped c.put_second.ensures.stopped

pub returns-clause-sure : goal.returns-clause-sure
returns-clause-sure g c = λ told sure.
    closed_sure c.args.slot c.second_header-second.result (seen g.S.Shows c.keep_chain.new.shelf) (seen g.S.Shows c.put_second.new.shelf) (c.in_ok-keep_chain.ensures.sure told sure) (c.in_ok-put_second.ensures.made told)

pub returns-in_err-keep_chain-clause-last : goal.returns-in_err-keep_chain-clause-last
returns-in_err-keep_chain-clause-last g c = λ sure.
    ending_first c.args.slot c.args.space.now.pieces c.args.space.now.size c.args.order _ _ (seen g.S.Shows c.args.shelf.now) (seen g.S.Shows c.keep_chain.new.shelf) c.keep_chain.ensures.stopped

pub returns-in_err-put_second-clause-last : goal.returns-in_err-put_second-clause-last
returns-in_err-put_second-clause-last g c =
    ending_both c.args.slot c.args.space.now.pieces c.args.space.now.size c.args.order c.second_header-second.result _ (seen g.S.Shows c.args.shelf.now) (seen g.S.Shows c.keep_chain.new.shelf) (seen g.S.Shows c.put_second.new.shelf) (λ told. told)
    (spells_closed c.second_header-second.result c.args.header.now c.totals.result _ c.close_header-closed.result c.close_header-closed.ensures c.totals.ensures.totals c.second_header-second.ensures)
    c.keep_chain.ensures.stopped c.in_ok-keep_chain.ensures.now c.in_ok-keep_chain.ensures.alone c.put_second.ensures.stopped

pub returns-clause-last : goal.returns-clause-last
returns-clause-last g c =
    ending_both c.args.slot c.args.space.now.pieces c.args.space.now.size c.args.order c.second_header-second.result _ (seen g.S.Shows c.args.shelf.now) (seen g.S.Shows c.keep_chain.new.shelf) (seen g.S.Shows c.put_second.new.shelf) (λ told. told)
    (spells_closed c.second_header-second.result c.args.header.now c.totals.result _ c.close_header-closed.result c.close_header-closed.ensures c.totals.ensures.totals c.second_header-second.ensures)
    c.keep_chain.ensures.stopped c.in_ok-keep_chain.ensures.now c.in_ok-keep_chain.ensures.alone c.put_second.ensures.stopped
