use Rattle.std.proofs.Common.{◌≡◌, sym, subst}
use Rattle.cckd_shelf.specs.Seen.{seen}
use Rattle.cckd_shelf.specs.World.{World, file_of}
use Rattle.cckd_shelf.specs.Outcomes.{EachOutcome}
use Rattle.cckd_shelf.proofs.OutcomeLemmas.{sync_leaves_now}
use Rattle.cckd_shelf.proofs.FrameLemmas.{only_synced, only_twice}
use Rattle.cckd_layer.proofs.CloseLemmas.{chain_synced}
use Rattle.cckd_layer.proofs.closing.keep_chain.Goals as goal

pub returns-in_default-synced-clause-others : goal.returns-in_default-synced-clause-others
returns-in_default-synced-clause-others g c =
    only_twice c.args.slot (seen g.S.Shows c.args.shelf.now) (seen g.S.Shows c.put_chain.new.shelf) (seen g.S.Shows c.sync-synced.new.self) (λ told. told) c.put_chain.ensures.others
    (only_synced c.args.slot c.args.slot (seen g.S.Shows c.put_chain.new.shelf) (seen g.S.Shows c.sync-synced.new.self) c.sync-synced.result c.sync-synced.ensures.synced c.sync-synced.ensures.kept)

pub returns-clause-others : goal.returns-clause-others
returns-clause-others g c =
    only_twice c.args.slot (seen g.S.Shows c.args.shelf.now) (seen g.S.Shows c.put_chain.new.shelf) (seen g.S.Shows c.sync-synced.new.self) (λ told. told) c.put_chain.ensures.others
    (only_synced c.args.slot c.args.slot (seen g.S.Shows c.put_chain.new.shelf) (seen g.S.Shows c.sync-synced.new.self) c.sync-synced.result c.sync-synced.ensures.synced c.sync-synced.ensures.kept)

pub returns-clause-stopped : goal.returns-clause-stopped
returns-clause-stopped g c =
    chain_synced c.args.slot c.args.space.now.pieces c.args.space.now.size (seen g.S.Shows c.args.shelf.now) (seen g.S.Shows c.put_chain.new.shelf) (seen g.S.Shows c.sync-synced.new.self) c.sync-synced.result
    (λ told. told) c.put_chain.ensures.stopped c.sync-synced.ensures.synced c.sync-synced.ensures.kept

pub returns-clause-alone : goal.returns-clause-alone
returns-clause-alone g c = λ told sure.
    subst (λ (w : World). EachOutcome c.args.slot (λ f. f ≡ file_of w c.args.slot) w.events) (sym (c.in-Ok-synced.ensures.synced told))
    (λ f o. sync_leaves_now c.args.slot (seen g.S.Shows c.put_chain.new.shelf).world.events (c.in-Ok.ensures.sure told sure) f o)
