use Rattle.std.proofs.Common.{◌≡◌, true, refl}
use Rattle.cckd_shelf.specs.Seen.{seen}
use Rattle.cckd_layer.proofs.WritesLemmas.{alone_holds}
use Rattle.cckd_layer.proofs.HeadedLemmas.{headers_still}
use Rattle.cckd_layer.proofs.layer.Layer.harden.Goals as goal

pub returns-then-self-clause-holds : goal.returns-then-self-clause-holds
returns-then-self-clause-holds g c told agrees =
    let s = c.args.self.now in
    let w = seen g.T.Shows c.args.stage.now in
    let hardened : s.hardened ≡ true = cc in
    alone_holds g.U.Unit.null_bytes s w w (agrees.empty hardened) agrees.stands refl (agrees.alone hardened)

pub returns-then-self-clause-headers : goal.returns-then-self-clause-headers
returns-then-self-clause-headers g c = headers_still c.args.self.now (seen g.T.Shows c.args.stage.now) (seen g.T.Shows c.args.stage.now) (λ told. refl)
