use Rattle.std.proofs.Common.{◌∙◌, List, IfOk, ℕ}
use Rattle.cckd_shelf.specs.Seen.{seen}
use Rattle.cckd_layer.specs.Mounted.{IsOf}
use Rattle.cckd_layer.proofs.MountLemmas.{all_stand, all_read}
use Rattle.cckd_layer.proofs.TiedLemmas.{all_tied}
use Rattle.cckd_layer.proofs.OpenLemmas.{synced_same, file_before}
use Rattle.cckd_layer.proofs.layer.Layer.mount.Goals as goal

pub returns-clause-stands : goal.returns-clause-stands
returns-clause-stands g c = λ told sure.
    let slot = c.args.slot in
    let old = seen g.T.Shows c.args.stage.now in
    let mid = seen g.T.Shows c.sync.new.self in
    let opened = file_before slot (λ (file : List ℕ). IfOk c.open.result (IsOf c.args.roles file)) old mid (synced_same slot old mid (λ told. told) c.in-Ok.ensures.synced) c.open.ensures.opened in
    all_stand c.args.roles slot c.args.limit c.open.result old.world (g.T.Shows.world c.open.new.stage) sure
    (c.open.ensures.looks.kept told ∙ c.in-Ok.ensures.synced told) c.requires.limit c.open.ensures.fresh (opened told sure)

pub returns-clause-can_read : goal.returns-clause-can_read
returns-clause-can_read g c =
    let slot = c.args.slot in
    let old = seen g.T.Shows c.args.stage.now in
    let mid = seen g.T.Shows c.sync.new.self in
    let opened = file_before slot (λ (file : List ℕ). IfOk c.open.result (IsOf c.args.roles file)) old mid (synced_same slot old mid (λ told. told) c.in-Ok.ensures.synced) c.open.ensures.opened in
    all_read c.args.roles slot c.args.limit c.open.result old (seen g.T.Shows c.open.new.stage) (λ told. told)
    (λ told. c.open.ensures.looks.kept told ∙ c.in-Ok.ensures.synced told) c.open.ensures.fresh opened

pub returns-clause-tied : goal.returns-clause-tied
returns-clause-tied g c = λ told sure.
    let slot = c.args.slot in
    let old = seen g.T.Shows c.args.stage.now in
    let mid = seen g.T.Shows c.sync.new.self in
    let opened = file_before slot (λ (file : List ℕ). IfOk c.open.result (IsOf c.args.roles file)) old mid (synced_same slot old mid (λ told. told) c.in-Ok.ensures.synced) c.open.ensures.opened in
    all_tied c.args.roles slot c.args.limit c.open.result old.world (g.T.Shows.world c.open.new.stage) sure
    (c.open.ensures.looks.kept told ∙ c.in-Ok.ensures.synced told) c.requires.limit c.open.ensures.fresh (opened told sure)
