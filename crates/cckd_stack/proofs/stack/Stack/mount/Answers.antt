use Rattle.cckd_shelf.specs.Seen.{seen}
use Rattle.cckd_stack.proofs.FirstLemmas.{layers_cause}
use Rattle.cckd_stack.proofs.TiedLemmas.{mounted_tied_behind}
use Rattle.cckd_stack.proofs.stack.Stack.mount.Goals as goal

pub returns-in-Err-mount_layers-clause-cause : goal.returns-in-Err-mount_layers-clause-cause
returns-in-Err-mount_layers-clause-cause g c =
    layers_cause (seen g.T.Shows c.args.stage.now) (seen g.T.Shows c.look_around.new.stage) c.in-Ok.found.0 c.in-Ok.found.1 c.in-Err-mount_layers.fault (λ told. told)
    c.in-Ok.ensures.looks.kept c.in-Ok.ensures.some c.in-Ok.ensures.row c.in-Ok.ensures.shape c.in-Err-mount_layers.ensures.cause

pub returns-in-Ok-mount_layers-clause-tied : goal.returns-in-Ok-mount_layers-clause-tied
returns-in-Ok-mount_layers-clause-tied g c = λ told sure.
    mounted_tied_behind c.args.limit c.in-Ok.found.1 c.in-Ok-mount_layers.layers.items (seen g.T.Shows c.args.stage.now) (seen g.T.Shows c.look_around.new.stage) (seen g.T.Shows c.mount_layers.new.stage)
    (λ told. told) c.requires.limit c.in-Ok.ensures.looks.kept c.in-Ok-mount_layers.ensures.mounted told sure
