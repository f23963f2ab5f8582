use Rattle.cckd_layer.proofs.ExcessLemmas.{tied_stays, tied_sure, tied_marked, loose_beside, loose_events, loose_put}
use Rattle.cckd_layer.proofs.TiedLemmas.{tied_reads}
use Rattle.cckd_layer.proofs.completing.layers_tied.Goals as goal

pub returns : goal.returns
returns c = record { reads = tied_reads; stays = tied_stays; sure = tied_sure; marked = tied_marked; beside = loose_beside; events = loose_events; puts = loose_put }
