use Rattle.cckd_layer.proofs.CallerLemmas.{mounted_agrees, agrees_reads, keeps_more}
use Rattle.cckd_layer.proofs.RoomLemmas.{agrees_roomy}
use Rattle.cckd_layer.proofs.SwapLemmas.{agrees_swap}
use Rattle.cckd_layer.proofs.agreeing.layers_agree.Goals as goal

pub returns : goal.returns
returns c = record { mounted = mounted_agrees; reads = agrees_reads; more = keeps_more; swaps = agrees_swap; roomy = agrees_roomy }
