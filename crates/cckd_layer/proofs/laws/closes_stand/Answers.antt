use Rattle.cckd_layer.proofs.ClosedLemmas.{stands_closed, closing_keeps}
use Rattle.cckd_layer.proofs.laws.closes_stand.Goals as goal

pub returns : goal.returns
returns c = record {
  stands = stands_closed;
  keeps = closing_keeps;
}
