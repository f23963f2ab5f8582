use Rattle.cckd_layer.proofs.EndedLemmas.{writes_marked, hardens_marked, closes_marked}
use Rattle.cckd_layer.proofs.laws.marks_stay.Goals as goal

pub returns : goal.returns
returns c = record {
  writes = writes_marked;
  hardens = hardens_marked;
  closes = closes_marked;
}
