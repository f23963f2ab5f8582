use Rattle.cckd_layer.proofs.RemarkedLemmas.{stands_marked, remark_keeps}
use Rattle.cckd_layer.proofs.laws.marks_stand.Goals as goal

pub returns : goal.returns
returns c = record {
  stands = stands_marked;
  keeps = remark_keeps;
}
