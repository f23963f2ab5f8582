use Rattle.cckd_layer.proofs.StagedLemmas.{stands_staged, stands_again, stands_again_none, stands_word}
use Rattle.cckd_layer.proofs.laws.stages_stand.Goals as goal

pub returns : goal.returns
returns c = record {
  entry = λ v n rest new slot w t e fresh st can space nothing. stands_staged v n rest new slot w t e fresh st can (record { space = space; nothing = nothing });
  again = λ v n rest new slot w t e o again place st can space nothing. stands_again v n rest new slot w t e o again place st can (record { space = space; nothing = nothing });
  over_none = λ v n rest slot w t e o again none st can space nothing. stands_again_none v n rest slot w t e o again none st can (record { space = space; nothing = nothing });
  word = stands_word;
}
