use Rattle.cckd_make.proofs.SoundLemmas.{is_new}
use Rattle.cckd_make.proofs.laws.new_images_are_new.Goals as goal

pub returns : goal.returns
returns c = λ l h. is_new l h
