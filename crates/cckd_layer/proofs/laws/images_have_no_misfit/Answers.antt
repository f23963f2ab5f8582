use Rattle.cckd_base.proofs.ImageLemmas.{image_of_survey, survey_of_image}
use Rattle.cckd_layer.proofs.laws.images_have_no_misfit.Goals as goal

pub returns : goal.returns
returns c = record {
  image = image_of_survey;
  clean = λ l file image. (survey_of_image l file image, image.snug);
}
