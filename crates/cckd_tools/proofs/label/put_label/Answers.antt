use Rattle.std.proofs.Common.{ℕ, ◌<◌, List, [], ◌∷◌, ◌++◌, length, ◌∙◌, subst, arith, rules}
use Rattle.cckd_base.specs.Geometry.{address_of}
use Rattle.cckd_base.specs.Track.{null_record_zero, spelled_track}
use Rattle.cckd_track.specs.Builder.{IsBuilt, record_at_address}
use Rattle.cckd_tools.specs.Label.{vol1, label_records}
use Rattle.cckd_tools.proofs.LabelLemmas.{first_records, second_records, first_long, second_long, label_long, built_as}
use Rattle.cckd_tools.proofs.label.put_label.Goals as goal

pub returns-in-Err-clause-fits : goal.returns-in-Err-clause-fits
returns-in-Err-clause-fits c = λ fits.
    let geo = c.args.l.now.geo in
    let a = address_of geo 0 in
    let no = c.in-Err.ensures.added geo 0 (null_record_zero a ∷ []) c.args.out.now c.new-builder.ensures.begun in
    absurd (omega (arith, no.1, first_long geo, fits))

pub returns-in-Err-add-clause-fits : goal.returns-in-Err-add-clause-fits
returns-in-Err-add-clause-fits c = λ fits.
    let geo = c.args.l.now.geo in
    let a = address_of geo 0 in
    let one = c.in_default.ensures.added geo 0 (null_record_zero a ∷ []) c.args.out.now c.new-builder.ensures.begun in
    let no = c.in-Err-add.ensures.added geo 0 (first_records a) c.args.out.now one in
    absurd (omega (arith, no.1, second_long geo, fits))

pub returns-in-Err-add-2-clause-fits : goal.returns-in-Err-add-2-clause-fits
returns-in-Err-add-2-clause-fits c = λ fits.
    let geo = c.args.l.now.geo in
    let a = address_of geo 0 in
    let one = c.in_default.ensures.added geo 0 (null_record_zero a ∷ []) c.args.out.now c.new-builder.ensures.begun in
    let two = c.in_default-add.ensures.added geo 0 (first_records a) c.args.out.now one in
    let no = c.in-Err-add-2.ensures.added geo 0 (second_records a) c.args.out.now two in
    let long = label_long geo c.args.serial.now (search rules) in
    let more = subst (λ (bytes : List ℕ). geo.track_size < length (spelled_track geo 0 0 (second_records a ++ record_at_address a 3 vol1 bytes ∷ []))) c.label_data.ensures no.1 in
    absurd (omega (arith, more, long, fits))

pub returns-clause-built : goal.returns-clause-built
returns-clause-built c =
    let geo = c.args.l.now.geo in
    let a = address_of geo 0 in
    let one = c.in_default.ensures.added geo 0 (null_record_zero a ∷ []) c.args.out.now c.new-builder.ensures.begun in
    let two = c.in_default-add.ensures.added geo 0 (first_records a) c.args.out.now one in
    let three = c.in_default-add-2.ensures.added geo 0 (second_records a) c.args.out.now two in
    let same = c.in_default-add-2.ensures.same_reference ∙ c.in_default-add.ensures.same_reference ∙ c.in_default.ensures.same_reference ∙ c.new-builder.ensures.same_reference in
    let built = built_as geo c.args.serial.now c.label_data.result c.args.out.now c.finish.result _ c.label_data.ensures
    (c.finish.ensures geo 0 (second_records a ++ record_at_address a 3 vol1 c.label_data.result ∷ []) c.args.out.now three) in
    subst (λ (out : List ℕ). IsBuilt geo 0 (label_records a c.args.serial.now) c.args.out.now c.finish.result out) (search rules) built
