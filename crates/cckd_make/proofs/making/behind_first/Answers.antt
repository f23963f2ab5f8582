use Rattle.std.proofs.Common.{ℕ, List, ◌*◌, ◌++◌, ap, ◌∙◌, rules, subst, replicate}
use Rattle.cckd_base.specs.Put.{IsPut}
use Rattle.cckd_make.proofs.ImageLemmas.{put_over}
use Rattle.cckd_make.proofs.making.behind_first.Goals as goal

pub returns-clause-bytes : goal.returns-clause-bytes
returns-clause-bytes c =
    let put = subst (λ (items : List ℕ). IsPut 0 c.put_bytes.result c.args.second.now items c.put_bytes.new.buffer) c.as_mut_slice.ensures.value c.put_bytes.ensures in
    put_over c.args.second.now c.put_bytes.new.buffer c.in-Ok.rest.items c.in-Ok.rest.len c.put_bytes.result (4 * c.args.l.now.groups) c.word_byte-fill.result
    c.requires.second (search rules) (search rules) put
    ∙ ap (λ (fill : ℕ). c.args.second.now ++ replicate (4 * c.args.l.now.groups) fill) c.word_byte-fill.ensures
