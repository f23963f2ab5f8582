use Rattle.std.proofs.Common.{◌-◌, List, take, ap, ◌∙◌, subst}
use Rattle.cckd_frames.specs.Frames.{Entry, Kept, IsKept, with_entries, with_body}
use Rattle.cckd_frames.proofs.CallerLemmas.{first_copied}
use Rattle.cckd_frames.proofs.frames.Frames.put.Goals as goal

pub returns-clause-put : goal.returns-clause-put
returns-clause-put c =
    let old = c.args.self.now in let frame = c.take_last-frame.result.0 in let es = take (old.count - 1) old.entries in
    let taken = c.take_last-frame.ensures.taken in
    c.copy.ensures.copied
    ∙ (ap (λ (k : Kept). with_entries k (with_body frame c.args.bytes.now k.entries)) taken
    ∙ ap (λ (l : List Entry). with_entries old l) (first_copied old frame c.args.key c.args.bytes.now es (subst IsKept taken c.take_last-frame.ensures.kept)))
