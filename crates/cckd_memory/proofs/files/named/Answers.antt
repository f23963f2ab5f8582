use Rattle.std.proofs.Common.{sym, ◌∙◌, ap, Some}
use Rattle.cckd_memory.proofs.files.named.Goals as goal

pub returns-in_default : goal.returns-in_default
returns-in_default c = let h = c.in_default.ensures.none in sym h.named

pub returns : goal.returns
returns c = ap Some c.get.ensures ∙ sym (c.in-Some.ensures.first.named c.index-files-at.result)
