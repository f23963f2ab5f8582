use Rattle.std.proofs.Common.{map, string_bytes, ap, ◌∙◌}
use Rattle.cckd_host.specs.Words.{with_words, without_memory}
use Rattle.cckd_host.proofs.RunLemmas.{said_or_cut}
use Rattle.cckd_host.proofs.run_from.Goals as goal

pub returns-in-Ok : goal.returns-in-Ok
returns-in-Ok g c =
    with_words (map string_bytes c.deref.result.now) (λ told. ap (map string_bytes) c.deref.ensures.value ∙ c.in-Ok.ensures told)
    c.run_command.ensures

pub returns-in-Ok-put_all : goal.returns-in-Ok-put_all
returns-in-Ok-put_all g c =
    without_memory (said_or_cut _ c.put_all.result _ _ c.put_all.ensures.whole c.put_all.ensures.front c.put_all.ensures.fails) c.put_all.ensures.front
