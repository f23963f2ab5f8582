use Rattle.std.proofs.Common.{refl, sym, ◌∙◌}
use Rattle.cckd_tables.proofs.TakeLemmas.{takes_met, takes_unmet}
use Rattle.cckd_tables.proofs.progress.Progress.take_space.Goals as goal

pub returns-in-Some : goal.returns-in-Some
returns-in-Some c =
    takes_met c.args.len c.args.self.now _ c.in-Some.first c.args.space c.requires.under_way (sym c.met.ensures ∙ c.in-Some.is)
    refl refl c.in_ok-push.ensures.items

pub returns : goal.returns
returns c =
    takes_unmet c.args.len c.args.self.now _ c.args.space c.requires.under_way c.requires.formed (sym c.met.ensures ∙ c.in_default.is)
    c.in_ok-push-2.ensures.items c.in_ok-add.ensures.added refl
