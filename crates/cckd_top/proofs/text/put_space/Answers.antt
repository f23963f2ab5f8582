use Rattle.std.proofs.Common.{ℕ, [], ◌∷◌, codes, subst}
use Rattle.cckd_base.specs.Put.{IsPut}
use Rattle.cckd_base.proofs.PutLemmas.{puts_join}
use Rattle.cckd_script.specs.Phrase.{words, number, phrase}
use Rattle.cckd_top.specs.Text.{owner_text}
use Rattle.cckd_top.proofs.text.put_space.Goals as goal

pub returns-clause-put : goal.returns-clause-put
returns-clause-put c =
    let owned = c.put_owner-end in
    let call = c.put_phrase in
    puts_join c.args.at owned.result call.result (owner_text c.args.space.owner)
    (phrase (codes " at") (number c.args.space.pos ∷ words (codes "for") ∷ number c.args.space.size ∷ [])) c.args.line.now owned.new.line call.new.line
    owned.ensures.put
    (subst (λ (n : ℕ). IsPut owned.result call.result (phrase (codes " at") (number n ∷ words (codes "for") ∷ number c.args.space.size ∷ []))
    owned.new.line call.new.line) c.from.ensures
    (subst (λ (n : ℕ). IsPut owned.result call.result (phrase (codes " at") (number c.from.result ∷ words (codes "for") ∷ number n ∷ []))
    owned.new.line call.new.line) c.from-2.ensures call.ensures.put))
