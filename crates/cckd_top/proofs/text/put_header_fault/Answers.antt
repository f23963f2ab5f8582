use Rattle.std.proofs.Common.{ℕ, List, [], ◌∷◌, codes, sym, subst}
use Rattle.cckd_base.specs.declared.fault.HeaderFault.{HeaderFault}
use Rattle.cckd_base.specs.Put.{IsPut}
use Rattle.cckd_script.specs.Phrase.{words, number, phrase}
use Rattle.cckd_top.specs.Text.{header_fault_text}
use Rattle.cckd_top.proofs.text.put_header_fault.Goals as goal

pub returns-in-BadGeometry-clause-put : goal.returns-in-BadGeometry-clause-put
returns-in-BadGeometry-clause-put c =
    let call = c.put_phrase-in-BadGeometry in
    subst (λ (f : HeaderFault). IsPut c.args.at call.result (header_fault_text f) c.args.line.now call.new.line) (sym c.in-BadGeometry.is)
    (subst (λ (name : List ℕ). IsPut c.args.at call.result (phrase (codes " bad geometry") (words name ∷ number c.in-BadGeometry.value ∷ []))
    c.args.line.now call.new.line) c.geometry_field.ensures.name call.ensures.put)

pub returns-in-BadNullFormat-clause-put : goal.returns-in-BadNullFormat-clause-put
returns-in-BadNullFormat-clause-put c =
    let call = c.put_phrase-in-BadNullFormat in
    subst (λ (f : HeaderFault). IsPut c.args.at call.result (header_fault_text f) c.args.line.now call.new.line) (sym c.in-BadNullFormat.is)
    (subst (λ (n : ℕ). IsPut c.args.at call.result (phrase (codes " bad null format") (number n ∷ [])) c.args.line.now call.new.line) c.from.ensures
    call.ensures.put)
