use Rattle.std.proofs.Common.{rules, ◌≡◌, ◌<◌, arith, refl, length, map, take, drop, set, ap, sym, ◌∙◌, subst, List, [], ◌∷◌, ◌++◌, Some, unwrap_or}
use Rattle.std.proofs.lemmas.List.{length-map, length-set}
use Rattle.cckd_shelf.specs.Events.{Event, Bound}
use Rattle.cckd_memory.specs.declared.places.Place.{Place}
use Rattle.cckd_memory.specs.Files.{file_named}
use Rattle.cckd_memory.specs.Inside.{IsStored, without}
use Rattle.cckd_memory.proofs.FileLemmas.{given_back}
use Rattle.cckd_memory.proofs.StoredLemmas.{stored_bind}
use Rattle.cckd_memory.proofs.holdings.Holdings.bind.Goals as goal

pub invariant_of-self-2 : goal.invariant_of-self-2
invariant_of-self-2 c =
    let files = file_named c.args.self.now.files.items in
    let old = c.args.self.now.places.items in
    let events = c.args.self.now.history in
    let name = c.args.name.now in
    let held : IsStored files old events = c.args.self.now.stored in
    let low : c.get-at.result < 9 = omega (arith, c.get-at.ensures.within) in
    let gained : Place = record { name = Some name; loose = [] } in
    let given : c.give_name.new.places ≡ set (map (without name) old) c.get-at.result gained = search rules in
    let size : length c.give_name.new.places ≡ length old = ap length given ∙ (length-set _ c.get-at.result _ ∙ length-map old (without name)) in
    let back : take c.args.self.now.places.len (c.give_name.new.places ++ drop (length c.give_name.new.places) old) ≡ c.give_name.new.places = given_back _ _ _ c.args.self.now.places.ok.0 size in
    let added : c.add_bound.new.self ≡ Bound c.get-at.result name (unwrap_or (files name) []) ∷ events = search rules in
    record {
      stored = subst (λ (ps : List Place). IsStored files ps c.add_bound.new.self) (sym (back ∙ given))
          (subst (λ (es : List Event). IsStored files (set (map (without name) old) c.get-at.result gained) es) (sym added)
          (stored_bind files old events c.get-at.result name (unwrap_or (files name) []) held low refl));
    }
