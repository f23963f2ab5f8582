use Rattle.std.proofs.Common.{◌≡◌, ◌<◌, ℕ, arith, length, ap, ◌∙◌, subst, List}
use Rattle.std.proofs.lemmas.List.{get_or_read}
use Rattle.cckd_memory.specs.declared.bytes.FileIn.{FileIn}
use Rattle.cckd_memory.specs.Files.{file_named}
use Rattle.cckd_memory.specs.Inside.{IsStored, no_place, content}
use Rattle.cckd_shelf.specs.Events.{file_now}
use Rattle.cckd_memory.proofs.StoredLemmas.{stored_content}
use Rattle.cckd_memory.proofs.holdings.Holdings.get.Goals as goal

pub returns : goal.returns
returns c = λ script.
    let stored : IsStored (file_named c.args.self.now.files.items) c.args.self.now.places.items c.args.self.now.history = c.args.self.now.stored in
    let inside : c.get.result < length c.args.self.now.places.items = omega (arith, c.get.ensures.within, stored.nine) in
    subst (λ (n : ℕ). c.held.result.now ≡ file_now c.args.self.now.history n) c.get.ensures.value
    (c.held.ensures
    ∙ (ap (λ (files : List FileIn). content (file_named files) c.index.result.now) c.deref.ensures.value
    ∙ (ap (content (file_named c.args.self.now.files.items)) (get_or_read _ _ _ inside c.index.ensures no_place)
    ∙ stored_content _ _ _ c.get.result stored)))
