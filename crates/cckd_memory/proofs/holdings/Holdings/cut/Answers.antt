use Rattle.std.proofs.Common.{◌<◌, ◌∷◌, ◌∙◌, ap, arith, length}
use Rattle.std.proofs.lemmas.List.{get_or_read}
use Rattle.cckd_memory.specs.declared.op.Op.{Op}
use Rattle.cckd_memory.specs.Held.{world_in, after_cut_off}
use Rattle.cckd_memory.specs.Ops.{event_of}
use Rattle.cckd_memory.specs.Inside.{IsStored, no_place}
use Rattle.cckd_memory.specs.Files.{file_named}
use Rattle.cckd_memory.proofs.StoredLemmas.{stored_cut, files_cut, same_world}
use Rattle.cckd_memory.proofs.holdings.Holdings.cut.Goals as goal

pub invariant_of-self-2 : goal.invariant_of-self-2
invariant_of-self-2 c =
    let held : IsStored (file_named c.args.self.now.files.items) c.args.self.now.places.items c.args.self.now.history = c.args.self.now.stored in
    let low : c.get-at.result < 9 = omega (arith, c.get-at.ensures.within) in
    let inside : c.get-at.result < length c.args.self.now.places.items = omega (arith, low, held.nine) in
    record {
      stored = rw (c.in_ok-add.ensures.added, c.cut_op.ensures) (stored_cut _ _ _ _ c.args.half c.get-at.result c.args.len c.index_mut-place.result.now _ held low
          (get_or_read _ _ _ inside c.index_mut-place.ensures.value no_place) c.cut_held.ensures.files c.cut_held.ensures.place);
    }

pub returns-clause-cut : goal.returns-clause-cut
returns-clause-cut c = λ script.
    let held : IsStored (file_named c.args.self.now.files.items) c.args.self.now.places.items c.args.self.now.history = c.args.self.now.stored in
    let inside : c.get-at.result < length c.args.self.now.places.items = omega (arith, c.get-at.ensures.within, held.nine) in
    same_world
    (files_cut _ _ _ _ c.get-at.result c.args.len c.index_mut-place.result.now held
    (get_or_read _ _ _ inside c.index_mut-place.ensures.value no_place) c.cut_held.ensures.files)
    (c.in_ok-add.ensures.added ∙ ap (λ (o : Op). event_of o ∷ c.args.self.now.history) c.cut_op.ensures)
    ∙ ap (λ n. after_cut_off c.args.half n c.args.len (world_in c.args.self.now script)) c.get-at.ensures.value
