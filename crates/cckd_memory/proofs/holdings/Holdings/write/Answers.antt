use Rattle.std.proofs.Common.{◌<◌, ◌∷◌, ◌∙◌, ap, arith, length}
use Rattle.std.proofs.lemmas.List.{get_or_read}
use Rattle.cckd_memory.specs.declared.op.Op.{Op}
use Rattle.cckd_memory.specs.Held.{world_in, after_overlay}
use Rattle.cckd_memory.specs.Ops.{event_of, write_op}
use Rattle.cckd_memory.specs.Inside.{IsStored, no_place}
use Rattle.cckd_memory.specs.Files.{file_named}
use Rattle.cckd_memory.proofs.StoredLemmas.{stored_overlay, files_overlay, same_world}
use Rattle.cckd_memory.proofs.holdings.Holdings.write.Goals as goal

pub invariant_of-self-in-Ok : goal.invariant_of-self-in-Ok
invariant_of-self-in-Ok c =
    let held : IsStored (file_named c.args.self.now.files.items) c.args.self.now.places.items c.args.self.now.history = c.args.self.now.stored in
    let low : c.get-at.result < 9 = omega (arith, c.get-at.ensures.within) in
    let inside : c.get-at.result < length c.args.self.now.places.items = omega (arith, low, held.nine) in
    record {
      stored = rw (c.in_ok-add.ensures.added, c.write_op.ensures, c.in_ok-copy.ensures)
          (stored_overlay _ _ _ _ c.args.half c.get-at.result c.args.pos c.args.bytes.now c.index_mut-place.result.now _ held low
          (get_or_read _ _ _ inside c.index_mut-place.ensures.value no_place) c.in-Ok.ensures.files c.in-Ok.ensures.place);
    }

pub returns-clause-written : goal.returns-clause-written
returns-clause-written c = λ script.
    let held : IsStored (file_named c.args.self.now.files.items) c.args.self.now.places.items c.args.self.now.history = c.args.self.now.stored in
    let inside : c.get-at.result < length c.args.self.now.places.items = omega (arith, c.get-at.ensures.within, held.nine) in
    same_world
    (files_overlay _ _ _ _ c.get-at.result c.args.pos c.args.bytes.now c.index_mut-place.result.now held
    (get_or_read _ _ _ inside c.index_mut-place.ensures.value no_place) c.in-Ok.ensures.files)
    (c.in_ok-add.ensures.added ∙ ap (λ (o : Op). event_of o ∷ c.args.self.now.history) (c.write_op.ensures ∙ ap (write_op c.args.half c.get-at.result c.args.pos) c.in_ok-copy.ensures))
    ∙ ap (λ n. after_overlay c.args.half n c.args.pos c.args.bytes.now (world_in c.args.self.now script)) c.get-at.ensures.value
