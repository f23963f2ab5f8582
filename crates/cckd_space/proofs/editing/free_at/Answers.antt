use Rattle.std.proofs.Common.{◌-◌, arith}
use Rattle.cckd_space.proofs.MergeLemmas.{IsFreedAt, freed_at, freed_first, freed_later, size_of_freed, size_of_set, length_freed}
use Rattle.cckd_space.proofs.KeptLemmas.{largest_freed, largest_joined_at}
use Rattle.cckd_space.proofs.editing.free_at.Goals as goal

pub join_next-behind-requires-clause-sizes : goal.join_next-behind-requires-clause-sizes
join_next-behind-requires-clause-sizes c =
    let s = size_of_set c.args.pieces.now.items c.args.at c.index-piece.result.now c.free.result (omega arith) c.index-piece.ensures c.free.ensures in
    omega (arith, s, c.requires.sizes)

pub returns-then-at-eq0-clause-items : goal.returns-then-at-eq0-clause-items
returns-then-at-eq0-clause-items c = λ d.
    freed_first c.args.pieces.now.items c.join_next-behind.new.pieces.items c.args.at d c.requires.merged
    (freed_at c.args.pieces.now.items c.join_next-behind.new.pieces.items c.args.at c.index-piece.result.now c.free.result d (omega arith) c.index-piece.ensures c.free.ensures (c.join_next-behind.ensures.items d))
    (omega arith)

pub returns-then-at-eq0-clause-offers : goal.returns-then-at-eq0-clause-offers
returns-then-at-eq0-clause-offers c =
    let d = c.index-piece.result.now in
    largest_freed c.args.pieces.now.items c.join_next-behind.new.pieces.items c.args.at d c.join_next-behind.result
    (freed_at c.args.pieces.now.items c.join_next-behind.new.pieces.items c.args.at c.index-piece.result.now c.free.result d (omega arith) c.index-piece.ensures c.free.ensures (c.join_next-behind.ensures.items d))
    (c.join_next-behind.ensures.offers d)

pub join_next-before-requires-clause-within : goal.join_next-before-requires-clause-within
join_next-before-requires-clause-within c =
    let d = c.index-piece.result.now in
    let l = length_freed c.args.pieces.now.items c.join_next-behind.new.pieces.items c.args.at d
    (freed_at c.args.pieces.now.items c.join_next-behind.new.pieces.items c.args.at c.index-piece.result.now c.free.result d (omega arith) c.index-piece.ensures c.free.ensures (c.join_next-behind.ensures.items d)) in
    omega (arith, l)

pub join_next-before-requires-clause-sizes : goal.join_next-before-requires-clause-sizes
join_next-before-requires-clause-sizes c =
    let d = c.index-piece.result.now in
    let s = size_of_freed c.args.pieces.now.items c.join_next-behind.new.pieces.items c.args.at d
    (freed_at c.args.pieces.now.items c.join_next-behind.new.pieces.items c.args.at c.index-piece.result.now c.free.result d (omega arith) c.index-piece.ensures c.free.ensures (c.join_next-behind.ensures.items d)) in
    omega (arith, s, c.requires.sizes)

pub returns-clause-items : goal.returns-clause-items
returns-clause-items c = λ d.
    freed_later c.args.pieces.now.items c.join_next-behind.new.pieces.items c.join_next-before.new.pieces.items c.args.at (c.args.at - 1) d c.requires.merged
    (freed_at c.args.pieces.now.items c.join_next-behind.new.pieces.items c.args.at c.index-piece.result.now c.free.result d (omega arith) c.index-piece.ensures c.free.ensures (c.join_next-behind.ensures.items d))
    (omega arith) (c.join_next-before.ensures.items d)

pub returns-clause-offers : goal.returns-clause-offers
returns-clause-offers c =
    let d = c.index-piece.result.now in
    let f : IsFreedAt c.args.pieces.now.items c.join_next-behind.new.pieces.items c.args.at d =
    freed_at c.args.pieces.now.items c.join_next-behind.new.pieces.items c.args.at c.index-piece.result.now c.free.result d (omega arith) c.index-piece.ensures c.free.ensures (c.join_next-behind.ensures.items d) in
    let l = length_freed c.args.pieces.now.items c.join_next-behind.new.pieces.items c.args.at d f in
    let a = largest_freed c.args.pieces.now.items c.join_next-behind.new.pieces.items c.args.at d c.join_next-behind.result f (c.join_next-behind.ensures.offers d) in
    let b = largest_joined_at c.join_next-behind.new.pieces.items c.join_next-before.new.pieces.items (c.args.at - 1) d c.join_next-before.result (omega (arith, l)) (c.join_next-before.ensures.items d) (c.join_next-before.ensures.offers d) in
    omega (arith, a, b, c.max.ensures)
