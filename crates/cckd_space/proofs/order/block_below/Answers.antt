use Rattle.std.proofs.Common.{◌≡◌, ℕ, Option, Some, None, IfSome, IfNone, take}
use Rattle.cckd_space.specs.Pieces.{first, has_room_below}
use Rattle.cckd_space.specs.Blocks.{IsFoundIn, whole}
use Rattle.cckd_space.proofs.OrderLemmas.{found_wider, none_below, none_wider}
use Rattle.cckd_space.proofs.order.block_below.Goals as goal

found_of : (o : Option ℕ) (f : (n : ℕ) → Type 0) (g : (n : ℕ) → Type 0) → ((n : ℕ) → f n → g n) → IfSome o f → IfSome o g
found_of None f g h x = tt
found_of (Some n) f g h x = h n x

none_of : (o : Option ℕ) (A B : Type 0) → (A → B) → IfNone o A → IfNone o B
none_of None A B h x = h x
none_of (Some n) A B h x = tt

pub returns-clause-found : goal.returns-clause-found
returns-clause-found c =
    let test = has_room_below c.args.need c.args.before in
    let bs = c.args.blocks.now in
    let end = c.begun_blocks-end.result in
    found_of c.block_with_room_below.result (IsFoundIn test (take end bs)) (IsFoundIn test bs) (λ at f. found_wider test bs end at c.begun_blocks-end.ensures.within f) c.block_with_room_below.ensures.found

pub returns-clause-none : goal.returns-clause-none
returns-clause-none c =
    let test = has_room_below c.args.need c.args.before in
    let bs = c.args.blocks.now in
    let end = c.begun_blocks-end.result in
    let past = none_below c.args.need c.args.before bs end c.requires.filled c.requires.order c.begun_blocks-end.ensures.behind in
    none_of c.block_with_room_below.result (first test (whole (take end bs)) ≡ None) (first test (whole bs) ≡ None) (λ e. none_wider test bs end e past) c.block_with_room_below.ensures.none
