use Rattle.std.proofs.Common.{arith}
use Rattle.cckd_image.specs.Image.{dev_bytes}
use Rattle.cckd_image.proofs.PartLemmas.{joined, joined_byte}
use Rattle.cckd_image.proofs.read.dev_in.Goals as goal

pub returns-clause-undone : goal.returns-clause-undone
unfolding dev_bytes
returns-clause-undone c =
    let headers = c.args.headers.now in
    joined headers 0 8 504 c.part.ensures (
    joined headers 8 4 500 c.number.ensures.undone (
    joined headers 12 4 496 c.number-2.ensures.undone (
    joined_byte headers 16 495 (omega arith) (
    joined_byte headers 17 494 (omega arith) (
    joined headers 18 2 492 c.small_number.ensures.undone c.part-2.ensures)))))
