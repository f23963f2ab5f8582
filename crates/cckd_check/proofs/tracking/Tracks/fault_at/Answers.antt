use Rattle.std.proofs.Common.{sym, arith}
use Rattle.cckd_check.proofs.FaultyLemmas.{named_inside}
use Rattle.cckd_check.proofs.tracking.Tracks.fault_at.Goals as goal

pub home_fault_in-requires-clause-bytes : goal.home_fault_in-requires-clause-bytes
home_fault_in-requires-clause-bytes g c = λ told sure.
    let long = c.requires.can.length told sure in
    let inside = named_inside c.args.self.now.spaces.now c.args.self.now.len c.args.place c.in-Some.space c.requires.can.apart (sym c.in-Some.ensures) in
    omega (arith, long, inside)

pub track_fault_in-requires-clause-bytes : goal.track_fault_in-requires-clause-bytes
track_fault_in-requires-clause-bytes g c = λ told sure.
    let long = c.requires.can.length told sure in
    let inside = named_inside c.args.self.now.spaces.now c.args.self.now.len c.args.place c.in-Some.space c.requires.can.apart (sym c.in-Some.ensures) in
    omega (arith, long, inside)
