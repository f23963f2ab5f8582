use Rattle.std.proofs.Common.{◌≡◌, ℕ, ◌++◌, length, min, take, drop, replicate, List, sym, subst, ◌∙◌, ap, arith}
use Rattle.std.proofs.lemmas.List.{length-take-le, length-replicate}
use Rattle.cckd_shelf.specs.World.{World, IsSure, file_of}
use Rattle.cckd_check.proofs.ReportLemmas.{filled_up}
use Rattle.cckd_check.proofs.heading.read_headers.Goals as goal

pub returns-clause-headers : goal.returns-clause-headers
returns-clause-headers g c = λ told sure.
    let slot = c.args.slot in
    let w = g.T.Shows.world c.args.stage.now in
    let between = g.T.Shows.world c.len.new.self in
    let kept = c.in-Ok.ensures.kept told in
    let n = c.front_of.result in
    let long : length (take n c.args.headers.now) ≡ n =
    length-take-le n c.args.headers.now (omega (arith, c.front_of.ensures, ap length c.requires.zeros, length-replicate {A = ℕ} 1024 0)) in
    let part = c.in-Ok-read.ensures.bytes told (subst IsSure (sym kept) sure) in
    let read : c.read.new.into ≡ take n (drop 0 (file_of w slot)) =
    subst (λ (v : World). c.read.new.into ≡ take n (drop 0 (file_of v slot))) kept
    (subst (λ (m : ℕ). c.read.new.into ≡ take m (drop 0 (file_of between slot))) long part) in
    subst (λ (h : List ℕ). c.read.new.into ++ drop n h ≡ take 1024 (file_of w slot ++ replicate 1024 0)) (sym c.requires.zeros)
    (filled_up 1024 (file_of w slot) c.read.new.into n (c.front_of.ensures ∙ ap (λ (m : ℕ). min m 1024) (c.in-Ok.ensures.len told sure)) read)
