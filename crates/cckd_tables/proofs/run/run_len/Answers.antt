use Rattle.std.proofs.Common.{◌≡◌, ℕ, ◌+◌, sym, subst, arith, inl, inr}
use Rattle.std.proofs.lemmas.Bool.{cases_lt}
use Rattle.std.specs.Prelude.{slice_index}
use Rattle.cckd_tables.specs.declared.staged.StagedEntry.{StagedEntry}
use Rattle.cckd_tables.specs.Commit.{staged_tracks}
use Rattle.cckd_tables.proofs.StagedLemmas.{track_of}
use Rattle.cckd_tables.proofs.run.run_len.Goals as goal

pub loop-count-preserved : goal.loop-count-preserved
loop-count-preserved c = λ i low. elim (cases_lt i c.loop-count.count) [
  | inl lt ↦ c.loop-count.invariant i lt
  | inr ge ↦
      let blank : StagedEntry = record { track = 0; entry = record { pos = 0; len = 0; size = 0 } } in
      let at : i ≡ c.loop-count.count = omega (arith, low, ge) in
      let here : slice_index (staged_tracks c.args.entries.now) (c.args.first + c.loop-count.count) ≡ slice_index (staged_tracks c.args.entries.now) c.args.first + c.loop-count.count =
      omega (arith, c.if-from-count.false, c.from.ensures, c.from-in-loop-count.ensures, track_of c.args.entries.now (c.args.first + c.loop-count.count) blank (omega arith), track_of c.args.entries.now c.args.first blank c.requires) in
      subst (λ (n : ℕ). slice_index (staged_tracks c.args.entries.now) (c.args.first + n) ≡ slice_index (staged_tracks c.args.entries.now) c.args.first + n) (sym at) here
]
