-- How many calls failed, by kind.
use Rattle.std.specs.Prelude.{◌≡◌, ℕ, ◌+◌, ◌-◌, ◌^◌, min, max}
use Rattle.cckd_shelf.specs.declared.fault.Faults.{Faults}
use Rattle.cckd_shelf.specs.declared.fault.Kind.{Kind}
use Rattle.cckd_shelf.specs.Faults.{no_faults, count, with_count}

-- A count after so many more calls failed. It stands still at the last value of a `u64`.
abbrev pub raised : ℕ → ℕ → ℕ
raised more count = max count (min (count + more) (2 ^ 64 - 1))

-- so many calls of each kind failed, and no others
pub record RoseBy (more old new : Faults) : Type 0 where
  pub reads : new.reads ≡ raised more.reads old.reads
  pub writes : new.writes ≡ raised more.writes old.writes
  pub syncs : new.syncs ≡ raised more.syncs old.syncs
  pub takes : new.takes ≡ raised more.takes old.takes
  pub puts : new.puts ≡ raised more.puts old.puts

-- so many calls of one kind, and none of the others
abbrev pub failures : Kind → ℕ → Faults
failures kind n = with_count kind n no_faults

-- a call more of a kind
abbrev pub one_more : Kind → Faults → Faults
one_more kind f = with_count kind (count kind f + 1) f
