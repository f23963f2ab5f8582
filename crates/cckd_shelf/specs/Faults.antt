-- How often calls have failed, by kind.
use Rattle.std.specs.Prelude.{ℕ, ◌≡◌, ◌+◌, ◌-◌, ◌^◌, ◌≤◌, min}
use Rattle.cckd_shelf.specs.declared.fault.Faults.{Faults}
pub use Rattle.cckd_shelf.specs.declared.fault.Kind.{Kind}
pub use Rattle.cckd_shelf.specs.declared.fault.Kind.TheVariants.{Reads, Writes, Syncs, Takes, Puts}

-- nothing failed yet
abbrev pub no_faults : Faults
no_faults = record { reads = 0; writes = 0; syncs = 0; takes = 0; puts = 0 }

-- how many calls of a kind have failed
abbrev pub count : Kind → Faults → ℕ
count Reads f = f.reads
count Writes f = f.writes
count Syncs f = f.syncs
count Takes f = f.takes
count Puts f = f.puts

-- no count fell
pub record NoneFell (old new : Faults) : Type 0 where
  pub reads : old.reads ≤ new.reads
  pub writes : old.writes ≤ new.writes
  pub syncs : old.syncs ≤ new.syncs
  pub takes : old.takes ≤ new.takes
  pub puts : old.puts ≤ new.puts

-- the counts with another number for one kind
abbrev pub with_count : Kind → ℕ → Faults → Faults
with_count Reads n f = record f { reads = n }
with_count Writes n f = record f { writes = n }
with_count Syncs n f = record f { syncs = n }
with_count Takes n f = record f { takes = n }
with_count Puts n f = record f { puts = n }

-- A call of this kind failed: its count rose by one, or stands at the last value, and the others stay.
pub record Raises (kind : Kind) (old new : Faults) : Type 0 where
  pub fell : NoneFell old new
  pub counts : new ≡ with_count kind (min (count kind old + 1) (2 ^ 64 - 1)) old
