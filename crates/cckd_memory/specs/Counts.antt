-- The calls of a stage in memory: their numbers, and which of them fail.
use Rattle.std.specs.Prelude.{ℕ, ◌≡◌, ◌⊎◌, ◌+◌, ◌-◌, ◌^◌, ◌≤◌, ◌==◌, min, Bool, false, IsTrue, List, Result, Ok, Err, OnOk, OnErr}
use Rattle.std.specs.List.{list_any}
use Rattle.cckd_shelf.specs.declared.fault.Failed.{Failed}
use Rattle.cckd_shelf.specs.declared.fault.Faults.{Faults}
use Rattle.cckd_memory.specs.declared.counts.Counts.{Counts}
use Rattle.cckd_shelf.specs.declared.fault.Kind.{Kind}
use Rattle.cckd_shelf.specs.Faults.{Raises, count, with_count, no_faults}

-- the number of a call is among those that are to fail
abbrev pub is_listed : List ℕ → ℕ → Bool
is_listed failing number = list_any (λ n. n == number) failing

-- nothing was called
pub record IsFresh (failing : List ℕ) (counts : Counts) : Type 0 where
  pub listed : counts.failing.items ≡ failing
  pub calls : counts.calls ≡ 0
  pub wanted : counts.wanted ≡ 0
  pub faults : counts.faults ≡ no_faults

-- a number rose by one, or stands at the last value of a `u64`
abbrev pub IsNext : ℕ → ℕ → Type 0
IsNext old new = new ≡ min (old + 1) (2 ^ 64 - 1)

-- a call began: it has the next number, and this is whether that is listed
pub record Begins (listed : Bool) (old new : Counts) : Type 0 where
  pub number : IsNext old.calls new.calls
  pub fell : old.calls ≤ new.calls
  pub answer : listed ≡ is_listed old.failing.items new.calls
  pub failing : new.failing.items ≡ old.failing.items
  pub wanted : new.wanted ≡ old.wanted
  pub faults : new.faults ≡ old.faults

-- the call failed
pub record Fell (kind : Kind) (old new : Counts) : Type 0 where
  pub raises : Raises kind old.faults new.faults
  pub calls : new.calls ≡ old.calls
  pub failing : new.failing.items ≡ old.failing.items
  pub wanted : new.wanted ≡ old.wanted

-- the call failed for want of memory
pub record Wanted (kind : Kind) (old new : Counts) : Type 0 where
  pub raises : Raises kind old.faults new.faults
  pub calls : new.calls ≡ old.calls
  pub failing : new.failing.items ≡ old.failing.items
  pub wanted : IsNext old.wanted new.wanted

-- the counts of faults after a call of this kind
abbrev pub faults_after : {T : Type 0} → Kind → Result T Failed → Faults → Faults
faults_after kind (Ok value) f = f
faults_after kind (Err failed) f = with_count kind (min (count kind f + 1) (2 ^ 64 - 1)) f

-- The call has the next number, and failed exactly where that is listed or memory was wanted in it. Where it
-- failed, its kind's count rose by one.
pub record Counted {T : Type 0} (kind : Kind) (result : Result T Failed) (old new : Counts) : Type 0 where
  pub number : IsNext old.calls new.calls
  pub failing : new.failing.items ≡ old.failing.items
  pub faults : new.faults ≡ faults_after kind result old.faults
  pub ok : OnOk result ((is_listed old.failing.items new.calls ≡ false) × (new.wanted ≡ old.wanted))
  pub err : OnErr result (IsTrue (is_listed old.failing.items new.calls) ⊎ IsNext old.wanted new.wanted)

-- the call never wants memory
abbrev pub NeedsNone : Counts → Counts → Type 0
NeedsNone old new = new.wanted ≡ old.wanted
