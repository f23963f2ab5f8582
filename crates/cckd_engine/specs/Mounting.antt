-- What the mounting of an engine counts.
use Rattle.std.specs.Prelude.{ℕ, ◌≡◌, Result, Ok, Err}
use Rattle.cckd_base.specs.declared.open_fault.OpenFault.{OpenFault}
use Rattle.cckd_shelf.specs.declared.fault.Faults.{Faults}
use Rattle.cckd_shelf.specs.declared.shows.Shows.{Ghosts as Showing}
use Rattle.cckd_layer.specs.Mounted.{CountsOpen}
use Rattle.cckd_engine.specs.declared.engine.Engine.{Engine}

-- mounting an engine counts no fault, or the one by which there is none
abbrev pub CountsMount : {T D : Type 0} → Showing T → Result (Engine T D) (T × OpenFault) → Faults → Type 0
CountsMount shows (Ok engine) old = shows.faults engine.stage ≡ old
CountsMount shows (Err back) old = CountsOpen {A = ℕ} (Err back.1) old (shows.faults back.0)
