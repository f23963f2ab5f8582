-- What an answer says that is the first fault, or Ok where there is none.
use Rattle.std.proofs.Common.{◌↔◌, ℕ, ◌≤◌, List, length, Result, Ok, Err, refl, IsOk, IfErr}
use Rattle.cckd_base.specs.declared.geometry.Geometry.{Geometry}
use Rattle.cckd_base.specs.declared.fault.TrackFault.{TrackFault}
use Rattle.cckd_base.specs.Geometry.{IsGeometry}
use Rattle.cckd_base.specs.Track.{IsTrack, track_fault, OkUnless}
use Rattle.cckd_base.proofs.GrammarLemmas.{IsBytes}
use Rattle.cckd_base.proofs.FaultlessLemmas.{faultless_is_track}
use Rattle.cckd_base.proofs.TrackLemmas.{track_passes}
use Rattle.cckd_track.specs.Stop.{StopsBehindRecords}
use Rattle.cckd_track.proofs.StopLemmas.{stops_behind}

pub accepts_tracks : (answer : Result (Unit {0}) TrackFault) (geo : Geometry) (t : ℕ) (bytes : List ℕ) → IsGeometry geo → IsBytes bytes → OkUnless answer (track_fault geo t bytes) → IsOk answer ↔ IsTrack geo t bytes
accepts_tracks (Ok u) geo t bytes shape byte none = (λ ok. faultless_is_track geo t bytes byte none, λ track. refl)
accepts_tracks (Err fault) geo t bytes shape byte found = (λ ok. absurd cc, λ track. let none = track_passes geo t bytes shape track in absurd cc)

pub stops : (answer : Result (Unit {0}) TrackFault) (geo : Geometry) (t : ℕ) (bytes : List ℕ) → IsBytes bytes → length bytes ≤ 65535 → OkUnless answer (track_fault geo t bytes) → IfErr answer (StopsBehindRecords geo t bytes)
stops (Ok u) geo t bytes byte short none = tt
stops (Err fault) geo t bytes byte short found = stops_behind geo t bytes fault byte short found
