use Rattle.std.proofs.Common.{◌≡◌, take}
use Rattle.std.specs.List.{flat_map}
use Rattle.cckd_shelf.specs.Seen.{seen, Tells, Stays}
use Rattle.cckd_shelf.specs.World.{IsSure, file_of}
use Rattle.cckd_base.specs.Survey.{entry_items_in}
use Rattle.cckd_tables.specs.Inside.{Takes, TakesSome}
use Rattle.cckd_tables.proofs.read.take_all_tracks.Given as goal

abbrev pub invariant-loop-table : goal.invariant-loop-table
invariant-loop-table g l =
    let old = seen g.T.Shows l.fn.stage in
    let new = seen g.T.Shows l.stage in
    record {
      takes : Tells old → IsSure old.world → Takes l.len (flat_map (entry_items_in l.l (file_of old.world l.slot)) (take l.table-index l.tables)) l.fn.survey l.survey;
      some : TakesSome l.len l.fn.survey l.survey;
      kept : Stays old new;
      counts : new.faults ≡ old.faults;
    }
