-- A run, from its parts.
use Rattle.cckd_stack.specs.Room.{first_room, last_file}
use Rattle.std.proofs.Common.{◌≡◌, ◌-◌, ℕ, List, [], ◌++◌, Some, ◌≤◌, Ok, Err, refl, sym, ◌∙◌, ap, subst, append-nil, length, map, ◌<◌, arith}
use Rattle.cckd_base.specs.declared.open_fault.OpenFault.{OpenFault}
use Rattle.cckd_base.specs.declared.open_fault.OpenFault.TheVariants as open_fault
use Rattle.cckd_shelf.specs.declared.fault.Faults.{Faults}
use Rattle.cckd_shelf.specs.declared.shows.Shows.{Ghosts as Showing}
use Rattle.cckd_shelf.specs.declared.fault.Kind.TheVariants.{Reads, Syncs, Puts}
use Rattle.cckd_shelf.specs.Events.{name_of, output_of}
use Rattle.cckd_shelf.specs.Frame.{puts, PutsSome}
use Rattle.cckd_shelf.specs.Outcomes.{OthersStill, AtEach}
use Rattle.cckd_shelf.specs.Seen.{Seen, seen, Tells}
use Rattle.cckd_shelf.specs.World.{World, file_of}
use Rattle.cckd_base.specs.Header.{headers_of, layout_of, is_present}
use Rattle.cckd_stack.specs.Marking.{IsLeftOrClosed}
use Rattle.cckd_script.specs.Text.{line}
use Rattle.cckd_engine.specs.declared.engine.Engine.{Engine}
use Rattle.cckd_engine.specs.declared.disk.Disk.{Ghosts as Making}
use Rattle.cckd_engine.specs.Lines.{HasFront, LinesAt, AreFilesThen}
use Rattle.cckd_console.specs.Counts.{RoseBy, one_more}
use Rattle.cckd_console.specs.Saying.{IsSaid, plain_text}
use Rattle.cckd_console.specs.Served.{Served, all_text, text_in, faults_told, line_in}
use Rattle.cckd_console.specs.Serving.{KeepsLines}
use Rattle.cckd_console.proofs.CountLemmas.{rose_still, rose_one, rose_later}
use Rattle.cckd_console.proofs.JoinLemmas.{keeps_twice, then_earlier}
use Rattle.cckd_console.specs.Saying.{Account, account_of, SaysAll, SaysCut, AreCut, IsSaidBehind, whole, cut_short}
use Rattle.cckd_top.specs.declared.halt.Halt.TheVariants as halt
use Rattle.cckd_top.specs.Ended.{EndsScript}
use Rattle.cckd_top.specs.Explained.{IsExplained, ExplainsDisk, words_are_bad, words_name_disk, files_dont_open, disk_is_served}
use Rattle.cckd_top.specs.Names.{slot_name, after_binds, files_of}
use Rattle.cckd_top.specs.Opening.{OpensDisk, FailsToOpen, CountsOpening}
use Rattle.cckd_top.specs.Run.{Way, closed, unscripted, cut, halted, served, source_account, open_fault_told, script_limit, IsTaken, HasPutLines, lines_of}
use Rattle.cckd_top.specs.Text.{open_fault_text, open_fault_status, halt_text, halt_status}
use Rattle.cckd_top.specs.Words.{Named, named_disk}
use Rattle.cckd_top.specs.World.{StayIntact, OnlyMounts, after_mounting}
use Rattle.cckd_engine.specs.Frame.{LeavesSlots}
use Rattle.cckd_engine.proofs.FrameLemmas.{leaves_fewer}
use Rattle.cckd_top.proofs.BoundLemmas.{lower_names, lower_files, lower_stay}
use Rattle.cckd_top.proofs.SayingLemmas.{said_behind}
use Rattle.cckd_top.proofs.WorldLemmas.{KeepsAll, intact_twice, puts_intact, mounting_keeps, binds_keep}

-- ---- what is done

-- pieces are put behind a mounting
mounts_puts : (name : List ℕ) (binds syncs : ℕ) (pieces : List (List ℕ)) (old between new : World) → between ≡ after_mounting name binds syncs old
    → new.events ≡ puts pieces ++ between.events → new.files ≡ between.files → OnlyMounts name binds syncs old new
mounts_puts name binds syncs pieces old between new done events files =
    let keeps = mounting_keeps name binds syncs old in
    let same : between.files ≡ old.files = ap (λ (w : World). w.files) done ∙ keeps.files in
    record {
      pieces = pieces;
      events = events ∙ ap (λ (w : World). puts pieces ++ w.events) done;
      files = files ∙ same;
      intact = intact_twice old between new same (subst (StayIntact old) (sym done) keeps.intact) (puts_intact pieces between new events);
    }

-- ---- a run that halts

-- what files did to the counts that don't open
told_rose : (why : OpenFault) (a b : Faults) → CountsOpening why a b → RoseBy (open_fault_told why) a b
told_rose (open_fault.Header slot fault) a b h = rose_still a b h
told_rose (open_fault.Gap slot) a b h = rose_still a b h
told_rose (open_fault.Mismatch slot base found) a b h = rose_still a b h
told_rose (open_fault.Scan slot fault) a b h = rose_still a b h
told_rose open_fault.ReadFault a b h = rose_one Reads a b h
told_rose open_fault.WriteFault a b h = rose_still a b h
told_rose open_fault.SyncFault a b h = rose_one Syncs a b h
told_rose open_fault.Memory a b h = rose_still a b h

-- a run whose files don't open
pub disk_fails : {S : Type 0} (shows : Showing S) (start between end : S) (name : List ℕ) (limit : ℕ) (why : OpenFault) (status : ℕ)
    → FailsToOpen name why (seen shows start) (seen shows between)
    → IsSaid (plain_text (line (open_fault_text why)) (open_fault_status why)) (seen shows between) (seen shows end) status
    → PutsSome (line (open_fault_text why)) (seen shows between) (seen shows end)
    → ExplainsDisk name limit (seen shows start) (seen shows end) status
disk_fails shows start between end name limit why status fails said puts = record {
  end = halted (halt.Files why);
  cause = files_dont_open why refl (record {
    cause = fails.cause;
    does = λ told.
        let done = fails.done told in
        let front = puts told in
        record {
          binds = done.binds;
          syncs = done.syncs;
          few = done.few;
          short = done.short;
          does = mounts_puts name done.binds done.syncs front.put.pieces (shows.world start) (shows.world between) (shows.world end) done.done
              front.put.events front.put.files;
          script = front.put.script ∙ ap (λ (w : World). w.script) done.done
              ∙ (mounting_keeps name done.binds done.syncs (shows.world start)).script;
        };
  });
  printed = said_behind (seen shows start) (seen shows between) (seen shows end) (λ t. t) [] (line (open_fault_text why)) (open_fault_told why)
      (open_fault_status why) status
      (λ told.
      let done = fails.done told in
      ap (λ (w : World). output_of w.events) done.done ∙ (mounting_keeps name done.binds done.syncs (shows.world start)).output
      ∙ sym (append-nil (output_of (shows.world start).events)))
      (told_rose why (shows.faults start) (shows.faults between) fails.counts) said;
}

-- words that are wrong
pub words_halt : {S : Type 0} (shows : Showing S) (start end : S) (words : List (List ℕ)) (n status : ℕ) → named_disk words ≡ Err n
    → IsSaid (plain_text (line (halt_text (halt.BadWords n))) (halt_status (halt.BadWords n))) (seen shows start) (seen shows end) status
    → PutsSome (line (halt_text (halt.BadWords n))) (seen shows start) (seen shows end)
    → IsExplained words (seen shows start) (seen shows end) status
words_halt shows start end words n status bad said puts = record {
  end = halted (halt.BadWords n);
  cause = words_are_bad n bad refl (record {
    does = λ told.
        let front = puts told in
        mounts_puts [] 0 0 front.put.pieces (shows.world start) (shows.world start) (shows.world end) refl front.put.events front.put.files;
    script = λ told. (puts told).put.script;
  });
  printed = said;
}

-- words that name a disk
pub words_name : (words : List (List ℕ)) (old new : Seen) (disk : Named) (status : ℕ) → named_disk words ≡ Ok disk
    → ExplainsDisk disk.file disk.limit old new status → IsExplained words old new status
words_name words old new disk status good explains = record {
  end = explains.end;
  cause = words_name_disk disk good explains.cause;
  printed = explains.printed;
}

-- ---- a run that serves a disk

-- what was put and counted behind a mounting that put nothing and failed in nothing
module _ (a b c : Seen) (tells : Tells a → Tells b) (silent : Tells a → output_of b.world.events ≡ output_of a.world.events) (still : b.faults ≡ a.faults) where
  all_from : (told : Account) (status : ℕ) → SaysAll told b c status → SaysAll told a c status
  all_from told status says = record {
    put = λ t. says.put (tells t) ∙ ap (λ (s : List ℕ). s ++ told.text) (silent t);
    asked = says.asked;
    counted = rose_later told.failed a.faults b.faults c.faults still says.counted;
  }

  cut_from : (earlier last : List ℕ) (failed : Faults) → SaysCut earlier last failed b c → SaysCut earlier last failed a c
  cut_from earlier last failed says = record {
    front = λ t. subst (λ (s : List ℕ). HasFront (s ++ earlier) last (output_of c.world.events)) (silent t) (says.front (tells t));
    counted = rose_later (one_more Puts failed) a.faults b.faults c.faults still says.counted;
  }

  said_from : (earlier : List ℕ) (told : Account) (status : ℕ) → IsSaidBehind earlier told b c status → IsSaidBehind earlier told a c status
  said_from earlier told status said = elim said [
    | whole says ↦ whole (all_from (record told { text = earlier ++ told.text }) status says)
    | cut_short says is ↦ cut_short (cut_from earlier told.text told.failed says) is
  ]

  are_cut_from : (xs : List Served) → AreCut xs b c → AreCut xs a c
  are_cut_from xs says = record {
    earlier = says.earlier;
    last = says.last;
    are = says.are;
    said = cut_from (all_text says.earlier) (text_in says.last) (faults_told xs) says.said;
  }

  lines_from : (way : Way) (xs : List Served) (status : ℕ) → HasPutLines way xs b c status → HasPutLines way xs a c status
  lines_from closed xs status says = all_from (account_of xs) status says
  lines_from unscripted xs status says = said_from (all_text xs) (source_account xs) status says
  lines_from cut xs status says = (are_cut_from xs says.0, says.1)

-- a run whose files open
pub disk_served : {S D : Type 0} (shows : Showing S) (makes : Making D) (start end : S) (engine : Engine S D) (name : List ℕ) (limit : ℕ) (status : ℕ)
    → OpensDisk shows makes name limit start engine → EndsScript shows makes script_limit engine end status
    → ExplainsDisk name limit (seen shows start) (seen shows end) status
disk_served shows makes start end engine name limit status opens ends =
    let old = shows.world start in
    let mid = shows.world engine.stage in
    let g = makes.geometry engine.disk in
    let mid_keeps : Tells (seen shows start) → KeepsAll old mid =
    λ told. subst (KeepsAll old) (sym (opens.done told).done) (mounting_keeps name 9 (opens.done told).count old) in
    record {
      end = served ends.way ends.served;
      cause = disk_is_served ends.way ends.served refl (record {
        taken = λ told. subst (λ (s : List ℕ). IsTaken ends.way script_limit s (shows.world end).script ends.served) (mid_keeps told).script (ends.taken told);
        runs = record {
          geometry = g;
          mounted = opens.mounted;
          alone = ends.alone;
          legal = λ s0 at. ends.legal s0 at.tells.0 (opens.stands s0 at);
          room = λ s0 at.
              ends.room s0 (first_room limit (length (last_file s0 (files_of name old)))) at.tells.0 (opens.stands s0 at)
              (record { kept = tt; left = λ none. opens.room s0 at });
          files = λ told.
              subst (λ (out : List ℕ). AreFilesThen out 0 (map line_in ends.served) old.events (shows.world end).events) (mid_keeps told).output
              (then_earlier (output_of mid.events) 0 (map line_in ends.served) old.events mid.events (shows.world end).events (mid_keeps told).grows (ends.files told));
          stops = λ s0 at snug nothing.
              let told = at.tells.0 in
              let done = opens.done told in
              let stopped = opens.stops s0 at snug nothing in
              let bound = after_binds name 9 old in
              let out : output_of bound.events ≡ output_of old.events = (binds_keep name 9 old).output in
              let first : KeepsLines g s0 [] [] (output_of bound.events) bound.events mid.events =
              subst (λ (s : List ℕ). KeepsLines g s0 [] [] s bound.events mid.events) (sym out) stopped.keeps in
              let second = ends.stops s0 told (opens.stands s0 at) stopped.agrees stopped.keeps.after in
              let all = keeps_twice g s0 [] [] (lines_of ends.way ends.served) [] bound.events mid.events (shows.world end).events
              ((mid_keeps told).output ∙ sym out ∙ sym (append-nil (output_of bound.events))) refl first second in
              record {
                count = done.count;
                row = done.row at.tells.1;
                behind = record {
                  newer = second.each.newer;
                  grown = second.each.grown ∙ ap (λ (w : World). second.each.newer ++ w.events) done.done;
                };
                after = all.after;
                each = subst (λ (s : List ℕ). AtEach bound.events (shows.world end).events (LinesAt g s0 [] (lines_of ends.way ends.served) s)) out all.each;
              };
          closes = λ s0 at snug closed.
              let told = at.tells.0 in
              let done = opens.done told in
              let row = done.row at.tells.1 in
              let marks = opens.closes s0 at snug in
              let all = ends.closes mid.events told marks.agrees (λ none. marks.marks) closed in
              let low : (slot : ℕ) → slot < done.count → slot ≤ 8 = λ slot below. omega (arith, below, done.few.1) in
              let held : (slot : ℕ) → slot < done.count → file_of mid slot ≡ files_of name old slot = λ slot below. (opens.holds told).files slot (low slot below) in
              record {
                count = done.count;
                row = row;
                files = λ slot below. subst (λ (w : World). file_of w slot ≡ files_of name old slot) done.done (held slot below);
                each = λ slot below.
                    subst (λ (w : World). IsLeftOrClosed (layout_of (headers_of (file_of (shows.world end) slot))) slot w.events (shows.world end).events) done.done
                    (all slot (low slot below) (ap is_present (held slot below) ∙ row.there slot below));
              };
          spares = λ told.
              let done = opens.done told in
              let higher = λ (slot : ℕ). done.count - 1 ≡ slot → ⊥ in
              let leaves : LeavesSlots higher mid (shows.world end) =
              leaves_fewer (makes.spares engine.disk) higher mid (shows.world end) (opens.spares told) (ends.spares told) in
              record {
                count = done.count;
                few = done.few;
                row = done.row;
                others = subst (λ (w : World). AtEach w.events (shows.world end).events (OthersStill (done.count - 1) w.events)) done.done leaves.others;
                stay = lower_stay name done.count old mid (shows.world end) done.done done.few.1 (opens.holds told) leaves;
                names = subst (λ (w : World). AtEach w.events (shows.world end).events (λ es. (slot : ℕ) → slot ≤ 8 → name_of es slot ≡ Some (slot_name name slot)))
                    done.done (lower_names name done.count old mid (shows.world end) done.few (opens.holds told) leaves);
                files = lower_files name done.count old mid (shows.world end) done.few (opens.holds told) leaves (mid_keeps told).files;
              };
          quiet = λ told reads.
              let done = opens.done told in
              let puts_only = ends.quiet opens.unchanged reads told in
              record {
                count = done.count;
                row = done.row;
                does = mounts_puts name 9 done.count puts_only.pieces old mid (shows.world end) done.done puts_only.events puts_only.files;
              };
        };
      });
      printed = lines_from (seen shows start) (seen shows engine.stage) (seen shows end) (λ t. t) (λ told. (mid_keeps told).output) opens.faults
          ends.way ends.served status ends.printed;
    }
