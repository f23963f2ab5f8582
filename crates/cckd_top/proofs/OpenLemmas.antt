-- The files of a disk that are opened, from their parts.
use Rattle.cckd_stack.specs.Room.{first_room, last_file}
use Rattle.cckd_stack.specs.Tops.{top_slot}
use Rattle.std.proofs.Common.{◌≡◌, ℕ, zero, suc, max, ◌≤◌, ◌-◌, false, List, [], Err, refl, sym, ◌∙◌, ap, subst, arith, length}
use Rattle.cckd_base.specs.declared.geometry.Geometry.{Geometry}
use Rattle.cckd_base.specs.Header.{headers_of, header_geometry, layout_of, is_present}
use Rattle.cckd_base.specs.Image.{IsSnug}
use Rattle.cckd_base.specs.declared.open_fault.OpenFault.{OpenFault}
use Rattle.cckd_base.specs.declared.open_fault.OpenFault.TheVariants as open_fault
use Rattle.cckd_shelf.specs.declared.fault.Faults.{Faults}
use Rattle.cckd_shelf.specs.declared.shows.Shows.{Ghosts as Showing}
use Rattle.cckd_shelf.specs.declared.fault.Kind.TheVariants.{Reads}
use Rattle.cckd_shelf.specs.Faults.{Raises}
use Rattle.cckd_shelf.specs.Events.{Event, output_of}
use Rattle.cckd_shelf.specs.Seen.{Seen, seen, Tells}
use Rattle.cckd_shelf.specs.World.{World, IsSure, IsTied, file_of}
use Rattle.cckd_layer.specs.Mounted.{CountsOpen}
use Rattle.cckd_stack.specs.Layers.{Stack, base, shadow, layer_count}
use Rattle.cckd_stack.specs.Called.{AreSnug}
use Rattle.cckd_stack.specs.Opened.{Opens}
use Rattle.cckd_stack.specs.Mounting.{IsRow, HasRow, IsGap, IsImageIn, IsFileCase, IsFirstCase, IsRefused, IsMountCause, SyncsSome, after_syncs, shape_of}
use Rattle.cckd_stack.specs.Stacked.{OfFiles}
use Rattle.cckd_engine.specs.declared.engine.Engine.{Engine}
use Rattle.cckd_engine.specs.declared.disk.Disk.{Ghosts as Making}
use Rattle.cckd_engine.specs.Engine.{standing, Stands, Runs, TellsStops}
use Rattle.cckd_console.specs.Serving.{KeepsLines}
use Rattle.cckd_top.specs.Disk.{OfNames, IsFilesCause}
use Rattle.cckd_top.specs.Names.{files_of, after_binds, BindsSome}
use Rattle.cckd_top.specs.Opening.{OpensDisk, CountsOpening, FailsToOpen}
use Rattle.cckd_top.proofs.WorldLemmas.{binds_keep}
use Rattle.cckd_top.proofs.BoundLemmas.{mounted_holds, bound_holds, bound_sure, bound_each, opens_by, row_by, syncs_keep_lines}

-- ---- files that don't open

-- the same cases of the same files
module _ (files others : ℕ → List ℕ) (same : (k : ℕ) → k ≤ 8 → files k ≡ others k) where
  gap_by : (slot : ℕ) → IsGap files slot → IsGap others slot
  gap_by slot gap = record {
    count = gap.count;
    some = gap.some;
    there = λ k low. ap is_present (sym (same k (omega (arith, low, gap.above, gap.within)))) ∙ gap.there k low;
    none = λ k low high. ap is_present (sym (same k (omega (arith, high, gap.within)))) ∙ gap.none k low high;
    above = gap.above;
    within = gap.within;
    is = ap is_present (sym (same slot gap.within)) ∙ gap.is;
  }

  has_row_by : (count : ℕ) → HasRow files count → HasRow others count
  has_row_by zero row = ap is_present (sym (same 0 (omega arith))) ∙ row
  has_row_by (suc n) row = row_by files others (suc n) same row

  row_few : (count : ℕ) → HasRow files count → max 1 count ≤ 9
  row_few zero row = omega arith
  row_few (suc n) row = omega (arith, row.few)

  shape_by : shape_of files ≡ shape_of others
  shape_by = ap (λ (file : List ℕ). header_geometry (headers_of file)) (same 0 (omega arith))

  first_by : (count : ℕ) (why : OpenFault) → count ≤ 9 → IsFirstCase (shape_of files) files count why → IsFirstCase (shape_of others) others count why
  first_by count why few first = record {
    slot = first.slot;
    low = first.low;
    sound = λ k low.
        subst (λ (shape : Geometry). IsImageIn shape k (others k)) shape_by
        (subst (IsImageIn (shape_of files) k) (same k (omega (arith, low, first.low, few))) (first.sound k low));
    case = subst (λ (shape : Geometry). IsFileCase shape first.slot (others first.slot) why) shape_by
        (subst (λ (file : List ℕ). IsFileCase (shape_of files) first.slot file why) (same first.slot (omega (arith, first.low, few))) first.case);
  }

  refused_by : (why : OpenFault) → IsRefused files why → IsRefused others why
  refused_by why refused = record {
    count = refused.count;
    row = has_row_by refused.count refused.row;
    first = first_by (max 1 refused.count) why (row_few refused.count refused.row) refused.first;
  }

-- the cause that mounting gives, of the files of a disk's names
module _ (name : List ℕ) (start bound : Seen) (tells : Tells start → Tells bound) (sure : Tells start → IsSure start.world → IsSure bound.world)
    (same : Tells start → (k : ℕ) → k ≤ 8 → file_of bound.world k ≡ files_of name start.world k)
  where
    case_by : (why : OpenFault) → OfFiles (λ files. IsRefused files why) bound → OfNames (λ files. IsRefused files why) name start
    case_by why cause at =
        refused_by (file_of bound.world) (files_of name start.world) (same at.0) why (cause (tells at.0) (sure at.0 at.1))

    files_cause : (why : OpenFault) → IsMountCause bound why → IsFilesCause name start why
    files_cause (open_fault.Gap slot) cause = λ at.
        gap_by (file_of bound.world) (files_of name start.world) (same at.0) slot (cause (tells at.0) (sure at.0 at.1))
    files_cause (open_fault.Header slot fault) cause = case_by (open_fault.Header slot fault) cause
    files_cause (open_fault.Mismatch slot one found) cause = case_by (open_fault.Mismatch slot one found) cause
    files_cause (open_fault.Scan slot fault) cause = case_by (open_fault.Scan slot fault) cause
    files_cause open_fault.ReadFault cause = tt
    files_cause open_fault.WriteFault cause = cause
    files_cause open_fault.SyncFault cause = tt
    files_cause open_fault.Memory cause = tt

counts_opening : (why : OpenFault) (old new : Faults) → CountsOpen {A = ℕ} (Err why) old new → CountsOpening why old new
counts_opening (open_fault.Gap slot) old new h = h
counts_opening (open_fault.Header slot fault) old new h = h
counts_opening (open_fault.Mismatch slot one found) old new h = h
counts_opening (open_fault.Scan slot fault) old new h = h
counts_opening open_fault.ReadFault old new h = h
counts_opening open_fault.WriteFault old new h = h
counts_opening open_fault.SyncFault old new h = h
counts_opening open_fault.Memory old new h = h

-- a slot couldn't get its file
pub fails_to_bind : (name : List ℕ) (old new : Seen) → Raises Reads old.faults new.faults → (Tells old → BindsSome name old.world new.world)
    → FailsToOpen name open_fault.ReadFault old new
fails_to_bind name old new rose some = record {
  cause = tt;
  counts = rose;
  done = λ told.
      let binds = some told in
      record { binds = binds.count; syncs = 0; few = (omega (arith, binds.few), omega arith); short = λ less. (refl, refl); done = binds.done };
}

-- the slots have their files, which don't open
pub fails_to_mount : {S : Type 0} (shows : Showing S) (name : List ℕ) (start bound left : S) (why : OpenFault)
    → (Tells (seen shows start) → shows.world bound ≡ after_binds name 9 (shows.world start)) → shows.faults bound ≡ shows.faults start
    → (Tells (seen shows start) → IsTied (shows.world bound)) → IsMountCause (seen shows bound) why → SyncsSome (seen shows bound) (seen shows left)
    → CountsOpen {A = ℕ} (Err why) (shows.faults bound) (shows.faults left)
    → FailsToOpen name why (seen shows start) (seen shows left)
fails_to_mount shows name start bound left why done still tied cause syncs counts = record {
  cause = files_cause name (seen shows start) (seen shows bound) (λ t. t)
      (λ told sure. bound_sure name (shows.world start) (shows.world bound) (done told) (tied told) sure)
      (λ told. bound_holds name (shows.world start) (shows.world bound) (done told) (tied told)) why cause;
  counts = counts_opening why (shows.faults start) (shows.faults left) (subst (λ (f : Faults). CountsOpen {A = ℕ} (Err why) f (shows.faults left)) still counts);
  done = λ told.
      let some = syncs told in
      record {
        binds = 9;
        syncs = some.count;
        few = (omega arith, some.few);
        short = λ less. absurd (omega (arith, less));
        done = some.done ∙ ap (after_syncs some.count) (done told);
      };
}

-- ---- files that open

-- the last layer's slot is one of nine
top_low : (s : Stack) → layer_count s ≤ 9 → top_slot s ≤ 8
top_low (base layer) few = omega arith
top_low (shadow layer lower) few = omega (arith, few)

snug_by : (files others : ℕ → List ℕ) → ((k : ℕ) → k ≤ 8 → files k ≡ others k) → AreSnug files → AreSnug others
snug_by files others same snug = λ k low there.
    subst (λ (file : List ℕ). IsSnug (layout_of (headers_of file)) file) (same k low) (snug k low (ap is_present (same k low) ∙ there))

module _ {S D : Type 0} (shows : Showing S) (makes : Making D) (name : List ℕ) (limit : ℕ) (start bound : S) (engine : Engine S D) (count : ℕ)
    (done : Tells (seen shows start) → shows.world bound ≡ after_binds name 9 (shows.world start)) (still : shows.faults bound ≡ shows.faults start)
    (tied : Tells (seen shows start) → IsTied (shows.world bound))
    (synced : Tells (seen shows start) → shows.world engine.stage ≡ after_syncs count (shows.world bound)) (quiet : shows.faults engine.stage ≡ shows.faults bound)
    (row : Tells (seen shows start) → IsSure (shows.world bound) → IsRow (file_of (shows.world bound)) count)
    (opens : Tells (seen shows start) → IsSure (shows.world bound) → (s0 : Stack) × Opens (makes.geometry engine.disk) (file_of (shows.world bound)) s0)
    (stands : Tells (seen shows start) → IsSure (shows.world bound) → (s0 : Stack) → Opens (makes.geometry engine.disk) (file_of (shows.world bound)) s0
    → Stands s0 [] (standing shows makes engine))
    (room : Tells (seen shows start) → IsSure (shows.world bound) → (s0 : Stack) → Opens (makes.geometry engine.disk) (file_of (shows.world bound)) s0
    → makes.has_room engine.disk (first_room limit (length (last_file s0 (file_of (shows.world bound))))))
    (agrees : Tells (seen shows start) → IsSure (shows.world bound) → AreSnug (file_of (shows.world bound))
    → TellsStops (makes.agrees engine.disk) engine.broken (shows.world engine.stage).events)
    (marks : Tells (seen shows start) → IsSure (shows.world bound) → AreSnug (file_of (shows.world bound))
    → makes.marks engine.disk (shows.world engine.stage).events (shows.world engine.stage).events)
  where
    holds : Tells (seen shows start) → (k : ℕ) → k ≤ 8 → file_of (shows.world bound) k ≡ files_of name (shows.world start) k
    holds told = bound_holds name (shows.world start) (shows.world bound) (done told) (tied told)

    held : Tells (seen shows start) → (k : ℕ) → k ≤ 8 → files_of name (shows.world start) k ≡ file_of (shows.world bound) k
    held told = λ k low. sym (holds told k low)

    sure_there : Tells (seen shows start) → IsSure (shows.world start) → IsSure (shows.world bound)
    sure_there told sure = bound_sure name (shows.world start) (shows.world bound) (done told) (tied told) sure

    pub opens_disk : engine.calls ≡ 0 → engine.mute ≡ false → Runs (makes.tied engine.disk) engine.broken (seen shows engine.stage)
        → makes.unchanged engine.disk → (1 ≤ count) × (count ≤ 9) → ((slot : ℕ) → (count - 1 ≡ slot → ⊥) → makes.spares engine.disk slot)
        → OpensDisk shows makes name limit start engine
    opens_disk calls heard runs unchanged few spares = record {
      calls = calls;
      heard = heard;
      runs = runs;
      faults = quiet ∙ still;
      unchanged = unchanged;
      holds = λ told. mounted_holds name count (shows.world start) (shows.world bound) (shows.world engine.stage) (done told) (tied told) (synced told);
      spares = λ told. spares;
      done = λ told. record {
        count = count;
        few = few;
        row = λ sure. row_by (file_of (shows.world bound)) (files_of name (shows.world start)) count (holds told) (row told (sure_there told sure));
        done = synced told ∙ ap (after_syncs count) (done told);
      };
      mounted = λ t.
          let some = opens t.0 (sure_there t.0 t.1) in
          (some.0, opens_by (makes.geometry engine.disk) (file_of (shows.world bound)) (files_of name (shows.world start)) some.0 (holds t.0) some.1);
      stands = λ s0 at.
          let told = at.tells.0 in
          stands told (sure_there told at.tells.1) s0
          (opens_by (makes.geometry engine.disk) (files_of name (shows.world start)) (file_of (shows.world bound)) s0 (held told) at.opens);
      room = λ s0 at.
          let told = at.tells.0 in
          let opened = opens_by (makes.geometry engine.disk) (files_of name (shows.world start)) (file_of (shows.world bound)) s0 (held told) at.opens in
          subst (λ (file : List ℕ). makes.has_room engine.disk (first_room limit (length file))) (holds told (top_slot s0) (top_low s0 at.opens.few))
          (room told (sure_there told at.tells.1) s0 opened);
      closes = λ s0 at snug.
          let told = at.tells.0 in
          let there = sure_there told at.tells.1 in
          let here = snug_by (files_of name (shows.world start)) (file_of (shows.world bound)) (held told) snug in
          record { agrees = agrees told there here; marks = marks told there here };
      stops = λ s0 at snug nothing.
          let told = at.tells.0 in
          let w = shows.world bound in
          let g = makes.geometry engine.disk in
          let files = files_of name (shows.world start) in
          let keeps = syncs_keep_lines g files s0 count w at.opens
          (bound_each name (shows.world start) w (done told) (tied told) nothing) in
          let out : output_of w.events ≡ output_of (shows.world start).events =
          ap (λ (x : World). output_of x.events) (done told) ∙ (binds_keep name 9 (shows.world start)).output in
          record {
            agrees = agrees told (sure_there told at.tells.1) (snug_by files (file_of w) (held told) snug);
            keeps = subst (λ (es : List Event). KeepsLines g s0 [] [] (output_of (shows.world start).events) es (shows.world engine.stage).events)
                (ap (λ (x : World). x.events) (done told))
                (subst (λ (v : World). KeepsLines g s0 [] [] (output_of (shows.world start).events) w.events v.events) (sym (synced told))
                (subst (λ (s : List ℕ). KeepsLines g s0 [] [] s w.events (after_syncs count w).events) out keeps));
          };
    }
