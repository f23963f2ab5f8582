-- The nine slots, once they have the files of a disk.
use Rattle.std.proofs.Common.{◌≡◌, ⊎_elim, ℕ, zero, suc, ◌∷◌, ◌-◌, ◌<◌, ◌≤◌, IsTrue, List, [], Option, Some, unwrap_or, refl, sym, ◌∙◌, ap, subst, arith}
use Rattle.cckd_base.specs.declared.geometry.Geometry.{Geometry}
use Rattle.cckd_base.specs.Header.{is_present}
use Rattle.cckd_shelf.specs.Events.{Event, Name, Synced, name_of, named_by, output_of}
use Rattle.cckd_shelf.specs.Frame.{KeepNames}
use Rattle.cckd_shelf.specs.Outcomes.{MayBeLeft, EachOutcome, AtEach}
use Rattle.cckd_shelf.specs.World.{World, IsSure, IsTied, file_of}
use Rattle.cckd_shelf.proofs.MomentLemmas.{at_once, at_end, at_next, weaker}
use Rattle.cckd_shelf.proofs.NameLemmas.{name_was_bound}
use Rattle.cckd_shelf.proofs.OutcomeLemmas.{sync_step, sync_leaves_now}
use Rattle.cckd_shelf.proofs.WorldLemmas.{tied_slot}
use Rattle.cckd_stack.specs.Layers.{Stack}
use Rattle.cckd_stack.specs.Mounting.{IsRow, after_syncs}
use Rattle.cckd_stack.specs.Moments.{EachOpens}
use Rattle.cckd_stack.specs.Opened.{Opens}
use Rattle.cckd_stack.specs.Stops.{Survives}
use Rattle.cckd_stack.proofs.HistoryLemmas.{lies_same}
use Rattle.cckd_stack.proofs.MountedLemmas.{syncs_files, syncs_sure}
use Rattle.cckd_stack.proofs.TopLemmas.{stand_agree}
use Rattle.cckd_console.specs.Serving.{KeepsLines}
use Rattle.cckd_engine.specs.Frame.{AreStill, LeavesSlots}
use Rattle.cckd_engine.specs.Lines.{LinesAt, lines_since}
use Rattle.cckd_engine.proofs.ServeLemmas.{lines_behind}
use Rattle.std.proofs.Common.{append-nil}
use Rattle.cckd_top.specs.Names.{slot_name, files_of, after_binds, AreNamed}
use Rattle.cckd_top.specs.Opening.{HoldsFiles}
use Rattle.cckd_top.specs.World.{AreIntact, NothingIsOpen, after_mounting}
use Rattle.cckd_top.proofs.NameLemmas.{named_more}
use Rattle.cckd_top.proofs.WorldLemmas.{KeepsAll, binds_keep, syncs_keep}
use Rattle.std.proofs.Common.{add-one}
use Rattle.std.proofs.lemmas.Bool.{cases_lt}

-- they have its names
pub binds_named : (file : List ℕ) (n : ℕ) (w : World) → AreNamed (after_binds file n w) file n
binds_named file zero w = λ slot less. absurd (omega (arith, less))
binds_named file (suc n) w =
    subst (AreNamed (after_binds file (suc n) w) file) (add-one n)
    (named_more (after_binds file n w) (after_binds file (suc n) w) file n (binds_named file n w) refl)

module _ (name : List ℕ) (old bound : World) (done : bound ≡ after_binds name 9 old) (tied : IsTied bound) where
  named : AreNamed bound name 9
  named = subst (λ (w : World). AreNamed w name 9) (sym done) (binds_named name 9 old)

  keeps : KeepsAll old bound
  keeps = subst (KeepsAll old) (sym done) (binds_keep name 9 old)

  -- each holds the file of its name
  pub bound_holds : (k : ℕ) → k ≤ 8 → file_of bound k ≡ files_of name old k
  bound_holds k low =
      sym (tied_slot bound k (slot_name name k) tied (named k (omega (arith, low))))
      ∙ ap (λ (files : List ℕ → Option (List ℕ)). unwrap_or (files (slot_name name k)) []) keeps.files

  pub bound_sure : IsSure old → IsSure bound
  bound_sure sure = subst IsTrue (sym keeps.sure) sure

  -- and nothing else where nothing stood open
  pub bound_each : NothingIsOpen old → (k : ℕ) → k ≤ 8 → EachOutcome k (λ file. file ≡ files_of name old k) bound.events
  bound_each nothing k low file outcome =
      let is : name_of bound.events k ≡ Some (slot_name name k) = named k (omega (arith, low)) in
      let intact : AreIntact old bound.events = at_end (AreIntact old) old.events bound.events (keeps.intact old refl nothing) in
      intact (slot_name name k) (name_was_bound bound.events k (slot_name name k) is) file
      (subst (λ (n : Name). MayBeLeft bound.events n file) (ap (named_by k) is) outcome)

-- syncs keep names and files
syncs_named : (file : List ℕ) (m n : ℕ) (w : World) → AreNamed w file m → AreNamed (after_syncs n w) file m
syncs_named file m zero w named = named
syncs_named file m (suc n) w named = syncs_named file m n w named

-- the slots have the names and the files of a disk, once they were bound and synced
pub mounted_holds : (name : List ℕ) (n : ℕ) (old bound mid : World) → bound ≡ after_binds name 9 old → IsTied bound → mid ≡ after_syncs n bound → HoldsFiles name old mid
mounted_holds name n old bound mid done tied synced =
    subst (HoldsFiles name old) (sym synced) (record {
      names = syncs_named name 9 n bound (subst (λ (w : World). AreNamed w name 9) (sym done) (binds_named name 9 old));
      files = λ slot low. syncs_files n bound slot ∙ bound_holds name old bound done tied slot low;
    })

-- where only the last slot is changed since, each has its name at each moment, and each other name what it held
module _ (name : List ℕ) (count : ℕ) (old mid new : World) (few : (1 ≤ count) × (count ≤ 9)) (holds : HoldsFiles name old mid)
    (leaves : LeavesSlots (λ slot. count - 1 ≡ slot → ⊥) mid new)
  where
    pub lower_names : AtEach mid.events new.events (λ es. (slot : ℕ) → slot ≤ 8 → name_of es slot ≡ Some (slot_name name slot))
    lower_names =
        weaker (KeepNames mid.events) (λ es. (slot : ℕ) → slot ≤ 8 → name_of es slot ≡ Some (slot_name name slot)) mid.events new.events
        (λ es same slot low. same slot ∙ holds.names slot (omega (arith, low))) leaves.named

    pub lower_files : mid.files ≡ old.files → (other : List ℕ) → (slot_name name (count - 1) ≡ other → ⊥) → new.files other ≡ old.files other
    lower_files same other apart = leaves.held other free ∙ ap (λ (files : List ℕ → Option (List ℕ)). files other) same
      where
        free : (slot : ℕ) → name_of mid.events slot ≡ Some other → count - 1 ≡ slot → ⊥
        free slot has at =
            let last : name_of mid.events (count - 1) ≡ Some (slot_name name (count - 1)) = holds.names (count - 1) (omega (arith, few.0, few.1)) in
            let here : name_of mid.events slot ≡ Some (slot_name name (count - 1)) =
            subst (λ (k : ℕ). name_of mid.events k ≡ Some (slot_name name (count - 1))) at last in
            let both : Some (slot_name name (count - 1)) ≡ Some other = sym here ∙ has in
            let own : slot_name name (count - 1) ≡ other = cc in
            apart own

-- a slot that was synced holds what it held, whatever a stop leaves
syncs_settle : (n k : ℕ) (w : World) → IsSure w → k < n → EachOutcome k (λ file. file ≡ file_of w k) (after_syncs n w).events
syncs_settle zero k w sure low = absurd (omega (arith, low))
syncs_settle (suc n) k w sure low = ⊎_elim
    (λ (below : k < n). sync_step (λ file. file ≡ file_of w k) k n (after_syncs n w).events (syncs_settle n k w sure below))
    (λ (here : n ≤ k).
    let same : k ≡ n = omega (arith, low, here) in
    subst (λ (s : ℕ). EachOutcome k (λ file. file ≡ file_of w k) (Synced s ∷ (after_syncs n w).events)) same
    (λ file out. sync_leaves_now k (after_syncs n w).events (syncs_sure n w sure) file out ∙ syncs_files n w k))
    (cases_lt k n)

-- and so it does where only another slot is changed from then on
pub lower_stay : (name : List ℕ) (count : ℕ) (old mid new : World) → mid ≡ after_mounting name 9 count old → count ≤ 9 → HoldsFiles name old mid
    → LeavesSlots (λ slot. count - 1 ≡ slot → ⊥) mid new → IsSure old → (slot : ℕ) → slot < count - 1
    → AtEach (after_mounting name 9 count old).events new.events (EachOutcome slot (λ file. file ≡ files_of name old slot))
lower_stay name count old mid new done few holds leaves sure slot low =
    let w = after_binds name 9 old in
    let Q = EachOutcome slot (λ file. file ≡ files_of name old slot) in
    let here : file_of w slot ≡ files_of name old slot =
    sym (syncs_files count w slot) ∙ (ap (λ (v : World). file_of v slot) (sym done) ∙ holds.files slot (omega (arith, low, few))) in
    let sure_then : IsSure w = subst IsTrue (sym (binds_keep name 9 old).sure) sure in
    let first : Q mid.events =
    subst (λ (v : World). Q v.events) (sym done) (λ file out. syncs_settle count slot w sure_then (omega (arith, low)) file out ∙ here) in
    subst (λ (v : World). AtEach v.events new.events Q) done
    (weaker (AreStill (λ other. count - 1 ≡ other → ⊥) mid.events) Q mid.events new.events
    (λ es still file out. first file (still slot (λ at. absurd (omega (arith, at, low))) file out)) leaves.others)

-- ---- what files open to

pub opens_by : (g : Geometry) (files others : ℕ → List ℕ) (s : Stack) → ((k : ℕ) → k ≤ 8 → files k ≡ others k) → Opens g files s → Opens g others s
opens_by g files others s same opens = record {
  stand = stand_agree g files others s (λ k low. same k (omega (arith, low, opens.few))) opens.stand;
  few = opens.few;
  above = λ k low high. ap is_present (sym (same k high)) ∙ opens.above k low high;
}

pub row_by : (files others : ℕ → List ℕ) (count : ℕ) → ((k : ℕ) → k ≤ 8 → files k ≡ others k) → IsRow files count → IsRow others count
row_by files others count same row = record {
  few = row.few;
  there = λ k low. ap is_present (sym (same k (omega (arith, low, row.few)))) ∙ row.there k low;
  none = λ k low high. ap is_present (sym (same k high)) ∙ row.none k low high;
}

-- ---- the slots that are synced

-- whatever a stop leaves of files that hold nothing else opens to the stack to which they open
opens_each : (g : Geometry) (files : ℕ → List ℕ) (s0 : Stack) (es : List Event) → Opens g files s0
    → ((k : ℕ) → k ≤ 8 → EachOutcome k (λ file. file ≡ files k) es) → EachOpens g (Survives g s0 []) es
opens_each g files s0 es opens each = λ left image.
    record {
      stack = s0;
      opens = opens_by g files left s0 (λ k low. sym (each k low (left k) (image k))) opens;
      holds = lies_same s0 [];
    }

each_synced : (files : ℕ → List ℕ) (n : ℕ) (w : World) → ((k : ℕ) → k ≤ 8 → EachOutcome k (λ file. file ≡ files k) w.events)
    → (k : ℕ) → k ≤ 8 → EachOutcome k (λ file. file ≡ files k) (after_syncs n w).events
each_synced files zero w each = each
each_synced files (suc n) w each = λ k low. sync_step (λ file. file ≡ files k) k n (after_syncs n w).events (each_synced files n w each k low)

at_syncs : (Q : List Event → Type 0) (n : ℕ) (w : World) → ((m : ℕ) → Q (after_syncs m w).events) → AtEach w.events (after_syncs n w).events Q
at_syncs Q zero w each = at_once Q w.events (each 0)
at_syncs Q (suc n) w each = at_next Q w.events (after_syncs n w).events (Synced n) (at_syncs Q n w each) (each (suc n))

-- while they are synced nothing is put, and whatever a stop leaves opens to that stack
pub syncs_keep_lines : (g : Geometry) (files : ℕ → List ℕ) (s0 : Stack) (n : ℕ) (w : World) → Opens g files s0
    → ((k : ℕ) → k ≤ 8 → EachOutcome k (λ file. file ≡ files k) w.events)
    → KeepsLines g s0 [] [] (output_of w.events) w.events (after_syncs n w).events
syncs_keep_lines g files s0 n w opens each =
    let at : (m : ℕ) → EachOpens g (Survives g s0 []) (after_syncs m w).events =
    λ m. opens_each g files s0 (after_syncs m w).events opens (each_synced files m w each) in
    record {
      each = at_syncs (LinesAt g s0 [] [] (output_of w.events)) n w
          (λ m.
          let same : output_of (after_syncs m w).events ≡ output_of w.events = (syncs_keep m w).output in
          let none : lines_since (output_of w.events) (after_syncs m w).events ≡ 0 =
          lines_behind (output_of w.events) [] (after_syncs m w).events (same ∙ sym (append-nil (output_of w.events))) in
          record { few = omega (arith, none); stops = at m });
      after = at n;
    }
