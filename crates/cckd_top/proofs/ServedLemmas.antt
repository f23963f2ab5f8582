-- A run that nothing hinders serves its whole script, and its files are the stack that it leaves.
use Rattle.std.proofs.Common.{◌≡◌, ◌⊎◌, inl, inr, ⊎_elim, ℕ, ◌+◌, cond, Bool, true, false, List, [], ◌∷◌, ◌++◌, length, map, nat_lt, Option, Some, None, Ok, refl, sym, ◌∙◌, ap, subst, arith}
use Rattle.std.specs.List.{AllByRecursion, list_any}
use Rattle.std.proofs.lemmas.Bool.{false≢true}
use Rattle.cckd_base.specs.declared.geometry.Geometry.{Geometry}
use Rattle.cckd_base.specs.declared.geometry.Layout.{Layout}
use Rattle.cckd_base.specs.declared.call.Call.{Call}
use Rattle.cckd_base.specs.declared.call.Call.TheVariants as call
use Rattle.cckd_base.specs.declared.open_fault.OpenFault.{OpenFault}
use Rattle.cckd_base.specs.declared.open_fault.OpenFault.TheVariants as open_fault
use Rattle.cckd_base.specs.Header.{headers_of, header_geometry}
use Rattle.cckd_shelf.specs.Events.{file_now}
use Rattle.cckd_shelf.specs.Seen.{Seen}
use Rattle.cckd_script.specs.Lines.{lines_of}
use Rattle.cckd_script.specs.Items.{Item, items_of_lines, cut_items}
use Rattle.cckd_stack.specs.Answers.{Request as Asked, Answer}
use Rattle.cckd_stack.specs.Called.{AreSnug}
use Rattle.cckd_stack.specs.Stops.{hardens}
use Rattle.cckd_stack.specs.History.{Entry, History, IsLegal, broken_at, broken_with, stack_after}
use Rattle.cckd_stack.specs.Layers.{Stack, base, shadow}
use Rattle.cckd_stack.specs.Opened.{StandIn, Opens}
use Rattle.cckd_stack.proofs.OpenedLemmas.{opens_gapless, opens_caseless}
use Rattle.cckd_engine.specs.Lines.{history_onto}
use Rattle.cckd_console.specs.Saying.{account_of, SaysAll, IsSaid, whole, cut_short}
use Rattle.cckd_console.specs.Served.{Served, called, misread, item_in, line_in, faults_told}
use Rattle.cckd_top.specs.declared.halt.Halt.TheVariants as halt
use Rattle.cckd_console.specs.Script.{closing}
use Rattle.cckd_top.specs.Disk.{OpensAt, KeepsDisk, EndsHardened, IsFilesCause}
use Rattle.cckd_top.specs.Explained.{IsExplained, HasCause, DiskCause, words_are_bad, words_name_disk, files_dont_open, disk_is_served, ServesDisk}
use Rattle.cckd_top.specs.Names.{files_of}
use Rattle.cckd_top.specs.Run.{Ending, Way, closed, unscripted, cut, halted, served, HasPut, HasPutLines, script_limit, lines_of as put_lines, history_of, halt_account, open_fault_told, source_account}
use Rattle.cckd_top.specs.Unhindered.{AreLow, IsUnhindered, IsOwnAnswer, refuses, answers, finds_no_room, refused_in, ServesAll}
use Rattle.cckd_top.specs.Words.{Named, named_disk}
use Rattle.cckd_top.specs.World.{NothingIsOpen}
use Rattle.cckd_top.proofs.HardenedLemmas.{last_opens}
use Rattle.cckd_top.proofs.QuietLemmas.{NoneFailed, none_rose, not_cut, none_in, zero_of, IsFree, free_script, IsQuietEntry, quiet_served, onto_history, of_history, StatusOf, IsCalm, calm_history, worst_is}

-- ---- a script that is closed

-- the last of what was served is a call that closes
record ClosesLast (xs : List Served) : Type 0 where
  before : List Served
  entry : Entry
  is : xs ≡ before ++ called entry ∷ []
  asks : entry.request.asked ≡ call.Close

closes_alone : (x : Served) → item_in x ∷ [] ≡ closing → ClosesLast (x ∷ [])
closes_alone (called e) same = record { before = []; entry = e; is = refl; asks = cc same }
closes_alone (misread why) same = absurd (cc same)

closes_last : (xs : List Served) (front : List Item) → map item_in xs ≡ front ++ closing → ClosesLast xs
closes_last [] [] same = absurd (cc same)
closes_last [] (i ∷ front) same = absurd (cc same)
closes_last (x ∷ []) [] same = closes_alone x same
closes_last (x ∷ y ∷ xs) [] same = absurd (cc same)
closes_last (x ∷ xs) (i ∷ front) same =
    let tail : map item_in xs ≡ front ++ closing = cc same in
    let rest = closes_last xs front tail in
    record { before = x ∷ rest.before; entry = rest.entry; is = ap (λ (l : List Served). x ∷ l) rest.is; asks = rest.asks }

-- the items before the close
abbrev pub script_items_front : ℕ → List ℕ → List Item
script_items_front limit script = cond (nat_lt limit (length script)) (cut_items limit script) (items_of_lines (lines_of script))

onto_last : (xs : List Served) (e : Entry) (h : History) → history_onto (map line_in (xs ++ called e ∷ [])) h ≡ e ∷ history_onto (map line_in xs) h
onto_last [] e h = refl
onto_last (called d ∷ xs) e h = onto_last xs e (d ∷ h)
onto_last (misread why ∷ xs) e h = onto_last xs e h

close_itself : (g : Geometry) (s : Stack) (given : List ℕ) (said : Answer) → IsOwnAnswer g s (record { asked = call.Close; given = given }) said
    → hardens call.Close said.reply ≡ true
close_itself g s given said own = elim own [
  | refuses why is says ↦ absurd (cc is)
  | answers none says ↦ ap (λ (a : Answer). hardens call.Close a.reply) says
  | finds_no_room full needs none says ↦ absurd (false≢true needs)
]

close_hardens : (g : Geometry) (s : Stack) (r : Asked) (said : Answer) → r.asked ≡ call.Close → IsOwnAnswer g s r said → hardens r.asked said.reply ≡ true
close_hardens g s r said is own =
    subst (λ (c : Call). hardens c said.reply ≡ true) (sym is)
    (close_itself g s r.given said (subst (λ (c : Call). IsOwnAnswer g s (record { asked = c; given = r.given }) said) is own))

none_before : (at : Option ℕ) (number : ℕ) (e : Entry) → broken_with at number e ≡ None → at ≡ None
none_before None number e same = refl
none_before (Some at) number e same = absurd (cc same)

-- ---- the geometry of files that open

base_geometry : (g : Geometry) (files : ℕ → List ℕ) (s : Stack) → StandIn g files s → header_geometry (headers_of (files 0)) ≡ g
base_geometry g files (base layer) h = sym (ap (λ (l : Layout). l.geo) h.sound.headed.says) ∙ h.geometry
base_geometry g files (shadow layer lower) h = base_geometry g files lower h.0

one_geometry : (g other : Geometry) (files : ℕ → List ℕ) (s t : Stack) → Opens g files s → Opens other files t → g ≡ other
one_geometry g other files s t h k = sym (base_geometry g files s h.stand) ∙ base_geometry other files t k.stand

-- it served all, or it wanted memory
abbrev pub ComesTo : Geometry → Stack → Ending → Seen → Seen → ℕ → Type 0
ComesTo g s0 end old new status = ServesAll g s0 end old new status ⊎ ((end ≡ halted (halt.Files open_fault.Memory)) × (status ≡ 8))

-- ---- a run

module _ (name : List ℕ) (limit : ℕ) (g : Geometry) (s0 : Stack) (old new : Seen) (at : OpensAt name g s0 old) (none : NoneFailed old.faults new.faults) where
  -- files that open are refused for want of memory alone
  only_memory : (why : OpenFault) (status : ℕ) → IsFilesCause name old why → IsSaid (halt_account (halt.Files why)) old new status
      → (why ≡ open_fault.Memory) × (status ≡ 8)
  only_memory (open_fault.Gap slot) status cause said = absurd (opens_gapless g (files_of name old.world) s0 at.opens slot (cause at.tells))
  only_memory (open_fault.Header slot fault) status cause said = absurd (opens_caseless g (files_of name old.world) s0 at.opens (open_fault.Header slot fault) (cause at.tells))
  only_memory (open_fault.Mismatch slot one found) status cause said =
      absurd (opens_caseless g (files_of name old.world) s0 at.opens (open_fault.Mismatch slot one found) (cause at.tells))
  only_memory (open_fault.Scan slot fault) status cause said = absurd (opens_caseless g (files_of name old.world) s0 at.opens (open_fault.Scan slot fault) (cause at.tells))
  only_memory open_fault.ReadFault status cause said = absurd (elim said [
    | whole says ↦ (let zero = none_rose (open_fault_told open_fault.ReadFault) old.faults new.faults none says.counted in omega (arith, zero.reads))
    | cut_short says is ↦ not_cut _ _ _ old new none says
  ])
  only_memory open_fault.WriteFault status cause said = absurd cause
  only_memory open_fault.SyncFault status cause said = absurd (elim said [
    | whole says ↦ (let zero = none_rose (open_fault_told open_fault.SyncFault) old.faults new.faults none says.counted in omega (arith, zero.syncs))
    | cut_short says is ↦ not_cut _ _ _ old new none says
  ])
  only_memory open_fault.Memory status cause said = elim said [
    | whole says ↦ (refl, says.asked)
    | cut_short says is ↦ absurd (not_cut _ _ _ old new none says)
  ]

  -- a script that is closed was served whole
  module _ (xs : List Served) (status : ℕ) (serves : ServesDisk name limit closed xs old new) (says : SaysAll (account_of xs) old new status) where
    one_shape : g ≡ serves.runs.geometry
    one_shape =
        let other = serves.runs.mounted at.tells in
        one_geometry g serves.runs.geometry (files_of name old.world) s0 other.0 at.opens other.1

    same_at : OpensAt name serves.runs.geometry s0 old
    same_at = subst (λ (shape : Geometry). OpensAt name shape s0 old) one_shape at

    calm_all : IsCalm g s0 (history_of xs)
    calm_all =
        let legal : IsLegal g s0 (history_of xs) =
        subst (λ (shape : Geometry). IsLegal shape s0 (history_of xs)) (sym one_shape) (serves.runs.legal s0 same_at) in
        let free : AllByRecursion IsFree (map item_in xs) =
        subst (AllByRecursion IsFree) (sym (serves.taken at.tells.0).asked) (free_script script_limit old.world.script) in
        let zero = none_rose (faults_told xs) old.faults new.faults none says.counted in
        let quiet = quiet_served xs (none_in xs (zero_of xs zero)) free in
        calm_history g s0 (history_of xs) (onto_history IsQuietEntry xs [] quiet tt) legal

    closed_all : ServesAll g s0 (served closed xs) old new status
    closed_all = record {
      all = xs;
      is = refl;
      script = serves.taken at.tells.0;
      put = says.put at.tells.0;
      answers = calm_all.own;
      status_is = says.asked ∙ worst_is xs (of_history StatusOf xs [] calm_all.statuses).0;
    }

    closed_hardens : EndsHardened (history_of xs)
    closed_hardens =
        let last = closes_last xs (script_items_front script_limit old.world.script) (serves.taken at.tells.0).asked in
        let earlier = history_of last.before in
        let is : history_of xs ≡ last.entry ∷ earlier =
        ap history_of last.is ∙ onto_last last.before last.entry [] in
        let calm : IsCalm g s0 (last.entry ∷ earlier) = subst (IsCalm g s0) is calm_all in
        record {
          newest = last.entry;
          earlier = earlier;
          is = is;
          hardened = close_hardens g (stack_after g s0 earlier) last.entry.request last.entry.answer last.asks calm.own.1;
          whole = none_before (broken_at earlier) (length earlier + 1) last.entry calm.whole;
        }

    closed_leaves : AreSnug (files_of name old.world) → NothingIsOpen old.world
        → Opens g (file_now new.world.events) (stack_after g s0 (history_of xs))
    closed_leaves snug nothing =
        let keeps : KeepsDisk name g s0 (put_lines closed xs) old.world new.world =
        subst (λ (shape : Geometry). KeepsDisk name shape s0 (put_lines closed xs) old.world new.world) (sym one_shape)
        (serves.runs.stops s0 same_at snug nothing) in
        last_opens g s0 (history_of xs) new.world.events closed_hardens keeps.after

  not_unscripted : (xs : List Served) (status : ℕ) → HasPutLines unscripted xs old new status → ⊥
  not_unscripted xs status put = elim put [
    | whole says ↦ (let zero = none_rose (source_account xs).failed old.faults new.faults none says.counted in omega (arith, zero.takes))
    | cut_short says is ↦ not_cut _ _ _ old new none says
  ]

  any_way : (way : Way) (xs : List Served) (status : ℕ) → ServesDisk name limit way xs old new → HasPutLines way xs old new status
      → ServesAll g s0 (served way xs) old new status
  any_way closed xs status serves put = closed_all xs status serves put
  any_way unscripted xs status serves put = absurd (not_unscripted xs status put)
  any_way cut xs status serves put = absurd (not_cut _ _ _ old new none put.0.said)

  -- what a run on the disk comes to
  disk_comes_to : (end : Ending) (status : ℕ) → DiskCause name limit old new end → HasPut end old new status → ComesTo g s0 end old new status
  disk_comes_to end status cause put = elim cause [
    | files_dont_open why is opens ↦ (
        let m = only_memory why status opens.cause (subst (λ (e : Ending). HasPut e old new status) is put) in
        inr (is ∙ ap (λ (w : OpenFault). halted (halt.Files w)) m.0, m.1)
        )
    | disk_is_served way xs is serves ↦
        inl (subst (λ (e : Ending). ServesAll g s0 e old new status) (sym is)
        (any_way way xs status serves (subst (λ (e : Ending). HasPut e old new status) is put)))
  ]

  -- what its files are where it was closed
  disk_leaves : (end : Ending) (status : ℕ) (all : List Served) → DiskCause name limit old new end → HasPut end old new status → end ≡ served closed all
      → AreSnug (files_of name old.world) → NothingIsOpen old.world → Opens g (file_now new.world.events) (stack_after g s0 (history_of all))
  disk_leaves end status all cause put ends snug nothing = elim cause [
    | files_dont_open why is opens ↦ absurd (let e = sym is ∙ ends in cc e)
    | disk_is_served way xs is serves ↦ (
        let e = sym is ∙ ends in
        let way_is : way ≡ closed = cc e in
        let all_are : xs ≡ all = cc e in
        let here : ServesDisk name limit closed all old new =
        subst (λ (ys : List Served). ServesDisk name limit closed ys old new) all_are (subst (λ (w : Way). ServesDisk name limit w xs old new) way_is serves) in
        closed_leaves all status here (subst (λ (x : Ending). HasPut x old new status) ends put) snug nothing
        )
  ]

-- the cause is that of the disk which the words name
cause_of_disk : (words : List (List ℕ)) (disk : Named) (old new : Seen) (end : Ending) → named_disk words ≡ Ok disk → HasCause words old new end
    → DiskCause disk.file disk.limit old new end
cause_of_disk words disk old new end good cause = elim cause [
  | words_are_bad n bad is does ↦ absurd (let e = sym good ∙ bad in cc e)
  | words_name_disk other named why ↦ (
      let same : other ≡ disk = (let e = sym named ∙ good in cc e) in
      subst (λ (d : Named). DiskCause d.file d.limit old new end) same why
      )
]

not_eight : (b : Bool) → cond {A = ℕ} b 1 0 ≡ 8 → ⊥
not_eight true e = omega (arith, e)
not_eight false e = omega (arith, e)

-- a run of which that is said
module _ (words : List (List ℕ)) (g : Geometry) (s0 : Stack) (old new : Seen) (status : ℕ) (low : AreLow old.faults) (free : IsUnhindered words g s0 old new) where
  none : NoneFailed old.faults new.faults
  none = record { still = free.still; low = low }

  run_comes_to : (run : IsExplained words old new status) → ComesTo g s0 run.end old new status
  run_comes_to run =
      disk_comes_to free.disk.file free.disk.limit g s0 old new free.opens none run.end status
      (cause_of_disk words free.disk old new run.end free.named run.cause) run.printed

  pub run_served : (status ≡ 8 → ⊥) → (run : IsExplained words old new status) → ServesAll g s0 run.end old new status
  run_served enough run = ⊎_elim
      (λ (all : ServesAll g s0 run.end old new status). all)
      (λ (short : (run.end ≡ halted (halt.Files open_fault.Memory)) × (status ≡ 8)). absurd (enough short.1))
      (run_comes_to run)

  pub run_short : status ≡ 8 → (run : IsExplained words old new status) → run.end ≡ halted (halt.Files open_fault.Memory)
  run_short is run = ⊎_elim
      (λ (all : ServesAll g s0 run.end old new status). absurd (not_eight (list_any refused_in all.all) (sym all.status_is ∙ is)))
      (λ (short : (run.end ≡ halted (halt.Files open_fault.Memory)) × (status ≡ 8)). short.0)
      (run_comes_to run)

  -- and its files are the stack that its calls leave
  pub run_stored : AreSnug (files_of free.disk.file old.world) → NothingIsOpen old.world → (run : IsExplained words old new status) → (all : List Served)
      → run.end ≡ served closed all → Opens g (file_now new.world.events) (stack_after g s0 (history_of all))
  run_stored snug nothing run all ends =
      disk_leaves free.disk.file free.disk.limit g s0 old new free.opens none run.end status all
      (cause_of_disk words free.disk old new run.end free.named run.cause) run.printed ends snug nothing
