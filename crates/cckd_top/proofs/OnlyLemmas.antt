-- Only a run that nothing hinders has a status of 0 or 1.
use Rattle.std.proofs.Common.{◌≡◌, ℕ, ◌<◌, ◌≤◌, List, [], ◌∷◌, None, refl, ◌∙◌, ap, subst, arith}
use Rattle.cckd_base.specs.declared.geometry.Geometry.{Geometry}
use Rattle.cckd_base.specs.declared.reply.Reply.{Reply}
use Rattle.cckd_base.specs.declared.reply.Reply.TheVariants as reply
use Rattle.cckd_base.specs.declared.reply.Refusal.{Refusal}
use Rattle.cckd_base.specs.declared.reply.Refusal.TheVariants as refusal
use Rattle.cckd_base.specs.declared.open_fault.OpenFault.{OpenFault}
use Rattle.cckd_base.specs.declared.open_fault.OpenFault.TheVariants as open_fault
use Rattle.cckd_shelf.specs.declared.fault.Faults.{Faults}
use Rattle.cckd_shelf.specs.declared.fault.Kind.{Kind}
use Rattle.cckd_shelf.specs.declared.fault.Kind.TheVariants.{Reads, Writes, Syncs, Takes, Puts}
use Rattle.cckd_shelf.specs.Seen.{Seen}
use Rattle.cckd_stack.specs.Layers.{Stack}
use Rattle.cckd_engine.specs.Calls.{fault_told}
use Rattle.cckd_console.specs.Counts.{RoseBy}
use Rattle.cckd_console.specs.Saying.{Account, account_of, SaysAll, IsSaidBehind, whole, cut_short}
use Rattle.cckd_console.specs.Served.{Served, called, misread, told_in, is_told, told_of, faults_told, refusal_status, reply_status, status_in, worst, all_text}
use Rattle.cckd_top.specs.declared.halt.Halt.TheVariants as halt
use Rattle.cckd_top.specs.Explained.{IsExplained, words_are_bad, words_name_disk, files_dont_open, disk_is_served}
use Rattle.cckd_top.specs.Run.{Ending, Way, closed, unscripted, cut, HasPut, HasPutLines, halt_account, source_account}
use Rattle.cckd_top.specs.Unhindered.{IsUnhindered}
use Rattle.cckd_top.specs.Text.{open_fault_status}
use Rattle.cckd_top.specs.World.{TellsFiles}
use Rattle.cckd_top.proofs.QuietLemmas.{AreZero}

said_status : (earlier : List ℕ) (told : Account) (old new : Seen) (status : ℕ) → IsSaidBehind earlier told old new status → told.status ≤ status
said_status earlier told old new status said = elim said [
  | whole says ↦ omega (arith, says.asked)
  | cut_short says is ↦ omega (arith, is)
]

unopened : (why : OpenFault) → 3 ≤ open_fault_status why
unopened (open_fault.Header slot fault) = omega arith
unopened (open_fault.Gap slot) = omega arith
unopened (open_fault.Mismatch slot one found) = omega arith
unopened (open_fault.Scan slot fault) = omega arith
unopened open_fault.ReadFault = omega arith
unopened open_fault.WriteFault = omega arith
unopened open_fault.SyncFault = omega arith
unopened open_fault.Memory = omega arith

low_refusal : (why : Refusal) → refusal_status why < 2 → fault_told (reply.Refused why) ≡ None
low_refusal refusal.ReadFault few = absurd (omega (arith, few))
low_refusal refusal.WriteFault few = absurd (omega (arith, few))
low_refusal refusal.SyncFault few = absurd (omega (arith, few))
low_refusal refusal.NoSuchTrack few = refl
low_refusal (refusal.Track why) few = refl
low_refusal (refusal.NoRecord num) few = refl
low_refusal (refusal.LengthDiffers has) few = refl
low_refusal (refusal.Full full) few = refl
low_refusal (refusal.TooMany have) few = refl
low_refusal refusal.OnlyBase few = refl
low_refusal (refusal.Broken at) few = refl
low_refusal refusal.Memory few = refl

low_reply : (said : Reply) → reply_status said < 2 → fault_told said ≡ None
low_reply (reply.Refused why) few = low_refusal why few
low_reply (reply.Track len) few = refl
low_reply (reply.Written len) few = refl
low_reply (reply.Record key body) few = refl
low_reply (reply.Replaced len) few = refl
low_reply reply.Hardened few = refl
low_reply (reply.Turned turn) few = refl
low_reply (reply.Added slot) few = refl
low_reply (reply.Merged slot) few = refl
low_reply (reply.Dropped slot) few = refl
low_reply reply.Compressed few = refl
low_reply (reply.Shown layers counts) few = refl
low_reply (reply.Checked level bad) few = refl
low_reply reply.Closed few = refl

low_told : (x : Served) → status_in x < 2 → told_in x ≡ None
low_told (called e) few = low_reply e.answer.reply few
low_told (misread why) few = refl

none_counts : (kind : Kind) → is_told kind None ≡ 0
none_counts Reads = refl
none_counts Writes = refl
none_counts Syncs = refl
none_counts Takes = refl
none_counts Puts = refl

low_counts : (kind : Kind) (xs : List Served) → worst xs < 2 → told_of kind xs ≡ 0
low_counts kind [] few = refl
low_counts kind (x ∷ xs) few =
    let here : is_told kind (told_in x) ≡ 0 = ap (is_told kind) (low_told x (omega (arith, few))) ∙ none_counts kind in
    omega (arith, here, low_counts kind xs (omega (arith, few)))

-- counts that rose by nothing are the same
still_counts : (told old new : Faults) → AreZero told → RoseBy told old new → new ≡ old
still_counts told old new zero rose =
    let of : ℕ → ℕ → ℕ → ℕ → ℕ → Faults = λ r w s t p. record { reads = r; writes = w; syncs = s; takes = t; puts = p } in
    ap (λ (n : ℕ). of n new.writes new.syncs new.takes new.puts) (omega (arith, rose.reads, zero.reads))
    ∙ ap (λ (n : ℕ). of old.reads n new.syncs new.takes new.puts) (omega (arith, rose.writes, zero.writes))
    ∙ ap (λ (n : ℕ). of old.reads old.writes n new.takes new.puts) (omega (arith, rose.syncs, zero.syncs))
    ∙ ap (λ (n : ℕ). of old.reads old.writes old.syncs n new.puts) (omega (arith, rose.takes, zero.takes))
    ∙ ap (λ (n : ℕ). of old.reads old.writes old.syncs old.takes n) (omega (arith, rose.puts, zero.puts))

-- where the output or the source failed the status is greater
only_closed : (way : Way) (xs : List Served) (old new : Seen) (status : ℕ) → status < 2 → HasPutLines way xs old new status → SaysAll (account_of xs) old new status
only_closed closed xs old new status few put = put
only_closed unscripted xs old new status few put =
    absurd (let most = said_status (all_text xs) (source_account xs) old new status put in omega (arith, few, most))
only_closed cut xs old new status few put = absurd (omega (arith, few, put.1))

-- some stack to which the files of the words' disk open, where no call failed
abbrev pub SomeUnhindered : List (List ℕ) → Seen → Seen → Type 0
SomeUnhindered words old new = (g : Geometry) × (s0 : Stack) × IsUnhindered words g s0 old new

pub run_only : (words : List (List ℕ)) (old new : Seen) (status : ℕ) → TellsFiles old → status < 2 → IsExplained words old new status
    → SomeUnhindered words old new
run_only words old new status tells few run = elim run.cause [
  | words_are_bad n bad is does ↦ absurd (
      let said = subst (λ (end : Ending). HasPut end old new status) is run.printed in
      let most = said_status [] (halt_account (halt.BadWords n)) old new status said in omega (arith, few, most)
      )
  | words_name_disk other named cause ↦ elim cause [
    | files_dont_open why is opens ↦ absurd (
        let said = subst (λ (end : Ending). HasPut end old new status) is run.printed in
        let most = said_status [] (halt_account (halt.Files why)) old new status said in omega (arith, few, most, unopened why)
        )
    | disk_is_served way xs is serves ↦ (
        let put = subst (λ (end : Ending). HasPut end old new status) is run.printed in
        let says = only_closed way xs old new status few put in
        let low : worst xs < 2 = omega (arith, few, says.asked) in
        let zero : AreZero (faults_told xs) = record {
          reads = low_counts Reads xs low;
          writes = low_counts Writes xs low;
          syncs = low_counts Syncs xs low;
          takes = low_counts Takes xs low;
          puts = low_counts Puts xs low;
        } in
        let some = serves.runs.mounted tells in (
          serves.runs.geometry,
          some.0,
          record {
            disk = other;
            named = named;
            opens = record { tells = tells; opens = some.1 };
            still = still_counts (faults_told xs) old.faults new.faults zero says.counted;
          },
        )
        )
  ]
]
