-- What the layered disk says of itself: its own refusals and answers, and their status.
use Rattle.std.proofs.Common.{◌≡◌, ℕ, ◌==◌, nat_le, cond, true, false, List, ◌++◌, length, Bool, Option, Some, None, refl, sym, ◌∙◌, ap, subst}
use Rattle.std.specs.Option.{option_map, option_or}
use Rattle.std.proofs.lemmas.Bool.{false≢true}
use Rattle.cckd_base.specs.declared.geometry.Geometry.{Geometry}
use Rattle.cckd_base.specs.declared.geometry.Addr.{Addr}
use Rattle.cckd_base.specs.declared.geometry.Track.{Track}
use Rattle.cckd_base.specs.declared.fault.TrackFault.{TrackFault}
use Rattle.cckd_base.specs.declared.call.Call.{Call}
use Rattle.cckd_base.specs.declared.call.Call.TheVariants as call
use Rattle.cckd_base.specs.declared.reply.Reply.{Reply}
use Rattle.cckd_base.specs.declared.reply.Reply.TheVariants as reply
use Rattle.cckd_base.specs.declared.reply.Refusal.{Refusal}
use Rattle.cckd_base.specs.declared.reply.Refusal.TheVariants as refusal
use Rattle.cckd_base.specs.Geometry.{track_at}
use Rattle.cckd_base.specs.Track.{CountKeyData, track_fault}
use Rattle.cckd_stack.specs.Layers.{Stack, visible, layer_count}
use Rattle.cckd_stack.specs.Records.{records_of, record_numbered}
use Rattle.cckd_stack.specs.Answers.{Request, Answer, MayAnswer, IsAnswerTo, IsOutside, refuses, answers, from_outside, refused, address_in, track_of, at_track, no_such_track, bytes_refused, record_refused, body_refused, count_refused, given_refused, first_refusal, read_refusal, refusal_to, answer_of_track, answer_of_record, is_refused, takes_memory}
use Rattle.cckd_stack.specs.History.{refusal_breaks, reply_breaks}
use Rattle.cckd_engine.specs.Calls.{fault_told}
use Rattle.cckd_console.specs.Served.{refusal_status, reply_status}
use Rattle.cckd_top.specs.Unhindered.{IsOwnAnswer}
use Rattle.cckd_top.specs.Unhindered as own

-- ---- the disk's refusals ask for the status 1

-- what may be refused asks for it
IfLow : Option Refusal → Type 0
IfLow None = Unit {0}
IfLow (Some why) = refusal_status why ≡ 1

low_or : (first later : Option Refusal) → IfLow first → IfLow later → IfLow (option_or first later)
unfolding IfLow
low_or None later h k = k
low_or (Some why) later h k = h

low_at : (t : Option Track) (f : ℕ → Option Refusal) → ((n : ℕ) → IfLow (f n)) → IfLow (at_track t f)
unfolding IfLow
low_at None f h = tt
low_at (Some t) f h = h t.0

low_if : (b : Bool) (why : Refusal) → refusal_status why ≡ 1 → IfLow (cond b (Some why) None)
unfolding IfLow
low_if true why h = h
low_if false why h = tt

low_unless : (b : Bool) (why : Refusal) → refusal_status why ≡ 1 → IfLow (cond b None (Some why))
unfolding IfLow
low_unless true why h = tt
low_unless false why h = h

low_track : (t : Option Track) → IfLow (elim t [ None ↦ Some refusal.NoSuchTrack | Some t ↦ None ])
unfolding IfLow
low_track None = refl
low_track (Some t) = tt

low_address : (g : Geometry) (at : Option Addr) → IfLow (no_such_track g at)
unfolding IfLow
low_address g None = tt
low_address g (Some at) = low_track (track_at g at)

low_count : (n : ℕ) (c : Call) → IfLow (count_refused n c)
unfolding IfLow
low_count n (call.Read at) = tt
low_count n (call.Write at) = tt
low_count n (call.GetRecord at num) = tt
low_count n (call.PutRecord at num) = tt
low_count n call.Harden = tt
low_count n call.Turn = tt
low_count n call.Add = low_if (nat_le 9 n) (refusal.TooMany 8) refl
low_count n call.Merge = low_if (n == 1) refusal.OnlyBase refl
low_count n call.Drop = low_if (n == 1) refusal.OnlyBase refl
low_count n call.Compress = tt
low_count n call.Display = tt
low_count n (call.Check level) = tt
low_count n call.Close = tt

low_fault : (why : Option TrackFault) → IfLow (option_map refusal.Track why)
unfolding IfLow
low_fault None = tt
low_fault (Some why) = refl

low_bytes : (g : Geometry) (t : ℕ) (bytes : List ℕ) → IfLow (bytes_refused g t bytes)
low_bytes g t bytes = low_fault (track_fault g t bytes)

low_given : (g : Geometry) (t : ℕ) (c : Call) (given : List ℕ) → IfLow (given_refused g t c given)
unfolding IfLow
low_given g t (call.Read at) given = tt
low_given g t (call.Write at) given = low_bytes g t given
low_given g t (call.GetRecord at num) given = tt
low_given g t (call.PutRecord at num) given = tt
low_given g t call.Harden given = tt
low_given g t call.Turn given = tt
low_given g t call.Add given = tt
low_given g t call.Merge given = tt
low_given g t call.Drop given = tt
low_given g t call.Compress given = tt
low_given g t call.Display given = tt
low_given g t (call.Check level) given = tt
low_given g t call.Close given = tt

low_record : (num : ℕ) (r : Option CountKeyData) → IfLow (record_refused num r)
unfolding IfLow
low_record num None = refl
low_record num (Some r) = tt

low_body : (num : ℕ) (given : List ℕ) (r : Option CountKeyData) → IfLow (body_refused num given r)
unfolding IfLow
low_body num given None = refl
low_body num given (Some r) = low_unless (length r.body == length given) (refusal.LengthDiffers (length r.body)) refl

low_read : (g : Geometry) (t : ℕ) (seen : List ℕ) (c : Call) (given : List ℕ) → IfLow (read_refusal g t seen c given)
unfolding IfLow
low_read g t seen (call.Read at) given = low_bytes g t seen
low_read g t seen (call.Write at) given = tt
low_read g t seen (call.GetRecord at num) given =
    low_or (bytes_refused g t seen) (record_refused num (record_numbered num (records_of seen))) (low_bytes g t seen)
    (low_record num (record_numbered num (records_of seen)))
low_read g t seen (call.PutRecord at num) given =
    low_or (bytes_refused g t seen) (body_refused num given (record_numbered num (records_of seen))) (low_bytes g t seen)
    (low_body num given (record_numbered num (records_of seen)))
low_read g t seen call.Harden given = tt
low_read g t seen call.Turn given = tt
low_read g t seen call.Add given = tt
low_read g t seen call.Merge given = tt
low_read g t seen call.Drop given = tt
low_read g t seen call.Compress given = tt
low_read g t seen call.Display given = tt
low_read g t seen (call.Check level) given = tt
low_read g t seen call.Close given = tt

low_refusal : (g : Geometry) (s : Stack) (r : Request) → IfLow (refusal_to g s r)
low_refusal g s r =
    let t = track_of g (address_in r.asked) in
    let given = λ (n : ℕ). given_refused g n r.asked r.given in
    let read = λ (n : ℕ). read_refusal g n (visible s n) r.asked r.given in
    low_or (first_refusal g s r) (at_track t read)
    (low_or (no_such_track g (address_in r.asked)) (option_or (count_refused (layer_count s) r.asked) (at_track t given))
    (low_address g (address_in r.asked))
    (low_or (count_refused (layer_count s) r.asked) (at_track t given) (low_count (layer_count s) r.asked)
    (low_at t given (λ n. low_given g n r.asked r.given))))
    (low_at t read (λ n. low_read g n (visible s n) r.asked r.given))

-- ---- its answers are no refusals

shows_track : (t : Option Track) (s : Stack) (said : Answer) → at_track t (λ n. Some (answer_of_track (visible s n))) ≡ Some said → is_refused said.reply ≡ false
shows_track None s said e = absurd (cc e)
shows_track (Some t) s said e = let is : answer_of_track (visible s t.0) ≡ said = cc e in sym (ap (λ (a : Answer). is_refused a.reply) is)

shows_record : (r : Option CountKeyData) (said : Answer) → answer_of_record r ≡ Some said → is_refused said.reply ≡ false
shows_record None said e = absurd (cc e)
shows_record (Some r) said e =
    let is : record { reply = reply.Record (length r.key) (length r.body); bytes = r.key ++ r.body } ≡ said = cc e in sym (ap (λ (a : Answer). is_refused a.reply) is)

shows_record_at : (t : Option Track) (num : ℕ) (s : Stack) (said : Answer)
    → at_track t (λ n. answer_of_record (record_numbered num (records_of (visible s n)))) ≡ Some said → is_refused said.reply ≡ false
shows_record_at None num s said e = absurd (cc e)
shows_record_at (Some t) num s said e = shows_record (record_numbered num (records_of (visible s t.0))) said e

-- a reply that is said
is_said : (said other : Answer) → said ≡ other → is_refused other.reply ≡ false → is_refused said.reply ≡ false
is_said said other is calm = ap (λ (a : Answer). is_refused a.reply) is ∙ calm

answer_calm : (g : Geometry) (s : Stack) (c : Call) (given : List ℕ) (said : Answer) → IsAnswerTo g s c given said → is_refused said.reply ≡ false
answer_calm g s (call.Read at) given said h = shows_track (track_at g at) s said h
answer_calm g s (call.Write at) given said h = is_said said _ h refl
answer_calm g s (call.GetRecord at num) given said h = shows_record_at (track_at g at) num s said h
answer_calm g s (call.PutRecord at num) given said h = is_said said _ h refl
answer_calm g s call.Harden given said h = is_said said _ h refl
answer_calm g s call.Turn given said h = is_said said _ h.1 refl
answer_calm g s call.Add given said h = is_said said _ h refl
answer_calm g s call.Merge given said h = is_said said _ h refl
answer_calm g s call.Drop given said h = is_said said _ h refl
answer_calm g s call.Compress given said h = is_said said _ h refl
answer_calm g s call.Display given said h = is_said said _ h refl
answer_calm g s (call.Check level) given said h = is_said said _ h refl
answer_calm g s call.Close given said h = is_said said _ h refl

-- ---- the status of what it says

-- a reply asks for the status 1 where it is a refusal, and else for 0
abbrev pub HasStatus : Reply → Type 0
HasStatus said = reply_status said ≡ cond (is_refused said) 1 0

calm_status : (said : Reply) → is_refused said ≡ false → HasStatus said
calm_status (reply.Refused why) calm = absurd (false≢true (sym calm))
calm_status (reply.Track len) calm = refl
calm_status (reply.Written len) calm = refl
calm_status (reply.Record key body) calm = refl
calm_status (reply.Replaced len) calm = refl
calm_status reply.Hardened calm = refl
calm_status (reply.Turned turn) calm = refl
calm_status (reply.Added slot) calm = refl
calm_status (reply.Merged slot) calm = refl
calm_status (reply.Dropped slot) calm = refl
calm_status reply.Compressed calm = refl
calm_status (reply.Shown layers counts) calm = refl
calm_status (reply.Checked level bad) calm = refl
calm_status reply.Closed calm = refl

low_status : (said : Answer) (why : Refusal) → said ≡ refused why → refusal_status why ≡ 1 → HasStatus said.reply
low_status said why is low = subst (λ (a : Answer). HasStatus a.reply) (sym is) low

if_low : (o : Option Refusal) (why : Refusal) → o ≡ Some why → IfLow o → refusal_status why ≡ 1
unfolding IfLow
if_low o why is h = subst IfLow is h

-- a reply that tells no fault, to a call that takes no memory
pub record IsQuiet (r : Request) (said : Answer) : Type 0 where
  pub told : fault_told said.reply ≡ None
  pub free : takes_memory r.asked ≡ false

-- it is the disk's own, and has that status
pub record IsOwn (g : Geometry) (s : Stack) (r : Request) (said : Answer) : Type 0 where
  pub says : IsOwnAnswer g s r said
  pub status : HasStatus said.reply

told_by : (said : Answer) (why : Refusal) → said ≡ refused why → fault_told said.reply ≡ fault_told (reply.Refused why)
told_by said why is = ap (λ (a : Answer). fault_told a.reply) is

own_outside : (g : Geometry) (s : Stack) (r : Request) (said : Answer) (why : Refusal) → IsQuiet r said → IsOutside g s r why → said ≡ refused why → IsOwn g s r said
own_outside g s r said (refusal.Full full) quiet h is =
    record { says = own.finds_no_room full h.0 h.1 is; status = low_status said (refusal.Full full) is refl }
own_outside g s r said refusal.ReadFault quiet h is = absurd (let e = sym quiet.told ∙ told_by said refusal.ReadFault is in cc e)
own_outside g s r said refusal.WriteFault quiet h is = absurd (let e = sym quiet.told ∙ told_by said refusal.WriteFault is in cc e)
own_outside g s r said refusal.SyncFault quiet h is = absurd (let e = sym quiet.told ∙ told_by said refusal.SyncFault is in cc e)
own_outside g s r said refusal.Memory quiet h is = absurd (false≢true (sym quiet.free ∙ h.0))
own_outside g s r said refusal.NoSuchTrack quiet h is = absurd h
own_outside g s r said (refusal.Track why) quiet h is = absurd h
own_outside g s r said (refusal.NoRecord num) quiet h is = absurd h
own_outside g s r said (refusal.LengthDiffers has) quiet h is = absurd h
own_outside g s r said (refusal.TooMany have) quiet h is = absurd h
own_outside g s r said refusal.OnlyBase quiet h is = absurd h
own_outside g s r said (refusal.Broken at) quiet h is = absurd h

pub own_answer : (g : Geometry) (s : Stack) (r : Request) (said : Answer) → IsQuiet r said → MayAnswer g s r said → IsOwn g s r said
own_answer g s r said quiet may = elim may [
  | refuses why is says ↦ record {
    says = own.refuses why is says;
    status = low_status said why says (if_low (refusal_to g s r) why is (low_refusal g s r));
  }
  | answers none says ↦ record { says = own.answers none says; status = calm_status said.reply (answer_calm g s r.asked r.given said says) }
  | from_outside why outside says ↦ own_outside g s r said why quiet outside says
]

-- ---- it breaks nothing

quiet_refusal : (c : Call) (why : Refusal) → fault_told (reply.Refused why) ≡ None → refusal_breaks c why ≡ false
quiet_refusal c refusal.ReadFault e = absurd (cc e)
quiet_refusal c refusal.WriteFault e = absurd (cc e)
quiet_refusal c refusal.SyncFault e = absurd (cc e)
quiet_refusal c refusal.NoSuchTrack e = refl
quiet_refusal c (refusal.Track why) e = refl
quiet_refusal c (refusal.NoRecord num) e = refl
quiet_refusal c (refusal.LengthDiffers has) e = refl
quiet_refusal c (refusal.Full full) e = refl
quiet_refusal c (refusal.TooMany have) e = refl
quiet_refusal c refusal.OnlyBase e = refl
quiet_refusal c (refusal.Broken at) e = refl
quiet_refusal c refusal.Memory e = refl

pub quiet_breaks : (c : Call) (said : Reply) → fault_told said ≡ None → reply_breaks c said ≡ false
quiet_breaks c (reply.Refused why) e = quiet_refusal c why e
quiet_breaks c (reply.Track len) e = refl
quiet_breaks c (reply.Written len) e = refl
quiet_breaks c (reply.Record key body) e = refl
quiet_breaks c (reply.Replaced len) e = refl
quiet_breaks c reply.Hardened e = refl
quiet_breaks c (reply.Turned turn) e = refl
quiet_breaks c (reply.Added slot) e = refl
quiet_breaks c (reply.Merged slot) e = refl
quiet_breaks c (reply.Dropped slot) e = refl
quiet_breaks c reply.Compressed e = refl
quiet_breaks c (reply.Shown layers counts) e = refl
quiet_breaks c (reply.Checked level bad) e = refl
quiet_breaks c reply.Closed e = refl
