-- What the layered disk answers to a call, and the stack after it.
use Rattle.std.specs.Prelude.{◌≡◌, ℕ, ◌-◌, ◌==◌, nat_le, Bool, true, false, if◌then◌else◌, IsTrue, List, [], ◌++◌, length, replicate, Option, Some, None}
use Rattle.std.specs.Option.{option_map, option_or, option_to_list}
use Rattle.cckd_base.specs.declared.geometry.Geometry.{Geometry}
use Rattle.cckd_base.specs.declared.geometry.Addr.{Addr}
use Rattle.cckd_base.specs.declared.geometry.Track.{Track}
use Rattle.cckd_base.specs.declared.call.Call.{Call}
use Rattle.cckd_base.specs.declared.call.Call.TheVariants as call
use Rattle.cckd_base.specs.declared.reply.Reply.{Reply}
use Rattle.cckd_base.specs.declared.reply.Reply.TheVariants as reply
use Rattle.cckd_base.specs.declared.reply.Refusal.{Refusal}
use Rattle.cckd_base.specs.declared.reply.Refusal.TheVariants as refusal
use Rattle.cckd_base.specs.declared.turn.Turn.{Turn}
use Rattle.cckd_base.specs.Geometry.{track_at, track_count}
use Rattle.cckd_base.specs.Track.{CountKeyData, track_fault, track_value}
use Rattle.cckd_stack.specs.Layers.{Layer, Stack, visible, layer_count, top, with_top, with_track, merged, dropped, shadow, empty_layer, track_counts}
use Rattle.cckd_stack.specs.Records.{records_of, record_numbered, value_with_body}
use Rattle.cckd_stack.specs.Faulty.{bad_tracks}

-- a call, and the bytes that it gives
pub record Request : Type 0 where
  pub asked : Call
  pub given : List ℕ

-- a reply, and the bytes that it answers
pub record Answer : Type 0 where
  pub reply : Reply
  pub bytes : List ℕ

-- a reply without bytes
abbrev pub plain : Reply → Answer
plain said = record { reply = said; bytes = [] }

-- a refusal
abbrev pub refused : Refusal → Answer
refused why = plain (reply.Refused why)

-- ---- refusals

-- the address that a call names
abbrev pub address_in : Call → Option Addr
address_in (call.Read at) = Some at
address_in (call.Write at) = Some at
address_in (call.GetRecord at num) = Some at
address_in (call.PutRecord at num) = Some at
address_in _ = None

-- the track at an address that is named
abbrev pub track_of : Geometry → Option Addr → Option Track
track_of g None = None
track_of g (Some at) = track_at g at

-- what is said of the track that a call names, where it names one that the device has
abbrev pub at_track : {A : Type 0} → Option Track → (ℕ → Option A) → Option A
at_track None f = None
at_track (Some t) f = f t.0

-- an address that the device doesn't have
abbrev pub no_such_track : Geometry → Option Addr → Option Refusal
no_such_track g None = None
no_such_track g (Some at) = elim (track_at g at) [ None ↦ Some refusal.NoSuchTrack | Some t ↦ None ]

-- bytes that aren't the track's
abbrev pub bytes_refused : Geometry → ℕ → List ℕ → Option Refusal
bytes_refused g t bytes = option_map refusal.Track (track_fault g t bytes)

-- the refusal for want of a record, or for a body of another length
abbrev pub record_refused : ℕ → Option CountKeyData → Option Refusal
record_refused num None = Some (refusal.NoRecord num)
record_refused num (Some r) = None

abbrev pub body_refused : ℕ → List ℕ → Option CountKeyData → Option Refusal
body_refused num given None = Some (refusal.NoRecord num)
body_refused num given (Some r) = if length r.body == length given then None else Some (refusal.LengthDiffers (length r.body))

-- what a stack of so many layers refuses: a ninth shadow, and to take off the base
abbrev pub count_refused : ℕ → Call → Option Refusal
count_refused n call.Add = if nat_le 9 n then Some (refusal.TooMany 8) else None
count_refused n call.Merge = if n == 1 then Some refusal.OnlyBase else None
count_refused n call.Drop = if n == 1 then Some refusal.OnlyBase else None
count_refused n _ = None

-- bytes given that can't be written
abbrev pub given_refused : Geometry → ℕ → Call → List ℕ → Option Refusal
given_refused g t (call.Write at) given = bytes_refused g t given
given_refused g t _ given = None

-- what a call is refused by before any layer is read
abbrev pub first_refusal : Geometry → Stack → Request → Option Refusal
first_refusal g s r =
    option_or (no_such_track g (address_in r.asked))
    (option_or (count_refused (layer_count s) r.asked)
    (at_track (track_of g (address_in r.asked)) (λ t. given_refused g t r.asked r.given)))

-- what a call at a track is refused by once the track's visible bytes were read
abbrev pub read_refusal : Geometry → ℕ → List ℕ → Call → List ℕ → Option Refusal
read_refusal g t seen (call.Read at) given = bytes_refused g t seen
read_refusal g t seen (call.GetRecord at num) given =
    option_or (bytes_refused g t seen) (record_refused num (record_numbered num (records_of seen)))
read_refusal g t seen (call.PutRecord at num) given =
    option_or (bytes_refused g t seen) (body_refused num given (record_numbered num (records_of seen)))
read_refusal g t seen _ given = None

-- what the layered disk refuses a call by, if it does
abbrev pub refusal_to : Geometry → Stack → Request → Option Refusal
refusal_to g s r =
    option_or (first_refusal g s r) (at_track (track_of g (address_in r.asked)) (λ t. read_refusal g t (visible s t) r.asked r.given))

-- ---- the stack after a call

-- a track, and bytes that are written to it
abbrev pub Pair : Type 0
Pair = ℕ × List ℕ

-- the bytes that a call writes to its track, where it shows these
abbrev pub written_over : List ℕ → Call → List ℕ → Option (List ℕ)
written_over seen (call.Write at) given = Some (track_value given)
written_over seen (call.PutRecord at num) given = Some (value_with_body num given seen)
written_over seen _ given = None

-- what a call writes: its track with its bytes, or nothing
abbrev pub pair_by : Geometry → Stack → Request → Option Pair
pair_by g s r = at_track (track_of g (address_in r.asked)) (λ t. option_map (λ (bytes : List ℕ). (t, bytes)) (written_over (visible s t) r.asked r.given))

-- a layer once this was written
abbrev pub with_pair : Layer → Option Pair → Layer
with_pair layer None = layer
with_pair layer (Some p) = with_track layer p.0 p.1

-- the stack after a call that was answered: one layer more, one less, or with what was written in the last one
abbrev pub stacked : Stack → Call → Option Pair → Stack
stacked s call.Add pair = shadow empty_layer s
stacked s call.Merge pair = merged s
stacked s call.Drop pair = dropped s
stacked s _ pair = with_top s (with_pair (top s) pair)

abbrev pub answered_stack : Geometry → Stack → Request → Stack
answered_stack g s r = stacked s r.asked (pair_by g s r)

-- whether a reply is a refusal
abbrev pub is_refused : Reply → Bool
is_refused (reply.Refused why) = true
is_refused _ = false

-- the stack after a call with its reply: a refusal keeps it
abbrev pub stack_after_call : Geometry → Stack → Request → Reply → Stack
stack_after_call g s r said = if is_refused said then s else answered_stack g s r

-- what a call with its reply wrote
abbrev pub pairs_written : Geometry → Stack → Request → Reply → List Pair
pairs_written g s r said = if is_refused said then [] else option_to_list (pair_by g s r)

-- ---- answers

-- the answer that a track's visible bytes give
abbrev pub answer_of_track : List ℕ → Answer
answer_of_track seen = record { reply = reply.Track (length seen); bytes = track_value seen }

-- the answer that a record gives: its key and behind it its body
abbrev pub answer_of_record : Option CountKeyData → Option Answer
answer_of_record None = None
answer_of_record (Some r) = Some (record { reply = reply.Record (length r.key) (length r.body); bytes = r.key ++ r.body })

-- the tracks of each layer, and 0 for each of nine that isn't there
abbrev pub counts_shown : Geometry → Stack → List ℕ
counts_shown g s = track_counts (track_count g) s ++ replicate (9 - layer_count s) 0

-- The answer to a call that isn't refused. A step of the collector may have done anything that steps do.
abbrev pub IsAnswerTo : Geometry → Stack → Call → List ℕ → Answer → Type 0
IsAnswerTo g s (call.Read at) given said =
    at_track (track_at g at) (λ t. Some (answer_of_track (visible s t))) ≡ Some said
IsAnswerTo g s (call.Write at) given said = said ≡ plain (reply.Written (length given))
IsAnswerTo g s (call.GetRecord at num) given said =
    at_track (track_at g at) (λ t. answer_of_record (record_numbered num (records_of (visible s t)))) ≡ Some said
IsAnswerTo g s (call.PutRecord at num) given said = said ≡ plain (reply.Replaced (length given))
IsAnswerTo g s call.Harden given said = said ≡ plain reply.Hardened
IsAnswerTo g s call.Turn given said = (turn : Turn) × (said ≡ plain (reply.Turned turn))
IsAnswerTo g s call.Add given said = said ≡ plain (reply.Added (layer_count s))
IsAnswerTo g s call.Merge given said = said ≡ plain (reply.Merged (layer_count s - 1))
IsAnswerTo g s call.Drop given said = said ≡ plain (reply.Dropped (layer_count s - 1))
IsAnswerTo g s call.Compress given said = said ≡ plain reply.Compressed
IsAnswerTo g s call.Display given said = said ≡ plain (reply.Shown (layer_count s) (counts_shown g s))
IsAnswerTo g s (call.Check level) given said = said ≡ plain (reply.Checked level (bad_tracks level g s))
IsAnswerTo g s call.Close given said = said ≡ plain reply.Closed

abbrev pub IsAnswer : Geometry → Stack → Request → Answer → Type 0
IsAnswer g s r said = IsAnswerTo g s r.asked r.given said

-- ---- from outside of the disk

-- the calls that place bytes in a file, and so may find no room
abbrev pub needs_room : Call → Bool
needs_room (call.Write at) = true
needs_room (call.PutRecord at num) = true
needs_room call.Merge = true
needs_room call.Compress = true
needs_room _ = false

-- the calls that take memory
abbrev pub takes_memory : Call → Bool
takes_memory call.Add = true
takes_memory call.Merge = true
takes_memory _ = false

-- the calls that change files; the others read them alone
abbrev pub changes_files : Call → Bool
changes_files (call.Read at) = false
changes_files (call.GetRecord at num) = false
changes_files call.Display = false
changes_files (call.Check level) = false
changes_files _ = true

-- A refusal that comes from outside of the disk, where no refusal of the disk comes before it: a fault of reading may come
-- once a layer is read, and want of room and the other faults once the call can't be refused any more. A call that only
-- reads has no fault of writing or syncing.
abbrev pub IsOutside : Geometry → Stack → Request → Refusal → Type 0
IsOutside g s r (refusal.Full full) = IsTrue (needs_room r.asked) × (refusal_to g s r ≡ None)
IsOutside g s r refusal.ReadFault = first_refusal g s r ≡ None
IsOutside g s r refusal.WriteFault = IsTrue (changes_files r.asked) × (refusal_to g s r ≡ None)
IsOutside g s r refusal.SyncFault = IsTrue (changes_files r.asked) × (refusal_to g s r ≡ None)
IsOutside g s r refusal.Memory = IsTrue (takes_memory r.asked) × (first_refusal g s r ≡ None)
IsOutside g s r _ = ⊥

-- what may be said to a call: the disk's refusal, its answer, or a refusal from outside of it
pub data MayAnswer (g : Geometry) (s : Stack) (r : Request) (said : Answer) : Type 0 where
  refuses : (why : Refusal) → refusal_to g s r ≡ Some why → said ≡ refused why → MayAnswer g s r said
  answers : refusal_to g s r ≡ None → IsAnswer g s r said → MayAnswer g s r said
  from_outside : (why : Refusal) → IsOutside g s r why → said ≡ refused why → MayAnswer g s r said
