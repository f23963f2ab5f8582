-- What is printed for the replies of a script.
use Rattle.std.specs.Prelude.{◌≡◌, ◌<◌, ◌≤◌, ◌^◌, ◌-◌, ℕ, ◌+◌, List, [], ◌∷◌, ◌++◌, flat_map, map, length, take, drop, replicate, codes}
use Rattle.std.specs.List.{AllByRecursion}
use Rattle.hex.specs.Hex.{IsBytes}
use Rattle.cckd_base.specs.declared.geometry.Addr.{Addr}
use Rattle.cckd_base.specs.declared.fault.TrackFault.{TrackFault}
use Rattle.cckd_base.specs.declared.fault.TrackFault.TheVariants as fault
use Rattle.cckd_base.specs.declared.call.Call.{Call}
use Rattle.cckd_base.specs.declared.call.Call.TheVariants.{Read, Write, GetRecord, PutRecord, Harden, Turn, Add, Merge, Drop, Compress, Display, Check, Close}
use Rattle.cckd_base.specs.declared.turn.Turn.{Turn as Turned}
use Rattle.cckd_base.specs.declared.turn.Turn.TheVariants.{Copied, Moved, MovedTable, GivenUp, Trimmed, Idle}
use Rattle.cckd_base.specs.declared.reply.Reply.{Reply}
use Rattle.cckd_base.specs.declared.reply.Reply.TheVariants as reply
use Rattle.cckd_base.specs.declared.reply.Refusal.{Refusal}
use Rattle.cckd_base.specs.declared.reply.Refusal.TheVariants as refusal
use Rattle.cckd_script.specs.declared.misread.Misreading.{Misreading}
use Rattle.cckd_script.specs.declared.misread.Misreading.TheVariants as misreading
use Rattle.cckd_script.specs.Lines.{HasNoFeed}
use Rattle.cckd_script.specs.Phrase.{Part, words, number, marked, hex, Phrase, say, phrase_text}

-- a line with its line feed
abbrev pub line : List ℕ → List ℕ
line text = text ++ 10 ∷ []

-- a text that is one line: its one line feed stands at its end
pub record IsLine (text : List ℕ) : Type 0 where
  pub front : List ℕ
  pub ends : text ≡ line front
  pub bare : HasNoFeed front

-- the address that a call names, and 0 0 where it names none
abbrev pub call_address : Call → Addr
call_address (Read at) = at
call_address (Write at) = at
call_address (GetRecord at num) = at
call_address (PutRecord at num) = at
call_address _ = record { cyl = 0; head = 0 }

-- the record that a call names, and 0 where it names none
abbrev pub call_record : Call → ℕ
call_record (GetRecord at num) = num
call_record (PutRecord at num) = num
call_record _ = 0

-- an address as two numbers, and what follows
abbrev pub at_address : Addr → List Part → List Part
at_address at parts = number at.cyl ∷ number at.head ∷ parts

-- in a few words, why bytes are no track
abbrev pub fault_front : TrackFault → List ℕ
fault_front (fault.TooLong len max) = codes "track too long"
fault_front (fault.NoEnd at) = codes "no end at"
fault_front (fault.Compressed byte) = codes "compressed"
fault_front (fault.WrongTrack cyl head) = codes "wrong track"
fault_front (fault.BadRecord at) = codes "bad record at"

-- the numbers that follow
abbrev pub fault_parts : TrackFault → List Part
fault_parts (fault.TooLong len max) = number len ∷ words (codes "over") ∷ number max ∷ []
fault_parts (fault.NoEnd at) = number at ∷ []
fault_parts (fault.Compressed byte) = number byte ∷ []
fault_parts (fault.WrongTrack cyl head) = number cyl ∷ number head ∷ []
fault_parts (fault.BadRecord at) = number at ∷ []

-- what a step of the collector did
abbrev pub turn_phrase : Turned → Phrase
turn_phrase (Copied track to) = say (codes "gc copied track") (number track ∷ words (codes "to") ∷ number to ∷ [])
turn_phrase (Moved track from to) =
    say (codes "gc moved track") (number track ∷ words (codes "from") ∷ number from ∷ words (codes "to") ∷ number to ∷ [])
turn_phrase (MovedTable group from to) =
    say (codes "gc moved table") (number group ∷ words (codes "from") ∷ number from ∷ words (codes "to") ∷ number to ∷ [])
turn_phrase (GivenUp track picked now) =
    say (codes "gc gave up track") (marked track 58 ∷ words (codes "picked") ∷ marked picked 44 ∷ words (codes "now") ∷ number now ∷ [])
turn_phrase (Trimmed size) = say (codes "gc trimmed to") (number size ∷ [])
turn_phrase Idle = say (codes "gc idle") []

-- why a call was refused
abbrev pub refusal_phrase : Refusal → Phrase
refusal_phrase refusal.NoSuchTrack = say (codes "refused: no such track") []
refusal_phrase (refusal.Track fault) = say (codes "refused: " ++ fault_front fault) (fault_parts fault)
refusal_phrase (refusal.NoRecord num) = say (codes "refused: no record") (number num ∷ [])
refusal_phrase (refusal.LengthDiffers has) = say (codes "refused: length differs, has") (number has ∷ [])
refusal_phrase (refusal.Full full) =
    say (codes "refused: full, need")
    (number full.need ∷ words (codes "largest") ∷ number full.largest ∷ words (codes "room") ∷ number full.room ∷ [])
refusal_phrase (refusal.TooMany have) = say (codes "refused: too many shadow files,") (number have ∷ [])
refusal_phrase refusal.OnlyBase = say (codes "refused: only the base file") []
refusal_phrase refusal.ReadFault = say (codes "fault: read") []
refusal_phrase refusal.WriteFault = say (codes "fault: write") []
refusal_phrase refusal.SyncFault = say (codes "fault: sync") []
refusal_phrase (refusal.Broken at) = say (codes "broken at") (number at ∷ [])
refusal_phrase refusal.Memory = say (codes "no memory") []

-- the reply to a call of this address and this record, with the bytes that were answered
abbrev pub reply_phrase : Addr → ℕ → Reply → List ℕ → Phrase
reply_phrase at num (reply.Track len) bytes =
    say (codes "track") (at_address at (number len ∷ hex bytes ∷ []))
reply_phrase at num (reply.Written len) bytes = say (codes "written") (at_address at (number len ∷ []))
reply_phrase at num (reply.Record key_len body_len) bytes =
    say (codes "record")
    (at_address at (number num ∷ hex (take key_len bytes) ∷ hex (drop key_len bytes) ∷ []))
reply_phrase at num (reply.Replaced len) bytes =
    say (codes "replaced") (at_address at (number num ∷ number len ∷ []))
reply_phrase at num reply.Hardened bytes = say (codes "hardened") []
reply_phrase at num (reply.Turned turn) bytes = turn_phrase turn
reply_phrase at num (reply.Added slot) bytes = say (codes "added") (number slot ∷ [])
reply_phrase at num (reply.Merged slot) bytes = say (codes "merged") (number slot ∷ [])
reply_phrase at num (reply.Dropped slot) bytes = say (codes "dropped") (number slot ∷ [])
reply_phrase at num reply.Compressed bytes = say (codes "compressed") []
reply_phrase at num (reply.Shown layers counts) bytes =
    say (codes "layers") (marked layers 58 ∷ map number (take layers counts))
reply_phrase at num (reply.Checked level bad) bytes =
    say (codes "checked") (marked level 58 ∷ number bad ∷ words (codes "bad") ∷ [])
reply_phrase at num reply.Closed bytes = say (codes "closed") []
reply_phrase at num (reply.Refused why) bytes = refusal_phrase why

-- why a line has no reply of a call
abbrev pub misreading_phrase : Misreading → Phrase
misreading_phrase (misreading.LineFault column) = say (codes "refused: line fault at column") (number column ∷ [])
misreading_phrase misreading.LineTooLong = say (codes "refused: line too long") []
misreading_phrase misreading.ScriptTooLong = say (codes "refused: script too long") []

-- the text of a reply to a call
abbrev pub reply_text : Call → Reply → List ℕ → List ℕ
reply_text call answer bytes = phrase_text (reply_phrase (call_address call) (call_record call) answer bytes)

-- its line
abbrev pub reply_line : Call → Reply → List ℕ → List ℕ
reply_line call answer bytes = line (reply_text call answer bytes)

-- the text of a line that is refused
abbrev pub misreading_text : Misreading → List ℕ
misreading_text why = phrase_text (misreading_phrase why)

-- its line
abbrev pub misreading_line : Misreading → List ℕ
misreading_line why = line (misreading_text why)

-- the most bytes that a reply answers
abbrev pub answer_limit : ℕ
answer_limit = 65024

-- how many layers a stack has at most
abbrev pub layer_limit : ℕ
layer_limit = 9

-- A refusal fits each call. There are 8 shadow files where there are too many.
abbrev pub RefusalFitsCall : Refusal → Type 0
RefusalFitsCall (refusal.TooMany have) = have ≡ 8
RefusalFitsCall _ = Unit {0}

-- What may be replied to a call that gives so many bytes: its own kind of answer, within the limits, or a refusal.
abbrev pub FitsCall : Call → ℕ → Reply → Type 0
FitsCall call input (reply.Track len) = (call ≡ Read (call_address call)) × (len ≤ answer_limit)
FitsCall call input (reply.Written len) = (call ≡ Write (call_address call)) × (len ≡ input)
FitsCall call input (reply.Record key_len body_len) =
    (call ≡ GetRecord (call_address call) (call_record call)) × (key_len < 256) × (key_len + body_len ≤ answer_limit)
FitsCall call input (reply.Replaced len) =
    (call ≡ PutRecord (call_address call) (call_record call)) × (len ≡ input)
FitsCall call input reply.Hardened = call ≡ Harden
FitsCall call input (reply.Turned turn) = call ≡ Turn
FitsCall call input (reply.Added slot) = call ≡ Add
FitsCall call input (reply.Merged slot) = call ≡ Merge
FitsCall call input (reply.Dropped slot) = call ≡ Drop
FitsCall call input reply.Compressed = call ≡ Compress
FitsCall call input (reply.Shown layers counts) =
    (call ≡ Display) × (layers ≤ layer_limit) × (drop layers counts ≡ replicate (layer_limit - layers) 0)
FitsCall call input (reply.Checked level bad) = call ≡ Check level
FitsCall call input reply.Closed = call ≡ Close
FitsCall call input (reply.Refused why) = RefusalFitsCall why

-- how many bytes a reply answers
abbrev pub answered_length : Reply → ℕ
answered_length (reply.Track len) = len
answered_length (reply.Record key_len body_len) = key_len + body_len
answered_length _ = 0

-- the bytes that a reply answers at the front of a buffer
abbrev pub answered_bytes : Reply → List ℕ → List ℕ
answered_bytes answer buffer = take (answered_length answer) buffer

-- each number of a call is one of its type
pub record CallFits (call : Call) : Type 0 where
  pub cylinder : (call_address call).cyl < 2 ^ 16
  pub head : (call_address call).head < 2 ^ 16
  pub num : call_record call < 2 ^ 8

-- so is each number of a track fault
abbrev pub FaultFits : TrackFault → Type 0
FaultFits (fault.TooLong len max) = (len < 2 ^ 32) × (max < 2 ^ 32)
FaultFits (fault.NoEnd at) = at < 2 ^ 32
FaultFits (fault.Compressed byte) = byte < 2 ^ 8
FaultFits (fault.WrongTrack cyl head) = (cyl < 2 ^ 16) × (head < 2 ^ 16)
FaultFits (fault.BadRecord at) = at < 2 ^ 32

-- so is each number of a collector's step
abbrev pub TurnFits : Turned → Type 0
TurnFits (Copied track to) = (track < 2 ^ 32) × (to < 2 ^ 32)
TurnFits (Moved track from to) = (track < 2 ^ 32) × (from < 2 ^ 32) × (to < 2 ^ 32)
TurnFits (MovedTable group from to) = (group < 2 ^ 32) × (from < 2 ^ 32) × (to < 2 ^ 32)
TurnFits (GivenUp track picked now) = (track < 2 ^ 32) × (picked < 2 ^ 32) × (now < 2 ^ 32)
TurnFits (Trimmed size) = size < 2 ^ 32
TurnFits Idle = Unit {0}

-- so is each number of a refusal
abbrev pub RefusalFits : Refusal → Type 0
RefusalFits (refusal.Track fault) = FaultFits fault
RefusalFits (refusal.NoRecord num) = num < 2 ^ 8
RefusalFits (refusal.LengthDiffers has) = has < 2 ^ 32
RefusalFits (refusal.Full full) = (full.need < 2 ^ 32) × (full.largest < 2 ^ 32) × (full.room < 2 ^ 32)
RefusalFits (refusal.TooMany have) = have < 2 ^ 8
RefusalFits (refusal.Broken at) = at < 2 ^ 64
RefusalFits _ = Unit {0}

-- so is each number of a reply
abbrev pub ReplyFits : Reply → Type 0
ReplyFits (reply.Track len) = len < 2 ^ 32
ReplyFits (reply.Written len) = len < 2 ^ 32
ReplyFits (reply.Record key_len body_len) = (key_len < 2 ^ 32) × (body_len < 2 ^ 32)
ReplyFits (reply.Replaced len) = len < 2 ^ 32
ReplyFits (reply.Turned turn) = TurnFits turn
ReplyFits (reply.Added slot) = slot < 2 ^ 8
ReplyFits (reply.Merged slot) = slot < 2 ^ 8
ReplyFits (reply.Dropped slot) = slot < 2 ^ 8
ReplyFits (reply.Shown layers counts) = (layers < 2 ^ 8) × AllByRecursion (λ n. n < 2 ^ 32) (take layers counts)
ReplyFits (reply.Checked level bad) = (level < 2 ^ 8) × (bad < 2 ^ 32)
ReplyFits (reply.Refused why) = RefusalFits why
ReplyFits _ = Unit {0}

-- so is the column of a line that is refused
abbrev pub MisreadingFits : Misreading → Type 0
MisreadingFits (misreading.LineFault column) = column < 2 ^ 32
MisreadingFits _ = Unit {0}

-- what may be said to a call that gives so many bytes: a reply that fits it, with as many bytes as it answers
pub record IsAnswer (call : Call) (input : ℕ) (answer : Reply) (bytes : List ℕ) : Type 0 where
  pub fits : FitsCall call input answer
  pub numbers : ReplyFits answer
  pub values : IsBytes bytes
  pub len : length bytes ≡ answered_length answer

-- What was asked and what was said to it: a call with the bytes that it gives, its reply and the bytes answered, or a
-- line that was misread.
pub data Entry : Type 0 where
  answered : Call → List ℕ → Reply → List ℕ → Entry
  misread : Misreading → Entry

-- what was said
abbrev pub said : Entry → List ℕ
said (answered call given answer bytes) = reply_text call answer bytes
said (misread why) = misreading_text why

-- its line
abbrev pub entry_text : Entry → List ℕ
entry_text entry = line (said entry)

-- all that is printed for a script, whose entries are given oldest first
abbrev pub script_text : List Entry → List ℕ
script_text entries = flat_map entry_text entries
