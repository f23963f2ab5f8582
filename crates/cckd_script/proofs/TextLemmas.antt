-- The texts of replies: their phrases can be told, and each is one line.
use Rattle.std.proofs.Common.{◌≡◌, ℕ, ◌<◌, ◌^◌, List, [], ◌∷◌, take, drop, map, refl, ap, arith}
use Rattle.std.specs.List.{AllByRecursion}
use Rattle.cckd_base.specs.declared.geometry.Addr.{Addr}
use Rattle.cckd_base.specs.declared.fault.TrackFault.{TrackFault}
use Rattle.cckd_base.specs.declared.fault.TrackFault.TheVariants as fault
use Rattle.cckd_base.specs.declared.call.Call.{Call}
use Rattle.cckd_base.specs.declared.turn.Turn.{Turn}
use Rattle.cckd_base.specs.declared.turn.Turn.TheVariants as turn
use Rattle.cckd_base.specs.declared.reply.Reply.{Reply}
use Rattle.cckd_base.specs.declared.reply.Reply.TheVariants as reply
use Rattle.cckd_base.specs.declared.reply.Refusal.{Refusal}
use Rattle.cckd_base.specs.declared.reply.Refusal.TheVariants as refusal
use Rattle.cckd_script.specs.declared.misread.Misreading.{Misreading}
use Rattle.cckd_script.specs.declared.misread.Misreading.TheVariants as misreading
use Rattle.cckd_script.specs.Phrase.{Part, number, hex}
use Rattle.cckd_script.specs.Text.{at_address, call_address, call_record, turn_phrase, refusal_phrase, reply_phrase, reply_text, reply_line, misreading_phrase, misreading_text, misreading_line, CallFits, FaultFits, TurnFits, RefusalFits, ReplyFits, MisreadingFits, IsLine}
use Rattle.cckd_script.proofs.PlainLemmas.{IsPlain, PartsFit, PhraseFits, feedless_phrase}

-- a number of a type is one of 64 bits
fits_32 : (n : ℕ) → n < 2 ^ 32 → n < 2 ^ 64
fits_32 n small = omega (arith, small)

fits_16 : (n : ℕ) → n < 2 ^ 16 → n < 2 ^ 64
fits_16 n small = omega (arith, small)

fits_8 : (n : ℕ) → n < 2 ^ 8 → n < 2 ^ 64
fits_8 n small = omega (arith, small)

plain_colon : IsPlain (58 ∷ [])
plain_colon = ((λ e. omega (arith, e), λ e. omega (arith, e)), tt)

plain_comma : IsPlain (44 ∷ [])
plain_comma = ((λ e. omega (arith, e), λ e. omega (arith, e)), tt)

fault_fits : (f : TrackFault) → FaultFits f → PhraseFits (refusal_phrase (refusal.Track f))
fault_fits (fault.TooLong len max) h = record { front = refl; parts = (fits_32 len h.0, (refl, (fits_32 max h.1, tt))) }
fault_fits (fault.NoEnd at) h = record { front = refl; parts = (fits_32 at h, tt) }
fault_fits (fault.Compressed byte) h = record { front = refl; parts = (fits_8 byte h, tt) }
fault_fits (fault.WrongTrack cyl head) h = record { front = refl; parts = (fits_16 cyl h.0, (fits_16 head h.1, tt)) }
fault_fits (fault.BadRecord at) h = record { front = refl; parts = (fits_32 at h, tt) }

refusal_fits : (why : Refusal) → RefusalFits why → PhraseFits (refusal_phrase why)
refusal_fits refusal.NoSuchTrack h = record { front = refl; parts = tt }
refusal_fits (refusal.Track f) h = fault_fits f h
refusal_fits (refusal.NoRecord num) h = record { front = refl; parts = (fits_8 num h, tt) }
refusal_fits (refusal.LengthDiffers has) h = record { front = refl; parts = (fits_32 has h, tt) }
refusal_fits (refusal.Full full) h =
    record { front = refl; parts = (fits_32 full.need h.0, (refl, (fits_32 full.largest h.1, (refl, (fits_32 full.room h.2, tt))))) }
refusal_fits (refusal.TooMany have) h = record { front = refl; parts = (fits_8 have h, tt) }
refusal_fits refusal.OnlyBase h = record { front = refl; parts = tt }
refusal_fits refusal.ReadFault h = record { front = refl; parts = tt }
refusal_fits refusal.WriteFault h = record { front = refl; parts = tt }
refusal_fits refusal.SyncFault h = record { front = refl; parts = tt }
refusal_fits (refusal.Broken at) h = record { front = refl; parts = (h, tt) }
refusal_fits refusal.Memory h = record { front = refl; parts = tt }

turn_fits : (t : Turn) → TurnFits t → PhraseFits (turn_phrase t)
turn_fits (turn.Copied track to) h = record { front = refl; parts = (fits_32 track h.0, (refl, (fits_32 to h.1, tt))) }
turn_fits (turn.Moved track from to) h =
    record { front = refl; parts = (fits_32 track h.0, (refl, (fits_32 from h.1, (refl, (fits_32 to h.2, tt))))) }
turn_fits (turn.MovedTable group from to) h =
    record { front = refl; parts = (fits_32 group h.0, (refl, (fits_32 from h.1, (refl, (fits_32 to h.2, tt))))) }
turn_fits (turn.GivenUp track picked now) h =
    record { front = refl; parts = ((fits_32 track h.0, plain_colon), (refl, ((fits_32 picked h.1, plain_comma), (refl, (fits_32 now h.2, tt))))) }
turn_fits (turn.Trimmed size) h = record { front = refl; parts = (fits_32 size h, tt) }
turn_fits turn.Idle h = record { front = refl; parts = tt }

counts_fit : (counts : List ℕ) → AllByRecursion (λ n. n < 2 ^ 32) counts → PartsFit (map number counts)
counts_fit [] small = tt
counts_fit (n ∷ counts) small = (fits_32 n small.0, counts_fit counts small.1)

-- an address of a call and what follows
at_fits : (at : Addr) (parts : List Part) → at.cyl < 2 ^ 16 → at.head < 2 ^ 16 → PartsFit parts → PartsFit (at_address at parts)
at_fits at parts cylinder head fit = (fits_16 at.cyl cylinder, (fits_16 at.head head, fit))

pub reply_fits : (call : Call) (answer : Reply) (bytes : List ℕ) → CallFits call → ReplyFits answer
    → PhraseFits (reply_phrase (call_address call) (call_record call) answer bytes)
reply_fits call (reply.Track len) bytes asked h = record { front = refl; parts = at_fits (call_address call) (number len ∷ hex bytes ∷ []) asked.cylinder asked.head (fits_32 len h, (tt, tt)) }
reply_fits call (reply.Written len) bytes asked h = record { front = refl; parts = at_fits (call_address call) (number len ∷ []) asked.cylinder asked.head (fits_32 len h, tt) }
reply_fits call (reply.Record key_len body_len) bytes asked h =
    record { front = refl; parts = at_fits (call_address call) (number (call_record call) ∷ hex (take key_len bytes) ∷ hex (drop key_len bytes) ∷ []) asked.cylinder asked.head (fits_8 (call_record call) asked.num, (tt, (tt, tt))) }
reply_fits call (reply.Replaced len) bytes asked h =
    record { front = refl; parts = at_fits (call_address call) (number (call_record call) ∷ number len ∷ []) asked.cylinder asked.head (fits_8 (call_record call) asked.num, (fits_32 len h, tt)) }
reply_fits call reply.Hardened bytes asked h = record { front = refl; parts = tt }
reply_fits call (reply.Turned t) bytes asked h = turn_fits t h
reply_fits call (reply.Added slot) bytes asked h = record { front = refl; parts = (fits_8 slot h, tt) }
reply_fits call (reply.Merged slot) bytes asked h = record { front = refl; parts = (fits_8 slot h, tt) }
reply_fits call (reply.Dropped slot) bytes asked h = record { front = refl; parts = (fits_8 slot h, tt) }
reply_fits call reply.Compressed bytes asked h = record { front = refl; parts = tt }
reply_fits call (reply.Shown layers counts) bytes asked h =
    record { front = refl; parts = ((fits_8 layers h.0, plain_colon), counts_fit (take layers counts) h.1) }
reply_fits call (reply.Checked level bad) bytes asked h =
    record { front = refl; parts = ((fits_8 level h.0, plain_colon), (fits_32 bad h.1, (refl, tt))) }
reply_fits call reply.Closed bytes asked h = record { front = refl; parts = tt }
reply_fits call (reply.Refused why) bytes asked h = refusal_fits why h

pub misreading_fits : (why : Misreading) → MisreadingFits why → PhraseFits (misreading_phrase why)
misreading_fits (misreading.LineFault column) h = record { front = refl; parts = (fits_32 column h, tt) }
misreading_fits misreading.LineTooLong h = record { front = refl; parts = tt }
misreading_fits misreading.ScriptTooLong h = record { front = refl; parts = tt }

-- the line of a reply is one line
pub reply_is_line : (call : Call) (answer : Reply) (bytes : List ℕ) → CallFits call → ReplyFits answer → IsLine (reply_line call answer bytes)
reply_is_line call answer bytes asked h = record {
  front = reply_text call answer bytes;
  ends = refl;
  bare = feedless_phrase (reply_phrase (call_address call) (call_record call) answer bytes) (reply_fits call answer bytes asked h);
}

-- so is that of a line that is refused
pub misreading_is_line : (why : Misreading) → MisreadingFits why → IsLine (misreading_line why)
misreading_is_line why h = record {
  front = misreading_text why;
  ends = refl;
  bare = feedless_phrase (misreading_phrase why) (misreading_fits why h);
}

-- each number of a call is one of its type
pub call_fits : (call : Call) (at : Addr) (num : ℕ) → at ≡ call_address call → num ≡ call_record call → at.cyl < 2 ^ 16 → at.head < 2 ^ 16
    → num < 2 ^ 8 → CallFits call
call_fits call at num place which cylinder head small = record {
  cylinder = omega (arith, cylinder, ap (λ (a : Addr). a.cyl) place);
  head = omega (arith, head, ap (λ (a : Addr). a.head) place);
  num = omega (arith, small, which);
}
