-- What is printed for a call determines what was said to it: a text is read back.
use Rattle.std.proofs.Common.{◌≡◌, ◌≤◌, ℕ, zero, suc, ◌+◌, ◌-◌, ◌*◌, ◌<◌, ◌^◌, ◌==◌, Bool, true, false, ◌&&◌, if◌then◌else◌, List, [], ◌∷◌, ◌++◌, length, take, drop, map, flat_map, replicate, get_or, codes, decimal, Result, refl, sym, ◌∙◌, ap, arith, length-append, length-drop}
use Rattle.std.specs.List.{AllByRecursion}
use Rattle.std.specs.Str.{bytes_eq}
use Rattle.std.specs.Result.{result_unwrap_or}
use Rattle.std.proofs.lemmas.Bool.Decides.{nat_tests}
use Rattle.std.proofs.lemmas.Fmt.{decimal_is_IsNumeral}
use Rattle.std.proofs.lemmas.List.{take-append-drop, length-take-le, take_at}
use Rattle.hex.specs.Hex.{encode_lower, lower_digits, IsBytes, decode_of}
use Rattle.hex.specs.declared.error.FromHexError.{FromHexError}
use Rattle.hex.proofs.HexLemmas.{decode_of-encode_lower, length-encode_with}
use Rattle.cckd_base.specs.declared.geometry.Addr.{Addr}
use Rattle.cckd_base.specs.declared.fault.TrackFault.{TrackFault}
use Rattle.cckd_base.specs.declared.fault.TrackFault.TheVariants as fault
use Rattle.cckd_base.specs.declared.call.Call.{Call}
use Rattle.cckd_base.specs.declared.turn.Turn.{Turn}
use Rattle.cckd_base.specs.declared.turn.Turn.TheVariants as turn
use Rattle.cckd_base.specs.declared.reply.Reply.{Reply}
use Rattle.cckd_base.specs.declared.reply.Reply.TheVariants as reply
use Rattle.cckd_base.specs.declared.reply.Refusal.{Refusal}
use Rattle.cckd_base.specs.declared.reply.Refusal.TheVariants as refusal
use Rattle.cckd_script.specs.Lines.{tokens}
use Rattle.cckd_script.specs.Phrase.{number, hex_text}
use Rattle.cckd_script.specs.Grammar.{number_value}
use Rattle.cckd_script.specs.Text.{call_address, call_record, turn_phrase, refusal_phrase, reply_phrase, reply_text, FitsCall, CallFits, FaultFits, TurnFits, RefusalFits, ReplyFits, IsAnswer, answered_length, answered_bytes}
use Rattle.cckd_script.proofs.TextLemmas.{reply_fits}
use Rattle.cckd_script.proofs.PlainLemmas.{part_tokens, phrase_tokens, tokens_of_phrase}

-- a reply and the bytes answered
abbrev Said : Type 0
Said = Reply × List ℕ

abbrev said : Reply → List ℕ → Said
said answer bytes = (answer, bytes)

-- the number that a token is, and the one that a token is but for its last byte
abbrev number_at : ℕ → List (List ℕ) → ℕ
number_at k parts = number_value (get_or parts k [])

abbrev unmarked : List ℕ → List ℕ
unmarked token = take (length token - 1) token

abbrev marked_at : ℕ → List (List ℕ) → ℕ
marked_at k parts = number_value (unmarked (get_or parts k []))

-- the bytes that a token is the text of
abbrev bytes_read : List ℕ → List ℕ
bytes_read token = if length token == 1 then [] else result_unwrap_or (decode_of token) []

abbrev bytes_at : ℕ → List (List ℕ) → List ℕ
bytes_at k parts = bytes_read (get_or parts k [])

-- how a text that begins with some words is read back
record Row : Type 0 where
  front : List ℕ
  reads : List (List ℕ) → Said

-- a reply without bytes
abbrev plain_row : List ℕ → (List (List ℕ) → Reply) → Row
plain_row front reads = record { front = front; reads = λ parts. (reads parts, []) }

-- a reply with one number behind its words
abbrev refusal_row : List ℕ → (List (List ℕ) → Refusal) → Row
refusal_row front reads = record { front = front; reads = λ parts. (reply.Refused (reads parts), []) }

-- how each text of a reply is read back
abbrev rows : List Row
rows =
    record { front = codes "track"; reads = λ parts. (reply.Track (number_at 3 parts), bytes_at 4 parts) }
    ∷ record { front = codes "record"; reads = λ parts. (reply.Record (length (bytes_at 4 parts)) (length (bytes_at 5 parts)), bytes_at 4 parts ++ bytes_at 5 parts) }
    ∷ plain_row (codes "written") (λ parts. reply.Written (number_at 3 parts))
    ∷ plain_row (codes "replaced") (λ parts. reply.Replaced (number_at 4 parts))
    ∷ plain_row (codes "hardened") (λ parts. reply.Hardened)
    ∷ plain_row (codes "gc copied") (λ parts. reply.Turned (turn.Copied (number_at 3 parts) (number_at 5 parts)))
    ∷ plain_row (codes "gc moved track") (λ parts. reply.Turned (turn.Moved (number_at 3 parts) (number_at 5 parts) (number_at 7 parts)))
    ∷ plain_row (codes "gc moved table") (λ parts. reply.Turned (turn.MovedTable (number_at 3 parts) (number_at 5 parts) (number_at 7 parts)))
    ∷ plain_row (codes "gc gave") (λ parts. reply.Turned (turn.GivenUp (marked_at 4 parts) (marked_at 6 parts) (number_at 8 parts)))
    ∷ plain_row (codes "gc trimmed") (λ parts. reply.Turned (turn.Trimmed (number_at 3 parts)))
    ∷ plain_row (codes "gc idle") (λ parts. reply.Turned turn.Idle)
    ∷ plain_row (codes "added") (λ parts. reply.Added (number_at 1 parts))
    ∷ plain_row (codes "merged") (λ parts. reply.Merged (number_at 1 parts))
    ∷ plain_row (codes "dropped") (λ parts. reply.Dropped (number_at 1 parts))
    ∷ plain_row (codes "compressed") (λ parts. reply.Compressed)
    ∷ plain_row (codes "layers") (λ parts. reply.Shown (marked_at 1 parts) (map number_value (drop 2 parts) ++ replicate (9 - marked_at 1 parts) 0))
    ∷ plain_row (codes "checked") (λ parts. reply.Checked (marked_at 1 parts) (number_at 2 parts))
    ∷ plain_row (codes "closed") (λ parts. reply.Closed)
    ∷ refusal_row (codes "refused: no such") (λ parts. refusal.NoSuchTrack)
    ∷ refusal_row (codes "refused: track too") (λ parts. refusal.Track (fault.TooLong (number_at 4 parts) (number_at 6 parts)))
    ∷ refusal_row (codes "refused: no end") (λ parts. refusal.Track (fault.NoEnd (number_at 4 parts)))
    ∷ refusal_row (codes "refused: compressed") (λ parts. refusal.Track (fault.Compressed (number_at 2 parts)))
    ∷ refusal_row (codes "refused: wrong") (λ parts. refusal.Track (fault.WrongTrack (number_at 3 parts) (number_at 4 parts)))
    ∷ refusal_row (codes "refused: bad") (λ parts. refusal.Track (fault.BadRecord (number_at 4 parts)))
    ∷ refusal_row (codes "refused: no record") (λ parts. refusal.NoRecord (number_at 3 parts))
    ∷ refusal_row (codes "refused: length") (λ parts. refusal.LengthDiffers (number_at 4 parts))
    ∷ refusal_row (codes "refused: full,") (λ parts. refusal.Full (record { need = number_at 3 parts; largest = number_at 5 parts; room = number_at 7 parts }))
    ∷ refusal_row (codes "refused: too") (λ parts. refusal.TooMany (number_at 5 parts))
    ∷ refusal_row (codes "refused: only") (λ parts. refusal.OnlyBase)
    ∷ refusal_row (codes "fault: read") (λ parts. refusal.ReadFault)
    ∷ refusal_row (codes "fault: write") (λ parts. refusal.WriteFault)
    ∷ refusal_row (codes "fault: sync") (λ parts. refusal.SyncFault)
    ∷ refusal_row (codes "broken") (λ parts. refusal.Broken (number_at 2 parts))
    ∷ refusal_row (codes "no memory") (λ parts. refusal.Memory)
    ∷ []

-- whether a text's tokens begin with these
abbrev begins : List (List ℕ) → List (List ℕ) → Bool
begins [] parts = true
begins (word ∷ words) [] = false
begins (word ∷ words) (part ∷ parts) = bytes_eq word part && begins words parts

-- what the first row says whose words begin a text
abbrev read_by : List Row → List (List ℕ) → Said
read_by [] parts = (reply.Closed, [])
read_by (row ∷ others) parts = if begins (tokens row.front) parts then row.reads parts else read_by others parts

-- a text read back
abbrev read_back : List (List ℕ) → Said
read_back parts = read_by rows parts

-- a number is read back from its digits
value : (n : ℕ) → n < 2 ^ 64 → number_value (decimal n) ≡ n
value n small = (decimal_is_IsNumeral n small).1

front_of : (digits : List ℕ) (mark : ℕ) → unmarked (digits ++ mark ∷ []) ≡ digits
front_of digits mark =
    let len : length (digits ++ mark ∷ []) - 1 ≡ length digits = omega (arith, length-append digits (mark ∷ [])) in
    ap (λ (n : ℕ). take n (digits ++ mark ∷ [])) len ∙ take_at digits (mark ∷ []) (length digits) refl

-- and one with a mark behind it
value_marked : (n mark : ℕ) → n < 2 ^ 64 → number_value (unmarked (decimal n ++ mark ∷ [])) ≡ n
value_marked n mark small = ap number_value (front_of (decimal n) mark) ∙ value n small

twice_is_not_one : (n : ℕ) → (2 * suc n == 1) ≡ false
twice_is_not_one n = grind (arith, nat_tests)

-- bytes are read back from their digits
bytes_back : (bytes : List ℕ) → IsBytes bytes → bytes_read (hex_text bytes) ≡ bytes
bytes_back [] h = refl
bytes_back (b ∷ bytes) h =
    let len = length-encode_with lower_digits (b ∷ bytes) in
    let decoded = decode_of-encode_lower (b ∷ bytes) h in
    ap (λ (n : ℕ). if n == 1 then [] else result_unwrap_or (decode_of (encode_lower (b ∷ bytes))) []) len
    ∙ ap (λ (t : Bool). if t then [] else result_unwrap_or (decode_of (encode_lower (b ∷ bytes))) []) (twice_is_not_one (length bytes))
    ∙ ap (λ (r : Result (List ℕ) FromHexError). result_unwrap_or r []) decoded

numbers_back : (counts : List ℕ) → AllByRecursion (λ n. n < 2 ^ 32) counts → map number_value (flat_map part_tokens (map number counts)) ≡ counts
numbers_back [] small = refl
numbers_back (n ∷ counts) small =
    ap (λ (m : ℕ). m ∷ map number_value (flat_map part_tokens (map number counts))) (value n (omega (arith, small.0)))
    ∙ ap (λ (ms : List ℕ). n ∷ ms) (numbers_back counts small.1)

-- a reply of two numbers, and of three
two : (f : ℕ → ℕ → Said) (a b c d : ℕ) → a ≡ c → b ≡ d → f a b ≡ f c d
two f a b c d first second = ap (λ (x : ℕ). f x b) first ∙ ap (f c) second

three : (f : ℕ → ℕ → ℕ → Said) (a b c d e g : ℕ) → a ≡ d → b ≡ e → c ≡ g → f a b c ≡ f d e g
three f a b c d e g first second third = ap (λ (x : ℕ). f x b c) first ∙ ap (λ (x : ℕ). f d x c) second ∙ ap (f d e) third

-- a number of 32 bits is read back
value_32 : (n : ℕ) → n < 2 ^ 32 → number_value (decimal n) ≡ n
value_32 n small = value n (omega (arith, small))

marked_32 : (n mark : ℕ) → n < 2 ^ 32 → number_value (unmarked (decimal n ++ mark ∷ [])) ≡ n
marked_32 n mark small = value_marked n mark (omega (arith, small))

fault_back : (f : TrackFault) → FaultFits f → read_back (phrase_tokens (refusal_phrase (refusal.Track f))) ≡ (reply.Refused (refusal.Track f), [])
fault_back (fault.TooLong len max) h =
    two (λ a b. (reply.Refused (refusal.Track (fault.TooLong a b)), [])) _ _ len max (value_32 len h.0) (value_32 max h.1)
fault_back (fault.NoEnd at) h = ap (λ (a : ℕ). (reply.Refused (refusal.Track (fault.NoEnd a)), [])) (value_32 at h)
fault_back (fault.Compressed byte) h =
    ap (λ (a : ℕ). (reply.Refused (refusal.Track (fault.Compressed a)), [])) (value_32 byte (omega (arith, h)))
fault_back (fault.WrongTrack cyl head) h =
    two (λ a b. (reply.Refused (refusal.Track (fault.WrongTrack a b)), [])) _ _ cyl head (value_32 cyl (omega (arith, h.0)))
    (value_32 head (omega (arith, h.1)))
fault_back (fault.BadRecord at) h = ap (λ (a : ℕ). (reply.Refused (refusal.Track (fault.BadRecord a)), [])) (value_32 at h)

refusal_back : (why : Refusal) → RefusalFits why → read_back (phrase_tokens (refusal_phrase why)) ≡ (reply.Refused why, [])
refusal_back refusal.NoSuchTrack h = refl
refusal_back (refusal.Track f) h = fault_back f h
refusal_back (refusal.NoRecord num) h = ap (λ (a : ℕ). (reply.Refused (refusal.NoRecord a), [])) (value_32 num (omega (arith, h)))
refusal_back (refusal.LengthDiffers has) h = ap (λ (a : ℕ). (reply.Refused (refusal.LengthDiffers a), [])) (value_32 has h)
refusal_back (refusal.Full full) h =
    three (λ a b c. (reply.Refused (refusal.Full (record { need = a; largest = b; room = c })), [])) _ _ _ full.need full.largest full.room
    (value_32 full.need h.0) (value_32 full.largest h.1) (value_32 full.room h.2)
refusal_back (refusal.TooMany have) h = ap (λ (a : ℕ). (reply.Refused (refusal.TooMany a), [])) (value_32 have (omega (arith, h)))
refusal_back refusal.OnlyBase h = refl
refusal_back refusal.ReadFault h = refl
refusal_back refusal.WriteFault h = refl
refusal_back refusal.SyncFault h = refl
refusal_back (refusal.Broken at) h = ap (λ (a : ℕ). (reply.Refused (refusal.Broken a), [])) (value at h)
refusal_back refusal.Memory h = refl

turn_back : (t : Turn) → TurnFits t → read_back (phrase_tokens (turn_phrase t)) ≡ (reply.Turned t, [])
turn_back (turn.Copied track to) h =
    two (λ a b. (reply.Turned (turn.Copied a b), [])) _ _ track to (value_32 track h.0) (value_32 to h.1)
turn_back (turn.Moved track from to) h =
    three (λ a b c. (reply.Turned (turn.Moved a b c), [])) _ _ _ track from to (value_32 track h.0) (value_32 from h.1) (value_32 to h.2)
turn_back (turn.MovedTable group from to) h =
    three (λ a b c. (reply.Turned (turn.MovedTable a b c), [])) _ _ _ group from to (value_32 group h.0) (value_32 from h.1) (value_32 to h.2)
turn_back (turn.GivenUp track picked now) h =
    three (λ a b c. (reply.Turned (turn.GivenUp a b c), [])) _ _ _ track picked now (marked_32 track 58 h.0) (marked_32 picked 44 h.1)
    (value_32 now h.2)
turn_back (turn.Trimmed size) h = ap (λ (a : ℕ). (reply.Turned (turn.Trimmed a), [])) (value_32 size h)
turn_back turn.Idle h = refl

no_bytes : (bytes : List ℕ) → length bytes ≡ 0 → [] ≡ bytes
no_bytes [] h = refl
no_bytes (b ∷ bytes) h = absurd (omega (arith, h))

-- a reply that answers no bytes
bare : (back : Said) (answer : Reply) (bytes : List ℕ) → back ≡ (answer, []) → length bytes ≡ 0 → back ≡ (answer, bytes)
bare back answer bytes e len = e ∙ ap (λ (bs : List ℕ). (answer, bs)) (no_bytes bytes len)

byte_of_front : (n : ℕ) (xs : List ℕ) → IsBytes xs → IsBytes (take n xs)
byte_of_front zero xs h i = omega arith
byte_of_front (suc n) [] h i = omega arith
byte_of_front (suc n) (x ∷ xs) h zero = h 0
byte_of_front (suc n) (x ∷ xs) h (suc i) = byte_of_front n xs (λ k. h (suc k)) i

byte_behind : (n : ℕ) (xs : List ℕ) → IsBytes xs → IsBytes (drop n xs)
byte_behind zero xs h = h
byte_behind (suc n) [] h = h
byte_behind (suc n) (x ∷ xs) h = byte_behind n xs (λ k. h (suc k))

-- a record is read back from its key and its data
record_back : (key_len body_len : ℕ) (key body bytes : List ℕ) → key ≡ take key_len bytes → body ≡ drop key_len bytes
    → length bytes ≡ key_len + body_len → said (reply.Record (length key) (length body)) (key ++ body) ≡ said (reply.Record key_len body_len) bytes
record_back key_len body_len key body bytes first second len =
    let k : length key ≡ key_len = ap length first ∙ length-take-le key_len bytes (omega (arith, len)) in
    let b : length body ≡ body_len = omega (arith, ap length second ∙ length-drop key_len bytes, len) in
    let all : key ++ body ≡ bytes =
    ap (λ (s : List ℕ). s ++ body) first ∙ ap (λ (s : List ℕ). take key_len bytes ++ s) second ∙ take-append-drop key_len bytes in
    two (λ x y. (reply.Record x y, key ++ body)) (length key) (length body) key_len body_len k b
    ∙ ap (λ (s : List ℕ). (reply.Record key_len body_len, s)) all

answer_back : (call : Call) (input : ℕ) (at : Addr) (num : ℕ) (answer : Reply) (bytes : List ℕ) → IsAnswer call input answer bytes
    → read_back (phrase_tokens (reply_phrase at num answer bytes)) ≡ (answer, bytes)
answer_back call input at num (reply.Track len) bytes f =
    ap (λ (n : ℕ). (reply.Track n, bytes_read (hex_text bytes))) (value_32 len f.numbers)
    ∙ ap (λ (bs : List ℕ). (reply.Track len, bs)) (bytes_back bytes f.values)
answer_back call input at num (reply.Written len) bytes f =
    bare _ (reply.Written len) bytes (ap (λ (n : ℕ). (reply.Written n, [])) (value_32 len f.numbers)) f.len
answer_back call input at num (reply.Record key_len body_len) bytes f =
    record_back key_len body_len _ _ bytes (bytes_back (take key_len bytes) (byte_of_front key_len bytes f.values))
    (bytes_back (drop key_len bytes) (byte_behind key_len bytes f.values)) f.len
answer_back call input at num (reply.Replaced len) bytes f =
    bare _ (reply.Replaced len) bytes (ap (λ (n : ℕ). (reply.Replaced n, [])) (value_32 len f.numbers)) f.len
answer_back call input at num reply.Hardened bytes f = bare _ reply.Hardened bytes refl f.len
answer_back call input at num (reply.Turned t) bytes f = bare _ (reply.Turned t) bytes (turn_back t f.numbers) f.len
answer_back call input at num (reply.Added slot) bytes f =
    bare _ (reply.Added slot) bytes (ap (λ (n : ℕ). (reply.Added n, [])) (value_32 slot (omega (arith, f.numbers)))) f.len
answer_back call input at num (reply.Merged slot) bytes f =
    bare _ (reply.Merged slot) bytes (ap (λ (n : ℕ). (reply.Merged n, [])) (value_32 slot (omega (arith, f.numbers)))) f.len
answer_back call input at num (reply.Dropped slot) bytes f =
    bare _ (reply.Dropped slot) bytes (ap (λ (n : ℕ). (reply.Dropped n, [])) (value_32 slot (omega (arith, f.numbers)))) f.len
answer_back call input at num reply.Compressed bytes f = bare _ reply.Compressed bytes refl f.len
answer_back call input at num (reply.Shown layers counts) bytes f =
    let shown = take layers counts in
    let n = marked_32 layers 58 (omega (arith, f.numbers.0)) in
    bare _ (reply.Shown layers counts) bytes (
    ap (λ (m : ℕ). (reply.Shown m (map number_value (flat_map part_tokens (map number shown)) ++ replicate (9 - m) 0), [])) n
    ∙ ap (λ (cs : List ℕ). (reply.Shown layers (cs ++ replicate (9 - layers) 0), [])) (numbers_back shown f.numbers.1)
    ∙ ap (λ (zeros : List ℕ). (reply.Shown layers (shown ++ zeros), [])) (sym f.fits.2)
    ∙ ap (λ (cs : List ℕ). (reply.Shown layers cs, [])) (take-append-drop layers counts)
    ) f.len
answer_back call input at num (reply.Checked level bad) bytes f =
    bare _ (reply.Checked level bad) bytes (
    two (λ a b. (reply.Checked a b, [])) _ _ level bad (marked_32 level 58 (omega (arith, f.numbers.0))) (value_32 bad f.numbers.1)
    ) f.len
answer_back call input at num reply.Closed bytes f = bare _ reply.Closed bytes refl f.len
answer_back call input at num (reply.Refused why) bytes f = bare _ (reply.Refused why) bytes (refusal_back why f.numbers) f.len

-- the text of a reply to a call determines the reply and the bytes that were answered
pub told : (call : Call) (input : ℕ) (answer other : Reply) (bytes more : List ℕ) → CallFits call → IsAnswer call input answer bytes
    → IsAnswer call input other more → reply_text call answer bytes ≡ reply_text call other more → (answer ≡ other) × (bytes ≡ more)
told call input answer other bytes more numbers f g e =
    let one = tokens_of_phrase (reply_phrase (call_address call) (call_record call) answer bytes) (reply_fits call answer bytes numbers f.numbers) in
    let two = tokens_of_phrase (reply_phrase (call_address call) (call_record call) other more) (reply_fits call other more numbers g.numbers) in
    let same : said answer bytes ≡ said other more =
    sym (answer_back call input (call_address call) (call_record call) answer bytes f) ∙ ap read_back (sym one ∙ ap tokens e ∙ two) ∙ answer_back call input (call_address call) (call_record call) other more g in
    (ap (λ (s : Said). s.0) same, ap (λ (s : Said). s.1) same)

-- a reply with the front of a buffer
pub is_answer : (call : Call) (input : ℕ) (answer : Reply) (buffer : List ℕ) → FitsCall call input answer → ReplyFits answer
    → answered_length answer ≤ length buffer → IsBytes buffer → IsAnswer call input answer (answered_bytes answer buffer)
is_answer call input answer buffer fits numbers within values = record {
  fits = fits;
  numbers = numbers;
  values = byte_of_front (answered_length answer) buffer values;
  len = length-take-le (answered_length answer) buffer within;
}
