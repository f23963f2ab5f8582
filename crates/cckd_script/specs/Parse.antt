-- What a line of a script asks, or the column where it stops to be one.
use Rattle.std.specs.Prelude.{ℕ, ◌+◌, ◌==◌, Bool, true, false, ◌&&◌, if◌then◌else◌, List, [], ◌∷◌, length, bytes_eq, codes, Option, Some, None, Result, Ok, Err}
use Rattle.cckd_base.specs.declared.geometry.Addr.{Addr}
use Rattle.cckd_base.specs.declared.call.Call.{Call}
use Rattle.cckd_base.specs.declared.call.Call.TheVariants.{Read, Write, Harden, Display, Check}
use Rattle.cckd_script.specs.declared.parse.Line.{Line}
use Rattle.cckd_script.specs.declared.parse.LineFault.{LineFault}
use Rattle.cckd_script.specs.declared.parse.What.{What}
use Rattle.cckd_script.specs.declared.parse.What.TheVariants as what
use Rattle.cckd_script.specs.Lines.{tokens}
use Rattle.cckd_script.specs.Grammar.{Kind, number, bytes, Value, amount, given, values_of}
use Rattle.cckd_script.specs.Filled.{filled_track}

-- what a line asks: nothing, a call with the bytes that it gives, or so many steps of the collector
pub data Request : Type 0 where
  nothing : Request
  one : Call → List ℕ → Request
  turns : ℕ → Request

-- A word that begins a line, the kinds of the tokens behind it, whether it may also stand alone, and what the tokens ask
-- for.
pub record Form : Type 0 where
  pub front : List ℕ
  pub kinds : List Kind
  pub alone : Bool
  pub asks : List Value → Request

-- an address
abbrev pub address : ℕ → ℕ → Addr
address cylinder head = record { cyl = cylinder; head = head }

-- the read of an address
abbrev pub read_asked : List Value → Request
read_asked (amount cylinder ∷ amount head ∷ []) = one (Read (address cylinder head)) []
read_asked _ = nothing

-- `read C H`
abbrev pub read_form : Form
read_form = record { front = codes "read"; kinds = number 0 65535 ∷ number 0 65535 ∷ []; alone = false; asks = read_asked }

-- the write of these bytes as the track at an address
abbrev pub write_asked : List Value → Request
write_asked (amount cylinder ∷ amount head ∷ given track ∷ []) = one (Write (address cylinder head)) track
write_asked _ = nothing

-- `write C H HEX`
abbrev pub write_form : Form
write_form = record {
  front = codes "write";
  kinds = number 0 65535 ∷ number 0 65535 ∷ bytes 1 65535 ∷ [];
  alone = false;
  asks = write_asked;
}

-- the write of a track with a record one of so many equal bytes
abbrev pub fill_asked : List Value → Request
fill_asked (amount cylinder ∷ amount head ∷ amount count ∷ given (byte ∷ []) ∷ []) =
    one (Write (address cylinder head)) (filled_track (address cylinder head) count byte)
fill_asked _ = nothing

-- `fill C H N XX`
abbrev pub fill_form : Form
fill_form = record {
  front = codes "fill";
  kinds = number 0 65535 ∷ number 0 65535 ∷ number 0 65498 ∷ bytes 1 1 ∷ [];
  alone = false;
  asks = fill_asked;
}

-- a word behind which nothing stands, for a call without bytes
abbrev pub bare_form : List ℕ → Call → Form
bare_form front call = record { front = front; kinds = []; alone = false; asks = λ values. one call [] }

-- `harden`
abbrev pub harden_form : Form
harden_form = bare_form (codes "harden") Harden

-- `sfd`
abbrev pub display_form : Form
display_form = bare_form (codes "sfd") Display

-- a check at a level, which is 1 where none is given
abbrev pub check_asked : List Value → Request
check_asked [] = one (Check 1) []
check_asked (amount level ∷ []) = one (Check level) []
check_asked _ = nothing

-- `sfk L`, and `sfk` alone
abbrev pub check_form : Form
check_form = record { front = codes "sfk"; kinds = number 0 3 ∷ []; alone = true; asks = check_asked }

-- the forms that lines have
abbrev pub forms : List Form
forms = read_form ∷ write_form ∷ fill_form ∷ harden_form ∷ display_form ∷ check_form ∷ []

-- the form that begins with a word
abbrev pub form_named : List Form → List ℕ → Option Form
form_named [] front = None
form_named (form ∷ others) front = if bytes_eq front form.front then Some form else form_named others front

-- what the values of a form ask for
abbrev pub asked_by : Form → Result (List Value) ℕ → Result Request LineFault
asked_by form (Ok values) = Ok (form.asks values)
asked_by form (Err column) = Err (record { column = column })

-- whether no token is left
abbrev pub is_none_left : List (List ℕ) → Bool
is_none_left [] = true
is_none_left (token ∷ rest) = false

-- the kinds of the tokens behind a form's word: none where it stands alone and may
abbrev pub kinds_behind : Form → List (List ℕ) → List Kind
kinds_behind form rest = if form.alone && is_none_left rest then [] else form.kinds

-- what a word asks for with the tokens behind it; an unknown word is wrong where it stands
abbrev pub asked_in : Option Form → ℕ → List (List ℕ) → Result Request LineFault
asked_in None column rest = Err (record { column = 1 })
asked_in (Some form) column rest = asked_by form (values_of column (kinds_behind form rest) rest)

-- what tokens ask for
abbrev pub parsed_tokens : List (List ℕ) → Result Request LineFault
parsed_tokens [] = Err (record { column = 1 })
parsed_tokens (front ∷ rest) = asked_in (form_named forms front) (length front + 2) rest

-- what a line asks: an empty line and a comment, which begins with `#`, ask for nothing
abbrev pub parsed : List ℕ → Result Request LineFault
parsed [] = Ok nothing
parsed (b ∷ rest) = if b == 35 then Ok nothing else parsed_tokens (tokens (b ∷ rest))

-- a request without the bytes that it gives
abbrev pub what_of : Request → What
what_of nothing = what.Nothing
what_of (one call sent) = what.One call (length sent)
what_of (turns count) = what.Turns count

-- what is asked, or where the line stops to be one
abbrev pub what_in : Result Request LineFault → Result What LineFault
what_in (Ok request) = Ok (what_of request)
what_in (Err fault) = Err fault

-- the line of what is asked, which is of no session
abbrev pub line_of : What → Line
line_of asked = record { who = None; what = asked }

-- the answer to a line by what is asked
abbrev pub whole : Result What LineFault → Result Line LineFault
whole (Ok asked) = Ok (line_of asked)
whole (Err fault) = Err fault

-- the answer to a line
abbrev pub line_in : Result Request LineFault → Result Line LineFault
line_in answer = whole (what_in answer)

-- the bytes that a request gives
abbrev pub bytes_given : Request → List ℕ
bytes_given nothing = []
bytes_given (one call sent) = sent
bytes_given (turns count) = []

-- the bytes that a line gives, and none where it is refused
abbrev pub given_in : Result Request LineFault → List ℕ
given_in (Ok request) = bytes_given request
given_in (Err fault) = []
