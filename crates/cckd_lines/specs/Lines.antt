-- A script, line by line, as it is taken.
use Rattle.std.specs.Prelude.{◌≡◌, ◌<◌, ◌≤◌, ℕ, ◌+◌, ◌-◌, ◌==◌, nat_lt, if◌then◌else◌, Bool, true, ⊤, List, [], ◌∷◌, ◌++◌, length, take, drop}
use Rattle.cckd_script.specs.Lines.{HasNoFeed, line_limit}
use Rattle.cckd_shelf.specs.World.{World}
use Rattle.cckd_lines.specs.declared.lines.Place.{Place}
use Rattle.cckd_lines.specs.declared.lines.Next.{Next}
use Rattle.cckd_lines.specs.declared.lines.Next.TheVariants as next

-- whether a byte ends a line
abbrev pub is_feed : ℕ → Bool
is_feed b = b == 10

-- the bytes of a room that were taken and belong to no line yet that was handed out
abbrev pub pending : List ℕ → Place → List ℕ
pending room place = take (place.end - place.start) (drop place.start room)

-- A room with what was taken of a script, the place in it, and what is left to take.
pub record Held : Type 0 where
  pub room : List ℕ
  pub place : Place
  pub script : List ℕ

abbrev pub held : List ℕ → Place → List ℕ → Held
held room place script = record { room = room; place = place; script = script }

-- all that is ahead in it, from the start of the next line on
abbrev pub text_of : Held → List ℕ
text_of h = pending h.room h.place ++ h.script

-- how many bytes from the start of the next line on are within the script's limit
abbrev pub allowance : Place → ℕ
allowance place = place.left + (place.end - place.start)

-- a place within a room
pub record IsPlace (room : List ℕ) (place : Place) : Type 0 where
  pub order : place.start ≤ place.end
  pub within : place.end ≤ length room

-- a part of the script is taken, and nothing else happens
pub record OnlyTakes (old new : World) : Type 0 where
  pub files : new.files ≡ old.files
  pub events : new.events ≡ old.events

-- a text begins with a line: its line feed follows, or the text ends with it
pub data BeginsWith (line text rest : List ℕ) (ended : Bool) : Type 0 where
  fed : HasNoFeed line → text ≡ line ++ 10 ∷ rest → BeginsWith line text rest ended
  last : HasNoFeed line → text ≡ line → rest ≡ [] → ended ≡ true → BeginsWith line text rest ended

-- a feed stands at this place, and none before it
pub record IsFirstFeed (text : List ℕ) (at : ℕ) : Type 0 where
  pub within : at < length text
  pub before : HasNoFeed (take at text)
  pub split : text ≡ take at text ++ 10 ∷ drop (at + 1) text

-- another place, behind the same beginning, to which more of the script was taken, or where the script has ended
pub record Grows (old new : Place) : Type 0 where
  pub start : new.start ≡ old.start
  pub shared : new.end + new.left ≡ old.end + old.left
  pub left : new.left ≤ old.left
  pub more : new.left ≡ old.left → new.ended ≡ true

-- at its end nothing of the script is left
abbrev pub IsAtEnd : Place → List ℕ → Type 0
IsAtEnd place script = place.ended ≡ true → script ≡ []

-- what was taken more of a script stands behind what was pending
pub record TakesMore (old new : Held) : Type 0 where
  pub rest : text_of new ≡ text_of old
  pub ended : IsAtEnd new.place new.script

-- the next line of what was ahead, and what is ahead behind it
pub record IsLine (line : List ℕ) (old new : Held) : Type 0 where
  pub begins : BeginsWith line (text_of old) (text_of new) new.place.ended
  pub some : 0 < length (text_of old)
  pub shared : allowance old.place + length (text_of new) ≡ allowance new.place + length (text_of old)

-- nothing is pending
abbrev pub IsEmpty : Place → Type 0
IsEmpty place = place.end ≤ place.start

-- What comes next, and what is ahead behind it. Of a script that is too long one byte past the limit was taken.
abbrev pub IsNext : Held → Held → Next → Type 0
IsNext old new (next.Line start end) = IsLine (take (end - start) (drop start new.room)) old new × (end - start ≤ line_limit)
IsNext old new next.LineTooLong = (line : List ℕ) × IsLine line old new × (line_limit < length line)
IsNext old new next.ScriptTooLong =
    HasNoFeed (take (allowance old.place) (text_of old)) × (allowance old.place < length (text_of old))
    × (text_of new ≡ drop (allowance old.place + 1) (text_of old)) × IsEmpty new.place
IsNext old new next.End = (text_of old ≡ []) × (text_of new ≡ []) × (allowance new.place ≡ allowance old.place)

-- the rest of a line that is too long is passed, or the limit and a byte behind it
abbrev pub Passes : ℕ → List ℕ → Held → Next → Type 0
Passes limit text new (next.Line start end) = ⊥
Passes limit text new next.LineTooLong =
    (line : List ℕ) × BeginsWith line text (text_of new) new.place.ended
    × (limit + length (text_of new) ≡ allowance new.place + length text)
Passes limit text new next.ScriptTooLong =
    HasNoFeed (take limit text) × (limit < length text) × (text_of new ≡ drop (limit + 1) text) × IsEmpty new.place
Passes limit text new next.End = ⊥

-- a line of so many bytes in a room is handed out, or it is too long
abbrev pub line_next : ℕ → ℕ → Next
line_next start len = if nat_lt line_limit len then next.LineTooLong else next.Line start (start + len)

-- a line that was found lies in the room
abbrev pub LiesIn : List ℕ → Next → Type 0
LiesIn room (next.Line start end) = (start ≤ end) × (end ≤ length room)
LiesIn room next.LineTooLong = ⊤
LiesIn room next.ScriptTooLong = ⊤
LiesIn room next.End = ⊤

-- a line that was found isn't too long
abbrev pub IsShort : Next → Type 0
IsShort (next.Line start end) = end - start ≤ line_limit
IsShort next.LineTooLong = ⊤
IsShort next.ScriptTooLong = ⊤
IsShort next.End = ⊤

-- after a line fewer bytes are left within the limit
abbrev pub Advances : ℕ → ℕ → Next → Type 0
Advances before after (next.Line start end) = after < before
Advances before after next.LineTooLong = after < before
Advances before after next.ScriptTooLong = ⊤
Advances before after next.End = ⊤

-- the beginning of a text, within the limit, was taken up to here, and no line of it ends there
abbrev pub BreaksOff : ℕ → List ℕ → List ℕ → Type 0
BreaksOff limit text left = (partial : List ℕ) × HasNoFeed partial × (text ≡ partial ++ left) × (length partial ≤ limit)
