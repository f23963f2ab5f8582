-- What of a script was served, and what a line of it asks.
use Rattle.std.specs.Prelude.{◌≡◌, ◌⊎◌, ◌<◌, ◌≤◌, ℕ, ◌+◌, ◌-◌, Bool, true, false, List, [], ◌∷◌, ◌++◌, length, map, take, drop, Result, Ok, Err}
use Rattle.cckd_base.specs.declared.call.Call.{Call}
use Rattle.cckd_base.specs.declared.call.Call.TheVariants.{Close}
use Rattle.cckd_script.specs.declared.misread.Misreading.{Misreading}
use Rattle.cckd_script.specs.declared.misread.Misreading.TheVariants as misreading
use Rattle.cckd_script.specs.declared.parse.What.{What}
use Rattle.cckd_script.specs.declared.parse.What.TheVariants as what
use Rattle.cckd_script.specs.Lines.{lines_of, ended_lines, StopsAtLine}
use Rattle.cckd_script.specs.Items.{Item, asked, unread, line_items, items_of_lines, script_items}
use Rattle.cckd_lines.specs.declared.lines.Next.{Next}
use Rattle.cckd_lines.specs.declared.lines.Next.TheVariants as next
use Rattle.cckd_engine.specs.Calls.{CanAsk}
use Rattle.cckd_console.specs.Served.{Served, item_in}

-- the items behind a script
abbrev pub closing : List Item
closing = asked Close [] ∷ []

-- what was served is of the lines that ended in what was taken of the script, within its limit
pub record OfTheTaken (limit : ℕ) (script left : List ℕ) (served : List Served) : Type 0 where
  pub taken : List ℕ
  pub split : script ≡ taken ++ left
  pub within : length taken ≤ limit
  pub asked : map item_in served ≡ items_of_lines (ended_lines taken)

-- it is of a front of the script's items
abbrev pub OfAFront : ℕ → List ℕ → List Served → Type 0
OfAFront limit script served = (more : List Item) × (map item_in served ++ more ≡ script_items limit script)

-- a script was read to its end, but never further than one byte past its limit
abbrev pub IsReadOut : ℕ → List ℕ → List ℕ → Type 0
IsReadOut limit script left = left ≡ drop (limit + 1) script

-- it is of the whole script, which was read out
pub record OfTheScript (limit : ℕ) (script left : List ℕ) (served : List Served) : Type 0 where
  pub asked : map item_in served ≡ script_items limit script
  pub read : IsReadOut limit script left

-- ---- where the output failed

-- the most bytes of a script that are taken ahead of the line that is served
abbrev pub most_ahead : ℕ
most_ahead = 196608

-- a script was read up to the end of a line, and within its limit a few bytes were taken ahead
pub record IsTakenTo (limit : ℕ) (script left read : List ℕ) : Type 0 where
  pub ahead : List ℕ
  pub split : script ≡ read ++ (ahead ++ left)
  pub ends : StopsAtLine read ⊎ (ahead ++ left ≡ [])
  pub few : length ahead ≤ most_ahead
  pub within : length read + length ahead ≤ limit

-- the last line of a text asks something
pub record LastAsks (text : List ℕ) : Type 0 where
  pub earlier : List (List ℕ)
  pub last : List ℕ
  pub lines : lines_of text ≡ earlier ++ last ∷ []
  pub asks : 0 < length (line_items last)

-- what was served is of the lines up to one that asks something, and hardly more was taken
pub record OfALine (limit : ℕ) (script left : List ℕ) (served : List Served) : Type 0 where
  pub read : List ℕ
  pub taken : IsTakenTo limit script left read
  pub last : LastAsks read
  pub asked : map item_in served ≡ items_of_lines (lines_of read)

-- The last of what was served answers a line, and hardly more was taken; or it refuses what is past the limit, or is the close,
-- and the script was read out.
pub data EndsIn (limit : ℕ) (script left : List ℕ) (served : List Served) : Type 0 where
  in_a_line : OfALine limit script left served → EndsIn limit script left served
  past_the_limit : limit < length script → map item_in served ++ closing ≡ script_items limit script → IsReadOut limit script left
      → EndsIn limit script left served
  in_the_close : OfTheScript limit script left served → EndsIn limit script left served

-- it is of a front of the script's items, and that is all that was taken but for a few bytes ahead
pub record OfACut (limit : ℕ) (script left : List ℕ) (served : List Served) : Type 0 where
  pub front : OfAFront limit script served
  pub taken : EndsIn limit script left served

-- ---- one line

-- a call that is served, where it gives so many bytes
abbrev pub IsServed : Call → ℕ → Type 0
IsServed call given = CanAsk call given 65536

-- What a line that isn't too long asks, by its items: nothing, a call that is served, whose bytes stand at the front of a
-- buffer, or a refusal.
abbrev pub IsAskedBy : List ℕ → List ℕ → Result What Misreading → Type 0
IsAskedBy line given (Ok what.Nothing) = line_items line ≡ []
IsAskedBy line given (Ok (what.One call count)) =
    IsServed call count × (count ≤ length given) × (line_items line ≡ asked call (take count given) ∷ [])
IsAskedBy line given (Ok (what.Turns count)) = ⊥
IsAskedBy line given (Err why) = line_items line ≡ unread why ∷ []

-- the items of what comes next in a script
abbrev pub items_of_next : List ℕ → Next → List Item
items_of_next room (next.Line start end) = line_items (take (end - start) (drop start room))
items_of_next room next.LineTooLong = unread misreading.LineTooLong ∷ []
items_of_next room next.ScriptTooLong = unread misreading.ScriptTooLong ∷ []
items_of_next room next.End = []

-- whether nothing of a script is served behind this
abbrev pub is_last : Next → Bool
is_last (next.Line start end) = false
is_last next.LineTooLong = false
is_last next.ScriptTooLong = true
is_last next.End = true

-- how many calls it may ask at most
abbrev pub calls_of_next : Next → ℕ
calls_of_next (next.Line start end) = 1
calls_of_next next.LineTooLong = 0
calls_of_next next.ScriptTooLong = 0
calls_of_next next.End = 0
