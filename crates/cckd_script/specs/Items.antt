-- What has a reply in a script: calls with the bytes that they give, and lines that are refused.
use Rattle.std.specs.Prelude.{ℕ, nat_lt, if◌then◌else◌, List, [], ◌∷◌, ◌++◌, length, take, replicate, flat_map, Result, Ok, Err}
use Rattle.cckd_base.specs.declared.call.Call.{Call}
use Rattle.cckd_base.specs.declared.call.Call.TheVariants.{Turn, Close}
use Rattle.cckd_script.specs.declared.parse.LineFault.{LineFault}
use Rattle.cckd_script.specs.declared.misread.Misreading.{Misreading}
use Rattle.cckd_script.specs.declared.misread.Misreading.TheVariants as misreading
use Rattle.cckd_script.specs.Lines.{line_limit, lines_of, ended_lines}
use Rattle.cckd_script.specs.Parse.{Request, nothing, one, turns, parsed}
use Rattle.cckd_script.specs.Text.{Entry, answered, misread}

-- what has one reply: a call with the bytes that it gives, or why a line or the script is refused
pub data Item : Type 0 where
  asked : Call → List ℕ → Item
  unread : Misreading → Item

-- what an entry is the answer to
abbrev pub item_of : Entry → Item
item_of (answered call given answer bytes) = asked call given
item_of (misread why) = unread why

-- the items that are requested: as many steps of the collector as are asked for, one reply each
abbrev pub requested : Request → List Item
requested nothing = []
requested (one call given) = asked call given ∷ []
requested (turns count) = replicate count (asked Turn [])

-- the items of a line that was read with this answer
abbrev pub items_of : Result Request LineFault → List Item
items_of (Ok request) = requested request
items_of (Err fault) = unread (misreading.LineFault fault.column) ∷ []

-- the items of a line: one that is too long is refused, also where it begins with `#`
abbrev pub line_items : List ℕ → List Item
line_items line =
    if nat_lt line_limit (length line) then unread misreading.LineTooLong ∷ [] else items_of (parsed line)

-- the items of lines, in their order
abbrev pub items_of_lines : List (List ℕ) → List Item
items_of_lines lines = flat_map line_items lines

-- the items of a script that has more bytes than the limit: those of the lines that end within it, and then the refusal
abbrev pub cut_items : ℕ → List ℕ → List Item
cut_items limit script =
    items_of_lines (ended_lines (take limit script)) ++ unread misreading.ScriptTooLong ∷ []

-- The items of a script, whose lines may have so many bytes in all, oldest first, with the call that ends a run behind
-- them.
abbrev pub script_items : ℕ → List ℕ → List Item
script_items limit script =
    (if nat_lt limit (length script) then cut_items limit script else items_of_lines (lines_of script))
    ++ asked Close [] ∷ []
