-- How the lines are spelled that ask for something.
use Rattle.std.specs.Prelude.{◌≡◌, ◌≤◌, ◌⊎◌, ℕ, List, [], ◌∷◌, length, codes, decimal, Result, Ok}
use Rattle.hex.specs.Hex.{decode_of}
use Rattle.cckd_base.specs.declared.geometry.Addr.{Addr}
use Rattle.cckd_base.specs.declared.call.Call.{Call}
use Rattle.cckd_base.specs.declared.call.Call.TheVariants.{Read, Write, Harden, Display, Check}
use Rattle.cckd_script.specs.declared.parse.Line.{Line}
use Rattle.cckd_script.specs.declared.parse.LineFault.{LineFault}
use Rattle.cckd_script.specs.Lines.{joined}
use Rattle.cckd_script.specs.Filled.{filled_track}
use Rattle.cckd_script.specs.Parse.{Request, nothing, one, turns, what_of, line_of, bytes_given}

-- digits of either case, two for each of these bytes
abbrev pub IsHex : List ℕ → List ℕ → Type 0
IsHex digits bytes = decode_of digits ≡ Ok bytes

-- an address that a line can name
abbrev pub IsNamed : Addr → Type 0
IsNamed at = (at.cyl ≤ 65535) × (at.head ≤ 65535)

-- a word and an address behind it, and more tokens
abbrev pub addressed : List ℕ → Addr → List (List ℕ) → List ℕ
addressed front at more = joined (front ∷ decimal at.cyl ∷ decimal at.head ∷ more)

-- `write C H HEX` for these bytes, of which there are 1 to 65,535
pub record IsWriteLine (at : Addr) (track line : List ℕ) : Type 0 where
  pub digits : List ℕ
  pub spelled : IsHex digits track
  pub some : 1 ≤ length track
  pub short : length track ≤ 65535
  pub is : line ≡ addressed (codes "write") at (digits ∷ [])

-- `fill C H N XX` for these bytes: the track with so many equal bytes in its record one
pub record IsFillLine (at : Addr) (track line : List ℕ) : Type 0 where
  pub count : ℕ
  pub byte : ℕ
  pub digits : List ℕ
  pub spelled : IsHex digits (byte ∷ [])
  pub short : count ≤ 65498
  pub filled : track ≡ filled_track at count byte
  pub is : line ≡ addressed (codes "fill") at (decimal count ∷ digits ∷ [])

-- `sfk L`, or `sfk` for level 1
abbrev pub IsCheckLine : ℕ → List ℕ → Type 0
IsCheckLine level line = ((level ≤ 3) × (line ≡ joined (codes "sfk" ∷ decimal level ∷ []))) ⊎ ((level ≡ 1) × (line ≡ codes "sfk"))

-- the line of a call that gives these bytes
abbrev pub IsCallLine : Call → List ℕ → List ℕ → Type 0
IsCallLine (Read at) sent line = IsNamed at × (sent ≡ []) × (line ≡ addressed (codes "read") at [])
IsCallLine (Write at) sent line = IsNamed at × (IsWriteLine at sent line ⊎ IsFillLine at sent line)
IsCallLine Harden sent line = (sent ≡ []) × (line ≡ codes "harden")
IsCallLine Display sent line = (sent ≡ []) × (line ≡ codes "sfd")
IsCallLine (Check level) sent line = (sent ≡ []) × IsCheckLine level line
IsCallLine _ sent line = ⊥

-- the line of a request: nothing is asked by an empty line and by a comment, and by no other
abbrev pub IsLineOf : Request → List ℕ → Type 0
IsLineOf nothing line = (line ≡ []) ⊎ ((rest : List ℕ) × (line ≡ 35 ∷ rest))
IsLineOf (one call sent) line = IsCallLine call sent line
IsLineOf (turns count) line = ⊥

-- a line was answered by a request, and these are the bytes that it gives
abbrev pub IsAnswered : Request → Result Line LineFault → List ℕ → Type 0
IsAnswered request answer sent = (answer ≡ Ok (line_of (what_of request))) × (sent ≡ bytes_given request)
