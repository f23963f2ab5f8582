-- What a line asks is served.
use Rattle.std.proofs.Common.{◌≡◌, ℕ, ◌+◌, ◌≤◌, ◌==◌, Bool, true, false, cond, ◌&&◌, Option, Some, None, List, [], ◌∷◌, ◌++◌, length, nat_le, nat_lt, replicate, Result, Ok, Err, refl, sym, ◌∙◌, ap, subst, arith}
use Rattle.std.specs.Str.{bytes_eq}
use Rattle.std.specs.List.{AllByRecursion}
use Rattle.std.proofs.lemmas.List.{length-append, length-replicate, length-take}
use Rattle.std.proofs.lemmas.Bool.{cond-false, le-ltb, and_parts, leb-true}
use Rattle.cckd_base.specs.declared.call.Call.{Call}
use Rattle.cckd_base.specs.declared.call.Call.TheVariants as call
use Rattle.cckd_base.specs.Put.{IsPut}
use Rattle.cckd_base.specs.Track.{end_mark}
use Rattle.cckd_script.specs.declared.misread.Misreading.{Misreading}
use Rattle.cckd_script.specs.declared.misread.Misreading.TheVariants as misreading
use Rattle.cckd_script.specs.declared.parse.Line.{Line}
use Rattle.cckd_script.specs.declared.parse.LineFault.{LineFault}
use Rattle.cckd_script.specs.declared.parse.What.{What}
use Rattle.cckd_script.specs.Grammar.{Kind, word, number, bytes, Value, nothing, amount, given, number_within, bytes_within, is_within, spelled_number, spelled_bytes, value_of, value_before, values_of}
use Rattle.cckd_script.specs.Lines.{tokens, line_limit}
use Rattle.cckd_script.specs.Items.{asked, items_of, line_items}
use Rattle.cckd_script.specs.Filled.{filled_track}
use Rattle.cckd_script.specs.Parse.{Request, Form, read_form, write_form, fill_form, check_form, forms, form_named, asked_by, asked_in, parsed_tokens, parsed, line_in, given_in}
use Rattle.cckd_script.specs.Parse as request
use Rattle.cckd_base.specs.declared.geometry.Addr.{Addr}
use Rattle.cckd_engine.specs.Calls.{HasLevel, is_served}
use Rattle.cckd_console.specs.Script.{IsServed, IsAskedBy}

-- ---- values within their kinds

-- a value is one of a kind, where numbers and counts of bytes are at most so much
abbrev pub IsOf : Kind → Value → Type 0
IsOf (word text) nothing = Unit {0}
IsOf (number least most) (amount n) = n ≤ most
IsOf (bytes least most) (given bs) = length bs ≤ most
IsOf _ _ = ⊥

abbrev pub AreOf : List Kind → List Value → Type 0
AreOf [] [] = Unit {0}
AreOf (kind ∷ kinds) (value ∷ values) = IsOf kind value × AreOf kinds values
AreOf _ _ = ⊥

-- what may have been read by a kind
IfIs : Kind → Option Value → Type 0
IfIs kind None = Unit {0}
IfIs kind (Some value) = IsOf kind value

low : (least most n : ℕ) → is_within least most n ≡ true → n ≤ most
low least most n e = leb-true n most (and_parts (nat_le least n) (nat_le n most) e).1

if_number : (least most n : ℕ) (b : Bool) → b ≡ is_within least most n → IfIs (number least most) (cond b (Some (amount n)) None)
unfolding IfIs
if_number least most n true e = low least most n (sym e)
if_number least most n false e = tt

if_bytes : (least most : ℕ) (bs : List ℕ) (b : Bool) → b ≡ is_within least most (length bs) → IfIs (bytes least most) (cond b (Some (given bs)) None)
unfolding IfIs
if_bytes least most bs true e = low least most (length bs) (sym e)
if_bytes least most bs false e = tt

if_word : (text : List ℕ) (b : Bool) → IfIs (word text) (cond b (Some nothing) None)
unfolding IfIs
if_word text true = tt
if_word text false = tt

number_is : (least most : ℕ) (n : Option ℕ) → IfIs (number least most) (number_within least most n)
unfolding IfIs
number_is least most None = tt
number_is least most (Some n) = if_number least most n (is_within least most n) refl

bytes_are : (least most : ℕ) (bs : Option (List ℕ)) → IfIs (bytes least most) (bytes_within least most bs)
unfolding IfIs
bytes_are least most None = tt
bytes_are least most (Some bs) = if_bytes least most bs (is_within least most (length bs)) refl

value_is : (kind : Kind) (token : List ℕ) → IfIs kind (value_of kind token)
value_is (word text) token = if_word text (bytes_eq token text)
value_is (number least most) token = number_is least most (spelled_number token)
value_is (bytes least most) token = bytes_are least most (spelled_bytes token)

IfAre : List Kind → Result (List Value) ℕ → Type 0
IfAre kinds (Ok values) = AreOf kinds values
IfAre kinds (Err column) = Unit {0}

before_are : (kind : Kind) (kinds : List Kind) (column : ℕ) (value : Option Value) (more : Result (List Value) ℕ) → IfIs kind value → IfAre kinds more
    → IfAre (kind ∷ kinds) (value_before column value more)
unfolding IfIs IfAre
before_are kind kinds column None more h k = tt
before_are kind kinds column (Some value) (Ok values) h k = (h, k)
before_are kind kinds column (Some value) (Err later) h k = tt

values_are : (column : ℕ) (kinds : List Kind) (rest : List (List ℕ)) → IfAre kinds (values_of column kinds rest)
unfolding IfAre
values_are column [] [] = tt
values_are column [] (token ∷ rest) = tt
values_are column (kind ∷ kinds) [] = tt
values_are column (kind ∷ kinds) (token ∷ rest) =
    before_are kind kinds column (value_of kind token) (values_of (column + length token + 1) kinds rest) (value_is kind token)
    (values_are (column + length token + 1) kinds rest)

-- ---- what the forms request

-- what is requested is served
unfoldable pub IsFit : Request → Type 0
IsFit request.nothing = Unit {0}
IsFit (request.one c bs) = IsServed c (length bs)
IsFit (request.turns count) = ⊥

unfoldable pub IfFit : Result Request LineFault → Type 0
IfFit (Ok r) = IsFit r
IfFit (Err fault) = Unit {0}

-- all that a form requests
record FormFits (form : Form) : Type 0 where
  asks : (values : List Value) → AreOf form.kinds values → IsFit (form.asks values)
  bare : form.alone ≡ true → IsFit (form.asks [])

few_served : (c : Call) (n : ℕ) → is_served c ≡ true → HasLevel c → n ≤ 65535 → IsServed c n
few_served c n served level few = record { served = served; level = level; few = few; room_is = omega arith }

read_fits : (values : List Value) → AreOf read_form.kinds values → IsFit (read_form.asks values)
unfolding IsFit
read_fits [] h = absurd h
read_fits (v ∷ []) h = absurd h.1
read_fits (nothing ∷ w ∷ []) h = absurd h.0
read_fits (given bs ∷ w ∷ []) h = absurd h.0
read_fits (amount c ∷ nothing ∷ []) h = absurd h.1.0
read_fits (amount c ∷ given bs ∷ []) h = absurd h.1.0
read_fits (amount c ∷ amount d ∷ []) h = few_served (call.Read (request.address c d)) 0 refl tt (omega arith)
read_fits (v ∷ w ∷ x ∷ vs) h = absurd h.1.1

write_fits : (values : List Value) → AreOf write_form.kinds values → IsFit (write_form.asks values)
unfolding IsFit
write_fits [] h = absurd h
write_fits (v ∷ []) h = absurd h.1
write_fits (v ∷ w ∷ []) h = absurd h.1.1
write_fits (nothing ∷ w ∷ x ∷ []) h = absurd h.0
write_fits (given bs ∷ w ∷ x ∷ []) h = absurd h.0
write_fits (amount c ∷ nothing ∷ x ∷ []) h = absurd h.1.0
write_fits (amount c ∷ given bs ∷ x ∷ []) h = absurd h.1.0
write_fits (amount c ∷ amount d ∷ nothing ∷ []) h = absurd h.1.1.0
write_fits (amount c ∷ amount d ∷ amount n ∷ []) h = absurd h.1.1.0
write_fits (amount c ∷ amount d ∷ given bs ∷ []) h = few_served (call.Write (request.address c d)) (length bs) refl tt h.1.1.0
write_fits (v ∷ w ∷ x ∷ y ∷ vs) h = absurd h.1.1.1

filled_few : (at : Addr) (count byte : ℕ) → count ≤ 65498 → length (filled_track at count byte) ≤ 65535
filled_few at count byte few =
    omega (
      arith,
      few,
      length-append (replicate count byte ++ []) end_mark,
      length-append (replicate count byte) [],
      length-append (replicate count byte) ([] ++ end_mark),
      length-replicate count byte,
      length-replicate {A = ℕ} 8 255,
    )

fill_fits : (values : List Value) → AreOf fill_form.kinds values → IsFit (fill_form.asks values)
unfolding IsFit
fill_fits [] h = absurd h
fill_fits (v ∷ []) h = absurd h.1
fill_fits (v ∷ w ∷ []) h = absurd h.1.1
fill_fits (v ∷ w ∷ x ∷ []) h = absurd h.1.1.1
fill_fits (nothing ∷ w ∷ x ∷ y ∷ []) h = absurd h.0
fill_fits (given bs ∷ w ∷ x ∷ y ∷ []) h = absurd h.0
fill_fits (amount c ∷ nothing ∷ x ∷ y ∷ []) h = absurd h.1.0
fill_fits (amount c ∷ given bs ∷ x ∷ y ∷ []) h = absurd h.1.0
fill_fits (amount c ∷ amount d ∷ nothing ∷ y ∷ []) h = absurd h.1.1.0
fill_fits (amount c ∷ amount d ∷ given bs ∷ y ∷ []) h = absurd h.1.1.0
fill_fits (amount c ∷ amount d ∷ amount n ∷ nothing ∷ []) h = absurd h.1.1.1.0
fill_fits (amount c ∷ amount d ∷ amount n ∷ amount m ∷ []) h = absurd h.1.1.1.0
fill_fits (amount c ∷ amount d ∷ amount n ∷ given [] ∷ []) h = tt
fill_fits (amount c ∷ amount d ∷ amount n ∷ given (b ∷ []) ∷ []) h =
    few_served (call.Write (request.address c d)) (length (filled_track (request.address c d) n b)) refl tt (filled_few (request.address c d) n b h.1.1.0)
fill_fits (amount c ∷ amount d ∷ amount n ∷ given (b ∷ e ∷ bs) ∷ []) h = tt
fill_fits (v ∷ w ∷ x ∷ y ∷ z ∷ vs) h = absurd h.1.1.1.1

check_fits : (values : List Value) → AreOf check_form.kinds values → IsFit (check_form.asks values)
unfolding IsFit
check_fits [] h = absurd h
check_fits (nothing ∷ []) h = absurd h.0
check_fits (given bs ∷ []) h = absurd h.0
check_fits (amount level ∷ []) h = few_served (call.Check level) 0 refl h.0 (omega arith)
check_fits (v ∷ w ∷ vs) h = absurd h.1

forms_fit : AllByRecursion FormFits forms
unfolding IsFit
forms_fit = (
  record { asks = read_fits; bare = λ e. absurd (cc e) },
  (
    record { asks = write_fits; bare = λ e. absurd (cc e) },
    (
      record { asks = fill_fits; bare = λ e. absurd (cc e) },
      (
        record { asks = λ values h. few_served call.Harden 0 refl tt (omega arith); bare = λ e. absurd (cc e) },
        (
          record { asks = λ values h. few_served call.Display 0 refl tt (omega arith); bare = λ e. absurd (cc e) },
          (
            record { asks = check_fits; bare = λ e. few_served (call.Check 1) 0 refl (omega arith) (omega arith) },
            tt,
          ),
        ),
      ),
    ),
  ),
)

-- ---- what a line asks

asked_fits : (form : Form) → FormFits form → (r : Result (List Value) ℕ) → IfAre form.kinds r → IfFit (asked_by form r)
unfolding IfAre IfFit
asked_fits form fits (Ok values) h = fits.asks values h
asked_fits form fits (Err column) h = tt

bare_fits : (form : Form) → FormFits form → form.alone ≡ true → (r : Result (List Value) ℕ) → IfAre [] r → IfFit (asked_by form r)
unfolding IfAre IfFit
bare_fits form fits alone (Ok []) h = fits.bare alone
bare_fits form fits alone (Ok (v ∷ vs)) h = absurd h
bare_fits form fits alone (Err column) h = tt

behind_fits : (form : Form) → FormFits form → (b : Bool) → (b ≡ true → form.alone ≡ true) → (column : ℕ) (rest : List (List ℕ))
    → IfFit (asked_by form (values_of column (cond b [] form.kinds) rest))
behind_fits form fits true alone column rest = bare_fits form fits (alone refl) (values_of column [] rest) (values_are column [] rest)
behind_fits form fits false alone column rest = asked_fits form fits (values_of column form.kinds rest) (values_are column form.kinds rest)

IfForm : Option Form → Type 0
IfForm None = Unit {0}
IfForm (Some form) = FormFits form

form_by : (b : Bool) (form : Form) (other : Option Form) → FormFits form → IfForm other → IfForm (cond b (Some form) other)
unfolding IfForm
form_by true form other fits h = fits
form_by false form other fits h = h

form_fits : (all : List Form) (front : List ℕ) → AllByRecursion FormFits all → IfForm (form_named all front)
unfolding IfForm
form_fits [] front h = tt
form_fits (form ∷ others) front h = form_by (bytes_eq front form.front) form (form_named others front) h.0 (form_fits others front h.1)

in_fits : (form : Option Form) (column : ℕ) (rest : List (List ℕ)) → IfForm form → IfFit (asked_in form column rest)
unfolding IfForm IfFit
in_fits None column rest h = tt
in_fits (Some form) column rest h =
    behind_fits form h (form.alone && request.is_none_left rest) (λ e. (and_parts form.alone (request.is_none_left rest) e).0) column rest

tokens_fit : (parts : List (List ℕ)) → IfFit (parsed_tokens parts)
unfolding IfFit
tokens_fit [] = tt
tokens_fit (front ∷ rest) = in_fits (form_named forms front) (length front + 2) rest (form_fits forms front forms_fit)

line_by : (b : Bool) (r : Result Request LineFault) → IfFit r → IfFit (cond b (Ok request.nothing) r)
unfolding IfFit IsFit
line_by true r h = tt
line_by false r h = h

pub line_fits : (line : List ℕ) → IfFit (parsed line)
unfolding IfFit IsFit
line_fits [] = tt
line_fits (b ∷ rest) = line_by (b == 35) (parsed_tokens (tokens (b ∷ rest))) (tokens_fit (tokens (b ∷ rest)))

-- what a parsed line asks, as the code has it
abbrev pub what_asked : Result Line LineFault → Result What Misreading
what_asked (Ok line) = Ok line.what
what_asked (Err fault) = Err (misreading.LineFault fault.column)

line_items_are : (line : List ℕ) → length line ≤ line_limit → line_items line ≡ items_of (parsed line)
line_items_are line short = cond-false (nat_lt line_limit (length line)) _ _ (le-ltb line_limit (length line) short)

asked_of : (line before buffer : List ℕ) (r : Result Request LineFault) → IfFit r → line_items line ≡ items_of r
    → IsPut 0 (length (given_in r)) (given_in r) before buffer → IsAskedBy line buffer (what_asked (line_in r))
unfolding IfFit IsFit
asked_of line before buffer (Ok request.nothing) fit is put = is
asked_of line before buffer (Ok (request.one c bs)) fit is put = (fit, omega (arith, length-take (length bs) buffer, ap length put.front), is ∙ ap (λ (given : List ℕ). asked c given ∷ []) (sym put.front))
asked_of line before buffer (Ok (request.turns count)) fit is put = absurd fit
asked_of line before buffer (Err fault) fit is put = is

-- a line that was parsed
pub line_asked : (line before buffer : List ℕ) (r : Result Line LineFault) → length line ≤ line_limit → r ≡ line_in (parsed line)
    → IsPut 0 (length (given_in (parsed line))) (given_in (parsed line)) before buffer → IsAskedBy line buffer (what_asked r)
line_asked line before buffer r short e put =
    subst (λ (x : Result Line LineFault). IsAskedBy line buffer (what_asked x)) (sym e)
    (asked_of line before buffer (parsed line) (line_fits line) (line_items_are line short) put)

pub asked_ok : (line buffer : List ℕ) (r : Result Line LineFault) (l : Line) → r ≡ Ok l → IsAskedBy line buffer (what_asked r) → IsAskedBy line buffer (Ok l.what)
asked_ok line buffer r l e h = subst (λ (x : Result Line LineFault). IsAskedBy line buffer (what_asked x)) e h

pub asked_err : (line buffer : List ℕ) (r : Result Line LineFault) (fault : LineFault) → r ≡ Err fault → IsAskedBy line buffer (what_asked r)
    → IsAskedBy line buffer (Err (misreading.LineFault fault.column))
asked_err line buffer r fault e h = subst (λ (x : Result Line LineFault). IsAskedBy line buffer (what_asked x)) e h
