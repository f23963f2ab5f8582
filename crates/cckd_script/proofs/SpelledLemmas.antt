-- Lines by their spelling: what has the tokens of a form asks for it, and nothing else does.
use Rattle.std.proofs.Common.{◌≡◌, ◌↔◌, inl, inr, ℕ, ◌+◌, ◌≤◌, ◌==◌, Bool, true, false, if◌then◌else◌, List, [], ◌∷◌, ◌++◌, length, take, drop, codes, decimal, Option, Some, None, Result, Ok, Err, refl, sym, ◌∙◌, ap, subst, arith, lit<}
use Rattle.std.specs.List.{list_all}
use Rattle.std.specs.Result.{result_ok, result_unwrap_or}
use Rattle.std.specs.Str.{bytes_eq}
use Rattle.std.specs.Str.Parse.{AllDigits}
use Rattle.std.proofs.lemmas.Bool.{and_parts, false≢true}
use Rattle.std.proofs.lemmas.Bool.Decides.{nat_tests}
use Rattle.std.proofs.lemmas.Fmt.{decimal_is_IsNumeral}
use Rattle.std.proofs.lemmas.List.Sums.{list_all-from_AllPass}
use Rattle.std.proofs.lemmas.Slice.Eq.{bytes_eq-Decides}
use Rattle.hex.specs.Hex.{decode_of, is_hex_digit}
use Rattle.hex.specs.declared.error.FromHexError.{FromHexError}
use Rattle.hex.proofs.HexLemmas.{decode_of-ok}
use Rattle.cckd_base.specs.declared.geometry.Addr.{Addr}
use Rattle.cckd_base.specs.declared.call.Call.{Call}
use Rattle.cckd_base.specs.declared.call.Call.TheVariants.{Read, Write, GetRecord, PutRecord, Harden, Turn, Add, Merge, Drop, Compress, Display, Check, Close}
use Rattle.cckd_script.specs.declared.parse.Line.{Line}
use Rattle.cckd_script.specs.declared.parse.LineFault.{LineFault}
use Rattle.cckd_script.specs.Lines.{begun, tokens, joined}
use Rattle.cckd_script.specs.Grammar.{Kind, number, bytes, Value, nothing, amount, given, spelled_bytes, values_of}
use Rattle.cckd_script.specs.Inside.{coordinate, behind}
use Rattle.cckd_script.specs.Parse.{Request, nothing as nothing_asked, one, turns, Form, forms, form_named, kinds_behind, asked_by, asked_in, parsed_tokens, parsed, read_form, write_form, fill_form, harden_form, display_form, check_form, what_of, line_of, line_in, given_in, bytes_given}
use Rattle.cckd_script.specs.Spelling.{IsHex, IsNamed, addressed, IsWriteLine, IsFillLine, IsCheckLine, IsLineOf, IsAnswered}
use Rattle.cckd_script.proofs.TokenLemmas.{first_length, tokens_first, joined_tokens, tokens_digits, tokens_digits_alone}
use Rattle.cckd_script.proofs.GrammarLemmas.{Spells, AreSpelled, KindsFit, spelled_to, spelled_from}

-- a form's word with tokens behind it that spell values asks by them
pub form_from : (form : Form) (front : List ℕ) (values : List Value) (rest : List (List ℕ)) → form_named forms front ≡ Some form
    → KindsFit (kinds_behind form rest) → AreSpelled (kinds_behind form rest) values rest → parsed_tokens (front ∷ rest) ≡ Ok (form.asks values)
form_from form front values rest named fit are =
    ap (λ (o : Option Form). asked_in o (length front + 2) rest) named
    ∙ ap (asked_by form) (spelled_from (length front + 2) (kinds_behind form rest) values rest fit are)

-- what asks for something has a form's word with tokens behind it that spell values, which ask for it
pub record IsForm (form : Form) (values : List Value) (front : List ℕ) (rest : List (List ℕ)) (request : Request) : Type 0 where
  pub named : form_named forms front ≡ Some form
  pub are : AreSpelled (kinds_behind form rest) values rest
  pub asked : form.asks values ≡ request

by_form : (form : Form) (r : Result (List Value) ℕ) (request : Request) → asked_by form r ≡ Ok request
    → (values : List Value) × (r ≡ Ok values) × (form.asks values ≡ request)
by_form form (Ok values) request e = (values, refl, cc)
by_form form (Err column) request e = cc e

by_name : (o : Option Form) (front : List ℕ) (rest : List (List ℕ)) (request : Request) → form_named forms front ≡ o
    → asked_in o (length front + 2) rest ≡ Ok request
    → (form : Form) × (values : List Value) × IsForm form values front rest request
by_name None front rest request named e = cc e
by_name (Some form) front rest request named e =
    let parts = by_form form (values_of (length front + 2) (kinds_behind form rest) rest) request e in
    (form, parts.0, record { named = named; are = spelled_to (length front + 2) (kinds_behind form rest) parts.0 rest parts.1; asked = parts.2 })

pub form_to : (front : List ℕ) (rest : List (List ℕ)) (request : Request) → parsed_tokens (front ∷ rest) ≡ Ok request
    → (form : Form) × (values : List Value) × IsForm form values front rest request
form_to front rest request e = by_name (form_named forms front) front rest request refl e

-- ---- what the tokens of a form say

-- a kind and more kinds are spelled by a token and more tokens
first_spelled : (kind : Kind) (kinds : List Kind) (values : List Value) (parts : List (List ℕ)) → AreSpelled (kind ∷ kinds) values parts
    → (v : Value) × (vs : List Value) × (t : List ℕ) × (ts : List (List ℕ)) × (values ≡ v ∷ vs) × (parts ≡ t ∷ ts) × Spells kind v t × AreSpelled kinds vs ts
first_spelled kind kinds [] parts are = absurd are
first_spelled kind kinds (v ∷ vs) [] are = absurd are
first_spelled kind kinds (v ∷ vs) (t ∷ ts) are = (v, vs, t, ts, refl, refl, are.0, are.1)

-- and no kind by no token
none_spelled : (values : List Value) (parts : List (List ℕ)) → AreSpelled [] values parts → (values ≡ []) × (parts ≡ [])
none_spelled [] [] are = (refl, refl)
none_spelled [] (t ∷ ts) are = absurd are
none_spelled (v ∷ vs) parts are = absurd are

number_said : (least most : ℕ) (v : Value) (t : List ℕ) → Spells (number least most) v t → (n : ℕ) × (v ≡ amount n) × (t ≡ decimal n) × (n ≤ most)
number_said least most nothing t is = absurd is
number_said least most (amount n) t is = (n, refl, is.0, is.2)
number_said least most (given bs) t is = absurd is

decodes : (r : Result (List ℕ) FromHexError) (bs : List ℕ) → result_ok r ≡ Some bs → r ≡ Ok bs
decodes (Ok found) bs e = let same : found ≡ bs = cc in ap (λ (xs : List ℕ). Ok xs) same
decodes (Err fault) bs e = cc e

hex_by : (dash : Bool) (t bs : List ℕ) → 1 ≤ length bs → (if dash then Some [] else result_ok (decode_of t)) ≡ Some bs → IsHex t bs
hex_by true t bs some e = let same : [] ≡ bs = cc in
    let zero : length bs ≡ 0 = ap (λ (xs : List ℕ). length xs) (sym same) in absurd (omega (arith, zero, some))
hex_by false t bs some e = decodes (decode_of t) bs e

hex_of : (t bs : List ℕ) → 1 ≤ length bs → spelled_bytes t ≡ Some bs → IsHex t bs
hex_of [] bs some e = cc e
hex_of (c ∷ t) bs some e = hex_by (bytes_eq (c ∷ t) (codes "-")) (c ∷ t) bs some e

bytes_said : (least most : ℕ) (v : Value) (t : List ℕ) → 1 ≤ least → Spells (bytes least most) v t
    → (bs : List ℕ) × (v ≡ given bs) × IsHex t bs × (least ≤ length bs) × (length bs ≤ most)
bytes_said least most nothing t some is = absurd is
bytes_said least most (amount n) t some is = absurd is
bytes_said least most (given bs) t some is = (bs, refl, hex_of t bs (omega (arith, some, is.1)) is.0, is.1, is.2)

-- one byte
one_byte : (bs : List ℕ) → 1 ≤ length bs → length bs ≤ 1 → (b : ℕ) × (bs ≡ b ∷ [])
one_byte [] some short = absurd (omega (arith, some))
one_byte (b ∷ []) some short = (b, refl)
one_byte (b ∷ c ∷ bs) some short = absurd (omega (arith, short))

-- ---- lines by their forms

abbrev pub LineBy : Form → List Value → List (List ℕ) → Type 0
LineBy form values rest = IsLineOf (form.asks values) (joined (form.front ∷ rest))

by_tokens : (form : Form) (values : List Value) (rest : List (List ℕ)) (vs : List Value) (ts : List (List ℕ)) → values ≡ vs → rest ≡ ts
    → LineBy form vs ts → LineBy form values rest
by_tokens form values rest vs ts same parts is =
    subst (λ (xs : List Value). LineBy form xs rest) (sym same) (subst (λ (xs : List (List ℕ)). LineBy form vs xs) (sym parts) is)

by_read : (values : List Value) (rest : List (List ℕ)) → AreSpelled read_form.kinds values rest → LineBy read_form values rest
by_read values rest are =
    let first = first_spelled coordinate (coordinate ∷ []) values rest are in
    let second = first_spelled coordinate [] first.1 first.3 first.7 in
    let end = none_spelled second.1 second.3 second.7 in
    let cyl = number_said 0 65535 first.0 first.2 first.6 in
    let head = number_said 0 65535 second.0 second.2 second.6 in
    let vs : values ≡ amount cyl.0 ∷ amount head.0 ∷ [] =
    let e0 = first.4 in let e1 = second.4 in let e2 = end.0 in let e3 = cyl.1 in let e4 = head.1 in cc in
    let ts : rest ≡ decimal cyl.0 ∷ decimal head.0 ∷ [] =
    let e0 = first.5 in let e1 = second.5 in let e2 = end.1 in let e3 = cyl.2 in let e4 = head.2 in cc in
    by_tokens read_form values rest _ _ vs ts ((cyl.3, head.3), refl, refl)

by_write : (values : List Value) (rest : List (List ℕ)) → AreSpelled write_form.kinds values rest → LineBy write_form values rest
by_write values rest are =
    let first = first_spelled coordinate (coordinate ∷ bytes 1 65535 ∷ []) values rest are in
    let second = first_spelled coordinate (bytes 1 65535 ∷ []) first.1 first.3 first.7 in
    let third = first_spelled (bytes 1 65535) [] second.1 second.3 second.7 in
    let end = none_spelled third.1 third.3 third.7 in
    let cyl = number_said 0 65535 first.0 first.2 first.6 in
    let head = number_said 0 65535 second.0 second.2 second.6 in
    let track = bytes_said 1 65535 third.0 third.2 (omega arith) third.6 in
    let vs : values ≡ amount cyl.0 ∷ amount head.0 ∷ given track.0 ∷ [] =
    let e0 = first.4 in let e1 = second.4 in let e2 = third.4 in let e3 = end.0 in let e4 = cyl.1 in let e5 = head.1 in let e6 = track.1 in cc in
    let ts : rest ≡ decimal cyl.0 ∷ decimal head.0 ∷ third.2 ∷ [] =
    let e0 = first.5 in let e1 = second.5 in let e2 = third.5 in let e3 = end.1 in let e4 = cyl.2 in let e5 = head.2 in cc in
    by_tokens write_form values rest _ _ vs ts ((cyl.3, head.3), inl (record { digits = third.2; spelled = track.2; some = track.3; short = track.4; is = refl }))

by_fill : (values : List Value) (rest : List (List ℕ)) → AreSpelled fill_form.kinds values rest → LineBy fill_form values rest
by_fill values rest are =
    let first = first_spelled coordinate (coordinate ∷ number 0 65498 ∷ bytes 1 1 ∷ []) values rest are in
    let second = first_spelled coordinate (number 0 65498 ∷ bytes 1 1 ∷ []) first.1 first.3 first.7 in
    let third = first_spelled (number 0 65498) (bytes 1 1 ∷ []) second.1 second.3 second.7 in
    let fourth = first_spelled (bytes 1 1) [] third.1 third.3 third.7 in
    let end = none_spelled fourth.1 fourth.3 fourth.7 in
    let cyl = number_said 0 65535 first.0 first.2 first.6 in
    let head = number_said 0 65535 second.0 second.2 second.6 in
    let count = number_said 0 65498 third.0 third.2 third.6 in
    let said = bytes_said 1 1 fourth.0 fourth.2 (omega arith) fourth.6 in
    let byte = one_byte said.0 said.3 said.4 in
    let last : fourth.0 ≡ given (byte.0 ∷ []) = said.1 ∙ ap (λ (bs : List ℕ). given bs) byte.1 in
    let vs : values ≡ amount cyl.0 ∷ amount head.0 ∷ amount count.0 ∷ given (byte.0 ∷ []) ∷ [] =
    let e0 = first.4 in let e1 = second.4 in let e2 = third.4 in let e3 = fourth.4 in let e4 = end.0 in let e5 = cyl.1 in let e6 = head.1 in let e7 = count.1 in let e8 = last in cc in
    let ts : rest ≡ decimal cyl.0 ∷ decimal head.0 ∷ decimal count.0 ∷ fourth.2 ∷ [] =
    let e0 = first.5 in let e1 = second.5 in let e2 = third.5 in let e3 = fourth.5 in let e4 = end.1 in let e5 = cyl.2 in let e6 = head.2 in let e7 = count.2 in cc in
    let spelled = subst (λ (bs : List ℕ). IsHex fourth.2 bs) byte.1 said.2 in
    by_tokens fill_form values rest _ _ vs ts ((cyl.3, head.3), inr (record { count = count.0; byte = byte.0; digits = fourth.2; spelled = spelled; short = count.3; filled = refl; is = refl }))

by_check : (values : List Value) (rest : List (List ℕ)) → AreSpelled (kinds_behind check_form rest) values rest → LineBy check_form values rest
by_check [] [] are = (refl, inr (refl, refl))
by_check (v ∷ vs) [] are = absurd are
by_check values (t ∷ ts) are =
    let first = first_spelled (number 0 3) [] values (t ∷ ts) are in
    let end = none_spelled first.1 first.3 first.7 in
    let level = number_said 0 3 first.0 first.2 first.6 in
    let vs : values ≡ amount level.0 ∷ [] =
    let e0 = first.4 in let e1 = end.0 in let e2 = level.1 in cc in
    let rest : t ∷ ts ≡ decimal level.0 ∷ [] =
    let e0 = first.5 in let e1 = end.1 in let e2 = level.2 in cc in
    by_tokens check_form values (t ∷ ts) _ _ vs rest (refl, inl (level.3, refl))

by_bare : (front : List ℕ) (call : Call) (values : List Value) (rest : List (List ℕ)) → AreSpelled [] values rest → joined (front ∷ rest) ≡ front
by_bare front call values rest are = ap (λ (ts : List (List ℕ)). joined (front ∷ ts)) (none_spelled values rest are).1

by_harden : (values : List Value) (rest : List (List ℕ)) → AreSpelled harden_form.kinds values rest → LineBy harden_form values rest
by_harden values rest are = (refl, by_bare (codes "harden") Harden values rest are)

by_display : (values : List Value) (rest : List (List ℕ)) → AreSpelled display_form.kinds values rest → LineBy display_form values rest
by_display values rest are = (refl, by_bare (codes "sfd") Display values rest are)

-- what holds of a form and its word holds of the form that a word names
by_name_of : (b : Bool) (front : List ℕ) (form found : Form) (other : Option Form) (P : List ℕ → Form → Type 0) → bytes_eq front form.front ≡ b
    → (if b then Some form else other) ≡ Some found → P form.front form → (other ≡ Some found → P front found) → P front found
by_name_of true front form found other P is named here there =
    let same : form ≡ found = cc in
    let word = (bytes_eq-Decides front form.front).0 is in
    subst (λ (f : Form). P front f) same (subst (λ (w : List ℕ). P w form) (sym word) here)
by_name_of false front form found other P is named here there = there named

abbrev pub Asks : List ℕ → Form → Type 0
Asks front form = (values : List Value) (rest : List (List ℕ)) → AreSpelled (kinds_behind form rest) values rest
    → IsLineOf (form.asks values) (joined (front ∷ rest))

by_form_of : (front : List ℕ) (found : Form) → form_named forms front ≡ Some found → Asks front found
by_form_of front found named =
    by_name_of (bytes_eq front (codes "read")) front read_form found _ Asks refl named by_read (λ no_read.
    by_name_of (bytes_eq front (codes "write")) front write_form found _ Asks refl no_read by_write (λ no_write.
    by_name_of (bytes_eq front (codes "fill")) front fill_form found _ Asks refl no_write by_fill (λ no_fill.
    by_name_of (bytes_eq front (codes "harden")) front harden_form found _ Asks refl no_fill by_harden (λ no_harden.
    by_name_of (bytes_eq front (codes "sfd")) front display_form found _ Asks refl no_harden by_display (λ no_display.
    by_name_of (bytes_eq front (codes "sfk")) front check_form found None Asks refl no_display by_check (λ none. cc none))))))

-- what tokens ask for has the line of it
tokens_to : (front : List ℕ) (rest : List (List ℕ)) (request : Request) → parsed_tokens (front ∷ rest) ≡ Ok request
    → IsLineOf request (joined (front ∷ rest))
tokens_to front rest request e =
    let found = form_to front rest request e in
    subst (λ (r : Request). IsLineOf r (joined (front ∷ rest))) found.2.asked
    (by_form_of front found.0 found.2.named found.1 rest found.2.are)

-- what a line asks for has it as its line
line_by : (b : ℕ) (rest : List ℕ) (comment : Bool) (request : Request) → (b == 35) ≡ comment
    → (if comment then Ok nothing_asked else parsed_tokens (tokens (b ∷ rest))) ≡ Ok request → IsLineOf request (b ∷ rest)
line_by b rest true request is e =
    let same : nothing_asked ≡ request = ap (λ (r : Result Request LineFault). result_unwrap_or r nothing_asked) e in
    let hash : b ≡ 35 = grind (arith, nat_tests) in
    subst (λ (r : Request). IsLineOf r (b ∷ rest)) same (inr (rest, ap (λ (c : ℕ). c ∷ rest) hash))
line_by b rest false request is e =
    let first = tokens_first (b ∷ rest) in
    let front = take (first_length (b ∷ rest)) (b ∷ rest) in
    let more = behind (drop (first_length (b ∷ rest)) (b ∷ rest)) in
    let parses = ap parsed_tokens (sym first) ∙ e in
    subst (IsLineOf request) (ap joined (sym first) ∙ joined_tokens (b ∷ rest)) (tokens_to front more request parses)

pub line_to : (line : List ℕ) (request : Request) → parsed line ≡ Ok request → IsLineOf request line
line_to [] request e =
    let same : nothing_asked ≡ request = ap (λ (r : Result Request LineFault). result_unwrap_or r nothing_asked) e in
    subst (λ (r : Request). IsLineOf r []) same (inl refl)
line_to (b ∷ rest) request e = line_by b rest (b == 35) request refl e

-- ---- and the line of a request asks for it

-- digits are one token
digit_is : (b : ℕ) (blank : Bool) → (b == 32) ≡ blank → is_hex_digit b ≡ true → (b == 32) ≡ false
digit_is b true is digit =
    let same : b ≡ 32 = grind (arith, nat_tests) in
    absurd (false≢true (ap is_hex_digit (sym same) ∙ digit))
digit_is b false is digit = is

hex_token : (digits : List ℕ) → list_all is_hex_digit digits ≡ true → tokens digits ≡ digits ∷ []
hex_token [] all = refl
hex_token (b ∷ digits) all =
    let parts = and_parts (is_hex_digit b) (list_all is_hex_digit digits) all in
    let other = digit_is b (b == 32) refl parts.0 in
    rw other (ap (begun b) (hex_token digits parts.1))

hex_alone : (digits bs : List ℕ) → IsHex digits bs → tokens digits ≡ digits ∷ []
hex_alone digits bs is = hex_token digits (list_all-from_AllPass is_hex_digit digits (decode_of-ok digits bs is).1)

-- digits with a number of bytes spell them
spelled_if : (t bs : List ℕ) (dash : Bool) → bytes_eq t (codes "-") ≡ dash → IsHex t bs
    → (if dash then Some [] else result_ok (decode_of t)) ≡ Some bs
spelled_if t bs true same is =
    let word = (bytes_eq-Decides t (codes "-")).0 same in
    let odd : decode_of t ≡ decode_of (codes "-") = ap decode_of word in cc (sym is ∙ odd)
spelled_if t bs false same is = ap (λ (r : Result (List ℕ) FromHexError). result_ok r) is

spelled_hex : (t bs : List ℕ) → 1 ≤ length bs → IsHex t bs → spelled_bytes t ≡ Some bs
spelled_hex [] bs some is = let len = (decode_of-ok [] bs is).2 in absurd (omega (arith, len, some))
spelled_hex (c ∷ t) bs some is = spelled_if (c ∷ t) bs (bytes_eq (c ∷ t) (codes "-")) refl is

digits_of : (n : ℕ) → n ≤ 65535 → AllDigits 10 (decimal n)
digits_of n small = (decimal_is_IsNumeral n (omega (arith, small))).0.1

-- the tokens of an address behind a word that has no blank
address_tokens : (at : Addr) (more : List ℕ) → IsNamed at
    → tokens (decimal at.cyl ++ 32 ∷ (decimal at.head ++ 32 ∷ more)) ≡ decimal at.cyl ∷ decimal at.head ∷ tokens more
address_tokens at more named =
    tokens_digits (decimal at.cyl) (decimal at.head ++ 32 ∷ more) (digits_of at.cyl named.0)
    ∙ ap (λ (ts : List (List ℕ)). decimal at.cyl ∷ ts) (tokens_digits (decimal at.head) more (digits_of at.head named.1))

read_tokens : (at : Addr) → IsNamed at → tokens (addressed (codes "read") at []) ≡ codes "read" ∷ decimal at.cyl ∷ decimal at.head ∷ []
read_tokens at named =
    ap (λ (ts : List (List ℕ)). codes "read" ∷ ts)
    (tokens_digits (decimal at.cyl) (decimal at.head) (digits_of at.cyl named.0)
    ∙ ap (λ (ts : List (List ℕ)). decimal at.cyl ∷ ts) (tokens_digits_alone (decimal at.head) (digits_of at.head named.1)))

from_read : (at : Addr) (line : List ℕ) → IsNamed at → line ≡ addressed (codes "read") at [] → parsed line ≡ Ok (one (Read at) [])
from_read at line named is =
    ap parsed is ∙ ap parsed_tokens (read_tokens at named)
    ∙ form_from read_form (codes "read") (amount at.cyl ∷ amount at.head ∷ []) (decimal at.cyl ∷ decimal at.head ∷ []) refl
    (lit< tt, (lit< tt, tt))
    ((refl, omega arith, named.0), ((refl, omega arith, named.1), tt))

from_write : (at : Addr) (track line : List ℕ) → IsNamed at → IsWriteLine at track line → parsed line ≡ Ok (one (Write at) track)
from_write at track line named is =
    ap parsed is.is
    ∙ ap (λ (ts : List (List ℕ)). parsed_tokens (codes "write" ∷ ts))
    (address_tokens at is.digits named ∙ ap (λ (ts : List (List ℕ)). decimal at.cyl ∷ decimal at.head ∷ ts) (hex_alone is.digits track is.spelled))
    ∙ form_from write_form (codes "write") (amount at.cyl ∷ amount at.head ∷ given track ∷ []) (decimal at.cyl ∷ decimal at.head ∷ is.digits ∷ []) refl
    (lit< tt, (lit< tt, (tt, tt)))
    ((refl, omega arith, named.0), ((refl, omega arith, named.1), ((spelled_hex is.digits track is.some is.spelled, is.some, is.short), tt)))

from_fill : (at : Addr) (track line : List ℕ) → IsNamed at → IsFillLine at track line → parsed line ≡ Ok (one (Write at) track)
from_fill at track line named is =
    let byte = is.byte ∷ [] in
    let len : length byte ≡ 1 = refl in
    ap parsed is.is
    ∙ ap (λ (ts : List (List ℕ)). parsed_tokens (codes "fill" ∷ ts))
    (address_tokens at (decimal is.count ++ 32 ∷ is.digits) named
    ∙ ap (λ (ts : List (List ℕ)). decimal at.cyl ∷ decimal at.head ∷ ts)
    (tokens_digits (decimal is.count) is.digits (digits_of is.count (omega (arith, is.short)))
    ∙ ap (λ (ts : List (List ℕ)). decimal is.count ∷ ts) (hex_alone is.digits byte is.spelled)))
    ∙ form_from fill_form (codes "fill") (amount at.cyl ∷ amount at.head ∷ amount is.count ∷ given byte ∷ [])
    (decimal at.cyl ∷ decimal at.head ∷ decimal is.count ∷ is.digits ∷ []) refl
    (lit< tt, (lit< tt, (lit< tt, (tt, tt)))) (
      (refl, omega arith, named.0),
      (
        (refl, omega arith, named.1),
        (
          (refl, omega arith, is.short),
          ((spelled_hex is.digits byte (omega (arith, len)) is.spelled, omega (arith, len), omega (arith, len)), tt),
        ),
      ),
    )
    ∙ ap (λ (bs : List ℕ). Ok (one (Write at) bs)) (sym is.filled)

from_check : (level : ℕ) (line : List ℕ) → IsCheckLine level line → parsed line ≡ Ok (one (Check level) [])
from_check level line (inl is) =
    ap parsed is.1
    ∙ ap (λ (ts : List (List ℕ)). parsed_tokens (codes "sfk" ∷ ts)) (tokens_digits_alone (decimal level) (digits_of level (omega (arith, is.0))))
    ∙ form_from check_form (codes "sfk") (amount level ∷ []) (decimal level ∷ []) refl (lit< tt, tt) ((refl, omega arith, is.0), tt)
from_check level line (inr is) = ap parsed is.1 ∙ ap (λ (l : ℕ). Ok (one (Check l) [])) (sym is.0)

pub line_from : (line : List ℕ) (request : Request) → IsLineOf request line → parsed line ≡ Ok request
line_from line nothing_asked (inl is) = ap parsed is
line_from line nothing_asked (inr is) = ap parsed is.1
line_from line (one (Read at) sent) is = from_read at line is.0 is.2 ∙ ap (λ (bs : List ℕ). Ok (one (Read at) bs)) (sym is.1)
line_from line (one (Write at) sent) (named, inl is) = from_write at sent line named is
line_from line (one (Write at) sent) (named, inr is) = from_fill at sent line named is
line_from line (one (GetRecord at num) sent) is = absurd is
line_from line (one (PutRecord at num) sent) is = absurd is
line_from line (one Harden sent) is = ap parsed is.1 ∙ ap (λ (bs : List ℕ). Ok (one Harden bs)) (sym is.0)
line_from line (one Turn sent) is = absurd is
line_from line (one Add sent) is = absurd is
line_from line (one Merge sent) is = absurd is
line_from line (one Drop sent) is = absurd is
line_from line (one Compress sent) is = absurd is
line_from line (one Display sent) is = ap parsed is.1 ∙ ap (λ (bs : List ℕ). Ok (one Display bs)) (sym is.0)
line_from line (one (Check level) sent) is = from_check level line is.1 ∙ ap (λ (bs : List ℕ). Ok (one (Check level) bs)) (sym is.0)
line_from line (one Close sent) is = absurd is
line_from line (turns count) is = absurd is

-- ---- answers

request_by : (parsed_as request : Request) → what_of parsed_as ≡ what_of request → bytes_given parsed_as ≡ bytes_given request → parsed_as ≡ request
request_by nothing_asked nothing_asked same more_same = refl
request_by nothing_asked (one call sent) same more_same = cc same
request_by nothing_asked (turns count) same more_same = cc same
request_by (one call sent) nothing_asked same more_same = cc same
request_by (one call sent) (one other more) same more_same = cc
request_by (one call sent) (turns count) same more_same = cc same
request_by (turns count) nothing_asked same more_same = cc same
request_by (turns count) (one call sent) same more_same = cc same
request_by (turns count) (turns other) same more_same = cc

answered_as : (r : Result Request LineFault) (request : Request) → IsAnswered request (line_in r) (given_in r) → r ≡ Ok request
answered_as (Ok found) request is =
    let same : what_of found ≡ what_of request = let e = is.0 in ap (λ (l : Result Line LineFault). (result_unwrap_or l (line_of (what_of found))).what) e in
    ap (λ (r : Request). Ok r) (request_by found request same is.1)
answered_as (Err fault) request is = let e = is.0 in cc e

-- a line is answered by a request exactly where it is a line of it
pub spelled : (line : List ℕ) (result : Result Line LineFault) → result ≡ line_in (parsed line)
    → (request : Request) → IsAnswered request result (given_in (parsed line)) ↔ IsLineOf request line
spelled line result is request = (
  λ (answered : IsAnswered request result (given_in (parsed line))).
      line_to line request (answered_as (parsed line) request (sym is ∙ answered.0, answered.1)),
  λ (of : IsLineOf request line).
      let e = line_from line request of in (is ∙ ap line_in e, ap given_in e),
)

-- ---- for the crates above
