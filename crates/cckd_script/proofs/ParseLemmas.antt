-- What a line asks by the tokens that are left behind a place.
use Rattle.std.proofs.Common.{◌≡◌, ℕ, ◌+◌, ◌-◌, ◌<◌, ◌≤◌, List, [], ◌∷◌, length, drop, slice_range, Option, Some, None, Result, Ok, Err, sym, ◌∙◌, ap, arith, length-drop}
use Rattle.std.proofs.lemmas.List.{length-take-le}
use Rattle.cckd_script.specs.Lines.{tokens}
use Rattle.cckd_script.specs.declared.parse.Asked.{Asked}
use Rattle.cckd_script.specs.declared.tokens.Place.{Place}
use Rattle.cckd_script.specs.Grammar.{Kind, number, Value, amount, value_of, value_before, values_of}
use Rattle.cckd_script.specs.Parse.{Request, Form, check_form, asked_by, kinds_behind}
use Rattle.cckd_script.specs.Inside.{rest_tokens, values_behind, IsBehind, IsNone, IsAddressBehind, coordinate, request_of, AsksFor}
use Rattle.cckd_script.proofs.TokenLemmas.{behind_place, some_behind}

-- a token of a kind behind a place
pub token_passes : (line : List ℕ) (end after : ℕ) (kind : Kind) (value : Value) → end < length line → end + 1 ≤ after → after ≤ length line
    → tokens (drop (end + 1) line) ≡ slice_range line (end + 1) after ∷ rest_tokens line after
    → value_of kind (slice_range line (end + 1) after) ≡ Some value → IsBehind line end kind value after
token_passes line end after kind value inside later within cut says =
    let token = slice_range line (end + 1) after in
    let len : length token ≡ after - (end + 1) = length-take-le (after - (end + 1)) (drop (end + 1) line) (omega (arith, length-drop (end + 1) line)) in
    let place : end + 2 + length token + 1 ≡ after + 2 = omega (arith, len) in
    record {
      passes = λ kinds.
          ap (values_of (end + 2) (kind ∷ kinds)) (behind_place line end inside ∙ cut)
          ∙ ap (λ (o : Option Value). value_before (end + 2) o (values_of (end + 2 + length token + 1) kinds (rest_tokens line after))) says
          ∙ ap (λ (column : ℕ). value_before (end + 2) (Some value) (values_of column kinds (rest_tokens line after))) place;
      within = within;
    }

-- a token behind a place that is of another kind
pub token_stops : (line : List ℕ) (end after : ℕ) (kind : Kind) → end < length line
    → tokens (drop (end + 1) line) ≡ slice_range line (end + 1) after ∷ rest_tokens line after
    → value_of kind (slice_range line (end + 1) after) ≡ None → IsNone line end kind (end + 1 + 1)
token_stops line end after kind inside cut says kinds =
    let token = slice_range line (end + 1) after in
    let place : end + 2 ≡ end + 1 + 1 = omega arith in
    ap (values_of (end + 2) (kind ∷ kinds)) (behind_place line end inside ∙ cut)
    ∙ ap (λ (o : Option Value). value_before (end + 2) o (values_of (end + 2 + length token + 1) kinds (rest_tokens line after))) says
    ∙ ap (λ (column : ℕ). Err column) place

-- a token too many
pub one_too_many : (line : List ℕ) (end : ℕ) → end < length line → values_behind line end [] ≡ Err (end + 2)
one_too_many line end inside = ap (values_of (end + 2) []) (some_behind line end inside)

-- a token of a kind and what the tokens behind it say
pub then_values : (line : List ℕ) (end after : ℕ) (kind : Kind) (value : Value) (kinds : List Kind) (more : Result (List Value) ℕ)
    → IsBehind line end kind value after → values_behind line after kinds ≡ more
    → values_behind line end (kind ∷ kinds) ≡ value_before (end + 2) (Some value) more
then_values line end after kind value kinds more is rest = is.passes kinds ∙ ap (value_before (end + 2) (Some value)) rest

-- an address and what the tokens behind it say
pub then_address : (line : List ℕ) (end : ℕ) (place : Place) (kinds : List Kind) (values : List Value) → IsAddressBehind line end place
    → values_behind line place.end kinds ≡ Ok values
    → values_behind line end (coordinate ∷ coordinate ∷ kinds) ≡ Ok (amount place.at.cyl ∷ amount place.at.head ∷ values)
then_address line end place kinds values is rest =
    then_values line end is.middle coordinate (amount place.at.cyl) (coordinate ∷ kinds) (Ok (amount place.at.head ∷ values)) is.cylinder
    (then_values line is.middle place.end coordinate (amount place.at.head) kinds (Ok values) is.head rest)

-- and where they are wrong
pub address_stops : (line : List ℕ) (end column : ℕ) (place : Place) (kinds : List Kind) → IsAddressBehind line end place
    → values_behind line place.end kinds ≡ Err column → values_behind line end (coordinate ∷ coordinate ∷ kinds) ≡ Err column
address_stops line end column place kinds is rest =
    then_values line end is.middle coordinate (amount place.at.cyl) (coordinate ∷ kinds) (Err column) is.cylinder
    (then_values line is.middle place.end coordinate (amount place.at.head) kinds (Err column) is.head rest)

-- a form whose tokens stop somewhere is a fault there
pub asks_none : (form : Form) (line : List ℕ) (end column : ℕ)
    → values_behind line end (kinds_behind form (rest_tokens line end)) ≡ Err column
    → AsksFor form line end (Err (record { column = column }))
asks_none form line end column e = sym (ap (asked_by form) e)

-- and one whose tokens say values asks by them
pub asks_some : (form : Form) (line : List ℕ) (end : ℕ) (asked : Asked) (values : List Value)
    → values_behind line end (kinds_behind form (rest_tokens line end)) ≡ Ok values
    → form.asks values ≡ request_of asked → AsksFor form line end (Ok asked)
asks_some form line end asked values e is = sym (ap (asked_by form) e ∙ ap (λ (request : Request). Ok request) is)

-- what is left behind a word of a check is a level
pub check_kinds : (line : List ℕ) (end : ℕ) → end < length line → kinds_behind check_form (rest_tokens line end) ≡ number 0 3 ∷ []
check_kinds line end inside = ap (kinds_behind check_form) (some_behind line end inside)
