-- The lines of a text and the lines of its parts.
use Rattle.std.proofs.Common.{◌≡◌, ◌≢◌, inl, inr, ℕ, ◌<◌, ◌==◌, true, false, if◌then◌else◌, List, [], ◌∷◌, ◌++◌, length, refl, sym, ◌∙◌, ap, arith, append_assoc, append-nil}
use Rattle.std.proofs.lemmas.Bool.Decides.{nat_tests}
use Rattle.cckd_script.specs.Lines.{begun, led, lines_of, ended_lines, StopsAtLine, HasNoFeed}

begun_some : (b : ℕ) (parts : List (List ℕ)) → 0 < length (begun b parts)
begun_some b [] = omega arith
begun_some b (part ∷ parts) = omega arith

begun-append : (b : ℕ) (parts more : List (List ℕ)) → 0 < length parts → begun b (parts ++ more) ≡ begun b parts ++ more
begun-append b [] more some = absurd (omega arith)
begun-append b (part ∷ parts) more some = refl

led-append : (b : ℕ) (parts more : List (List ℕ)) → 0 < length parts → led b (parts ++ more) ≡ led b parts ++ more
led-append b [] more some = absurd (omega arith)
led-append b (part ∷ parts) more some = refl

led_begun : (b : ℕ) (parts : List (List ℕ)) → 0 < length parts → led b parts ≡ begun b parts
led_begun b [] some = absurd (omega arith)
led_begun b (part ∷ parts) some = refl

led_some : (b : ℕ) (parts : List (List ℕ)) → 0 < length parts → 0 < length (led b parts)
led_some b [] some = absurd (omega arith)
led_some b (part ∷ parts) some = omega arith

cons_some : (part : List ℕ) (parts : List (List ℕ)) → 0 < length (part ∷ parts)
cons_some part parts = omega arith

-- a text that has a byte has a line
pub lines_some : (b : ℕ) (rest : List ℕ) → 0 < length (lines_of (b ∷ rest))
lines_some b rest =
    elim (b == 10) as (λ t. 0 < length (if t then [] ∷ lines_of rest else begun b (lines_of rest))) [
      | true ↦ cons_some [] (lines_of rest)
      | false ↦ begun_some b (lines_of rest)
    ]

fed_some : (front rest : List ℕ) → 0 < length (lines_of (front ++ 10 ∷ rest))
fed_some [] rest = cons_some [] (lines_of rest)
fed_some (b ∷ front) rest = lines_some b (front ++ 10 ∷ rest)

-- the lines up to a line feed, and those behind it
lines-fed : (front rest : List ℕ) → lines_of (front ++ 10 ∷ rest) ≡ lines_of (front ++ 10 ∷ []) ++ lines_of rest
lines-fed [] rest = refl
lines-fed (b ∷ front) rest =
    let more = lines-fed front rest in
    elim (b == 10) as (λ t.
    (if t then [] ∷ lines_of (front ++ 10 ∷ rest) else begun b (lines_of (front ++ 10 ∷ rest)))
    ≡ (if t then [] ∷ lines_of (front ++ 10 ∷ []) else begun b (lines_of (front ++ 10 ∷ []))) ++ lines_of rest) [
      | true ↦ ap (λ (parts : List (List ℕ)). [] ∷ parts) more
      | false ↦ ap (begun b) more ∙ begun-append b (lines_of (front ++ 10 ∷ [])) (lines_of rest) (fed_some front [])
    ]

-- the lines that end: those up to the last line feed are all lines
ended-fed : (front : List ℕ) → ended_lines (front ++ 10 ∷ []) ≡ lines_of (front ++ 10 ∷ [])
ended-fed [] = refl
ended-fed (b ∷ front) =
    let more = ended-fed front in
    elim (b == 10) as (λ t.
    (if t then [] ∷ ended_lines (front ++ 10 ∷ []) else led b (ended_lines (front ++ 10 ∷ [])))
    ≡ (if t then [] ∷ lines_of (front ++ 10 ∷ []) else begun b (lines_of (front ++ 10 ∷ [])))) [
      | true ↦ ap (λ (parts : List (List ℕ)). [] ∷ parts) more
      | false ↦ ap (led b) more ∙ led_begun b (lines_of (front ++ 10 ∷ [])) (fed_some front [])
    ]

ended_some : (front rest : List ℕ) → 0 < length (ended_lines (front ++ 10 ∷ rest))
ended_some [] rest = cons_some [] (ended_lines rest)
ended_some (b ∷ front) rest =
    let more = ended_some front rest in
    elim (b == 10) as (λ t. 0 < length (if t then [] ∷ ended_lines (front ++ 10 ∷ rest) else led b (ended_lines (front ++ 10 ∷ rest)))) [
      | true ↦ cons_some [] (ended_lines (front ++ 10 ∷ rest))
      | false ↦ led_some b (ended_lines (front ++ 10 ∷ rest)) more
    ]

ended-fed_then : (front rest : List ℕ) → ended_lines (front ++ 10 ∷ rest) ≡ ended_lines (front ++ 10 ∷ []) ++ ended_lines rest
ended-fed_then [] rest = refl
ended-fed_then (b ∷ front) rest =
    let more = ended-fed_then front rest in
    elim (b == 10) as (λ t.
    (if t then [] ∷ ended_lines (front ++ 10 ∷ rest) else led b (ended_lines (front ++ 10 ∷ rest)))
    ≡ (if t then [] ∷ ended_lines (front ++ 10 ∷ []) else led b (ended_lines (front ++ 10 ∷ []))) ++ ended_lines rest) [
      | true ↦ ap (λ (parts : List (List ℕ)). [] ∷ parts) more
      | false ↦ ap (led b) more ∙ led-append b (ended_lines (front ++ 10 ∷ [])) (ended_lines rest) (ended_some front [])
    ]

-- Where a text stops with a line, its lines and those of what follows are the lines of both.
pub lines-append : (consumed rest : List ℕ) → StopsAtLine consumed → lines_of (consumed ++ rest) ≡ lines_of consumed ++ lines_of rest
lines-append consumed rest (inl none) = rw none refl
lines-append consumed rest (inr fed) =
    let front = fed.0 in
    rw fed.1 (ap lines_of (append_assoc front (10 ∷ []) rest) ∙ lines-fed front rest)

-- the same of the lines that end
pub ended-append : (consumed rest : List ℕ) → StopsAtLine consumed → ended_lines (consumed ++ rest) ≡ ended_lines consumed ++ ended_lines rest
ended-append consumed rest (inl none) = rw none refl
ended-append consumed rest (inr fed) =
    let front = fed.0 in
    rw fed.1 (ap ended_lines (append_assoc front (10 ∷ []) rest) ∙ ended-fed_then front rest)

-- all its lines end
pub ended_all : (consumed : List ℕ) → StopsAtLine consumed → ended_lines consumed ≡ lines_of consumed
ended_all consumed (inl none) = rw none refl
ended_all consumed (inr fed) = let front = fed.0 in rw fed.1 (ended-fed front)

test_fails : (b : ℕ) → b ≢ 10 → (b == 10) ≡ false
test_fails b other = grind (arith, nat_tests)

-- the first line of a text that begins with one
pub lines_first : (line rest : List ℕ) → HasNoFeed line → lines_of (line ++ 10 ∷ rest) ≡ line ∷ lines_of rest
lines_first [] rest bare = refl
lines_first (b ∷ line) rest bare =
    let other = test_fails b bare.0 in
    let more = lines_first line rest bare.1 in
    rw other (ap (begun b) more)

-- a last line without its line feed
pub lines_last : (line : List ℕ) → HasNoFeed line → 0 < length line → lines_of line ≡ line ∷ []
lines_last [] bare some = absurd (omega arith)
lines_last (b ∷ []) bare some = let other = test_fails b bare.0 in rw other refl
lines_last (b ∷ c ∷ line) bare some =
    let other = test_fails b bare.0 in
    let more = lines_last (c ∷ line) bare.1 (omega arith) in
    rw other (ap (begun b) more)

pub ended_last : (line : List ℕ) → HasNoFeed line → ended_lines line ≡ []
ended_last [] bare = refl
ended_last (b ∷ line) bare =
    let other = test_fails b bare.0 in
    let more = ended_last line bare.1 in
    rw other (ap (led b) more)

pub no_feed-append : (a b : List ℕ) → HasNoFeed a → HasNoFeed b → HasNoFeed (a ++ b)
no_feed-append [] b h k = k
no_feed-append (c ∷ a) b h k = (h.0, no_feed-append a b h.1 k)

-- what stops with a line, with a line behind it
pub stops_more : (consumed line : List ℕ) → StopsAtLine (consumed ++ (line ++ 10 ∷ []))
stops_more consumed line = inr (consumed ++ line, sym (append_assoc consumed line (10 ∷ [])))

-- one line more
pub lines_more : (consumed line : List ℕ) → StopsAtLine consumed → HasNoFeed line
    → lines_of (consumed ++ (line ++ 10 ∷ [])) ≡ lines_of consumed ++ line ∷ []
lines_more consumed line stops bare =
    lines-append consumed (line ++ 10 ∷ []) stops ∙ ap (λ (parts : List (List ℕ)). lines_of consumed ++ parts) (lines_first line [] bare)

-- a last line that lacks its line feed
pub lines_unfed : (consumed line : List ℕ) → StopsAtLine consumed → HasNoFeed line → 0 < length line
    → lines_of (consumed ++ line) ≡ lines_of consumed ++ line ∷ []
lines_unfed consumed line stops bare some =
    lines-append consumed line stops ∙ ap (λ (parts : List (List ℕ)). lines_of consumed ++ parts) (lines_last line bare some)

-- a last line that lacks its line feed is no line that ends
pub ended_unfed : (consumed line : List ℕ) → StopsAtLine consumed → HasNoFeed line
    → ended_lines (consumed ++ line) ≡ lines_of consumed
ended_unfed consumed line stops bare =
    ended-append consumed line stops
    ∙ ap (λ (parts : List (List ℕ)). ended_lines consumed ++ parts) (ended_last line bare)
    ∙ append-nil (ended_lines consumed)
    ∙ ended_all consumed stops
