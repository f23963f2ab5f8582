-- The chain of free spaces, link by link.
use Rattle.std.proofs.Common.{◌≡◌, ℕ, ◌+◌, ◌<◌, ◌≤◌, ◌&&◌, nat_le, Bool, true, false, cond, List, [], ◌∷◌, length, Option, Some, None, Result, Ok, refl, sym, ◌∙◌, ap, subst, inl, inr, arith}
use Rattle.std.specs.List.{filter}
use Rattle.std.specs.Option.{option_map}
use Rattle.std.specs.Int.{w32}
use Rattle.std.proofs.lemmas.Bool.{and_parts, leb-true, le-leb, lt-leb}
use Rattle.std.proofs.lemmas.List.{length-append}
use Rattle.cckd_shelf.specs.declared.fault.Failed.{Failed}
use Rattle.cckd_shelf.specs.World.{file_of}
use Rattle.cckd_shelf.specs.Seen.{Seen, Tells}
use Rattle.cckd_shelf.specs.Outcomes.{WriteLeaves}
use Rattle.cckd_shelf.specs.Stops.{StopsLeave}
use Rattle.cckd_shelf.specs.Files.{overlaid}
use Rattle.cckd_base.specs.declared.order.Order.{Order}
use Rattle.cckd_base.specs.declared.order.Order.TheVariants.{Little, Big}
use Rattle.cckd_base.specs.Numbers.{bytes_of}
use Rattle.cckd_space.specs.declared.piece.Piece.{Piece}
use Rattle.cckd_space.specs.Pieces.{Has, IsLaid, is_free, is_roomy, is_roomy_from, first}
use Rattle.cckd_space.specs.Plan.{free_from}
use Rattle.cckd_space.proofs.CallerLemmas.{first_has, laid_has}
use Rattle.cckd_space.proofs.PlaceLemmas.{has_within}
use Rattle.cckd_tables.specs.Cells.{OneWrite}
use Rattle.cckd_tables.proofs.TableLoopLemmas.{Went, went_more, stop_then, file_then}
use Rattle.cckd_layer.specs.Changes.{ChangesFree, IsChained}
use Rattle.cckd_layer.specs.Chain.{link_bytes, first_place, chained, roomy_from, roomy_pieces}

-- ---- the free spaces from a place on

not_first : (q : Piece) (o : Option Piece) (b : Bool) → cond b (Some q) o ≡ None → b ≡ false
not_first q o true e = absurd cc
not_first q o false e = refl

rest_none : (q : Piece) (o : Option Piece) (b : Bool) → cond b (Some q) o ≡ None → o ≡ None
rest_none q o true e = absurd cc
rest_none q o false e = e

pub none_roomy : (test : Piece → Bool) (ps : List Piece) → first test ps ≡ None → filter test ps ≡ []
none_roomy test [] e = refl
none_roomy test (q ∷ qs) e =
    let n = not_first q (first test qs) (test q) e in
    rw n (none_roomy test qs (rest_none q (first test qs) (test q) e))

-- a place from which on all pieces of a list begin
all_from : (from at : ℕ) (ps : List Piece) (end : ℕ) → IsLaid at ps end → from ≤ at → roomy_from from ps ≡ roomy_pieces ps
all_from from at [] end laid low = refl
all_from from at (q ∷ qs) end laid low =
    let here : nat_le from q.pos ≡ true = le-leb from q.pos (omega (arith, low, laid.0.place)) in
    let same : is_roomy_from from q ≡ is_roomy q = ap (λ (b : Bool). is_roomy q && b) here ∙ and_true (is_roomy q) in
    ap (λ (b : Bool). cond b (q ∷ roomy_from from qs) (roomy_from from qs)) same ∙ ap (λ (rs : List Piece). cond (is_roomy q) (q ∷ rs) rs) (all_from from (at + q.size) qs end laid.2 (omega (arith, low)))
  where
    and_true : (b : Bool) → (b && true) ≡ b
    and_true true = refl
    and_true false = refl

pub roomy_all : (ps : List Piece) (end : ℕ) → IsLaid 0 ps end → roomy_from 0 ps ≡ roomy_pieces ps
roomy_all ps end laid = all_from 0 0 ps end laid (omega arith)

before_it : (from : ℕ) (q : Piece) (rs : List Piece) → q.pos < from → cond (is_roomy_from from q) (q ∷ rs) rs ≡ rs
before_it from q rs low =
    let late : nat_le from q.pos ≡ false = lt-leb from q.pos low in
    let not : is_roomy_from from q ≡ false = ap (λ (b : Bool). is_roomy q && b) late ∙ and_false (is_roomy q) in
    ap (λ (b : Bool). cond b (q ∷ rs) rs) not
  where
    and_false : (b : Bool) → (b && false) ≡ false
    and_false true = refl
    and_false false = refl

-- the first of them, and those behind it
pub roomy_next : (from at : ℕ) (ps : List Piece) (end : ℕ) (p : Piece) → IsLaid at ps end → first (is_roomy_from from) ps ≡ Some p → roomy_from from ps ≡ p ∷ roomy_from (p.pos + p.size) ps
roomy_next from at [] end p laid e = absurd cc
roomy_next from at (q ∷ qs) end p laid e = by (is_roomy_from from q) refl (λ k. roomy_next from (at + q.size) qs end p laid.2 k)
  where
    by : (b : Bool) → is_roomy_from from q ≡ b → (first (is_roomy_from from) qs ≡ Some p → roomy_from from qs ≡ p ∷ roomy_from (p.pos + p.size) qs) → roomy_from from (q ∷ qs) ≡ p ∷ roomy_from (p.pos + p.size) (q ∷ qs)
    by true t more =
        let same : q ≡ p = (let g : Some q ≡ Some p = rw t at e in cc) in
        let parts = and_parts (is_roomy q) (nat_le from q.pos) t in
        let low = leb-true from q.pos parts.1 in
        let here : roomy_from from (q ∷ qs) ≡ q ∷ roomy_from from qs = ap (λ (b : Bool). cond b (q ∷ roomy_from from qs) (roomy_from from qs)) t in
        let behind : roomy_from from qs ≡ roomy_from (q.pos + q.size) qs =
        all_from from (at + q.size) qs end laid.2 (omega (arith, low, laid.0.place)) ∙ sym (all_from (q.pos + q.size) (at + q.size) qs end laid.2 (omega (arith, laid.0.place))) in
        let skip : roomy_from (q.pos + q.size) (q ∷ qs) ≡ roomy_from (q.pos + q.size) qs = before_it (q.pos + q.size) q (roomy_from (q.pos + q.size) qs) (omega (arith, laid.0.some)) in
        subst (λ (x : Piece). roomy_from from (q ∷ qs) ≡ x ∷ roomy_from (x.pos + x.size) (q ∷ qs)) same (here ∙ (ap (λ (rs : List Piece). q ∷ rs) behind ∙ ap (λ (rs : List Piece). q ∷ rs) (sym skip)))
    by false t more =
        let g : first (is_roomy_from from) qs ≡ Some p = rw t at e in
        let there = (first_has (is_roomy_from from) qs p g).0 in
        let far = laid_has (at + q.size) qs end p laid.2 there in
        let here : roomy_from from (q ∷ qs) ≡ roomy_from from qs = ap (λ (b : Bool). cond b (q ∷ roomy_from from qs) (roomy_from from qs)) t in
        let skip : roomy_from (p.pos + p.size) (q ∷ qs) ≡ roomy_from (p.pos + p.size) qs = before_it (p.pos + p.size) q (roomy_from (p.pos + p.size) qs) (omega (arith, far, laid.0.place, laid.0.some)) in
        here ∙ (more g ∙ ap (λ (rs : List Piece). p ∷ rs) (sym skip))

-- what a look for the next one tells
pub record IsNextRoomy (ps : List Piece) (end from pos size : ℕ) : Type 0 where
  pub piece : Piece
  pub there : Has piece ps
  pub free : is_free piece ≡ true
  pub at : piece.pos ≡ pos
  pub long : piece.size ≡ size
  pub behind : from ≤ pos
  pub some : 8 ≤ size
  pub within : pos + size ≤ end
  pub rest : roomy_from from ps ≡ piece ∷ roomy_from (pos + size) ps

abbrev first_of : Option (ℕ × ℕ) → ℕ
first_of (Some x) = x.0
first_of None = 0

abbrev second_of : Option (ℕ × ℕ) → ℕ
second_of (Some x) = x.1
second_of None = 0

pub next_roomy : (ps : List Piece) (end from pos size : ℕ) → IsLaid 0 ps end → Some (pos, size) ≡ free_from from ps → IsNextRoomy ps end from pos size
next_roomy ps end from pos size laid e = by (first (is_roomy_from from) ps) refl
  where
    by : (o : Option Piece) → first (is_roomy_from from) ps ≡ o → IsNextRoomy ps end from pos size
    by None f = absurd (let g : Some (pos, size) ≡ None = e ∙ ap (λ (o : Option Piece). option_map (λ p. (p.pos, p.size)) o) f in cc)
    by (Some p) f =
        let g : Some (pos, size) ≡ Some (p.pos, p.size) = e ∙ ap (λ (o : Option Piece). option_map (λ p. (p.pos, p.size)) o) f in
        let at : pos ≡ p.pos = ap (λ (o : Option (ℕ × ℕ)). first_of o) g in
        let long : size ≡ p.size = ap (λ (o : Option (ℕ × ℕ)). second_of o) g in
        let h = first_has (is_roomy_from from) ps p f in
        let parts = and_parts (is_roomy p) (nat_le from p.pos) h.1 in
        let roomy = and_parts (is_free p) (nat_le 8 p.size) parts.0 in
        let low = leb-true from p.pos parts.1 in
        let eight = leb-true 8 p.size roomy.1 in
        let ends = has_within 0 ps end p laid h.0 in
        record {
          piece = p;
          there = h.0;
          free = roomy.0;
          at = sym at;
          long = sym long;
          behind = omega (arith, low, at);
          some = omega (arith, eight, long);
          within = omega (arith, ends, at, long);
          rest = roomy_next from 0 ps end p laid f ∙ ap (λ (n : ℕ). p ∷ roomy_from n ps) (omega (arith, at, long));
        }

pub no_roomy : (ps : List Piece) (from : ℕ) → None ≡ free_from from ps → roomy_from from ps ≡ []
no_roomy ps from e = by (first (is_roomy_from from) ps) refl
  where
    by : (o : Option Piece) → first (is_roomy_from from) ps ≡ o → roomy_from from ps ≡ []
    by None f = none_roomy (is_roomy_from from) ps f
    by (Some p) f = absurd (let g : None ≡ Some (p.pos, p.size) = e ∙ ap (λ (o : Option Piece). option_map (λ p. (p.pos, p.size)) o) f in cc)

pub next_is : (ps : List Piece) (end from pos size : ℕ) → IsLaid 0 ps end → Some (pos, size) ≡ free_from from ps → pos ≡ first_place (roomy_from from ps)
next_is ps end from pos size laid e = let n = next_roomy ps end from pos size laid e in sym (ap first_place n.rest ∙ n.at)

pub next_none : (ps : List Piece) (from : ℕ) → None ≡ free_from from ps → 0 ≡ first_place (roomy_from from ps)
next_none ps from e = sym (ap first_place (no_roomy ps from e))

-- ---- one link more

pub four : (order : Order) (n : ℕ) → length (bytes_of order w32 n) ≡ 4
four Little n = refl
four Big n = refl

pub link_long : (order : Order) (next size : ℕ) → length (link_bytes order next size) ≡ 8
link_long order next size = length-append (bytes_of order w32 next) (bytes_of order w32 size) ∙ (let a = four order next in let b = four order size in omega (arith, a, b))

-- a link lies in its free space
pub link_free : (ps : List Piece) (end from pos size : ℕ) (link was mid file : List ℕ) → IsNextRoomy ps end from pos size → length link ≡ 8 → ChangesFree ps end was mid → WriteLeaves pos link mid file → ChangesFree ps end was file
link_free ps end from pos size link was mid file n eight h leaves = record {
  taken = λ i low taken. elim (taken n.piece n.there n.free) [
    | inl before ↦ leaves.before i (omega (arith, low, h.no_shorter)) (omega (arith, before, n.at)) ∙ h.taken i low taken
    | inr behind ↦ leaves.behind i (omega (arith, low, h.no_shorter)) (omega (arith, behind, n.at, n.long, n.some, eight)) ∙ h.taken i low taken
  ];
  no_shorter = omega (arith, h.no_shorter, leaves.no_shorter);
  no_longer = omega (arith, h.no_longer, leaves.no_longer, eight, n.within, n.some);
}

pub changes_nothing : (ps : List Piece) (end : ℕ) (was : List ℕ) → ChangesFree ps end was was
changes_nothing ps end was = record { taken = λ i low taken. refl; no_shorter = omega arith; no_longer = omega arith }

-- the links before a place are written
pub record ChainSoFar (slot : ℕ) (ps : List Piece) (end : ℕ) (order : Order) (from : ℕ) (old new : Seen) : Type 0 where
  pub now : Tells old → chained order (roomy_from from ps) (file_of new.world slot) ≡ chained order (roomy_from 0 ps) (file_of old.world slot)
  pub went : Went slot old new
  pub stopped : StopsLeave slot (IsChained old.world.events slot ps end) old new

pub chain_stopped : (slot : ℕ) (ps : List Piece) (end : ℕ) (order : Order) (from pos size : ℕ) (link : List ℕ) (old mid new : Seen) (result : Result (Unit {0}) Failed) → (Tells old → Tells mid)
    → IsNextRoomy ps end from pos size → length link ≡ 8 → OneWrite slot pos link result mid new → ChainSoFar slot ps end order from old mid → StopsLeave slot (IsChained old.world.events slot ps end) old new
chain_stopped slot ps end order from pos size link old mid new result tells n eight one h =
    stop_then (IsChained old.world.events slot ps end) slot pos link old mid new result tells one (λ was file k leaves. (k.0, k.1, link_free ps end from pos size link k.0 was file n eight k.2 leaves)) h.stopped

pub chain_next : (slot : ℕ) (ps : List Piece) (end : ℕ) (order : Order) (from pos size next : ℕ) (link : List ℕ) (old mid new : Seen) → (Tells old → Tells mid) → IsNextRoomy ps end from pos size
    → next ≡ first_place (roomy_from (pos + size) ps) → link ≡ link_bytes order next size → OneWrite slot pos link (Ok tt) mid new → ChainSoFar slot ps end order from old mid → ChainSoFar slot ps end order (pos + size) old new
chain_next slot ps end order from pos size next link old mid new tells n at is one h =
    let rest = roomy_from (pos + size) ps in
    let eight : length link ≡ 8 = ap length is ∙ link_long order next size in
    record {
      now = λ told.
          let file : file_of new.world slot ≡ overlaid (file_of mid.world slot) pos link = file_then slot pos link mid new one (tells told) in
          let same : overlaid (file_of mid.world slot) pos link ≡ overlaid (file_of mid.world slot) n.piece.pos (link_bytes order (first_place rest) n.piece.size) =
          ap (λ (p : ℕ). overlaid (file_of mid.world slot) p link) (sym n.at)
          ∙ ap (overlaid (file_of mid.world slot) n.piece.pos) (is ∙ (ap (λ (k : ℕ). link_bytes order k size) at ∙ ap (link_bytes order (first_place rest)) (sym n.long))) in
          ap (chained order rest) (file ∙ same) ∙ (sym (ap (λ (rs : List Piece). chained order rs (file_of mid.world slot)) n.rest) ∙ h.now told);
      went = went_more slot pos link old mid new tells one h.went;
      stopped = chain_stopped slot ps end order from pos size link old mid new (Ok tt) tells n eight one h;
    }

pub link_fits : (link : List ℕ) (order : Order) (next size : ℕ) → link ≡ link_bytes order next size → length link ≡ 8
link_fits link order next size e = ap length e ∙ link_long order next size
