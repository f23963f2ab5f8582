-- A chain that was written is read back, link by link.
use Rattle.std.proofs.Common.{◌≡◌, ℕ, ◌+◌, ◌≤◌, nat_le, List, [], ◌∷◌, ◌++◌, length, take, drop, refl, sym, ◌∙◌, ap, subst, inl, inr, arith}
use Rattle.std.specs.Int.{w32}
use Rattle.std.proofs.lemmas.Bool.{cond_both, and_parts, leb-true}
use Rattle.std.proofs.lemmas.List.{take-take, drop-take, drop-drop}
use Rattle.std.proofs.lemmas.Nat.{from_le_bytes-to_le_bytes_4, from_be_bytes-to_be_bytes_4}
use Rattle.std.proofs.Math.Seq.{take-append_seam, drop-append_seam}
use Rattle.cckd_shelf.specs.Files.{overlaid}
use Rattle.cckd_shelf.proofs.OutcomeLemmas.{length_overlaid, overlaid_within_range, write_made}
use Rattle.cckd_base.specs.declared.order.Order.{Order}
use Rattle.cckd_base.specs.declared.order.Order.TheVariants.{Little, Big}
use Rattle.cckd_base.specs.Numbers.{number_of, bytes_of, bytes_at, number_at}
use Rattle.cckd_base.specs.Geometry.{format_limit}
use Rattle.cckd_space.specs.declared.piece.Piece.{Piece}
use Rattle.cckd_space.specs.Pieces.{IsLaid, is_free, is_roomy}
use Rattle.cckd_layer.specs.Chain.{link_bytes, first_place, chained, roomy_pieces}
use Rattle.cckd_layer.specs.Closed.{IsChain}
use Rattle.cckd_layer.proofs.ChainLemmas.{four, link_long}
use Rattle.cckd_layer.proofs.FillLemmas.{write_fills, fills_part}

-- spaces of at least 8 bytes in order from a place on, each behind the one before, up to an end
abbrev pub AreInOrder : ℕ → List Piece → ℕ → Type 0
AreInOrder at [] end = at ≤ end
AreInOrder at (p ∷ ps) end = (at ≤ p.pos) × (8 ≤ p.size) × AreInOrder (p.pos + p.size) ps end

order_from : (from at : ℕ) (ps : List Piece) (end : ℕ) → from ≤ at → AreInOrder at ps end → AreInOrder from ps end
order_from from at [] end low h = omega (arith, low, h)
order_from from at (p ∷ ps) end low h = (omega (arith, low, h.0), h.1, h.2)

order_ends : (at : ℕ) (ps : List Piece) (end : ℕ) → AreInOrder at ps end → at ≤ end
order_ends at [] end h = h
order_ends at (p ∷ ps) end h = let r = order_ends (p.pos + p.size) ps end h.2 in omega (arith, r, h.0)

pub roomy_in_order : (at : ℕ) (ps : List Piece) (end : ℕ) → IsLaid at ps end → AreInOrder at (roomy_pieces ps) end
roomy_in_order at [] end laid = omega (arith, laid)
roomy_in_order at (p ∷ ps) end laid =
    let rest = roomy_in_order (at + p.size) ps end laid.2 in
    let far : AreInOrder (p.pos + p.size) (roomy_pieces ps) end = subst (λ (n : ℕ). AreInOrder (n + p.size) (roomy_pieces ps) end) (sym laid.0.place) rest in
    cond_both (is_roomy p) (p ∷ roomy_pieces ps) (roomy_pieces ps) (λ (rs : List Piece). AreInOrder at rs end)
    (λ e. (omega (arith, laid.0.place), leb-true 8 p.size (and_parts (is_free p) (nat_le 8 p.size) e).1, far))
    (λ e. order_from at (at + p.size) (roomy_pieces ps) end (omega arith) rest)

-- each of them begins with its link
abbrev pub HasLinks : Order → List ℕ → List Piece → Type 0
HasLinks order file [] = Unit {0}
HasLinks order file (p ∷ ps) = (bytes_at file p.pos 8 ≡ link_bytes order (first_place ps) p.size) × HasLinks order file ps

-- bytes before them stay
chained_front : (order : Order) (at : ℕ) (ps : List Piece) (end : ℕ) (was : List ℕ) (p m : ℕ) → AreInOrder at ps end → p + m ≤ at → p + m ≤ length was → bytes_at (chained order ps was) p m ≡ bytes_at was p m
chained_front order at [] end was p m h low within = refl
chained_front order at (q ∷ qs) end was p m h low within =
    let link = link_bytes order (first_place qs) q.size in
    let file = overlaid was q.pos link in
    let fills = write_fills q.pos link was file (write_made q.pos link was) in
    chained_front order (q.pos + q.size) qs end file p m h.2 (omega (arith, low, h.0)) (omega (arith, within, fills.no_shorter))
    ∙ fills_part q.pos (length link) was file p m fills (inl (omega (arith, low, h.0))) within

pub chained_links : (order : Order) (at : ℕ) (ps : List Piece) (end : ℕ) (was : List ℕ) → AreInOrder at ps end → HasLinks order (chained order ps was) ps
chained_links order at [] end was h = tt
chained_links order at (q ∷ qs) end was h =
    let link = link_bytes order (first_place qs) q.size in
    let file = overlaid was q.pos link in
    let eight = link_long order (first_place qs) q.size in (
      chained_front order (q.pos + q.size) qs end file q.pos 8 h.2 (omega (arith, h.1)) (omega (arith, length_overlaid was q.pos link, eight))
          ∙ (ap (bytes_at file q.pos) (sym eight) ∙ overlaid_within_range was q.pos link),
      chained_links order (q.pos + q.size) qs end file h.2,
    )

-- and so does the second header leave them
pub headed_links : (order : Order) (at : ℕ) (ps : List Piece) (end : ℕ) (file bytes : List ℕ) → 1024 ≤ at → end ≤ length file → length bytes ≡ 512 → AreInOrder at ps end → HasLinks order file ps → HasLinks order (overlaid file 512 bytes) ps
headed_links order at [] end file bytes low long half h links = tt
headed_links order at (q ∷ qs) end file bytes low long half h links =
    let new = overlaid file 512 bytes in
    let fills = write_fills 512 bytes file new (write_made 512 bytes file) in
    let ends = order_ends (q.pos + q.size) qs end h.2 in (
      fills_part 512 (length bytes) file new q.pos 8 fills (inr (omega (arith, low, half, h.0))) (omega (arith, ends, long, h.1)) ∙ links.0,
      headed_links order (q.pos + q.size) qs end file bytes (omega (arith, low, h.0)) long half h.2 links.1,
    )

-- ---- reading

number_back : (order : Order) (n : ℕ) → n ≤ format_limit → number_of order w32 (bytes_of order w32 n) ≡ n
number_back Little n short = from_le_bytes-to_le_bytes_4 n (omega (arith, short))
number_back Big n short = from_be_bytes-to_be_bytes_4 n (omega (arith, short))

-- the two numbers of a link
next_read : (order : Order) (file : List ℕ) (at next size : ℕ) → next ≤ format_limit → bytes_at file at 8 ≡ link_bytes order next size → number_at order w32 file at ≡ next
next_read order file at next size short link =
    let a = bytes_of order w32 next in
    let b = bytes_of order w32 size in
    ap (number_of order w32) (sym (take-take 4 8 (drop at file) (omega arith)) ∙ (ap (take 4) link ∙ (ap (λ (n : ℕ). take n (a ++ b)) (sym (four order next)) ∙ take-append_seam a b)))
    ∙ number_back order next short

size_read : (order : Order) (file : List ℕ) (at next size : ℕ) → size ≤ format_limit → bytes_at file at 8 ≡ link_bytes order next size → number_at order w32 file (at + 4) ≡ size
size_read order file at next size short link =
    let a = bytes_of order w32 next in
    let b = bytes_of order w32 size in
    let behind : drop 4 (take 8 (drop at file)) ≡ b = ap (drop 4) link ∙ (ap (λ (n : ℕ). drop n (a ++ b)) (sym (four order next)) ∙ drop-append_seam a b) in
    ap (number_of order w32) (ap (take 4) (sym (drop-drop 4 at file)) ∙ (sym (drop-take 4 4 (drop at file)) ∙ behind))
    ∙ number_back order size short

first_short : (at : ℕ) (ps : List Piece) (end : ℕ) → end ≤ format_limit → AreInOrder at ps end → first_place ps ≤ format_limit
first_short at [] end short h = omega arith
first_short at (p ∷ ps) end short h = let ends = order_ends (p.pos + p.size) ps end h.2 in omega (arith, ends, short)

pub chain_read : (order : Order) (at : ℕ) (ps : List Piece) (end : ℕ) (file : List ℕ) → end ≤ format_limit → AreInOrder at ps end → HasLinks order file ps → IsChain order file (first_place ps) ps
chain_read order at [] end file short h links = refl
chain_read order at (p ∷ ps) end file short h links =
    let ends = order_ends (p.pos + p.size) ps end h.2 in
    let next = next_read order file p.pos (first_place ps) p.size (first_short (p.pos + p.size) ps end short h.2) links.0 in (
      refl,
      size_read order file p.pos (first_place ps) p.size (omega (arith, ends, short)) links.0,
      subst (λ (n : ℕ). IsChain order file n ps) (sym next) (chain_read order (p.pos + p.size) ps end file short h.2 links.1),
    )
