-- Closing: the chain and the second header, at each operation and once they are there.
use Rattle.std.proofs.Common.{◌≡◌, ℕ, List, Result, OnOk, OnErr, refl, sym, ◌∙◌, ap, subst, inl}
use Rattle.cckd_shelf.specs.declared.fault.Failed.{Failed}
use Rattle.cckd_shelf.specs.Events.{Event}
use Rattle.cckd_shelf.specs.Files.{overlaid}
use Rattle.cckd_shelf.specs.World.{World, IsSure, file_of, after_write, after_sync}
use Rattle.cckd_shelf.specs.Seen.{Seen, Tells, Makes, Stays}
use Rattle.cckd_shelf.specs.Outcomes.{EachOutcome}
use Rattle.cckd_shelf.specs.Stops.{StopsLeave}
use Rattle.cckd_shelf.proofs.MomentLemmas.{weaker, joins, at_end, then_synced}
use Rattle.cckd_shelf.proofs.WorldLemmas.{now_wrote, sure_wrote}
use Rattle.cckd_base.specs.declared.order.Order.{Order}
use Rattle.cckd_image.specs.declared.header.CckdHeader.{CckdHeader}
use Rattle.cckd_image.specs.declared.header.ImageHeader.{ImageHeader}
use Rattle.cckd_space.specs.declared.piece.Piece.{Piece}
use Rattle.cckd_space.specs.declared.piece.Totals.{Totals}
use Rattle.cckd_layer.specs.Changes.{IsRemarked, IsChained}
use Rattle.cckd_layer.specs.Marks.{SpellsSecond}
use Rattle.cckd_layer.specs.Chain.{chained, roomy_from, closed_second, closed_header, IsClosingAs, IsClosedFrom}

pub spells_closed : (bytes : List ℕ) (h : ImageHeader) (t u : Totals) (closed : ImageHeader) → closed ≡ closed_header t h → t ≡ u → SpellsSecond bytes closed.cckd → SpellsSecond bytes (closed_second u h.cckd)
spells_closed bytes h t u closed e f s = subst (λ (x : ImageHeader). SpellsSecond bytes x.cckd) (e ∙ ap (λ (y : Totals). closed_header y h) f) s

pub chain_synced : (slot : ℕ) (ps : List Piece) (end : ℕ) (old mid new : Seen) (result : Result (Unit {0}) Failed) → (Tells old → Tells mid) → StopsLeave slot (IsChained old.world.events slot ps end) old mid
    → OnOk result (Makes (after_sync slot) mid new) → OnErr result (Stays mid new) → StopsLeave slot (IsChained old.world.events slot ps end) old new
chain_synced slot ps end old mid new result tells first synced kept = λ told.
    then_synced (IsChained old.world.events slot ps end) slot slot old mid new result synced kept (tells told) (first told)

-- while the chain is written
pub closing_first : (slot : ℕ) (ps : List Piece) (end : ℕ) (bytes : List ℕ) (c : CckdHeader) (old mid : Seen) → SpellsSecond bytes c → StopsLeave slot (IsChained old.world.events slot ps end) old mid
    → StopsLeave slot (IsClosingAs old.world.events slot ps end c) old mid
closing_first slot ps end bytes c old mid spells first = λ told.
    weaker (EachOutcome slot (IsChained old.world.events slot ps end)) (EachOutcome slot (IsClosingAs old.world.events slot ps end c)) old.world.events mid.world.events
    (λ es h f o. (bytes, spells, (f, h f o, inl refl))) (first told)

-- and behind it
pub closing_both : (slot : ℕ) (ps : List Piece) (end : ℕ) (bytes : List ℕ) (c : CckdHeader) (old mid new : Seen) → (Tells old → Tells mid) → SpellsSecond bytes c → StopsLeave slot (IsChained old.world.events slot ps end) old mid
    → StopsLeave slot (IsRemarked mid.world.events slot bytes) mid new → StopsLeave slot (IsClosingAs old.world.events slot ps end c) old new
closing_both slot ps end bytes c old mid new tells spells first second = λ told.
    let Q : List Event → Type 0 = EachOutcome slot (IsClosingAs old.world.events slot ps end c) in
    let chain = at_end (EachOutcome slot (IsChained old.world.events slot ps end)) old.world.events mid.world.events (first told) in
    joins Q old.world.events mid.world.events new.world.events (closing_first slot ps end bytes c old mid spells first told)
    (weaker (EachOutcome slot (IsRemarked mid.world.events slot bytes)) Q mid.world.events new.world.events (λ es h f o. let k = h f o in (bytes, spells, (k.0, chain k.0 k.1, k.2))) (second (tells told)))

-- the file once all is written
pub closed_from : (slot : ℕ) (order : Order) (ps : List Piece) (bytes : List ℕ) (c : CckdHeader) (old mid new : Seen) → SpellsSecond bytes c
    → file_of mid.world slot ≡ chained order (roomy_from 0 ps) (file_of old.world slot) → new.world ≡ after_sync slot (after_write slot 512 bytes mid.world)
    → IsClosedFrom order ps c (file_of old.world slot) (file_of new.world slot)
closed_from slot order ps bytes c old mid new spells chain made =
    (bytes, spells, ap (λ (w : World). file_of w slot) made ∙ (now_wrote slot 512 bytes mid.world (after_write slot 512 bytes mid.world) refl ∙ ap (λ (f : List ℕ). overlaid f 512 bytes) chain))

-- no operation failed half way
pub closed_sure : (slot : ℕ) (bytes : List ℕ) (mid new : Seen) → IsSure mid.world → new.world ≡ after_sync slot (after_write slot 512 bytes mid.world) → IsSure new.world
closed_sure slot bytes mid new sure made =
    subst IsSure (sym made) (sure_wrote slot 512 bytes mid.world (after_write slot 512 bytes mid.world) refl sure)
