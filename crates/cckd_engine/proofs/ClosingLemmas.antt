-- What the reply `closed` says of the files, from the marks of the layers.
use Rattle.std.proofs.Common.{◌≡◌, ⊎_elim, ℕ, suc, ◌<◌, ◌≤◌, false, List, [], ◌∷◌, ◌++◌, length, map, get_or, Option, Result, Ok, Err, OnOk, refl, sym, ◌∙◌, ap, subst, inl, inr, arith}
use Rattle.std.proofs.lemmas.Bool.{false≢true, cases_lt}
use Rattle.cckd_base.specs.declared.geometry.Geometry.{Geometry}
use Rattle.cckd_base.specs.declared.geometry.Layout.{Layout}
use Rattle.cckd_base.specs.declared.call.Call.{Call}
use Rattle.cckd_base.specs.declared.reply.Reply.{Reply}
use Rattle.cckd_base.specs.declared.reply.Reply.TheVariants as reply
use Rattle.cckd_base.specs.declared.layer_fault.StackFault.{StackFault}
use Rattle.cckd_base.specs.Header.{headers_of, layout_of}
use Rattle.cckd_shelf.specs.Events.{Event, Put, file_now}
use Rattle.cckd_shelf.specs.World.{World}
use Rattle.cckd_shelf.specs.Frame.{puts, PutsFront}
use Rattle.cckd_shelf.specs.Seen.{Seen, Tells}
use Rattle.cckd_layer.specs.Mounted.{LayerState, kept_view}
use Rattle.cckd_layer.specs.Writes.{Agrees, IsSameFile, IsSameLayer}
use Rattle.cckd_layer.proofs.StandLemmas.{stands_sits}
use Rattle.cckd_stack.specs.Answers.{Request, Answer}
use Rattle.cckd_stack.specs.History.{History, reply_breaks}
use Rattle.cckd_stack.specs.Stacked.{StackState, AreLayersFrom, OnlyCaches, uncached}
use Rattle.cckd_stack.specs.Writes.{ChangesLast, IsUnchanged, AreUnchanged, AreSameFiles, reply_by}
use Rattle.cckd_stack.specs.Called.{AgreesAfter, only_events}
use Rattle.cckd_stack.specs.Marking.{IsLeftOrClosed, MarksChanges, MarksSince, KeepMarks}
use Rattle.cckd_stack.proofs.MarkingLemmas.{left_at_put}
use Rattle.cckd_stack.proofs.LayerListLemmas.{all_at, layer_at}
use Rattle.cckd_engine.specs.Performs.{said_to_read, said_to_display, said_to_check}
use Rattle.cckd_engine.specs.Closing.{AreLeftOrClosed, EndsClosed, ClosesFiles, TellsSince}
use Rattle.cckd_engine.proofs.CallLemmas.{agrees_now}

-- ---- layers of the same files

same_last : (lower : List LayerState) (x y : LayerState) → IsSameFile x y → AreSameFiles (lower ++ x ∷ []) (lower ++ y ∷ [])
same_last [] x y same = (same, tt)
same_last (s ∷ lower) x y same = (record { slot = refl; layout = refl; limit = refl }, same_last lower x y same)

-- where the last one was changed
pub same_changed : (R : LayerState → LayerState → Type 0) → ((s n : LayerState) → R s n → IsSameFile s n) → (old new : List LayerState) → ChangesLast R old new → AreSameFiles old new
same_changed R step old new h =
    subst (λ (ls : List LayerState). AreSameFiles ls new) (sym h.old_is)
    (subst (λ (ls : List LayerState). AreSameFiles (h.lower ++ h.was ∷ []) ls) (sym h.new_is) (same_last h.lower h.was h.next (step h.was h.next h.changes)))

pub same_hardened : (s n : LayerState) → IsSameLayer s n → IsSameFile s n
same_hardened s n h = record { slot = h.slot; layout = h.layout; limit = h.limit }

-- where tables were cached
pub same_cached : (layers next : List LayerState) → OnlyCaches layers next → AreSameFiles layers next
same_cached [] [] e = tt
same_cached [] (y ∷ ys) e = absurd (cc e)
same_cached (x ∷ xs) [] e = absurd (cc e)
same_cached (x ∷ xs) (y ∷ ys) e =
    let here : uncached y ≡ uncached x = cc e in
    let rest : map uncached ys ≡ map uncached xs = cc e in (
      record {
        slot = ap (λ (s : LayerState). s.slot) here;
        layout = ap (λ (s : LayerState). s.tables.layout) here;
        limit = ap (λ (s : LayerState). s.plan.limit) here;
      },
      same_cached xs ys rest,
    )

same_length : (old new : List LayerState) → AreSameFiles old new → length new ≡ length old
same_length [] [] same = refl
same_length [] (n ∷ ns) same = absurd same
same_length (s ∷ ss) [] same = absurd same
same_length (s ∷ ss) (n ∷ ns) same = ap suc (same_length ss ns same.1)

same_slots : (g : Geometry) (slot : ℕ) (old new : List LayerState) → AreSameFiles old new → AreLayersFrom g slot old → AreLayersFrom g slot new
same_slots g slot [] [] same are = tt
same_slots g slot [] (n ∷ ns) same are = absurd same
same_slots g slot (s ∷ ss) [] same are = absurd same
same_slots g slot (s ∷ ss) (n ∷ ns) same are = (
  record { slot_is = same.0.slot ∙ are.0.slot_is; shape = ap (λ (l : Layout). l.geo) same.0.layout ∙ are.0.shape },
  same_slots g (suc slot) ss ns same.1 are.1,
)

-- ---- files that were left or closed

-- of layers none of which was changed
module _ (s : StackState) (base now : List Event) (m : MarksSince s base now) (calm : AreUnchanged s.layers) (agree : AgreesAfter s now) (d : LayerState) where
  -- the layout of a layer is the one that its file says
  says : (x : LayerState) → Agrees x (only_events now) → x.tables.layout ≡ layout_of (headers_of (file_now now x.slot))
  says x a = (stands_sits (kept_view x) x.slot (only_events now) a.stands).whole.headed.says

  closed_at : (slot : ℕ) → slot < length s.layers → IsLeftOrClosed (layout_of (headers_of (file_now now slot))) slot base now
  closed_at slot low =
      let x = get_or s.layers slot d in
      let own = layer_at s.geometry slot 0 s.layers slot d (omega arith) m.layers low in
      let a : Agrees x (only_events now) = all_at (λ (y : LayerState). Agrees y (only_events now)) s.layers slot d agree low in
      let fresh : IsUnchanged x = all_at IsUnchanged s.layers slot d calm low in
      let mark : MarksChanges base now x = all_at (MarksChanges base now) s.layers slot d m.marks low in
      subst (λ (k : ℕ). IsLeftOrClosed (layout_of (headers_of (file_now now k))) k base now) own.slot_is
      (subst (λ (l : Layout). IsLeftOrClosed l x.slot base now) (says x a)
      (elim mark [ inl marked ↦ absurd (false≢true (sym fresh.unmarked ∙ marked)) | inr left ↦ left.1 ]))

  pub left_or_closed : AreLeftOrClosed base now
  left_or_closed slot few here = ⊎_elim
      (λ (low : slot < length s.layers). closed_at slot low)
      (λ (high : length s.layers ≤ slot). absurd (false≢true (sym (m.above slot high few) ∙ here)))
      (cases_lt slot (length s.layers))

-- ---- a call

left_behind : (s : StackState) (base now : List Event) → MarksSince s base now → AreUnchanged s.layers → AgreesAfter s now → AreLeftOrClosed base now
left_behind s base now m calm agree = by s.layers refl
  where
    by : (ls : List LayerState) → s.layers ≡ ls → AreLeftOrClosed base now
    by [] none = λ slot few here. absurd (false≢true (sym (m.above slot (let e = ap length none in omega (arith, e)) few) ∙ here))
    by (x ∷ xs) some = left_or_closed s base now m calm agree x

-- from what it keeps of the marks, and that nothing is left to close behind the reply `closed`
pub closes_by : (r : Request) (said : Answer) (old new : StackState) (before after : Seen) → new.geometry ≡ old.geometry → AreSameFiles old.layers new.layers
    → (reply_breaks r.asked said.reply ≡ false → KeepMarks old.layers new.layers before after)
    → (reply_breaks r.asked said.reply ≡ false → Tells before → AgreesAfter old before.world.events → AgreesAfter new after.world.events)
    → (said.reply ≡ reply.Closed → (reply_breaks r.asked said.reply ≡ false) × AreUnchanged new.layers)
    → ClosesFiles r said old new before after
closes_by r said old new before after geometry same keeps agrees unchanged = λ base told agree m. record {
  again = λ fine. again base told agree m fine;
  closed = λ closed.
      let u = unchanged closed in
      left_behind new base after.world.events (again base told agree m u.0) u.1 (agrees u.0 told agree);
}
  where
    again : (base : List Event) → Tells before → AgreesAfter old before.world.events → MarksSince old base before.world.events → reply_breaks r.asked said.reply ≡ false → MarksSince new base after.world.events
    again base told agree m fine = record {
      layers = subst (λ (g : Geometry). AreLayersFrom g 0 new.layers) (sym geometry) (same_slots old.geometry 0 old.layers new.layers same m.layers);
      marks = keeps fine base told (agrees_now old before.world agree) m.marks;
      above = λ slot high few. m.above slot (let e = same_length old.layers new.layers same in omega (arith, e, high)) few;
    }

-- ---- which replies are `closed`

pub read_open : (result : Result ℕ StackFault) → said_to_read result ≡ reply.Closed → ⊥
read_open (Ok len) e = cc e
read_open (Err why) e = cc e

pub display_open : (result : Result (ℕ × List ℕ) StackFault) → said_to_display result ≡ reply.Closed → ⊥
display_open (Ok shown) e = cc e
display_open (Err why) e = cc e

pub check_open : (level : ℕ) (result : Result ℕ StackFault) → said_to_check level result ≡ reply.Closed → ⊥
check_open level (Ok bad) e = cc e
check_open level (Err why) e = cc e

pub done_open : (done : Reply) (result : Result (Unit {0}) StackFault) → (done ≡ reply.Closed → ⊥) → reply_by done result ≡ reply.Closed → ⊥
done_open done (Ok u) other e = other e
done_open done (Err why) other e = cc e

pub close_open : (c : Call) (result : Result (Unit {0}) StackFault) (P : Type 0) → OnOk result P → reply_by reply.Closed result ≡ reply.Closed → (reply_breaks c (reply_by reply.Closed result) ≡ false) × P
close_open c (Ok u) P h e = (refl, h)
close_open c (Err why) P h e = absurd (let k = e in cc)

-- ---- an engine

pub closed_at_puts : (base now : List Event) (pieces : List (List ℕ)) → AreLeftOrClosed base now → AreLeftOrClosed base (puts pieces ++ now)
closed_at_puts base now [] h = h
closed_at_puts base now (piece ∷ earlier) h = λ slot few here.
    let l = layout_of (headers_of (file_now (puts earlier ++ now) slot)) in
    left_at_put l slot base (puts earlier ++ now) piece (closed_at_puts base now earlier h slot few here)

marks_at_puts : (marks : List Event → List Event → Type 0) → ((bytes : List ℕ) (base es : List Event) → marks base es → marks base (Put bytes ∷ es))
    → (base : List Event) (pieces : List (List ℕ)) (es : List Event) → marks base es → marks base (puts pieces ++ es)
marks_at_puts marks step base [] es h = h
marks_at_puts marks step base (piece ∷ earlier) es h = step piece base (puts earlier ++ es) (marks_at_puts marks step base earlier es h)

pub tells_since_puts : (marks : List Event → List Event → Type 0) (broken : Option ℕ) (base : List Event) (h k : History) (text : List ℕ) (old new : World)
    → ((bytes : List ℕ) (base es : List Event) → marks base es → marks base (Put bytes ∷ es)) → PutsFront text old new → (EndsClosed k → EndsClosed h)
    → TellsSince marks broken base h old.events → TellsSince marks broken base k new.events
tells_since_puts marks broken base h k text old new step put ends was = record {
  since = λ whole. subst (marks base) (sym put.put.events) (marks_at_puts marks step base put.put.pieces old.events (was.since whole));
  closed = λ closed. subst (AreLeftOrClosed base) (sym put.put.events) (closed_at_puts base old.events put.put.pieces (was.closed (ends closed)));
}
