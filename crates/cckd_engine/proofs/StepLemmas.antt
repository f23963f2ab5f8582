-- A step of an engine, from what its disk made of the call.
use Rattle.cckd_stack.specs.Room.{Room, KeepsRoom, HasRoomCause, IsRoomLegal, room_after, room_after_call}
use Rattle.std.proofs.Common.{◌≡◌, ℕ, ◌+◌, Bool, true, false, List, ◌∷◌, length, Option, Some, None, refl, sym, ◌∙◌, ap, subst, arith, inl, inr, []}
use Rattle.std.specs.Prelude.{if◌then◌else◌}
use Rattle.std.proofs.lemmas.Bool.{cases_Bool}
use Rattle.cckd_base.specs.declared.geometry.Geometry.{Geometry}
use Rattle.cckd_base.specs.declared.reply.Refusal.TheVariants as refusal
use Rattle.cckd_shelf.specs.Events.{Event}
use Rattle.cckd_shelf.specs.Outcomes.{AtEach}
use Rattle.cckd_shelf.proofs.MomentLemmas.{at_once, at_end, weaker}
use Rattle.cckd_stack.specs.Layers.{Stack}
use Rattle.cckd_stack.specs.Answers.{Answer, MayAnswer, refused, stack_after_call}
use Rattle.cckd_stack.specs.History.{Entry, History, IsLegal, MaySay, breaks, broken_at, broken_with, stack_after}
use Rattle.cckd_stack.specs.Stops.{Lies, StaysWithin, Survives, SurvivesWithin, hardened, written_later}
use Rattle.cckd_stack.specs.Opened.{OpensTo}
use Rattle.cckd_stack.specs.Moments.{EachOpens, Hardening, IsHardened, KeepsStops}
use Rattle.cckd_stack.proofs.HistoryLemmas.{survives_unbroken, survives_next, survives_broke, survives_still, within_unbroken, within_broken, last_lies}
use Rattle.cckd_engine.specs.Engine.{tallied, tally_of, Standing, Stands, KeepsHistory, KeepsToRoom}

Some≢None : {A : Type 0} {P : Type 0} (a : A) → ◌≡◌ {A = Option A} (Some a) None → P
Some≢None a e = absurd (cc e)

-- a number, where something holds
abbrev pub number_if : Bool → ℕ → Option ℕ
number_if b n = if b then Some n else None

if_none : (b : Bool) (n : ℕ) → number_if b n ≡ None → b ≡ false
if_none true n e = Some≢None n e
if_none false n e = refl

-- what is known of each stack that a stop leaves is known of others
pub each_opens : (g : Geometry) (P Q : Stack → Type 0) (es : List Event) → ((s : Stack) → P s → Q s) → EachOpens g P es → EachOpens g Q es
each_opens g P Q es step each files image =
    let o : OpensTo g P files = each files image in
    record { stack = o.stack; opens = o.opens; holds = step o.stack o.holds }

module _ (s0 : Stack) (h : History) (e : Entry) (old new : Standing) (stands : Stands s0 h old) (same : new.geometry ≡ old.geometry)
    (number : new.calls ≡ old.calls + 1)
  where
    module _ (none : old.broken ≡ None)
        (answers : MayAnswer old.geometry old.stack e.request e.answer)
        (sure : breaks e ≡ false → new.sure ≡ true)
        (stack : breaks e ≡ false → new.stack ≡ stack_after_call old.geometry old.stack e.request e.answer.reply)
        (broken : new.broken ≡ number_if (breaks e) new.calls)
        (tally : new.tally ≡ tallied e.answer.reply old.tally)
      where
        before : broken_at h ≡ None
        before = sym stands.breaks ∙ none

        here : old.stack ≡ stack_after old.geometry s0 h
        here = stands.last none

        pub stands_next : Stands s0 (e ∷ h) new
        stands_next =
            record {
              legal = subst (λ (g : Geometry). IsLegal g s0 (e ∷ h)) (sym same) (
                stands.legal,
                record {
                  says = subst (λ (b : Option ℕ). MaySay b old.geometry (stack_after old.geometry s0 h) e.request e.answer) (sym before)
                      (subst (λ (s : Stack). MayAnswer old.geometry s e.request e.answer) here answers);
                },
              );
              last = λ still.
                  stack (if_none (breaks e) new.calls (sym broken ∙ still))
                  ∙ ap (λ (s : Stack). stack_after_call old.geometry s e.request e.answer.reply) here
                  ∙ ap (λ (g : Geometry). stack_after g s0 (e ∷ h)) (sym same);
              sure = λ still. sure (if_none (breaks e) new.calls (sym broken ∙ still));
              number = omega (arith, number, stands.number);
              breaks =
                  let is : new.calls ≡ length h + 1 = omega (arith, number, stands.number) in
                  broken ∙ ap (λ (n : ℕ). broken_with None n e) is ∙ ap (λ (b : Option ℕ). broken_with b (length h + 1) e) (sym before);
              tally = tally ∙ ap (tallied e.answer.reply) stands.tally;
            }

    pub stands_still : (at : ℕ) → old.broken ≡ Some at → e.answer ≡ refused (refusal.Broken at) → new.broken ≡ old.broken → new.tally ≡ old.tally
        → Stands s0 (e ∷ h) new
    stands_still at is said still tally =
        let before : broken_at h ≡ Some at = sym stands.breaks ∙ is in
        record {
          legal = subst (λ (g : Geometry). IsLegal g s0 (e ∷ h)) (sym same) (
            stands.legal,
            record { says = subst (λ (b : Option ℕ). MaySay b old.geometry (stack_after old.geometry s0 h) e.request e.answer) (sym before) said },
          );
          last = λ none. Some≢None at (sym is ∙ sym still ∙ none);
          sure = λ none. Some≢None at (sym is ∙ sym still ∙ none);
          number = omega (arith, number, stands.number);
          breaks = still ∙ is ∙ ap (λ (b : Option ℕ). broken_with b (length h + 1) e) (sym before);
          tally = tally ∙ stands.tally ∙ ap (λ (a : Answer). tallied a.reply (tally_of h)) (sym said);
        }

module _ (g : Geometry) (s0 : Stack) (h : History) (e : Entry) (s : Standing) (old new : List Event)
    (stands : Stands s0 h s) (same : s.geometry ≡ g) (left : EachOpens g (Survives g s0 h) old)
  where
    abbrev hardening : Hardening
    hardening = record { stack = stack_after g s0 h; hard = hardened g s0 h; later = written_later g s0 h }

    pub keeps_next : s.broken ≡ None
        → ((was : Hardening) → was.stack ≡ s.stack → IsHardened g was old → KeepsStops g was e.request e.answer.reply old new)
        → KeepsHistory g s0 h e old new
    keeps_next none keeps =
        let before : broken_at h ≡ None = sym stands.breaks ∙ none in
        let here : stack_after g s0 h ≡ s.stack = ap (λ (x : Geometry). stack_after x s0 h) (sym same) ∙ sym (stands.last none) in
        let kept : KeepsStops g hardening e.request e.answer.reply old new =
        keeps hardening here (record {
          now = last_lies g s0 h;
          stops = each_opens g (Survives g s0 h) (Lies (hardened g s0 h) (written_later g s0 h)) old
              (λ x survives. subst (λ (X : Type 0). X) (survives_unbroken g s0 h x before) survives) left;
        })
        in
        record {
          each = weaker (EachOpens g (StaysWithin g s0 h e.request)) (EachOpens g (SurvivesWithin g s0 h e.request)) old new
              (λ es. each_opens g (StaysWithin g s0 h e.request) (SurvivesWithin g s0 h e.request) es
              (λ x stays. subst (λ (X : Type 0). X) (sym (within_unbroken g s0 h e.request x before)) stays)) kept.each;
          after = elim (cases_Bool (breaks e)) [
            | inl breaking ↦
                each_opens g (StaysWithin g s0 h e.request) (Survives g s0 (e ∷ h)) new
                (λ x stays. subst (λ (X : Type 0). X) (sym (survives_broke g s0 h e x before breaking)) stays)
                (at_end (EachOpens g (StaysWithin g s0 h e.request)) old new kept.each)
            | inr fine ↦
                each_opens g (Lies (hardened g s0 (e ∷ h)) (written_later g s0 (e ∷ h))) (Survives g s0 (e ∷ h)) new
                (λ x lies. subst (λ (X : Type 0). X) (sym (survives_next g s0 h e x before fine)) lies) (kept.after fine)
          ];
        }

    pub keeps_still : (at : ℕ) → s.broken ≡ Some at → new ≡ old → KeepsHistory g s0 h e old new
    keeps_still at is still =
        let before : broken_at h ≡ Some at = sym stands.breaks ∙ is in
        record {
          each = subst (λ (es : List Event). AtEach old es (EachOpens g (SurvivesWithin g s0 h e.request))) (sym still)
              (at_once (EachOpens g (SurvivesWithin g s0 h e.request)) old
              (each_opens g (Survives g s0 h) (SurvivesWithin g s0 h e.request) old
              (λ x survives. subst (λ (X : Type 0). X) (sym (within_broken g s0 h e.request x at before)) survives) left));
          after = subst (λ (es : List Event). EachOpens g (Survives g s0 (e ∷ h)) es) (sym still)
              (each_opens g (Survives g s0 h) (Survives g s0 (e ∷ h)) old
              (λ x survives. subst (λ (X : Type 0). X) (sym (survives_still g s0 h e x at before)) survives) left);
        }

-- ---- the room

-- a history leaves the limit and the most bytes as they are
most_kept : (g : Geometry) (room : Room) (h : History) → (room_after g room h).most ≡ room.most
most_kept g room [] = refl
most_kept g room (e ∷ earlier) = most_kept g room earlier

module _ (has next : Room → Type 0) (room : Room) (s0 : Stack) (h : History) (e : Entry) (old new : Standing) (stands : Stands s0 h old) (same : new.geometry ≡ old.geometry) (keeps : KeepsToRoom has room s0 h old)
  where
    pub room_next : old.broken ≡ None → new.broken ≡ number_if (breaks e) new.calls
        → ((room : Room) → has room → KeepsRoom old.geometry room old.stack e.request e.answer.reply e.files)
        → ((room : Room) → has room → breaks e ≡ false → next (room_after_call old.geometry room e.request e.answer.reply)) → KeepsToRoom next room s0 (e ∷ h) new
    room_next none broken kept on =
        let before : broken_at h ≡ None = sym stands.breaks ∙ none in
        let here : old.stack ≡ stack_after old.geometry s0 h = stands.last none in
        let left = keeps.left none in
        let k = subst (λ (s : Stack). KeepsRoom old.geometry (room_after old.geometry room h) s e.request e.answer.reply e.files) here (kept (room_after old.geometry room h) left) in
        record {
          kept = subst (λ (g : Geometry). IsRoomLegal g room s0 (e ∷ h)) (sym same) (
            keeps.kept,
            record {
              full = k.full;
              within = λ whole.
                  let fine : breaks e ≡ false = if_none (breaks e) (length h + 1) (sym (ap (λ (b : Option ℕ). broken_with b (length h + 1) e) before) ∙ whole) in
                  let most = most_kept old.geometry room h in
                  let low = k.within fine in
                  omega (arith, most, low);
            },
          );
          left = λ still.
              let fine : breaks e ≡ false = if_none (breaks e) new.calls (sym broken ∙ still) in
              subst (λ (g : Geometry). next (room_after g room (e ∷ h))) (sym same) (on (room_after old.geometry room h) left fine);
        }

    pub room_still : (at : ℕ) → old.broken ≡ Some at → e.answer ≡ refused (refusal.Broken at) → new.broken ≡ old.broken → KeepsToRoom next room s0 (e ∷ h) new
    room_still at is said still =
        let before : broken_at h ≡ Some at = sym stands.breaks ∙ is in
        let g = old.geometry in
        record {
          kept = subst (λ (g : Geometry). IsRoomLegal g room s0 (e ∷ h)) (sym same) (
            keeps.kept,
            record {
              full = subst (λ (a : Answer). HasRoomCause g (room_after g room h) (stack_after g s0 h) e.request a.reply e.files) (sym said) tt;
              within = λ whole. Some≢None at (sym (ap (λ (b : Option ℕ). broken_with b (length h + 1) e) before) ∙ whole);
            },
          );
          left = λ none. Some≢None at (sym is ∙ sym still ∙ none);
        }
