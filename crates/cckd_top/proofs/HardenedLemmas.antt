-- A run whose newest call hardened.
use Rattle.std.proofs.Common.{◌≡◌, ℕ, Bool, true, false, if◌then◌else◌, List, [], ◌∷◌, ◌++◌, Option, None, inl, inr, refl, sym, ◌∙◌, ap, subst}
use Rattle.std.proofs.lemmas.Bool.{false≢true}
use Rattle.std.proofs.Math.Path.{fun_ext}
use Rattle.cckd_base.specs.declared.geometry.Geometry.{Geometry}
use Rattle.cckd_base.specs.declared.call.Call.{Call}
use Rattle.cckd_base.specs.declared.reply.Reply.{Reply}
use Rattle.cckd_base.specs.declared.reply.Reply.TheVariants as reply
use Rattle.cckd_shelf.specs.Events.{Event, file_now}
use Rattle.cckd_shelf.proofs.StopLemmas.{now_is_crash_image}
use Rattle.cckd_stack.specs.Layers.{Layer, Stack, base, shadow}
use Rattle.cckd_stack.specs.Answers.{pairs_written}
use Rattle.cckd_stack.specs.History.{Entry, History, broken_at, stack_after, reply_breaks}
use Rattle.cckd_stack.specs.Moments.{EachOpens}
use Rattle.cckd_stack.specs.Opened.{Opens, OpensTo}
use Rattle.cckd_stack.specs.Stops.{TrackLies, LayerLies, Lies, hardens, hardened, written_later, Survives}
use Rattle.cckd_stack.proofs.HistoryLemmas.{survives_next}
use Rattle.cckd_top.specs.Disk.{EndsHardened}

-- a reply to a call that hardened doesn't break the disk
unbroken_reply : (c : Call) (said : Reply) → hardens c said ≡ true → reply_breaks c said ≡ false
unbroken_reply c (reply.Refused why) e = absurd (false≢true e)
unbroken_reply c (reply.Track len) e = refl
unbroken_reply c (reply.Written len) e = refl
unbroken_reply c (reply.Record key_len body_len) e = refl
unbroken_reply c (reply.Replaced len) e = refl
unbroken_reply c reply.Hardened e = refl
unbroken_reply c (reply.Turned turn) e = refl
unbroken_reply c (reply.Added slot) e = refl
unbroken_reply c (reply.Merged slot) e = refl
unbroken_reply c (reply.Dropped slot) e = refl
unbroken_reply c reply.Compressed e = refl
unbroken_reply c (reply.Shown layers counts) e = refl
unbroken_reply c (reply.Checked level bad) e = refl
unbroken_reply c reply.Closed e = refl

-- where nothing was written later each track is as it was
track_same : (t : ℕ) (old new : Option (List ℕ)) → TrackLies t [] old new → new ≡ old
track_same t old new (inl same) = same
track_same t old new (inr later) = absurd later.2

layers_same : (old new : Layer) → LayerLies old [] new → new ≡ old
layers_same old new lies = fun_ext (λ t. track_same t (old t) (new t) (lies t))

-- and so is the stack
stack_same : (hard s : Stack) → Lies hard [] s → s ≡ hard
stack_same (base a) (base b) lies = ap base (layers_same a b lies.tracks)
stack_same (base a) (shadow b lower) lies = absurd (cc lies.below)
stack_same (shadow a lower) (base b) lies = absurd (cc lies.below)
stack_same (shadow a lower) (shadow b other) lies =
    let below : other ≡ lower = cc lies.below in
    ap (λ (l : Layer). shadow l other) (layers_same a b lies.tracks) ∙ ap (shadow a) below

-- behind a call that hardened whatever a stop leaves is what the history leaves
survives_hardened : (g : Geometry) (s0 : Stack) (e : Entry) (earlier : History) (s : Stack) → hardens e.request.asked e.answer.reply ≡ true
    → broken_at earlier ≡ None → Survives g s0 (e ∷ earlier) s → s ≡ stack_after g s0 (e ∷ earlier)
survives_hardened g s0 e earlier s hard whole left =
    let now = stack_after g s0 (e ∷ earlier) in
    let lies : Lies (hardened g s0 (e ∷ earlier)) (written_later g s0 (e ∷ earlier)) s =
    subst (λ (X : Type 0). X) (survives_next g s0 earlier e s whole (unbroken_reply e.request.asked e.answer.reply hard)) left in
    let first : hardened g s0 (e ∷ earlier) ≡ now = ap (λ (b : Bool). if b then now else hardened g s0 earlier) hard in
    let second : written_later g s0 (e ∷ earlier) ≡ [] =
    ap (λ (b : Bool). if b then [] else pairs_written g (stack_after g s0 earlier) e.request e.answer.reply ++ written_later g s0 earlier) hard in
    stack_same now s (subst (λ (later : _). Lies now later s) second (subst (λ (x : Stack). Lies x (written_later g s0 (e ∷ earlier)) s) first lies))

opens_here : (g : Geometry) (s0 : Stack) (e : Entry) (earlier : History) (es : List Event) → hardens e.request.asked e.answer.reply ≡ true
    → broken_at earlier ≡ None → EachOpens g (Survives g s0 (e ∷ earlier)) es → Opens g (file_now es) (stack_after g s0 (e ∷ earlier))
opens_here g s0 e earlier es hard whole left =
    let o : OpensTo g (Survives g s0 (e ∷ earlier)) (file_now es) = left (file_now es) (now_is_crash_image es) in
    subst (Opens g (file_now es)) (survives_hardened g s0 e earlier o.stack hard whole o.holds) o.opens

-- so the files are that stack, where all operations were made
pub last_opens : (g : Geometry) (s0 : Stack) (h : History) (es : List Event) → EndsHardened h → EachOpens g (Survives g s0 h) es
    → Opens g (file_now es) (stack_after g s0 h)
last_opens g s0 h es ends left =
    subst (λ (x : History). Opens g (file_now es) (stack_after g s0 x)) (sym ends.is)
    (opens_here g s0 ends.newest ends.earlier es ends.hardened ends.whole (subst (λ (x : History). EachOpens g (Survives g s0 x) es) ends.is left))
