-- Layers that agree with their files: once they are mounted, and whatever is put.
use Rattle.std.proofs.Common.{◌≡◌, ⊎_elim, ℕ, zero, suc, ◌+◌, ◌-◌, ◌<◌, ◌≤◌, true, List, [], ◌∷◌, ◌++◌, length, map, refl, sym, ◌∙◌, ap, subst, inl, inr, arith}
use Rattle.std.specs.Prelude.{IsTrue, T}
use Rattle.std.proofs.Math.Path.{fun_ext}
use Rattle.std.proofs.lemmas.Bool.{cases_lt}
use Rattle.cckd_base.specs.Track.{null_track}
use Rattle.cckd_shelf.specs.Events.{Event, Put, is_sure, file_now}
use Rattle.cckd_shelf.specs.Seen.{Seen, Tells, Stays}
use Rattle.cckd_shelf.specs.Frame.{puts, PutsSome}
use Rattle.cckd_shelf.specs.World.{World, IsSure, file_of, after_sync, after_put}
use Rattle.cckd_shelf.specs.Outcomes.{EachOutcome}
use Rattle.cckd_shelf.proofs.OutcomeLemmas.{sync_step, sync_leaves_now}
use Rattle.cckd_tables.specs.Tables.{AreOf}
use Rattle.cckd_layer.specs.Sits.{IsMarked, Sits}
use Rattle.cckd_layer.specs.Current.{Current}
use Rattle.cckd_layer.specs.Mounted.{LayerState, IsFresh, IsOf, kept_view, with_tables}
use Rattle.cckd_layer.specs.Stands.{Stands, nothing_staged}
use Rattle.cckd_layer.specs.Writes.{Agrees, claimed_view}
use Rattle.cckd_layer.specs.Held.{NullBytes}
use Rattle.cckd_layer.specs.Marks.{FitsLayout}
use Rattle.cckd_layer.specs.Loose.{Tied}
use Rattle.cckd_layer.proofs.CallerLemmas.{mounted_agrees}
use Rattle.cckd_layer.proofs.SureLemmas.{sure_before}
use Rattle.cckd_layer.proofs.TiedLemmas.{mount_loose, tied_reads}
use Rattle.cckd_layer.proofs.ExcessLemmas.{tied_stays, tied_sure as layer_sure, loose_events, loose_put}
use Rattle.cckd_base.specs.declared.geometry.Geometry.{Geometry}
use Rattle.cckd_base.specs.Geometry.{format_limit}
use Rattle.cckd_tables.specs.Looking.{with_cached}
use Rattle.cckd_stack.specs.Layers.{layer_count}
use Rattle.cckd_stack.specs.Opened.{Opens}
use Rattle.cckd_stack.specs.Stacked.{StackState, IsStack, OfFiles, CanReadAll, OnlyCaches, uncached, maps_of, stack_by, stack_of}
use Rattle.cckd_stack.specs.Mounting.{roles_in, IsMounted, HasMounted, AreFreshFrom, AreOfFrom, StandFrom, after_syncs}
use Rattle.cckd_stack.specs.Writes.{AgreeAll, AreTied, KeepsEach, AreUnchanged, IsHardenedLast, HasHardening, AreSnugFrom, AreAbsentAbove, all_mounted, stack_now}
use Rattle.cckd_stack.specs.Called.{CanCall, AgreesAfter, only_events}
use Rattle.cckd_stack.proofs.HistoryLemmas.{lies_same}
use Rattle.cckd_stack.proofs.LayerListLemmas.{all_between, maps_length, caches_maps}
use Rattle.cckd_stack.proofs.TopLemmas.{stand_agree}
use Rattle.cckd_stack.proofs.BridgeLemmas.{mounted_opens, count_to}
use Rattle.cckd_stack.proofs.MountedLemmas.{syncs_files, syncs_sure, stands_still}

-- ---- reading, and what is put

pub tied_reads_all : (layers : List LayerState) (s : Seen) → (Tells s → IsSure s.world → AreTied layers s.world) → CanReadAll layers s
tied_reads_all [] s tied = tt
tied_reads_all (x ∷ xs) s tied = (tied_reads x s (λ told sure. (tied told sure).0), tied_reads_all xs s (λ told sure. (tied told sure).1))

-- only what has happened counts
agrees_by : (s : LayerState) (v w : World) → v.events ≡ w.events → Agrees s v → Agrees s w
agrees_by s v w e a = record {
  stands = record {
    sure = subst (λ (es : List Event). IsTrue (is_sure es)) e a.stands.sure;
    now = subst (λ (es : List Event). Current s.tables.layout s.tables.stages [] s.plan (file_now es s.slot)) e a.stands.now;
    each = subst (EachOutcome s.slot (Sits s.tables.layout s.plan.pieces)) e a.stands.each;
    marked = λ m. subst (EachOutcome s.slot IsMarked) e (a.stands.marked m);
  };
  are = subst (λ (es : List Event). AreOf s.tables (file_now es s.slot)) e a.are;
  fits = a.fits;
  empty = a.empty;
  alone = λ h. subst (λ (es : List Event). EachOutcome s.slot (λ f. f ≡ file_now es s.slot) es) e (a.alone h);
}

pub agree_by : (layers : List LayerState) (v w : World) → v.events ≡ w.events → AgreeAll layers v → AgreeAll layers w
agree_by layers v w e agree = all_between (λ (s : LayerState). Agrees s v) (λ (s : LayerState). Agrees s w) layers (λ s a. agrees_by s v w e a) agree

agrees_put : (s : LayerState) (bytes : List ℕ) (w : World) → Agrees s w → Agrees s (after_put bytes w)
agrees_put s bytes w a = record {
  stands = record { sure = a.stands.sure; now = a.stands.now; each = a.stands.each; marked = a.stands.marked };
  are = a.are;
  fits = a.fits;
  empty = a.empty;
  alone = a.alone;
}

pub agree_put : (layers : List LayerState) (bytes : List ℕ) (w : World) → AgreeAll layers w → AgreeAll layers (after_put bytes w)
agree_put layers bytes w agree = all_between (λ (s : LayerState). Agrees s w) (λ (s : LayerState). Agrees s (after_put bytes w)) layers (λ s a. agrees_put s bytes w a) agree

-- so it is of layers that are tied to their files
tied_by_all : (layers : List LayerState) (v w : World) → v.events ≡ w.events → AreTied layers v → AreTied layers w
tied_by_all layers v w e tied = all_between (λ (s : LayerState). Tied s v) (λ (s : LayerState). Tied s w) layers one tied
  where
    one : (s : LayerState) → Tied s v → Tied s w
    one s (inl a) = inl (agrees_by s v w e a)
    one s (inr h) = inr (loose_events s v w e h)

tied_put : (layers : List LayerState) (bytes : List ℕ) (w : World) → AreTied layers w → AreTied layers (after_put bytes w)
tied_put layers bytes w tied = all_between (λ (s : LayerState). Tied s w) (λ (s : LayerState). Tied s (after_put bytes w)) layers one tied
  where
    one : (s : LayerState) → Tied s w → Tied s (after_put bytes w)
    one s (inl a) = inl (agrees_put s bytes w a)
    one s (inr h) = inr (loose_put s bytes w h)

-- so it is where nothing else happens than that text is put
tied_puts : (layers : List LayerState) (pieces : List (List ℕ)) (v w : World) → w.events ≡ puts pieces ++ v.events → AreTied layers v → AreTied layers w
tied_puts layers [] v w e tied = tied_by_all layers v w (sym e) tied
tied_puts layers (piece ∷ earlier) v w e tied =
    let mid : World = record v { events = puts earlier ++ v.events } in
    tied_by_all layers (after_put piece mid) w (sym e) (tied_put layers piece mid (tied_puts layers earlier v mid refl tied))

pub can_call_puts : (s : StackState) (text : List ℕ) (now next : Seen) → next.tells ≡ now.tells → PutsSome text now next → CanCall s now → CanCall s next
can_call_puts s text now next same put can = record {
  whole = can.whole;
  tied = λ told sure.
      let before : Tells now = subst T same told in
      let p = (put before).put in
      let was = sure_before (puts p.pieces) now.world.events (subst (λ (es : List Event). is_sure es ≡ true) p.events sure) in
      tied_puts s.layers p.pieces now.world next.world p.events (can.tied before was);
}

pub can_call_still : (s : StackState) (now next : Seen) → next.tells ≡ now.tells → (Tells now → now.world.events ≡ next.world.events) → CanCall s now → CanCall s next
can_call_still s now next same events can = record {
  whole = can.whole;
  tied = λ told sure.
      let before : Tells now = subst T same told in
      let was = subst (λ (es : List Event). is_sure es ≡ true) (sym (events before)) sure in
      tied_by_all s.layers now.world next.world (events before) (can.tied before was);
}

-- layers that agree with their files are tied to them
pub agree_tied : (layers : List LayerState) (w : World) → AgreeAll layers w → AreTied layers w
agree_tied layers w agree = all_between (λ (s : LayerState). Agrees s w) (λ (s : LayerState). Tied s w) layers (λ s a. inl a) agree

pub agrees_after_put : (s : StackState) (bytes : List ℕ) (events : List Event) → AgreesAfter s events → AgreesAfter s (Put bytes ∷ events)
agrees_after_put s bytes events agree = agree_by s.layers (after_put bytes (only_events events)) (only_events (Put bytes ∷ events)) refl (agree_put s.layers bytes (only_events events) agree)

-- ---- only cached tables change

agrees_uncached : (x y : LayerState) (w : World) → uncached y ≡ uncached x → AreOf y.tables (file_of w y.slot) → Agrees x w → Agrees y w
agrees_uncached x y w e are a = record {
  stands = subst (λ (s : LayerState). Stands (claimed_view [] s) s.slot w) (sym e) a.stands;
  are = are;
  fits = subst (λ (s : LayerState). FitsLayout s.tables.layout s.header.cckd) (sym e) a.fits;
  empty = λ h. subst (λ (s : LayerState). s.tables.stages ≡ nothing_staged) (sym e) (a.empty (subst (λ (s : LayerState). s.hardened ≡ true) e h));
  alone = λ h. subst (λ (s : LayerState). EachOutcome s.slot (λ f. f ≡ file_of w s.slot) w.events) (sym e) (a.alone (subst (λ (s : LayerState). s.hardened ≡ true) e h));
}

module _ (old new : Seen) (same : new.world ≡ old.world) (told : Tells new) where
  caches_agree : (layers next : List LayerState) → OnlyCaches layers next → CanReadAll next new → AgreeAll layers old.world → AgreeAll next new.world
  caches_agree [] [] e can agree = tt
  caches_agree [] (y ∷ ys) e can agree = absurd (cc e)
  caches_agree (x ∷ xs) [] e can agree = absurd (cc e)
  caches_agree (x ∷ xs) (y ∷ ys) e can agree =
      let here : uncached y ≡ uncached x = cc e in
      let rest : map uncached ys ≡ map uncached xs = cc e in
      let sure : IsSure new.world = subst IsSure (sym same) agree.0.stands.sure in (
        agrees_uncached x y new.world here (can.0 told sure).are (subst (Agrees x) (sym same) agree.0),
        caches_agree xs ys rest can.1 agree.1,
      )

  caches_tied : (layers next : List LayerState) → OnlyCaches layers next → CanReadAll next new → AreTied layers old.world → AreTied next new.world
  caches_tied [] [] e can tied = tt
  caches_tied [] (y ∷ ys) e can tied = absurd (cc e)
  caches_tied (x ∷ xs) [] e can tied = absurd (cc e)
  caches_tied (x ∷ xs) (y ∷ ys) e can tied =
      let here : uncached y ≡ uncached x = cc e in
      let rest : map uncached ys ≡ map uncached xs = cc e in
      let looked : y ≡ with_tables x (with_cached x.tables y.tables.cached) = ap (λ (s : LayerState). with_tables s (with_cached s.tables y.tables.cached)) here in
      (tied_stays x y old new tied.0 same looked can.0 told, caches_tied xs ys rest can.1 tied.1)

pub caches_keep : (null : NullBytes) (layers next : List LayerState) (old new : Seen) → OnlyCaches layers next → (Tells old → Tells new) → Stays old new → CanReadAll next new
    → KeepsEach null layers next old new
caches_keep null layers next old new e tells stays can = record {
  agreed = λ told agree. record { agree = caches_agree old new (stays told) (tells told) layers next e can agree; are = are told };
  tied = λ told tied. record { agree = caches_tied old new (stays told) (tells told) layers next e can tied; are = are told };
}
  where
    are : Tells old → stack_now null next new ≡ stack_now null layers old
    are told = ap (λ (w : World). stack_of null next (file_of w)) (stays told) ∙ ap stack_by (caches_maps null (file_of old.world) layers next e)

pub caches_unchanged : (layers next : List LayerState) → OnlyCaches layers next → AreUnchanged layers → AreUnchanged next
caches_unchanged [] [] e are = tt
caches_unchanged [] (y ∷ ys) e are = absurd (cc e)
caches_unchanged (x ∷ xs) [] e are = absurd (cc e)
caches_unchanged (x ∷ xs) (y ∷ ys) e are =
    let here : uncached y ≡ uncached x = cc e in
    let rest : map uncached ys ≡ map uncached xs = cc e in
    let was = are.0 in
    (record { unmarked = ap (λ (s : LayerState). s.marked) here ∙ was.unmarked; hardened = ap (λ (s : LayerState). s.hardened) here ∙ was.hardened }, caches_unchanged xs ys rest are.1)

-- ---- unchanged, and sure

pub unchanged_last : (layers : List LayerState) → 1 ≤ length layers → AreUnchanged layers → IsHardenedLast layers
unchanged_last [] some are = absurd (omega (arith, some))
unchanged_last (x ∷ []) some are = record { lower = []; last = x; layers_are = refl; holds = are.0.hardened }
unchanged_last (x ∷ y ∷ ys) some are =
    let h : IsHardenedLast (y ∷ ys) = unchanged_last (y ∷ ys) (omega arith) are.1 in
    record { lower = x ∷ h.lower; last = h.last; layers_are = ap (λ (ls : List LayerState). x ∷ ls) h.layers_are; holds = h.holds }

pub tied_sure : (layers : List LayerState) (w : World) → 1 ≤ length layers → AreTied layers w → IsSure w
tied_sure [] w some tied = absurd (omega (arith, some))
tied_sure (x ∷ xs) w some tied = layer_sure x w tied.0

-- ---- once they are mounted

-- each slot that was synced holds its file for good
synced_alone : (n k : ℕ) (w : World) → k < n → IsSure w → EachOutcome k (λ f. f ≡ file_of w k) (after_syncs n w).events
synced_alone zero k w low sure = absurd (omega (arith, low))
synced_alone (suc n) k w low sure = ⊎_elim
    (λ (less : k < n). sync_step (λ f. f ≡ file_of w k) k n (after_syncs n w).events (synced_alone n k w less sure))
    (λ (most : n ≤ k).
    let e : n ≡ k = omega (arith, low, most) in
    subst (λ (j : ℕ). EachOutcome j (λ f. f ≡ file_of w j) (after_syncs (suc n) w).events) e
    (subst (λ (f : List ℕ). EachOutcome n (λ g. g ≡ f) (after_syncs (suc n) w).events) (syncs_files n w n) (sync_leaves_now n (after_syncs n w).events (syncs_sure n w sure))))
    (cases_lt k n)

one_agrees : (limit slot n : ℕ) (s : LayerState) (old : World) → slot < n → IsSure old → IsFresh slot limit s → IsOf (roles_in slot) (file_of old slot) s
    → Stands (kept_view s) slot (after_syncs n old) → Agrees s (after_syncs n old)
one_agrees limit slot n s old low sure fresh of stands =
    let new = after_syncs n old in
    let file : file_of old slot ≡ file_of new slot = sym (syncs_files n old slot) in
    let here = subst (λ (f : List ℕ). IsOf (roles_in slot) f s) file of in
    let again = mounted_agrees (roles_in slot) slot limit s new (after_sync slot new) (syncs_sure n old sure) fresh here refl (stands_still (kept_view s) slot slot new stands) in
    let alone = subst (λ (f : List ℕ). EachOutcome slot (λ g. g ≡ f) new.events) file (synced_alone n slot old low sure) in
    record {
      stands = subst (λ (k : ℕ). Stands (kept_view s) k new) (sym fresh.slot_is) stands;
      are = again.are;
      fits = again.fits;
      empty = again.empty;
      alone = λ h. subst (λ (k : ℕ). EachOutcome k (λ g. g ≡ file_of new k) new.events) (sym fresh.slot_is) alone;
    }

agree_from : (limit slot n : ℕ) (layers : List LayerState) (old : World) → n ≡ slot + length layers → IsSure old → AreFreshFrom limit slot layers → AreOfFrom (file_of old) slot layers
    → AreSnugFrom (file_of old) slot layers → StandFrom (file_of old) (after_syncs n old) slot layers → AgreeAll layers (after_syncs n old)
agree_from limit slot n [] old e sure fresh of snug stand = tt
agree_from limit slot n (s ∷ ss) old e sure fresh of snug stand = (
  one_agrees limit slot n s old (omega (arith, e)) sure fresh.0 of.0 (stand.0 snug.0),
  agree_from limit (suc slot) n ss old (omega (arith, e)) sure fresh.1 of.1 snug.1 stand.1,
)

-- each is tied to its file, also where that isn't snug
one_tied : (limit slot n : ℕ) (s : LayerState) (old : World) → slot < n → IsSure old → limit ≤ format_limit → IsFresh slot limit s → IsOf (roles_in slot) (file_of old slot) s
    → Tied s (after_syncs n old)
one_tied limit slot n s old low sure short fresh of =
    let new = after_syncs n old in
    let file : file_of old slot ≡ file_of new slot = sym (syncs_files n old slot) in
    let here = subst (λ (f : List ℕ). IsOf (roles_in slot) f s) file of in
    let h = mount_loose (roles_in slot) slot limit s new (after_sync slot new) (syncs_sure n old sure) refl short fresh here in
    let alone = subst (λ (f : List ℕ). EachOutcome slot (λ g. g ≡ f) new.events) file (synced_alone n slot old low sure) in
    inr (record {
      sure = syncs_sure n old sure;
      sound = h.sound;
      stages = h.stages;
      marked = h.marked;
      hardened = h.hardened;
      are = h.are;
      fits = h.fits;
      pieces = h.pieces;
      size = h.size;
      laid = h.laid;
      limited = h.limited;
      alone = subst (λ (k : ℕ). EachOutcome k (λ g. g ≡ file_of new k) new.events) (sym fresh.slot_is) alone;
    })

tied_from : (limit slot n : ℕ) (layers : List LayerState) (old : World) → n ≡ slot + length layers → IsSure old → limit ≤ format_limit → AreFreshFrom limit slot layers → AreOfFrom (file_of old) slot layers
    → AreTied layers (after_syncs n old)
tied_from limit slot n [] old e sure short fresh of = tt
tied_from limit slot n (s ∷ ss) old e sure short fresh of = (
  one_tied limit slot n s old (omega (arith, e)) sure short fresh.0 of.0,
  tied_from limit (suc slot) n ss old (omega (arith, e)) sure short fresh.1 of.1,
)

-- layers that were mounted behind what was only looked at are
pub mounted_tied_behind : (limit : ℕ) (shape : Geometry) (layers : List LayerState) (old mid new : Seen) → (Tells old → Tells mid) → limit ≤ format_limit → Stays old mid
    → HasMounted limit shape mid new layers → OfFiles (λ files. AreTied layers new.world) old
mounted_tied_behind limit shape layers old mid new tells short stays h told sure =
    let kept = stays told in
    let here : IsSure mid.world = subst IsSure (sym kept) sure in
    subst (AreTied layers) (sym (h.synced (tells told))) (tied_from limit 0 (length layers) layers mid.world (omega arith) here short h.fresh (h.are (tells told) here))

module _ (limit : ℕ) (s : StackState) (old new : Seen) (is : IsStack s) (fresh : AreFreshFrom limit 0 s.layers) (told : Tells new) (sure : IsSure old.world)
    (mounted : IsMounted (file_of old.world) s) (snug : AreSnugFrom (file_of old.world) 0 s.layers) (synced : new.world ≡ after_syncs (length s.layers) old.world)
    (stand : StandFrom (file_of old.world) new.world 0 s.layers)
  where
    pub mounted_agree : AgreeAll s.layers new.world
    mounted_agree =
        let n = length s.layers in
        subst (AgreeAll s.layers) (sym synced)
        (agree_from limit 0 n s.layers old.world (omega arith) sure fresh mounted.are snug (subst (λ (w : World). StandFrom (file_of old.world) w 0 s.layers) synced stand))

    same_now : (k : ℕ) → file_of new.world k ≡ file_of old.world k
    same_now k = ap (λ (w : World). file_of w k) synced ∙ syncs_files (length s.layers) old.world k

    stack_was : stack_of null_track s.layers (file_of old.world) ≡ stack_of null_track s.layers (file_of new.world)
    stack_was = ap (stack_of null_track s.layers) (fun_ext (λ k. sym (same_now k)))

    count : layer_count (stack_of null_track s.layers (file_of new.world)) ≡ length s.layers
    count =
        let maps = maps_of null_track s.layers (file_of new.world) in
        let long : length maps ≡ length s.layers = maps_length null_track s.layers (file_of new.world) in
        omega (arith, count_to maps (length maps - 1), long, is.some)

    opens_now : Opens s.geometry (file_of old.world) (stack_of null_track s.layers (file_of new.world))
    opens_now = subst (Opens s.geometry (file_of old.world)) stack_was (mounted_opens limit (file_of old.world) s is fresh mounted)

    -- the stack is hardened as it was mounted, where no stop leaves a file in a slot above
    pub mounted_hardening : AreAbsentAbove (length s.layers) new.world → HasHardening null_track s.geometry s.layers (all_mounted null_track s.layers new) new
    mounted_hardening absent =
        let stack = stack_of null_track s.layers (file_of new.world) in
        record {
          null_is = refl;
          tells = told;
          agree = mounted_agree;
          stack_is = refl;
          hardened = record {
            now = lies_same stack [];
            stops = λ files image.
                let held : (k : ℕ) → k < length s.layers → files k ≡ file_of old.world k =
                λ k low. subst (λ (w : World). EachOutcome k (λ f. f ≡ file_of old.world k) w.events) (sym synced) (synced_alone (length s.layers) k old.world low sure) (files k) (image k) in
                record {
                  stack = stack;
                  opens = record {
                    stand = stand_agree s.geometry (file_of old.world) files stack (λ k low. sym (held k (omega (arith, low, count)))) opens_now.stand;
                    few = opens_now.few;
                    above = λ k low high. absent k (omega (arith, low, count)) high (files k) (image k);
                  };
                  holds = lies_same stack [];
                };
          };
        }
