-- `push` writes a value behind the others, through a raw pointer. A walk of its code by hand. Assumes `Logic`.
use mathlib.Core.Path.{◌≡◌, refl, sym, ap, subst, ◌∙◌}
use Prim.Native.Nat.{ℕ, ◌+◌, ◌-◌, ◌*◌, ◌<◌, ◌^◌}
use native.Mathlib.Nat.{add_comm}
use native.Mathlib.Omega.{arith}
use mathlib.Core.List.{List, [], ◌∷◌, ◌++◌}
use lib.ListN.{length, length-append}
use seplogic.Ra.Ura.{Ura}
use base.Fraction.{full_share}
use mir.Syntax.{Fn, given, named, ty_ptr, ty_array}
use mir.MapTy.{inst_fn}
use mir.Val.{Val, vptr, vunit}
use base.Logic.{SProp, ent, never, id⊢}
use base.Fml.{Lft, GName, Share, ftrue, fsep, fat, froom, flft, fobs, fbor}
use prog.Wp.{Env, Calls, Loops, WpFn, Tables}
use types.Logic.{Logic}
use types.SemTy.{Body as Borrowed}
use contract.Monad.{fact}
use contract.Running.{tables, tables_of}
use sound.WpLaws.{WpFn-mono}
use types.Kit.{Item, ⋆, ‵, ◌⊛◌, at_ret, ◌$◌, ◌∵◌, !, qed, by, move, keep, use1, use2, split, join, rewrite, fsplit, fsplit3, fjoin, fjoin3, feq_i, feq_l, flt_i, flt_l, suffices, frame, done}
use types.Run.{stop, of_opd, unit_lit, init, assigns_last, first, blocks, exec, returns, enter}
use types.ByLocal.{alloc_all, pass_all, free_all, look_at, get, through, take_at, give_at, sets, env}
use denote.Array.{Array}
use denote.Builtin.{RefMutOf, unit}
use denote.Exit.{yes, no}
use denote.Memory.{mem, part_at}
use denote.Param.{layout}
use denote.RattleType.{RattleType, owns}
use denote.RawPtr.{Ptr, RawPtr, block_ptr, ptr_val, rawptr_Lawful, lies_at, room_for, in_block, in_a_block, ◌+ₚ◌}
use denote.Ref.{MutBor, MutRef}
use denote.Signature.{plain}
use denote.Steps.{nothing, opens, closes}
use denote.Triple.Carry.{spared}
use denote.Triple.Clauses.{Clauses, Ended, closing}
use denote.Triple.Entry.{on_entry}
use denote.Triple.Spec.{Meets, triple_of}
use denote.Triple.Table.{entered, run_framed}
use denote.Triple.Walked.{says, needs, Stays, stay_dropped, stay_ref, walk_of, ends_at, Goes-dropped, Goes-ref, walk_Meets}
use Rattle.std.proofs.alloc.Calls.{Al, handle_tells}
use Rattle.std.proofs.RawLayout.{as_raw, as_written}
use Rattle.std.proofs.RcSteps.{Good}
use Rattle.std.proofs.VecSteps.El.{El, no_al, args₁, el_x, elτ, R, sz}
use Rattle.std.proofs.VecSteps.Rows.{el_in, spare, snoc}
use Rattle.std.proofs.VecSteps.Shapes.{after}
use Rattle.cckd_frames.specs.Ownership.{array_type, row_owns}
use Rattle.cckd_frames.specs.contracts.block.Row as Row-type
use Rattle.cckd_frames.specs.contracts.block.Row.push.Key.{name as #self}
use Rattle.cckd_frames.proofs.block.Row.push.Statement as stated
use Rattle.cckd_frames.proofs.block.Row.push.Code as code

module _ (E : El) where
  abbrev fn' : Fn
  fn' = inst_fn (args₁ E) code.function

  abbrev Rw : RattleType
  Rw = Row-type.the_row (R E)

  -- the value as one that no allocator's token tells of
  abbrev handle : Al
  handle = record { row = E.row; laws = E.laws; g = record { dealloc_token = λ a τ p. ftrue }; d = given 0; drops = given 0 }

  abbrev ended : Ended
  ended = record { signature = record { lifetimes = 1; outlives = []; params = RefMutOf (0 ∷ []) tt (plain (λ _. Rw)) (λ _. tt) ∷ plain (λ _. RawPtr) ∷ plain (λ _. R E) ∷ []; result = plain (λ _. unit) }; kept = (yes, (yes, (no, tt))) }

  abbrev stayed : Stays ended.signature.params ended.kept
  stayed = (stay_ref (0 ∷ []) tt (plain (λ _. Rw)), (stay_dropped (plain (λ _. RawPtr)) yes, (stay_dropped (plain (λ _. R E)) no, tt)))

  abbrev Asks : Rw.Denot → Ptr → Type 0
  Asks h p = (length h.items < h.room) × (p ≡ h.at +ₚ length h.items * sz E)

  abbrev Gives : Rw.Denot → el_x E → Rw.Denot → Type 0
  Gives h x new = (new.at ≡ h.at) × (new.room ≡ h.room) × (new.items ≡ h.items ++ x ∷ [])

  abbrev spec : {M : Type 1} {𝓤 : Ura M} (𝓛 : Logic 𝓤) → Clauses 𝓤 ended
  spec {𝓤 = 𝓤} 𝓛 κs a = record { ghost = Unit {0}; requires = λ _. fact 𝓤 (Asks a.0.now a.1.0); ensures = λ _ r w. fact 𝓤 (Gives a.0.now a.1.1.0 w.0.now) }

module _ (E : El) {M : Type 1} {𝓤 : Ura M} (𝓛 : Logic 𝓤) (C : Calls 𝓤 𝓛.H) (Λ : Loops 𝓤 𝓛.H) (κ : Lft) (q : Share) (rb ro : ℕ) (γ : GName) (h : (Rw E).Denot) (p : Ptr) (x : el_x E) (us0 us1 us2 : List Val) where
  open 𝓛 use {H, A}

  abbrev self : MutBor (Rw E).Denot
  self = record { ref_ptr = (rb, ro); ghost_name = γ; now = h }

  abbrev bound : (walk_of 𝓛 (ended E) (stayed E) (spec E 𝓛)).Ghost
  bound = (((κ, tt), (q, tt), tt, (self, (p, (x, tt))), (us0, (us1, (us2, tt)))), tt)

  abbrev Post : Val → SProp 𝓤
  Post = (walk_of 𝓛 (ended E) (stayed E) (spec E 𝓛)).post bound

  abbrev xs : List (el_x E)
  xs = h.items

  abbrev n : ℕ
  n = length xs

  abbrev c : ℕ
  c = h.room

  abbrev s : ℕ
  s = sz E

  exits : us0 ≡ vptr rb ro ∷ [] → (new : (Rw E).Denot) → Gives E h x new → ent 𝓤 (⋆ 𝓛 (‵ (fobs γ ((Rw E).coded.code new)) ∷ ‵ (fbor κ (Borrowed (mem (Rw E)) rb ro γ)) ∷ ‵ (flft κ q) ∷ [])) (Post vunit)
  exits passed new g =
      qed 𝓛 (‵ (fobs γ ((Rw E).coded.code new)) ∷ ‵ (fbor κ (Borrowed (mem (Rw E)) rb ro γ)) ∷ ‵ (flft κ q) ∷ []) ∵
      suffices ! _ (ends_at 𝓛 (ended E) (stayed E) (spec E 𝓛) bound vunit tt (new, (tt, (tt, tt))) (tt, (tt, (tt, tt)))) $ says ! g $
      nothing ! $ move ! (3 ∷ 0 ∷ []) $ join ! $ frame ! $ feq_i ! (List Val) us0 (vptr rb ro ∷ []) passed $ fjoin3 ! $ nothing ! $ nothing ! $ fjoin ! $ nothing ! $ fjoin ! $ move ! (1 ∷ 0 ∷ []) $ fjoin ! $
      feq_i ! (List Val) (vunit ∷ []) (vunit ∷ []) refl $ move ! (1 ∷ 0 ∷ []) $ join ! $ done !

  abbrev Had : Val → List (Item 𝓤)
  Had v = ‵ (fobs γ ((Rw E).coded.code h)) ∷ ‵ (fbor κ (Borrowed (mem (Rw E)) rb ro γ)) ∷ ‵ (flft κ q) ∷ ‵ ((R E).own_val x (v ∷ [])) ∷ []

  walk : us0 ≡ vptr rb ro ∷ [] → Asks E h p → (v : Val) → Good (layout (R E)) v → ent 𝓤 (⋆ 𝓛 (Had v)) (WpFn 𝓤 H C Λ (fn' E) (vptr rb ro ∷ ptr_val p ∷ v ∷ []) Post)
  walk passed asked v good =
      let lt : n < c = asked.0 in
      let ys : List (el_x E) = xs ++ x ∷ [] in
      let long : length ys ≡ n + 1 = length-append xs (x ∷ []) in
      let new : (Rw E).Denot = record { mark = h.mark; at = h.at; room = c; items = ys; within = omega arith } in
      qed 𝓛 (Had v) ∵ enter ! C Λ (fn' E) (vptr rb ro ∷ ptr_val p ∷ v ∷ []) _ $ alloc_all ! (λ l. pass_all ! refl ((tt, tt), (((rawptr_Lawful 𝓛).typed p _ refl).0, (good, tt))) $
      let En : Env 𝓤 H = env (fn' E).locals l in
      opens ! tt (Rw E) {h = h} rb ro (λ vs. move ! (1 ∷ []) $ fsplit ! $ move ! (1 ∷ []) $ fsplit ! $ flt_l ! (λ small.
      in_a_block ! h.at (λ r. in_block r (fsep (lies_at (Array (R E) n) full_share r xs) (room_for (array_type (R E) (c - n)) (r +ₚ n * s)))) (id⊢ 𝓤 (never 𝓤)) (λ b o e. fsplit ! $
      let at : ℕ = n * s + o in
      let points : p ≡ block_ptr b at = asked.1 ∙ (ap (λ (r : Ptr). r +ₚ n * s) e ∙ ap (λ (k : ℕ). block_ptr b k) (add_comm o (n * s))) in
      move ! (1 ∷ []) $ as_written ! (ty_array (elτ E) (c - n)) b (o + n * s) $
      use1 𝓛 (‵ (froom (elτ E) b at) ⊛ ‵ (froom (ty_array (elτ E) (c - (n + 1))) b (o + (n + 1) * s))) (spare E 𝓛 b o n c lt) $ split ! $
      -- [the room for the value; the room behind it; the values; the mark; its cell; the open borrow; obs; auth; the value]
      take_at ! 2 $ rewrite ! 0 (λ (r : Ptr). ‵ (fat full_share ty_ptr (l 2) 0 (ptr_val r))) points refl $ give_at ! 2 $
      first ! $ blocks ! $
      sets ! (of_opd ! (get ! refl)) refl good $ assigns_last ! (of_opd ! (get ! refl)) (through ! refl (stop !)) (init ! 0 refl good) $
      exec ! C Λ En (after 1 (fn' E).body) (at_ret En Post) $ sets ! (of_opd ! (unit_lit !)) refl (tt, tt) $
      move ! (0 ∷ 8 ∷ []) $ use2 𝓛 (‵ (part_at (R E) full_share x b at)) (el_in E 𝓛 full_share x b at v) $
      move ! (2 ∷ 0 ∷ []) $ use2 𝓛 (‵ (part_at (Array (R E) (n + 1)) full_share ys b o)) (snoc E 𝓛 b o n xs x) $
      rewrite ! 0 (λ (m : ℕ). ‵ (part_at (Array (R E) m) full_share ys b o)) (sym long) refl $ move ! (1 ∷ []) $
      as_raw ! (ty_array (elτ E) (c - (n + 1))) b (o + (n + 1) * s) $ rewrite ! 0 (λ (m : ℕ). ‵ (froom (array_type (R E) (c - m)) b (o + m * s))) (sym long) refl $
      move ! (1 ∷ 0 ∷ []) $ fjoin ! $ flt_i ! (c * s) (2 ^ 63) small $ fjoin ! $ rewrite ! 0 (λ (r : Ptr). ‵ (row_owns (R E) r c ys)) (sym e) refl $
      move ! (1 ∷ 0 ∷ []) $ fjoin ! $ move ! (1 ∷ 0 ∷ []) $ closes ! tt (Rw E) new vs rb ro $
      returns ! (look_at ! 0 refl) $ free_all ! refl $ keep ! (0 ∷ 1 ∷ 2 ∷ []) $ by ! (exits passed new (refl, refl, refl))))))

  entry : Asks E h p → ent 𝓤 (on_entry 𝓛 (ended E).signature (κ, tt) (q, tt) (self, (p, (x, tt))) (us0, (us1, (us2, tt)))) (WpFn 𝓤 H C Λ (fn' E) (us0 ++ (us1 ++ (us2 ++ []))) Post)
  entry asked =
      qed 𝓛 ((‵ (flft κ q) ⊛ ‵ ftrue) ∷ ‵ (owns (MutRef (named 0) κ (Rw E) ∷ RawPtr ∷ R E ∷ []) (self, (p, (x, tt))) (us0, (us1, (us2, tt)))) ∷ []) ∵
      split ! $ move ! (2 ∷ []) $ fsplit ! $ fsplit3 ! $ feq_l ! (λ e0.
      move ! (2 ∷ []) $ fsplit ! $ feq_l ! (λ e1. fsplit ! $ handle_tells (handle E) ! x us2 (λ v e2 good. keep ! (2 ∷ 3 ∷ 4 ∷ 0 ∷ []) $
      by ! (subst (λ (ws : List Val × List Val × List Val). ent 𝓤 (⋆ 𝓛 (Had v)) (WpFn 𝓤 H C Λ (fn' E) (ws.0 ++ (ws.1 ++ (ws.2 ++ []))) Post)) (λ j. (sym e0 j, sym e1 j, sym e2 j)) (walk e0 asked v good)))))

meets : (E : El) {M : Type 1} {𝓤 : Ura M} (𝓛 : Logic 𝓤) (𝓣 : Tables 𝓤 𝓛.H)
    → Meets 𝓛 (ended E).signature (WpFn 𝓤 𝓛.H 𝓣.C 𝓣.Λ (fn' E)) (closing 𝓛 (ended E) (spec E 𝓛))
meets E {𝓤 = 𝓤} 𝓛 𝓣 =
    walk_Meets 𝓛 (ended E) (stayed E) (Goes-ref 𝓛 1 0 tt (plain (λ _. Rw E)), (Goes-dropped 𝓛 1 (plain (λ _. RawPtr)) yes (λ κs x f. refl), (Goes-dropped 𝓛 1 (plain (λ _. R E)) no (λ κs x f. refl), tt))) (spec E 𝓛) (WpFn 𝓤 𝓛.H 𝓣.C 𝓣.Λ (fn' E)) (WpFn-mono 𝓤 𝓛.H 𝓛.laws 𝓣 (fn' E))
    (λ z. needs 𝓤 (Asks E z.0.3.0.now z.0.3.1.0) _ (entry E 𝓛 𝓣.C 𝓣.Λ z.0.0.0 z.0.1.0 z.0.3.0.ref_ptr.0 z.0.3.0.ref_ptr.1 z.0.3.0.ghost_name z.0.3.0.now z.0.3.1.0 z.0.3.1.1.0 z.0.4.0 z.0.4.1.0 z.0.4.1.1.0))

pub push_spec : {M : Type 1} → stated.statement M
unfolding tables_of
push_spec 𝓤 𝓛 𝓜 𝓡 wired X LX y =
    let E : El = record { row = X; laws = LX; al = no_al } in
    let 𝓣 : Tables 𝓤 𝓛.H = tables_of 𝓤 𝓛.H 𝓜 (tables 𝓤 𝓛.H 𝓜 𝓡 𝓡.env) in
    spared 𝓛 (ended E).signature (𝓡.run (𝓡.env (#self (args₁ E)))) (run_framed 𝓤 𝓛.H 𝓜 𝓡 (𝓡.env (#self (args₁ E)))) 1 (X.lives, tt) (closing 𝓛 (ended E) (spec E 𝓛))
    (entered 𝓤 𝓛.H (triple_of 𝓛 (ended E).signature (closing 𝓛 (ended E) (spec E 𝓛))) 𝓣.C 𝓣.Λ (#self (args₁ E)) (fn' E) (code.unfolded 𝓤 𝓛.H 𝓜 𝓡 wired (X, tt)) (meets E 𝓛 𝓣))
    ((y.0.0, y.0.1, tt, y.0.3, y.0.4), y.1)
