-- `item` shows the value that a raw pointer points to. A walk of its code by hand. Assumes `Logic`.
use mathlib.Core.Path.{◌≡◌, refl, ap, ◌∙◌}
use Prim.Native.Nat.{ℕ, zero, suc, ◌+◌, ◌*◌, ◌<◌}
use native.Mathlib.Nat.{not-suc-le-zero, le_of_suc-le-suc}
use native.Mathlib.Omega.{arith}
use mathlib.Core.List.{List, [], ◌∷◌}
use lib.ListN.{length, get_or}
use seplogic.Ra.Ura.{Ura}
use base.Fraction.{full_share}
use mir.Syntax.{Fn, named, ty_ptr}
use mir.MapTy.{inst_fn}
use mir.Val.{Val, vptr}
use base.Logic.{SProp, ent, sep, via, fst∗, snd∗}
use base.Fml.{Lft, Share, ftrue, fat, flft}
use prog.Wp.{Env, Calls, Loops, WpFn, Tables}
use types.Logic.{Logic, sem}
use contract.Monad.{fact}
use contract.Running.{tables, tables_of}
use sound.WpLaws.{WpFn-mono}
use types.Kit.{‵, ◌⊛◌, raw, at_ret, ◌$◌, ◌∵◌, !, qed, by, move, keep, use1, drop, split, join, fsplit, fjoin, feq_i, rewrite, suffices, frame, done}
use types.Run.{stop, of_opd, addr, first, blocks, exec, returns, enter}
use types.ByLocal.{alloc_all, pass_all, free_all, look_at, get, through, take_at, give_at, sets, sets_last, env}
use denote.Exit.{yes}
use denote.Builtin.{RefOf}
use denote.Index.{place, place_is}
use denote.Memory.{hidden_shr, shared_of, each_shared}
use denote.Opens.{unhide, hide}
use denote.RattleType.{RattleType, owns}
use denote.RawPtr.{Ptr, RawPtr, InBlock, block_ptr, block_of, count_of, at_block, ptr_val, rawptr_vals, rawptr_Tells, rawptr_Lawful, ◌+ₚ◌}
use denote.Ref.{ShrRef, shr_vals, shr_Tells}
use denote.Signature.{plain}
use denote.Steps.{heard, nothing}
use denote.Struct.Lending.{in_block_says}
use denote.Triple.Carry.{spared}
use denote.Triple.Clauses.{Clauses, Ended, closing}
use denote.Triple.Entry.{on_entry}
use denote.Triple.Spec.{Meets, triple_of}
use denote.Triple.Table.{entered, run_framed}
use denote.Triple.Walked.{says, needs, Stays, stay_dropped, walk_of, ends_at, walked, Goes-dropped, walk_Meets}
use Rattle.std.proofs.ptr.Rows.{hd}
use Rattle.std.proofs.slice.Lists.{any-default}
use Rattle.cckd_frames.specs.contracts.block.Row as Row-type
use Rattle.std.proofs.VecSteps.El.{El, no_al, args₁, el_x, R, sz}
use Rattle.std.proofs.VecSteps.Shapes.{after}
use Rattle.cckd_frames.specs.Items.{IsItem, place_of}
use Rattle.cckd_frames.specs.contracts.block.Row.item.Key.{name as #self}
use Rattle.cckd_frames.proofs.block.Row.item.Statement as stated
use Rattle.cckd_frames.proofs.block.Row.item.Code as code

-- of what a `&` to elements side by side holds, that to one of them
one_seen : (T : RattleType) (s : ℕ) {M : Type 1} {𝓤 : Ura M} (𝓛 : Logic 𝓤) (κ : Lft) (b : ℕ) (xs : List T.Denot) (i : ℕ) (d : T.Denot) (o : ℕ) → i < length xs
    → ent 𝓤 (sem 𝓛 (each_shared xs (shared_of T) s b o κ)) (sem 𝓛 (shared_of T (get_or xs i d) b (place s o i) κ))
one_seen T s 𝓛 κ b [] i d o l = absurd (not-suc-le-zero l)
one_seen T s {𝓤 = 𝓤} 𝓛 κ b (x ∷ xs) zero d o l = fst∗ 𝓤 (sem 𝓛 (shared_of T x b o κ)) (sem 𝓛 (each_shared xs (shared_of T) s b (o + s) κ))
one_seen T s {𝓤 = 𝓤} 𝓛 κ b (x ∷ xs) (suc i) d o l = via 𝓤 (sem 𝓛 (each_shared xs (shared_of T) s b (o + s) κ))
    (snd∗ 𝓤 (sem 𝓛 (shared_of T x b o κ)) (sem 𝓛 (each_shared xs (shared_of T) s b (o + s) κ))) (one_seen T s 𝓛 κ b xs i d (o + s) (le_of_suc-le-suc l))

module _ (E : El) where
  abbrev fn' : Fn
  fn' = inst_fn (args₁ E) code.function

  abbrev Rw : RattleType
  Rw = Row-type.the_row (R E)

  abbrev ended : Ended
  ended = record { signature = record { lifetimes = 1; outlives = []; params = RefOf (0 ∷ []) tt (plain (λ _. Rw)) (λ _. tt) ∷ plain (λ _. RawPtr) ∷ []; result = RefOf (0 ∷ []) tt (plain (λ _. R E)) (λ _. tt) }; kept = (yes, (yes, tt)) }

  abbrev stayed : Stays ended.signature.params ended.kept
  stayed = (stay_dropped (RefOf (0 ∷ []) tt (plain (λ _. Rw)) (λ _. tt)) yes, (stay_dropped (plain (λ _. RawPtr)) yes, tt))

  abbrev Asks : Rw.Denot → Ptr → Type 0
  Asks h p = IsItem (sz E) h.at (length h.items) p

  abbrev nth : Rw.Denot → Ptr → ℕ
  nth h p = place_of (sz E) h.at p

  abbrev spec : {M : Type 1} {𝓤 : Ura M} (𝓛 : Logic 𝓤) → Clauses 𝓤 ended
  spec {𝓤 = 𝓤} 𝓛 κs a = record { ghost = Unit {0}; requires = λ _. fact 𝓤 (Asks a.0.now a.1.0); ensures = λ _ r _. fact 𝓤 (r.now ≡ get_or a.0.now.items (nth a.0.now a.1.0) r.now) }

module _ (E : El) {M : Type 1} {𝓤 : Ura M} (𝓛 : Logic 𝓤) (κ : Lft) (q : Share) (rb ro : ℕ) (h : (Rw E).Denot) (p : Ptr) where
  open 𝓛 use {H, A}

  abbrev bound : (walk_of 𝓛 (ended E) (stayed E) (spec E 𝓛)).Ghost
  bound = (((κ, tt), (q, tt), tt, (record { ref_ptr = (rb, ro); now = h }, (p, tt)), (vptr rb ro ∷ [], (ptr_val p ∷ [], tt))), tt)

  abbrev Post : Val → SProp 𝓤
  Post = (walk_of 𝓛 (ended E) (stayed E) (spec E 𝓛)).post bound

  abbrev i : ℕ
  i = nth E h p

  abbrev xs : List (el_x E)
  xs = h.items

  abbrev s : ℕ
  s = sz E

  exits : (b o : ℕ) (x : el_x E) → x ≡ get_or xs i x → ent 𝓤 (sep 𝓤 (A.lft κ q) (sem 𝓛 (hidden_shr (R E) κ x b o))) (Post (vptr b o))
  exits b o x e =
      qed 𝓛 (‵ (flft κ q) ∷ ‵ (hidden_shr (R E) κ x b o) ∷ []) ∵
      suffices ! _ (ends_at 𝓛 (ended E) (stayed E) (spec E 𝓛) bound (vptr b o) (record { ref_ptr = (b, o); now = x }) (tt, (tt, tt)) (tt, (tt, tt))) $ says ! e $
      nothing ! $ move ! (1 ∷ 0 ∷ []) $ join ! $ frame ! $ feq_i ! (List Val) (vptr b o ∷ []) (vptr b o ∷ []) refl $ fjoin ! $ nothing ! $ nothing ! $ fjoin ! $ nothing ! $ fjoin ! $ join ! $ done !

  module _ (C : Calls 𝓤 H) (Λ : Loops 𝓤 H) where
    walk : Asks E h p → ent 𝓤 (on_entry 𝓛 (ended E).signature (κ, tt) (q, tt) (record { ref_ptr = (rb, ro); now = h }, (p, tt)) (vptr rb ro ∷ [], (ptr_val p ∷ [], tt))) (WpFn 𝓤 H C Λ (fn' E) (vptr rb ro ∷ ptr_val p ∷ []) Post)
    walk asked =
        let li : i < length xs = asked.1 in
        let d : el_x E = hd xs (omega arith) in
        let x : el_x E = get_or xs i d in
        qed 𝓛 ((‵ (flft κ q) ⊛ ‵ ftrue) ∷ ‵ (owns (ShrRef (named 0) κ (Rw E) ∷ RawPtr ∷ []) (record { ref_ptr = (rb, ro); now = h }, (p, tt)) (vptr rb ro ∷ [], (ptr_val p ∷ [], tt))) ∷ []) ∵
        enter ! C Λ (fn' E) (vptr rb ro ∷ ptr_val p ∷ []) _ $
        alloc_all ! (λ l. pass_all ! refl ((tt, tt), ((rawptr_Lawful 𝓛).typed p _ refl)) $
        let En : Env 𝓤 H = env (fn' E).locals l in
        split ! $ move ! (2 ∷ []) $ fsplit ! $ fsplit ! $ drop ! $ move ! (0 ∷ 2 ∷ []) $
        unhide ! $ fsplit ! $ drop ! $ fsplit ! $ drop ! $ fsplit ! $ use1 𝓛 (raw (fact 𝓤 (InBlock h.at))) (in_block_says 𝓛 h.at) $ heard ! (InBlock h.at) (λ inb. fsplit ! $ drop ! $
        let b : ℕ = block_of h.at in let o : ℕ = count_of h.at in
        let points : p ≡ block_ptr b (place s o i) = asked.0 ∙ (ap (λ (r : Ptr). r +ₚ i * s) (at_block h.at inb) ∙ ap (λ (k : ℕ). block_ptr b k) (let e = place_is s o i in omega arith)) in
        use1 𝓛 (‵ (shared_of (R E) x b (place s o i) κ)) (one_seen (R E) s 𝓛 κ b xs i d o li) $ hide ! $
        take_at ! 2 $ rewrite ! 0 (λ (r : Ptr). ‵ (fat full_share ty_ptr (l 2) 0 (ptr_val r))) points refl $ give_at ! 2 $
        first ! $ blocks ! $
        sets_last ! (addr ! (through ! refl (stop !))) refl (tt, tt) $
        exec ! C Λ En (after 1 (fn' E).body) (at_ret En Post) $
        sets ! (of_opd ! (get ! refl)) refl (tt, tt) $
        returns ! (look_at ! 0 refl) $ free_all ! refl $
        keep ! (1 ∷ 0 ∷ []) $ by ! (exits b (place s o i) x (any-default xs i d x li))))

meets : (E : El) {M : Type 1} {𝓤 : Ura M} (𝓛 : Logic 𝓤) (𝓣 : Tables 𝓤 𝓛.H)
    → Meets 𝓛 (ended E).signature (WpFn 𝓤 𝓛.H 𝓣.C 𝓣.Λ (fn' E)) (closing 𝓛 (ended E) (spec E 𝓛))
meets E {𝓤 = 𝓤} 𝓛 𝓣 =
    walk_Meets 𝓛 (ended E) (stayed E) (Goes-dropped 𝓛 1 (RefOf (0 ∷ []) tt (plain (λ _. Rw E)) (λ _. tt)) yes (λ κs x f. refl), (Goes-dropped 𝓛 1 (plain (λ _. RawPtr)) yes (λ κs x f. refl), tt)) (spec E 𝓛) (WpFn 𝓤 𝓛.H 𝓣.C 𝓣.Λ (fn' E)) (WpFn-mono 𝓤 𝓛.H 𝓛.laws 𝓣 (fn' E))
    (walked 𝓛 (ended E) (stayed E) (spec E 𝓛) (WpFn 𝓤 𝓛.H 𝓣.C 𝓣.Λ (fn' E)) (λ κs. (shr_vals, (rawptr_vals, tt))) (λ κs. (shr_Tells (named 0) κs.0 (Rw E), (rawptr_Tells, tt)))
    (λ κs qs bounds a g are. needs 𝓤 (Asks E a.0.now a.1.0) _ (walk E 𝓛 κs.0 qs.0 a.0.ref_ptr.0 a.0.ref_ptr.1 a.0.now a.1.0 𝓣.C 𝓣.Λ)))

pub item_spec : {M : Type 1} → stated.statement M
unfolding tables_of
item_spec 𝓤 𝓛 𝓜 𝓡 wired X LX y =
    let E : El = record { row = X; laws = LX; al = no_al } in
    let 𝓣 : Tables 𝓤 𝓛.H = tables_of 𝓤 𝓛.H 𝓜 (tables 𝓤 𝓛.H 𝓜 𝓡 𝓡.env) in
    spared 𝓛 (ended E).signature (𝓡.run (𝓡.env (#self (args₁ E)))) (run_framed 𝓤 𝓛.H 𝓜 𝓡 (𝓡.env (#self (args₁ E)))) 1 (X.lives, tt) (closing 𝓛 (ended E) (spec E 𝓛))
    (entered 𝓤 𝓛.H (triple_of 𝓛 (ended E).signature (closing 𝓛 (ended E) (spec E 𝓛))) 𝓣.C 𝓣.Λ (#self (args₁ E)) (fn' E) (code.unfolded 𝓤 𝓛.H 𝓜 𝓡 wired (X, tt)) (meets E 𝓛 𝓣))
    ((y.0.0, y.0.1, tt, y.0.3, y.0.4), y.1)
