-- `item_mut` lends the value that a raw pointer points to, and the row follows it. A walk of its code by hand. Assumes `Logic`.
use mathlib.Core.Path.{◌≡◌, refl, sym, ap, ◌∙◌}
use Prim.Native.Nat.{ℕ, ◌+◌, ◌-◌, ◌*◌, ◌<◌, ◌^◌}
use native.Mathlib.Omega.{arith}
use mathlib.Core.List.{List, [], ◌∷◌}
use lib.ListN.{length, get_or, set, length-set}
use seplogic.Ra.Ura.{Ura}
use base.Fraction.{full_share}
use mir.Syntax.{Fn, named, ty_ptr}
use mir.MapTy.{inst_fn}
use mir.Val.{Val, vptr}
use base.Logic.{SProp, ent, sep, never, id⊢}
use base.Fml.{Lft, GName, Share, Fml, ftrue, fsep, fat, froom, flft}
use prog.Wp.{Env, Calls, Loops, WpFn, Tables}
use types.Logic.{Logic, sem}
use contract.Monad.{fact}
use contract.Running.{tables, tables_of}
use sound.WpLaws.{WpFn-mono}
use types.Kit.{‵, raw, ◌⊛◌, some, given, later, await, pick, learn, at_ret, ◌$◌, ◌∵◌, !, qed, by, move, keep, drop, use1, use2, split, join, group, rewrite, fsplit, fsplit3, fjoin, fpack, flt_i, flt_l, suffices, frame, done}
use types.Run.{stop, of_opd, addr, first, blocks, exec, returns, enter}
use types.ByLocal.{alloc_all, pass_all, free_all, look_at, get, through, take_at, give_at, sets, sets_last, env}
use denote.Array.{Array}
use denote.Builtin.{RefMutOf}
use denote.Exit.{yes, no}
use denote.Follow.{follows, Part, lends_Part}
use denote.Index.{others}
use denote.Memory.{mem, cell_at, part_at, part_of, shares}
use denote.RattleType.{RattleType, owns}
use denote.RawPtr.{Ptr, RawPtr, block_ptr, ptr_val, rawptr_vals, rawptr_Tells, rawptr_Lawful, lies_at, room_for, in_block, in_a_block, ◌+ₚ◌}
use denote.Ref.{MutRef, mut_vals, mut_Tells}
use denote.Signature.{plain, mut_ref_to}
use denote.Steps.{nothing, opens}
use denote.Triple.Carry.{spared}
use denote.Triple.Clauses.{Clauses, Ended, closing}
use denote.Triple.Entry.{on_entry}
use denote.Triple.Spec.{Meets, triple_of}
use denote.Triple.Table.{entered, run_framed}
use denote.Triple.Walked.{says, needs, Stays, stay_dropped, walk_of, ends_at, walked, Goes-dropped, Goes-spent_ref, walk_Meets}
use Rattle.std.proofs.ptr.Rows.{hd}
use Rattle.std.proofs.slice.Lists.{any-default}
use Rattle.std.proofs.VecSteps.El.{El, no_al, args₁, el_x, R, sz}
use Rattle.std.proofs.VecSteps.Rows.{take_out, put_in}
use Rattle.std.proofs.VecSteps.Shapes.{after}
use Rattle.cckd_frames.specs.Items.{IsItem, place_of}
use Rattle.cckd_frames.specs.Ownership.{array_type, row_owns}
use Rattle.cckd_frames.specs.RowLends.{with_item}
use Rattle.cckd_frames.specs.contracts.block.Row as Row-type
use Rattle.cckd_frames.proofs.Marks.{RowMark}
use Rattle.cckd_frames.specs.contracts.block.Row.item_mut.Key.{name as #self}
use Rattle.cckd_frames.proofs.block.Row.item_mut.Statement as stated
use Rattle.cckd_frames.proofs.block.Row.item_mut.Code as code

module _ (E : El) where
  abbrev fn' : Fn
  fn' = inst_fn (args₁ E) code.function

  abbrev Rw : RattleType
  Rw = Row-type.the_row (R E)

  abbrev ended : Ended
  ended = record { signature = record { lifetimes = 1; outlives = []; params = RefMutOf (0 ∷ []) tt (plain (λ _. Rw)) (λ _. tt) ∷ plain (λ _. RawPtr) ∷ []; result = RefMutOf (0 ∷ []) tt (plain (λ _. R E)) (λ _. tt) }; kept = (no, (yes, tt)) }

  abbrev stayed : Stays ended.signature.params ended.kept
  stayed = (stay_dropped (mut_ref_to (0 ∷ []) tt (plain (λ _. Rw))) no, (stay_dropped (plain (λ _. RawPtr)) yes, tt))

  abbrev Asks : Rw.Denot → Ptr → Type 0
  Asks h p = IsItem (sz E) h.at (length h.items) p

  abbrev nth : Rw.Denot → Ptr → ℕ
  nth h p = place_of (sz E) h.at p

  abbrev spec : {M : Type 1} {𝓤 : Ura M} (𝓛 : Logic 𝓤) → Clauses 𝓤 ended
  spec {𝓤 = 𝓤} 𝓛 κs a = record { ghost = Unit {0}; requires = λ _. fact 𝓤 (Asks a.0.now a.1.0); ensures = λ _ r _. sep 𝓤 (sem 𝓛 (follows Rw (R E) a.0.ghost_name r.ghost_name (with_item a.0.now (nth a.0.now a.1.0)))) (fact 𝓤 (r.now ≡ get_or a.0.now.items (nth a.0.now a.1.0) r.now)) }

module _ (E : El) {M : Type 1} {𝓤 : Ura M} (𝓛 : Logic 𝓤) (κ : Lft) (q : Share) (rb ro : ℕ) (γ : GName) (h : (Rw E).Denot) (p : Ptr) where
  open 𝓛 use {H, A}

  abbrev bound : (walk_of 𝓛 (ended E) (stayed E) (spec E 𝓛)).Ghost
  bound = (((κ, tt), (q, tt), tt, (record { ref_ptr = (rb, ro); ghost_name = γ; now = h }, (p, tt)), (vptr rb ro ∷ [], (ptr_val p ∷ [], tt))), tt)

  abbrev Post : Val → SProp 𝓤
  Post = (walk_of 𝓛 (ended E) (stayed E) (spec E 𝓛)).post bound

  abbrev i : ℕ
  i = nth E h p

  abbrev xs : List (el_x E)
  xs = h.items

  abbrev n : ℕ
  n = length xs

  abbrev c : ℕ
  c = h.room

  abbrev s : ℕ
  s = sz E

  module _ (vs : List Val) (b o : ℕ) where
    -- all but the value
    abbrev Rest : Fml
    Rest = fsep (others (shares (R E)) full_share xs i b o) (fsep (froom (array_type (R E) (c - n)) b (o + n * s)) (fsep ((RowMark (R E)).own_val (tt, tt) vs) (cell_at full_share (Rw E).mir vs rb ro)))

    back : h.at ≡ block_ptr b o → i < n → c * s < 2 ^ 63 → (w : el_x E) → ent 𝓤 (sep 𝓤 (sem 𝓛 ((mem (R E)).own_at w b (i * s + o))) (sem 𝓛 Rest)) (sem 𝓛 ((mem (Rw E)).own_at (with_item h i w) rb ro))
    unfolding part_of
    back e li small w =
        let ys : List (el_x E) = set xs i w in
        let same : length ys ≡ n = length-set xs i w in
        qed 𝓛 (‵ (part_at (R E) full_share w b (i * s + o)) ∷ ‵ Rest ∷ []) ∵ move ! (1 ∷ []) $ fsplit ! $ move ! (1 ∷ []) $ fsplit ! $ move ! (1 ∷ []) $ fsplit ! $
        -- [the mark; its cell; the room; the others; w]
        move ! (4 ∷ 3 ∷ []) $ use2 𝓛 (‵ (part_at (Array (R E) n) full_share ys b o)) (put_in E 𝓛 n xs i w b o li refl) $
        rewrite ! 0 (λ (m : ℕ). ‵ (part_at (Array (R E) m) full_share ys b o)) (sym same) refl $ move ! (3 ∷ []) $
        rewrite ! 0 (λ (m : ℕ). ‵ (froom (array_type (R E) (c - m)) b (o + m * s))) (sym same) refl $ move ! (1 ∷ 0 ∷ []) $ fjoin ! $ flt_i ! (c * s) (2 ^ 63) small $ fjoin ! $
        rewrite ! 0 (λ (r : Ptr). ‵ (row_owns (R E) r c ys)) (sym e) refl $ move ! (1 ∷ 0 ∷ []) $ fjoin ! $ move ! (1 ∷ 0 ∷ []) $ fjoin ! $
        fpack ! (List Val) (λ us. fsep (cell_at full_share (Rw E).mir us rb ro) ((Rw E).own_val (with_item h i w) us)) vs $ done !

  exits : (b o : ℕ) (x : el_x E) → x ≡ get_or xs i x → (γ' : GName)
      → ent 𝓤 (sep 𝓤 (sem 𝓛 ((MutRef (named 0) κ (R E)).own_val (record { ref_ptr = (b, o); ghost_name = γ'; now = x }) (vptr b o ∷ []))) (sep 𝓤 (A.lft κ q) (sem 𝓛 (follows (Rw E) (R E) γ γ' (with_item h i))))) (Post (vptr b o))
  exits b o x e γ' =
      qed 𝓛 (‵ ((MutRef (named 0) κ (R E)).own_val (record { ref_ptr = (b, o); ghost_name = γ'; now = x }) (vptr b o ∷ [])) ∷ ‵ (flft κ q) ∷ ‵ (follows (Rw E) (R E) γ γ' (with_item h i)) ∷ []) ∵
      suffices ! _ (ends_at 𝓛 (ended E) (stayed E) (spec E 𝓛) bound (vptr b o) (record { ref_ptr = (b, o); ghost_name = γ'; now = x }) (tt, (tt, tt)) (tt, (tt, tt))) $
      nothing ! $ nothing ! $ fjoin ! $ nothing ! $ fjoin ! $ join ! $ nothing ! $ move ! (2 ∷ 0 ∷ []) $ join ! $ join ! $ frame ! $ says ! e $ done !

  module _ (C : Calls 𝓤 H) (Λ : Loops 𝓤 H) where
    walk : Asks E h p → ent 𝓤 (on_entry 𝓛 (ended E).signature (κ, tt) (q, tt) (record { ref_ptr = (rb, ro); ghost_name = γ; now = h }, (p, tt)) (vptr rb ro ∷ [], (ptr_val p ∷ [], tt))) (WpFn 𝓤 H C Λ (fn' E) (vptr rb ro ∷ ptr_val p ∷ []) Post)
    walk asked =
        let li : i < n = asked.1 in
        let d : el_x E = hd xs (omega arith) in
        let x : el_x E = get_or xs i d in
        qed 𝓛 ((‵ (flft κ q) ⊛ ‵ ftrue) ∷ ‵ (owns (MutRef (named 0) κ (Rw E) ∷ RawPtr ∷ []) (record { ref_ptr = (rb, ro); ghost_name = γ; now = h }, (p, tt)) (vptr rb ro ∷ [], (ptr_val p ∷ [], tt))) ∷ []) ∵
        enter ! C Λ (fn' E) (vptr rb ro ∷ ptr_val p ∷ []) _ $
        alloc_all ! (λ l. pass_all ! refl ((tt, tt), ((rawptr_Lawful 𝓛).typed p _ refl)) $
        let En : Env 𝓤 H = env (fn' E).locals l in
        move ! (1 ∷ []) $ fsplit ! $ fsplit3 ! $ drop ! $ move ! (3 ∷ []) $ split ! $ move ! (2 ∷ 3 ∷ 0 ∷ []) $
        opens ! tt (Rw E) {h = h} rb ro (λ vs. move ! (1 ∷ []) $ fsplit ! $ move ! (1 ∷ []) $ fsplit ! $ flt_l ! (λ small.
        in_a_block ! h.at (λ r. in_block r (fsep (lies_at (Array (R E) n) full_share r xs) (room_for (array_type (R E) (c - n)) (r +ₚ n * s)))) (id⊢ 𝓤 (never 𝓤)) (λ b o e. fsplit ! $
        let at : ℕ = i * s + o in
        let points : p ≡ block_ptr b at = asked.0 ∙ (ap (λ (r : Ptr). r +ₚ i * s) e ∙ ap (λ (k : ℕ). block_ptr b k) (omega arith)) in
        use1 𝓛 (given (length xs ≡ n) (‵ (part_at (R E) full_share x b at) ⊛ ‵ (others (shares (R E)) full_share xs i b o))) (take_out E 𝓛 n xs i d b o li) $ learn ! (λ _. split ! $
        take_at ! 2 $ rewrite ! 0 (λ (r : Ptr). ‵ (fat full_share ty_ptr (l 2) 0 (ptr_val r))) points refl $ give_at ! 2 $
        first ! $ blocks ! $
        sets_last ! (addr ! (through ! refl (stop !))) refl (tt, tt) $
        exec ! C Λ En (after 1 (fn' E).body) (at_ret En Post) $
        sets ! (of_opd ! (get ! refl)) refl (tt, tt) $
        -- [the value; the others; the room; the mark; its cell; the open borrow; obs; auth]
        move ! (3 ∷ 4 ∷ []) $ fjoin ! $ move ! (3 ∷ 0 ∷ []) $ fjoin ! $ move ! (2 ∷ 0 ∷ []) $ fjoin ! $ move ! (2 ∷ 3 ∷ 4 ∷ 1 ∷ 0 ∷ []) $ group ! 5 $
        use1 𝓛 (later (some (λ (δ : GName). raw (Part 𝓛 (Rw E) (R E) (with_item h i) (named 0) κ q rb ro b at γ (sem 𝓛 (Rest vs b o)) (back vs b o e li small) x δ))))
        (lends_Part 𝓛 (Rw E) (R E) (with_item h i) (named 0) κ q rb ro b at γ (sem 𝓛 (Rest vs b o)) (back vs b o e li small) ((Rw E).coded.code h) ((Rw E).coded.code h) x) $ await ! tt $ pick ! (λ δ.
        returns ! (look_at ! 0 refl) $ free_all ! refl $ keep ! (0 ∷ []) $ by ! (exits b at x (any-default xs i d x li) δ)))))))

meets : (E : El) {M : Type 1} {𝓤 : Ura M} (𝓛 : Logic 𝓤) (𝓣 : Tables 𝓤 𝓛.H)
    → Meets 𝓛 (ended E).signature (WpFn 𝓤 𝓛.H 𝓣.C 𝓣.Λ (fn' E)) (closing 𝓛 (ended E) (spec E 𝓛))
meets E {𝓤 = 𝓤} 𝓛 𝓣 =
    walk_Meets 𝓛 (ended E) (stayed E) (Goes-spent_ref 𝓛 1 (0 ∷ []) tt (plain (λ _. Rw E)), (Goes-dropped 𝓛 1 (plain (λ _. RawPtr)) yes (λ κs x f. refl), tt)) (spec E 𝓛) (WpFn 𝓤 𝓛.H 𝓣.C 𝓣.Λ (fn' E)) (WpFn-mono 𝓤 𝓛.H 𝓛.laws 𝓣 (fn' E))
    (walked 𝓛 (ended E) (stayed E) (spec E 𝓛) (WpFn 𝓤 𝓛.H 𝓣.C 𝓣.Λ (fn' E)) (λ κs. (mut_vals, (rawptr_vals, tt))) (λ κs. (mut_Tells (named 0) κs.0 (Rw E), (rawptr_Tells, tt)))
    (λ κs qs bounds a g are. needs 𝓤 (Asks E a.0.now a.1.0) _ (walk E 𝓛 κs.0 qs.0 a.0.ref_ptr.0 a.0.ref_ptr.1 a.0.ghost_name a.0.now a.1.0 𝓣.C 𝓣.Λ)))

pub item_mut_spec : {M : Type 1} → stated.statement M
unfolding tables_of
item_mut_spec 𝓤 𝓛 𝓜 𝓡 wired X LX y =
    let E : El = record { row = X; laws = LX; al = no_al } in
    let 𝓣 : Tables 𝓤 𝓛.H = tables_of 𝓤 𝓛.H 𝓜 (tables 𝓤 𝓛.H 𝓜 𝓡 𝓡.env) in
    spared 𝓛 (ended E).signature (𝓡.run (𝓡.env (#self (args₁ E)))) (run_framed 𝓤 𝓛.H 𝓜 𝓡 (𝓡.env (#self (args₁ E)))) 1 (X.lives, tt) (closing 𝓛 (ended E) (spec E 𝓛))
    (entered 𝓤 𝓛.H (triple_of 𝓛 (ended E).signature (closing 𝓛 (ended E) (spec E 𝓛))) 𝓣.C 𝓣.Λ (#self (args₁ E)) (fn' E) (code.unfolded 𝓤 𝓛.H 𝓜 𝓡 wired (X, tt)) (meets E 𝓛 𝓣))
    ((y.0.0, y.0.1, tt, y.0.3, y.0.4), y.1)
