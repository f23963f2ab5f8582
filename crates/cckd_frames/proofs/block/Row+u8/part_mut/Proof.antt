-- `part_mut` lends a part of a row of bytes through a raw pointer, and the row follows it. A walk of its code by hand. Assumes `Logic`.
use mathlib.Core.Path.{◌≡◌, refl, sym, ap, ◌∙◌}
use Prim.Native.Nat.{ℕ, ◌+◌, ◌-◌, ◌*◌, ◌≤◌, ◌<◌, ◌^◌}
use native.Mathlib.Omega.{arith}
use mathlib.Core.List.{List, [], ◌∷◌, ◌++◌}
use lib.ListN.{length, take, drop as drop_list, take-append-drop, length-drop}
use seplogic.Ra.Ura.{Ura}
use base.Fraction.{full_share}
use mir.Syntax.{named, w64, ty_ptr}
use mir.Val.{Val, vptr, vint}
use base.Logic.{SProp, ent, sep, never, id⊢}
use base.Fml.{Lft, GName, Share, Fml, ftrue, feq, fsep, fat, froom, flft}
use prog.Memory.{Memory}
use prog.Routine.{Routine}
use prog.Wp.{Env, Calls, Loops, WpFn, Tables}
use types.Logic.{Logic, sem}
use types.SemTy.{cells}
use contract.Monad.{Fun}
use contract.Running.{tables, tables_of}
use sound.WpLaws.{WpFn-mono}
use types.Kit.{‵, raw, ◌⊛◌, some, later, await, pick, at_ret, ◌$◌, ◌∵◌, !, qed, by, move, keep, drop, use1, use2, split, join, group, rewrite, fsplit, fsplit3, fjoin, fpack, feq_i, flt_i, flt_l, suffices, frame, done}
use types.Part.{agg}
use types.Run.{bin, of_opd, and_then, no_more, first, blocks, exec, returns, enter}
use types.ByLocal.{alloc_all, pass_all, free_all, look_at, get, take_at, give_at, sets, sets_last, env}
use denote.Array.{Array}
use denote.ArrayMemory.{Array-apart, Array-whole}
use denote.Builtin.{u8, usize}
use denote.Exit.{yes, no}
use denote.Follow.{follows}
use denote.FollowSlice.{Elements, lends_Elements}
use denote.Index.{row, whole_in, whole_out}
use denote.Memory.{mem, cell_at, part_at, part_of}
use denote.Plain.{uint_vals, uint_Tells}
use denote.RattleType.{RattleType, owns}
use denote.RawPtr.{Ptr, RawPtr, block_ptr, ptr_val, rawptr_vals, rawptr_Tells, rawptr_Lawful, lies_at, room_for, in_block, in_a_block, ◌+ₚ◌}
use denote.Ref.{MutBor, MutRef, mut_vals, mut_Tells}
use denote.Signature.{plain, mut_ref_to}
use denote.Slice.{MutSlice, Room, slice_val}
use denote.Steps.{nothing, opens}
use denote.Triple.Clauses.{Clauses}
use denote.Triple.Entry.{on_entry}
use denote.Triple.Spec.{Meets, triple_of}
use denote.Triple.Table.{entered}
use denote.Triple.Walked.{says, needs, Stays, stay_dropped, walk_of, ends_at, walked, Goes-dropped, Goes-spent_ref, walk_Meets}
use borrow.Table.Elements.{at, at_mul, cut_app, join_app, length-take-le}
use Rattle.std.proofs.VecSteps.Shapes.{after}
use Rattle.cckd_frames.specs.Store.{over}
use Rattle.cckd_frames.specs.Ownership.{array_type, row_owns}
use Rattle.cckd_frames.specs.RowLends.{with_bytes}
use Rattle.cckd_frames.specs.contracts.block.Row as Row-type
use Rattle.cckd_frames.proofs.ByteLemmas.{refilled-same, length-over}
use Rattle.cckd_frames.proofs.Marks.{RowMark}
use Rattle.cckd_frames.specs.contracts.block.Row+u8.part_mut as F
use Rattle.cckd_frames.specs.contracts.block.Row+u8.part_mut.Key.{name as #self}
use Rattle.cckd_frames.proofs.block.Row+u8.part_mut.Statement as stated
use Rattle.cckd_frames.proofs.block.Row+u8.part_mut.Code as code

abbrev Rb : RattleType
Rb = Row-type.the_row u8

-- what is left of the four parameters at the return: the loan is spent, and the numbers are gone
abbrev stayed : Stays (F.ended).signature.params (F.ended).kept
stayed = (stay_dropped (mut_ref_to (0 ∷ []) tt (plain (λ _. Rb))) no, (stay_dropped (plain (λ _. RawPtr)) yes, (stay_dropped (plain (λ _. usize)) yes, (stay_dropped (plain (λ _. usize)) yes, tt))))

abbrev Asks : Rb.Denot → Ptr → ℕ → ℕ → Type 0
Asks h p m n = (p ≡ h.at) × (m + n ≤ length h.items)

module _ {M : Type 1} {𝓤 : Ura M} (𝓛 : Logic 𝓤) (at_mem : Memory → SProp 𝓤) (run : Routine → Fun 𝓤) (κ : Lft) (q : Share) (rb ro : ℕ) (γ : GName) (h : Rb.Denot) (p : Ptr) (m n : ℕ) (asked : Asks h p m n) where
  open 𝓛 use {H, A}

  abbrev clauses : Clauses 𝓤 F.ended
  clauses = F.clauses 𝓛 at_mem run

  abbrev self : MutBor Rb.Denot
  self = record { ref_ptr = (rb, ro); ghost_name = γ; now = h }

  abbrev words : List Val × (List Val × (List Val × (List Val × Unit {0})))
  words = (mut_vals self, (ptr_val p ∷ [], (vint w64 m ∷ [], (vint w64 n ∷ [], tt))))

  abbrev bound : (walk_of 𝓛 F.ended stayed clauses).Ghost
  bound = (((κ, tt), (q, tt), tt, (self, (p, (m, (n, tt)))), words), tt)

  abbrev Post : Val → SProp 𝓤
  Post = (walk_of 𝓛 F.ended stayed clauses).post bound

  abbrev xs : List ℕ
  xs = h.items

  abbrev c : ℕ
  c = h.room

  abbrev front : List ℕ
  front = take m xs

  abbrev mid : List ℕ
  mid = take n (drop_list m xs)

  abbrev back : List ℕ
  back = drop_list n (drop_list m xs)

  abbrev New : List ℕ → Rb.Denot
  New w = with_bytes h (over m n xs w)

  inside : m + n ≤ length xs
  inside = asked.1

  length-front : length front ≡ m
  length-front = let i = inside in length-take-le m xs (omega arith)

  length-mid : length mid ≡ n
  length-mid = let i = inside in length-take-le n (drop_list m xs) (let l = length-drop m xs in omega arith)

  cut : xs ≡ front ++ (mid ++ back)
  cut = sym (take-append-drop m xs) ∙ ap (λ (l : List ℕ). front ++ l) (sym (take-append-drop n (drop_list m xs)))

  module _ (vs : List Val) (b o : ℕ) where
    abbrev pt : ℕ
    pt = m + o

    starts : at o 1 (length front) ≡ pt
    starts = at_mul o 1 (length front) ∙ (let l = length-front in omega arith)

    -- all but the part
    abbrev Rest : Fml
    Rest = fsep (cells (mem u8) front b o) (fsep (cells (mem u8) back b (at pt 1 n)) (fsep (froom (array_type u8 (c - length xs)) b (o + length xs * 1)) (fsep ((RowMark u8).own_val (tt, tt) vs) (cell_at full_share Rb.mir vs rb ro))))

    put_back : h.at ≡ block_ptr b o → c * 1 < 2 ^ 63 → (ws : List ℕ) → length ws ≡ length mid → ent 𝓤 (sep 𝓤 (sem 𝓛 (cells (mem u8) ws b pt)) (sem 𝓛 Rest)) (sem 𝓛 ((mem Rb).own_at (New ws) rb ro))
    unfolding part_of
    put_back e small ws l =
        let len : length ws ≡ n = l ∙ length-mid in
        let O : List ℕ = over m n xs ws in
        let ys : List ℕ = (New ws).items in
        let whole_now : ys ≡ O = refilled-same xs O (length-over m n xs ws inside) in
        let same : length ys ≡ length xs = ap (λ (k : List ℕ). length k) whole_now ∙ length-over m n xs ws inside in
        let is : front ++ (ws ++ back) ≡ ys = ap (λ (k : List ℕ). front ++ (k ++ back)) (sym (refilled-same mid ws l)) ∙ sym whole_now in
        qed 𝓛 (‵ (cells (mem u8) ws b pt) ∷ ‵ Rest ∷ []) ∵ move ! (1 ∷ []) $ fsplit ! $ move ! (1 ∷ []) $ fsplit ! $ move ! (1 ∷ []) $ fsplit ! $ move ! (1 ∷ []) $ fsplit ! $
        -- [the mark; its cell; the room; the bytes after; the bytes before; the part]
        rewrite ! 3 (λ (k : ℕ). ‵ (cells (mem u8) back b (at pt 1 k))) (sym len) refl $ move ! (5 ∷ 3 ∷ []) $
        use2 𝓛 (‵ (cells (mem u8) (ws ++ back) b pt)) (join_app 𝓛 (mem u8) ws back b pt) $ rewrite ! 0 (λ (k : ℕ). ‵ (cells (mem u8) (ws ++ back) b k)) (sym starts) refl $ move ! (4 ∷ 0 ∷ []) $
        use2 𝓛 (‵ (cells (mem u8) (front ++ (ws ++ back)) b o)) (join_app 𝓛 (mem u8) front (ws ++ back) b o) $ rewrite ! 0 (λ (k : List ℕ). ‵ (cells (mem u8) k b o)) is refl $
        use1 𝓛 (‵ (row u8 full_share ys b o)) (whole_out 𝓛 u8 ys b o) $ feq_i ! ℕ (length ys) (length ys) refl $ fjoin ! $
        use1 𝓛 (‵ (part_at (Array u8 (length ys)) full_share ys b o)) (Array-whole 𝓛 u8 full_share (length ys) ys b o) $ move ! (3 ∷ []) $
        rewrite ! 0 (λ (k : ℕ). ‵ (froom (array_type u8 (c - k)) b (o + k * 1))) (sym same) refl $ move ! (1 ∷ 0 ∷ []) $ fjoin ! $ flt_i ! (c * 1) (2 ^ 63) small $ fjoin ! $
        rewrite ! 0 (λ (r : Ptr). ‵ (row_owns u8 r c ys)) (sym e) refl $ move ! (1 ∷ 0 ∷ []) $ fjoin ! $ move ! (1 ∷ 0 ∷ []) $ fjoin ! $
        fpack ! (List Val) (λ us. fsep (cell_at full_share Rb.mir us rb ro) (Rb.own_val (New ws) us)) vs $ done !

  exits : (b t : ℕ) (γ' : GName)
      → ent 𝓤 (sep 𝓤 (sem 𝓛 ((MutSlice (named 0) κ u8).own_val (record { ref_ptr = (b, t); ghost_name = γ'; now = mid }) (slice_val (b, t) (length mid) ∷ []))) (sep 𝓤 (A.lft κ q) (sem 𝓛 (follows Rb (Array u8 0) γ γ' New)))) (Post (slice_val (b, t) n))
  exits b t γ' =
      qed 𝓛 (‵ ((MutSlice (named 0) κ u8).own_val (record { ref_ptr = (b, t); ghost_name = γ'; now = mid }) (slice_val (b, t) (length mid) ∷ [])) ∷ ‵ (flft κ q) ∷ ‵ (follows Rb (Array u8 0) γ γ' New) ∷ []) ∵
      rewrite ! 0 (λ (k : ℕ). ‵ ((MutSlice (named 0) κ u8).own_val (record { ref_ptr = (b, t); ghost_name = γ'; now = mid }) (slice_val (b, t) k ∷ []))) length-mid refl $
      suffices ! _ (ends_at 𝓛 F.ended stayed clauses bound (slice_val (b, t) n) (record { ref_ptr = (b, t); ghost_name = γ'; now = mid }) (tt, (tt, (tt, (tt, tt)))) (tt, (tt, (tt, (tt, tt))))) $
      nothing ! $ nothing ! $ fjoin ! $ nothing ! $ fjoin ! $ nothing ! $ fjoin ! $ nothing ! $ fjoin ! $ join ! $ nothing ! $ move ! (2 ∷ 0 ∷ []) $ join ! $ join ! $ frame ! $ says ! refl $ done !

  module _ (C : Calls 𝓤 H) (Λ : Loops 𝓤 H) where
    walk : m < 2 ^ 64 → n < 2 ^ 64 → ent 𝓤 (on_entry 𝓛 F.signature (κ, tt) (q, tt) (self, (p, (m, (n, tt)))) words) (WpFn 𝓤 H C Λ code.function (vptr rb ro ∷ ptr_val p ∷ vint w64 m ∷ vint w64 n ∷ []) Post)
    walk fm fn =
        let N : ℕ = length xs in let i = inside in let le : N ≤ c = h.within in let l_mid = length-mid in
        qed 𝓛 ((‵ (flft κ q) ⊛ ‵ ftrue) ∷ ‵ (owns (MutRef (named 0) κ Rb ∷ RawPtr ∷ usize ∷ usize ∷ []) (self, (p, (m, (n, tt)))) words) ∷ []) ∵
        enter ! C Λ code.function (vptr rb ro ∷ ptr_val p ∷ vint w64 m ∷ vint w64 n ∷ []) _ $
        alloc_all ! (λ l. pass_all ! refl ((tt, tt), (((rawptr_Lawful 𝓛).typed p _ refl).0, ((tt, record { fits = fm }), ((tt, record { fits = fn }), tt)))) $
        let En : Env 𝓤 H = env (code.function).locals l in
        move ! (1 ∷ []) $ fsplit ! $ fsplit3 ! $ drop ! $ move ! (3 ∷ []) $ split ! $ move ! (2 ∷ 3 ∷ 0 ∷ []) $
        opens ! tt Rb {h = h} rb ro (λ vs. move ! (1 ∷ []) $ fsplit ! $ move ! (1 ∷ []) $ fsplit ! $ flt_l ! (λ small.
        in_a_block ! h.at (λ r. in_block r (fsep (lies_at (Array u8 N) full_share r xs) (room_for (array_type u8 (c - N)) (r +ₚ N * 1)))) (id⊢ 𝓤 (never 𝓤)) (λ b o e. fsplit ! $
        let roomy : Room u8 (length mid) = (omega arith, omega arith) in
        take_at ! 2 $ rewrite ! 0 (λ (r : Ptr). ‵ (fat full_share ty_ptr (l 2) 0 (ptr_val r))) (asked.0 ∙ e) refl $ give_at ! 2 $
        first ! $ blocks ! $
        sets ! (bin ! (get ! refl) (get ! refl) tt) refl (tt, tt) $
        sets_last ! (agg ! (and_then ! (get ! refl) (and_then ! (get ! refl) (no_more !)))) refl (tt, (tt, (record { fits = fn }, tt))) $
        exec ! C Λ En (after 1 (code.function).body) (at_ret En Post) $
        sets ! (of_opd ! (get ! refl)) refl (tt, (tt, (record { fits = fn }, tt))) $
        use1 𝓛 (‵ (fsep (feq ℕ (length xs) N) (row u8 full_share xs b o))) (Array-apart 𝓛 u8 full_share tt N xs b o) $ fsplit ! $ drop ! $ use1 𝓛 (‵ (cells (mem u8) xs b o)) (whole_in 𝓛 u8 xs b o) $
        rewrite ! 0 (λ (k : List ℕ). ‵ (cells (mem u8) k b o)) cut refl $
        use1 𝓛 (‵ (cells (mem u8) front b o) ⊛ ‵ (cells (mem u8) (mid ++ back) b (at o 1 (length front)))) (cut_app 𝓛 (mem u8) front (mid ++ back) b o) $ split ! $ move ! (1 ∷ []) $
        rewrite ! 0 (λ (k : ℕ). ‵ (cells (mem u8) (mid ++ back) b k)) (starts vs b o) refl $
        use1 𝓛 (‵ (cells (mem u8) mid b (pt vs b o)) ⊛ ‵ (cells (mem u8) back b (at (pt vs b o) 1 (length mid)))) (cut_app 𝓛 (mem u8) mid back b (pt vs b o)) $ split ! $
        rewrite ! 1 (λ (k : ℕ). ‵ (cells (mem u8) back b (at (pt vs b o) 1 k))) length-mid refl $
        -- [the part; the bytes after; the bytes before; the room; the mark; its cell; the open borrow; obs; auth]
        move ! (4 ∷ 5 ∷ []) $ fjoin ! $ move ! (4 ∷ 0 ∷ []) $ fjoin ! $ move ! (2 ∷ 0 ∷ []) $ fjoin ! $ move ! (2 ∷ 0 ∷ []) $ fjoin ! $ move ! (2 ∷ 3 ∷ 4 ∷ 1 ∷ 0 ∷ []) $ group ! 5 $
        use1 𝓛 (later (some (λ (δ : GName). raw (Elements 𝓛 Rb u8 New (named 0) κ q rb ro b (pt vs b o) γ mid roomy (sem 𝓛 (Rest vs b o)) (put_back vs b o e small) δ))))
        (lends_Elements 𝓛 Rb u8 New (named 0) κ q rb ro b (pt vs b o) γ mid roomy (sem 𝓛 (Rest vs b o)) (put_back vs b o e small) (Rb.coded.code h) (Rb.coded.code h)) $ await ! tt $ pick ! (λ δ.
        returns ! (look_at ! 0 refl) $ free_all ! refl $ keep ! (0 ∷ []) $ by ! (exits b (m + o) δ))))))

meets : {M : Type 1} {𝓤 : Ura M} (𝓛 : Logic 𝓤) (at_mem : Memory → SProp 𝓤) (run : Routine → Fun 𝓤) (𝓣 : Tables 𝓤 𝓛.H) → Meets 𝓛 F.signature (WpFn 𝓤 𝓛.H 𝓣.C 𝓣.Λ code.function) (F.spec 𝓛 at_mem run)
meets {𝓤 = 𝓤} 𝓛 at_mem run 𝓣 =
    walk_Meets 𝓛 F.ended stayed
    (Goes-spent_ref 𝓛 1 (0 ∷ []) tt (plain (λ _. Rb)), (Goes-dropped 𝓛 1 (plain (λ _. RawPtr)) yes (λ κs x f. refl), (Goes-dropped 𝓛 1 (plain (λ _. usize)) yes (λ κs x f. refl), (Goes-dropped 𝓛 1 (plain (λ _. usize)) yes (λ κs x f. refl), tt))))
    (F.clauses 𝓛 at_mem run) (WpFn 𝓤 𝓛.H 𝓣.C 𝓣.Λ code.function) (WpFn-mono 𝓤 𝓛.H 𝓛.laws 𝓣 code.function)
    (walked 𝓛 F.ended stayed (F.clauses 𝓛 at_mem run) (WpFn 𝓤 𝓛.H 𝓣.C 𝓣.Λ code.function)
    (λ κs. (mut_vals, (rawptr_vals, (uint_vals w64, (uint_vals w64, tt))))) (λ κs. (mut_Tells (named 0) κs.0 Rb, (rawptr_Tells, (uint_Tells w64, (uint_Tells w64, tt)))))
    (λ κs qs bounds a g are. needs 𝓤 (Asks a.0.now a.1.0 a.1.1.0 a.1.1.1.0) _
    (λ asked. walk 𝓛 at_mem run κs.0 qs.0 a.0.ref_ptr.0 a.0.ref_ptr.1 a.0.ghost_name a.0.now a.1.0 a.1.1.0 a.1.1.1.0 asked 𝓣.C 𝓣.Λ are.1.1.0.1 are.1.1.1.0.1)))

pub part_mut_spec : {M : Type 1} → stated.statement M
unfolding tables_of
part_mut_spec 𝓤 𝓛 𝓜 𝓡 wired =
    let 𝓣 : Tables 𝓤 𝓛.H = tables_of 𝓤 𝓛.H 𝓜 (tables 𝓤 𝓛.H 𝓜 𝓡 𝓡.env) in
    entered 𝓤 𝓛.H (triple_of 𝓛 F.signature (F.spec 𝓛 𝓜.mem 𝓡.returns)) 𝓣.C 𝓣.Λ #self code.function (code.unfolded 𝓤 𝓛.H 𝓜 𝓡 wired) (meets 𝓛 𝓜.mem 𝓡.returns 𝓣)
