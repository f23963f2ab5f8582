-- `part` shows a part of a row of bytes through a raw pointer. A walk of its code by hand. Assumes `Logic`.
use mathlib.Core.Path.{◌≡◌, refl, sym, ap, ◌∙◌}
use Prim.Native.Nat.{ℕ, ◌+◌, ◌*◌, ◌≤◌, ◌<◌, ◌^◌}
use native.Mathlib.Omega.{arith}
use mathlib.Core.List.{List, [], ◌∷◌}
use lib.ListN.{length, take, drop as drop_list, length-drop}
use seplogic.Ra.Ura.{Ura}
use base.Fraction.{full_share}
use mir.Syntax.{named, w64, ty_ptr}
use mir.Val.{Val, vptr, vint}
use base.Logic.{SProp, ent, sep}
use base.Fml.{Lft, Share, ftrue, fat, flft, fhide}
use prog.Memory.{Memory}
use prog.Routine.{Routine}
use prog.Wp.{Env, Calls, Loops, WpFn, Tables}
use types.Logic.{Logic, sem}
use contract.Monad.{Fun, fact}
use contract.Running.{tables, tables_of}
use sound.WpLaws.{WpFn-mono}
use types.Kit.{‵, raw, ◌⊛◌, at_ret, ◌$◌, ◌∵◌, !, qed, by, move, keep, drop, use1, split, join, rewrite, fsplit, fjoin, feq_i, flt_i, flt_l, suffices, frame, done}
use types.Part.{agg}
use types.Run.{bin, of_opd, and_then, no_more, first, blocks, exec, returns, enter}
use types.ByLocal.{alloc_all, pass_all, free_all, look_at, get, take_at, give_at, sets, sets_last, env}
use denote.Builtin.{u8, usize, RefOf}
use denote.Exit.{yes}
use denote.Index.{place, place_byte}
use denote.Memory.{shared_of, each_shared}
use denote.Opens.{unhide, hide}
use denote.Plain.{uint_vals, uint_Tells}
use denote.RattleType.{RattleType, owns}
use denote.RawPtr.{Ptr, RawPtr, InBlock, block_of, count_of, at_block, ptr_val, rawptr_vals, rawptr_Tells, rawptr_Lawful}
use denote.Ref.{Bor, ShrRef, shr_vals, shr_Tells}
use denote.Signature.{plain}
use denote.Slice.{slice_val, elements_shared}
use denote.Steps.{nothing, heard}
use denote.Struct.Lending.{in_block_says}
use denote.Triple.Clauses.{Clauses}
use denote.Triple.Entry.{on_entry}
use denote.Triple.Spec.{Meets, triple_of}
use denote.Triple.Table.{entered}
use denote.Triple.Walked.{says, needs, Stays, stay_dropped, walk_of, ends_at, walked, Goes-dropped, walk_Meets}
use borrow.Table.Elements.{length-take-le}
use Rattle.std.proofs.VecSteps.Shapes.{after}
use Rattle.cckd_frames.specs.contracts.block.Row as Row-type
use Rattle.cckd_frames.proofs.Runs.{drop_seen, take_seen}
use Rattle.cckd_frames.specs.contracts.block.Row+u8.part as F
use Rattle.cckd_frames.specs.contracts.block.Row+u8.part.Key.{name as #self}
use Rattle.cckd_frames.proofs.block.Row+u8.part.Statement as stated
use Rattle.cckd_frames.proofs.block.Row+u8.part.Code as code

abbrev Rb : RattleType
Rb = Row-type.the_row u8

abbrev stayed : Stays (F.ended).signature.params (F.ended).kept
stayed = (stay_dropped (RefOf (0 ∷ []) tt (plain (λ _. Rb)) (λ _. tt)) yes, (stay_dropped (plain (λ _. RawPtr)) yes, (stay_dropped (plain (λ _. usize)) yes, (stay_dropped (plain (λ _. usize)) yes, tt))))

abbrev Asks : Rb.Denot → Ptr → ℕ → ℕ → Type 0
Asks h p m n = (p ≡ h.at) × (m + n ≤ length h.items)

module _ {M : Type 1} {𝓤 : Ura M} (𝓛 : Logic 𝓤) (at_mem : Memory → SProp 𝓤) (run : Routine → Fun 𝓤) (κ : Lft) (q : Share) (rb ro : ℕ) (h : Rb.Denot) (p : Ptr) (m n : ℕ) (asked : Asks h p m n) where
  open 𝓛 use {H, A}

  abbrev clauses : Clauses 𝓤 F.ended
  clauses = F.clauses 𝓛 at_mem run

  abbrev self : Bor Rb.Denot
  self = record { ref_ptr = (rb, ro); now = h }

  abbrev words : List Val × (List Val × (List Val × (List Val × Unit {0})))
  words = (shr_vals self, (ptr_val p ∷ [], (vint w64 m ∷ [], (vint w64 n ∷ [], tt))))

  abbrev bound : (walk_of 𝓛 F.ended stayed clauses).Ghost
  bound = (((κ, tt), (q, tt), tt, (self, (p, (m, (n, tt)))), words), tt)

  abbrev Post : Val → SProp 𝓤
  Post = (walk_of 𝓛 F.ended stayed clauses).post bound

  abbrev xs : List ℕ
  xs = h.items

  abbrev seen : List ℕ
  seen = take n (drop_list m xs)

  length-seen : length seen ≡ n
  length-seen = let i = asked.1 in length-take-le n (drop_list m xs) (let l = length-drop m xs in omega arith)

  exits : (b t : ℕ) → length seen < 2 ^ 64 → length seen * 1 < 2 ^ 63 → ent 𝓤 (sep 𝓤 (A.lft κ q) (sem 𝓛 (fhide (elements_shared u8 seen b t κ)))) (Post (slice_val (b, t) n))
  exits b t fits small =
      qed 𝓛 (‵ (flft κ q) ∷ ‵ (fhide (elements_shared u8 seen b t κ)) ∷ []) ∵
      suffices ! _ (ends_at 𝓛 F.ended stayed clauses bound (slice_val (b, t) n) (record { ref_ptr = (b, t); now = seen }) (tt, (tt, (tt, (tt, tt)))) (tt, (tt, (tt, (tt, tt))))) $ says ! refl $
      nothing ! $ move ! (1 ∷ 0 ∷ []) $ join ! $ frame ! $ flt_i ! (length seen * 1) (2 ^ 63) small $ flt_i ! (length seen) (2 ^ 64) fits $ fjoin ! $
      feq_i ! (List Val) (slice_val (b, t) n ∷ []) (slice_val (b, t) (length seen) ∷ []) (ap (λ k. slice_val (b, t) k ∷ []) (sym length-seen)) $ fjoin ! $ fjoin ! $
      nothing ! $ nothing ! $ fjoin ! $ nothing ! $ fjoin ! $ nothing ! $ fjoin ! $ nothing ! $ fjoin ! $ join ! $ done !

  module _ (C : Calls 𝓤 H) (Λ : Loops 𝓤 H) where
    walk : m < 2 ^ 64 → n < 2 ^ 64 → ent 𝓤 (on_entry 𝓛 F.signature (κ, tt) (q, tt) (self, (p, (m, (n, tt)))) words) (WpFn 𝓤 H C Λ code.function (vptr rb ro ∷ ptr_val p ∷ vint w64 m ∷ vint w64 n ∷ []) Post)
    walk fm fn =
        let N : ℕ = length xs in let i = asked.1 in let le : N ≤ h.room = h.within in let l_seen = length-seen in
        qed 𝓛 ((‵ (flft κ q) ⊛ ‵ ftrue) ∷ ‵ (owns (ShrRef (named 0) κ Rb ∷ RawPtr ∷ usize ∷ usize ∷ []) (self, (p, (m, (n, tt)))) words) ∷ []) ∵
        enter ! C Λ code.function (vptr rb ro ∷ ptr_val p ∷ vint w64 m ∷ vint w64 n ∷ []) _ $
        alloc_all ! (λ l. pass_all ! refl ((tt, tt), (((rawptr_Lawful 𝓛).typed p _ refl).0, ((tt, record { fits = fm }), ((tt, record { fits = fn }), tt)))) $
        let En : Env 𝓤 H = env (code.function).locals l in
        split ! $ move ! (2 ∷ []) $ fsplit ! $ fsplit ! $ drop ! $ move ! (0 ∷ 2 ∷ []) $
        unhide ! $ fsplit ! $ drop ! $ fsplit ! $ flt_l ! (λ small. fsplit ! $ use1 𝓛 (raw (fact 𝓤 (InBlock h.at))) (in_block_says 𝓛 h.at) $ heard ! (InBlock h.at) (λ inb. fsplit ! $ drop ! $
        let b : ℕ = block_of h.at in let o : ℕ = count_of h.at in
        use1 𝓛 (‵ (each_shared (drop_list m xs) (shared_of u8) 1 b (place 1 o m) κ)) (drop_seen u8 1 𝓛 κ b xs m o) $
        use1 𝓛 (‵ (each_shared seen (shared_of u8) 1 b (place 1 o m) κ)) (take_seen u8 1 𝓛 κ b (drop_list m xs) n (place 1 o m)) $
        rewrite ! 0 (λ (k : ℕ). ‵ (each_shared seen (shared_of u8) 1 b k κ)) (place_byte o m) refl $ hide ! $
        take_at ! 2 $ rewrite ! 0 (λ (r : Ptr). ‵ (fat full_share ty_ptr (l 2) 0 (ptr_val r))) (asked.0 ∙ at_block h.at inb) refl $ give_at ! 2 $
        first ! $ blocks ! $
        sets ! (bin ! (get ! refl) (get ! refl) tt) refl (tt, tt) $
        sets_last ! (agg ! (and_then ! (get ! refl) (and_then ! (get ! refl) (no_more !)))) refl (tt, (tt, (record { fits = fn }, tt))) $
        exec ! C Λ En (after 1 (code.function).body) (at_ret En Post) $
        sets ! (of_opd ! (get ! refl)) refl (tt, (tt, (record { fits = fn }, tt))) $
        returns ! (look_at ! 0 refl) $ free_all ! refl $ keep ! (1 ∷ 0 ∷ []) $ by ! (exits b (m + o) (omega arith) (omega arith)))))

meets : {M : Type 1} {𝓤 : Ura M} (𝓛 : Logic 𝓤) (at_mem : Memory → SProp 𝓤) (run : Routine → Fun 𝓤) (𝓣 : Tables 𝓤 𝓛.H) → Meets 𝓛 F.signature (WpFn 𝓤 𝓛.H 𝓣.C 𝓣.Λ code.function) (F.spec 𝓛 at_mem run)
meets {𝓤 = 𝓤} 𝓛 at_mem run 𝓣 =
    walk_Meets 𝓛 F.ended stayed
    (Goes-dropped 𝓛 1 (RefOf (0 ∷ []) tt (plain (λ _. Rb)) (λ _. tt)) yes (λ κs x f. refl), (Goes-dropped 𝓛 1 (plain (λ _. RawPtr)) yes (λ κs x f. refl), (Goes-dropped 𝓛 1 (plain (λ _. usize)) yes (λ κs x f. refl), (Goes-dropped 𝓛 1 (plain (λ _. usize)) yes (λ κs x f. refl), tt))))
    (F.clauses 𝓛 at_mem run) (WpFn 𝓤 𝓛.H 𝓣.C 𝓣.Λ code.function) (WpFn-mono 𝓤 𝓛.H 𝓛.laws 𝓣 code.function)
    (walked 𝓛 F.ended stayed (F.clauses 𝓛 at_mem run) (WpFn 𝓤 𝓛.H 𝓣.C 𝓣.Λ code.function)
    (λ κs. (shr_vals, (rawptr_vals, (uint_vals w64, (uint_vals w64, tt))))) (λ κs. (shr_Tells (named 0) κs.0 Rb, (rawptr_Tells, (uint_Tells w64, (uint_Tells w64, tt)))))
    (λ κs qs bounds a g are. needs 𝓤 (Asks a.0.now a.1.0 a.1.1.0 a.1.1.1.0) _
    (λ asked. walk 𝓛 at_mem run κs.0 qs.0 a.0.ref_ptr.0 a.0.ref_ptr.1 a.0.now a.1.0 a.1.1.0 a.1.1.1.0 asked 𝓣.C 𝓣.Λ are.1.1.0.1 are.1.1.1.0.1)))

pub part_spec : {M : Type 1} → stated.statement M
unfolding tables_of
part_spec 𝓤 𝓛 𝓜 𝓡 wired =
    let 𝓣 : Tables 𝓤 𝓛.H = tables_of 𝓤 𝓛.H 𝓜 (tables 𝓤 𝓛.H 𝓜 𝓡 𝓡.env) in
    entered 𝓤 𝓛.H (triple_of 𝓛 F.signature (F.spec 𝓛 𝓜.mem 𝓡.returns)) 𝓣.C 𝓣.Λ #self code.function (code.unfolded 𝓤 𝓛.H 𝓜 𝓡 wired) (meets 𝓛 𝓜.mem 𝓡.returns 𝓣)
