-- `allocate` cuts a new block in two empty rows, and keeps the right to free it. A walk of its code by hand. Assumes `Logic`.
use mathlib.Core.Path.{◌≡◌, refl, sym, ap, subst}
use mathlib.Core.Bool.{true, false}
use Prim.Native.Nat.{ℕ, ◌+◌, ◌*◌, ◌≤◌, ◌<◌, ◌^◌}
use native.Mathlib.Nat.{mul-one, mul-le-mul_left, mul-le-mul_right}
use native.Mathlib.Omega.{arith}
use mathlib.Core.List.{List, [], ◌∷◌, ◌++◌}
use lib.Dec.{lit<}
use seplogic.Ra.Ura.{Ura}
use mir.Syntax.{Fn, Body, Ty, named, w64, ty_array}
use mir.MapTy.{inst_fn}
use mir.Raw.{raw as bare}
use mir.Val.{Val, vptr, vint, vstruct, vcons, vnil}
use base.Logic.{SProp, ent}
use base.Fml.{Lft, Share, ftrue, froom, fwand, flft, Incl-trans}
use prog.Memory.{Memory, align, capped}
use prog.Capped.{capped_fits}
use prog.Routine.{Routine}
use prog.Wp.{Env, Calls, Loops, WpFn, Tables, Wp, after_seq, at_return}
use types.Logic.{Logic}
use contract.Monad.{Fun, fact}
use contract.Running.{tables, tables_of}
use contract.BorrowLft.{◌⊑◌}
use sound.WpLaws.{WpFn-mono, FmC, fm_of}
use types.Kit.{Item, ⋆, ‵, raw, ◌⊛◌, later, await, at_ret, Post as After, any_q, ◌$◌, ◌∵◌, !, qed, by, move, keep, use0, use1, use2, split, split3, join, group, fsplit, fsplit3, fjoin, feq_i, feq_l, flt_l, suffices, frame, done}
use types.Part.{whole, agg}
use types.Match.{live, vrt, in_variant}
use types.Run.{stop, fld, lit, of_opd, bin, and_then, no_more, first, exec, returns, enter, size_word, align_word, switches_on}
use types.ByLocal.{alloc_all, pass_all, free_all, look_at, get, get_in, get_tag, sets, sets_last, lands_as, is, env}
use denote.Exit.{yes}
use denote.RattleType.{RattleType, owns}
use denote.Memory.{hidden_shr}
use denote.Param.{layout}
use denote.RawPtr.{Ptr, RawPtr, InBlock, block_ptr, ptr_val, ◌+ₚ◌}
use denote.Ref.{Bor, ShrRef}
use denote.Builtin.{RefOf, u8, usize}
use denote.Laws.{Is}
use denote.Signature.{plain}
use denote.Steps.{nothing, owned}
use denote.Struct.Struct.{Struct, Struct-Makes}
use denote.Struct.Declared as Declared
use denote.Struct.Tuple.{Tuple}
use denote.Triple.Call.{calls_at}
use denote.Triple.Clauses.{Clauses, Ended, closing}
use denote.Triple.Entry.{on_entry}
use denote.Triple.Spec.{Meets, triple_of}
use denote.Triple.Statement.{Triple}
use denote.Triple.Table.{entered}
use denote.Triple.Walked.{says, needs, Stays, stay_dropped, walk_of, ends_at, Goes-dropped, walk_Meets}
use Rattle.std.specs.Prelude.{IfOk, Ok, Err}
use Rattle.std.specs.contracts.result.Result as RS
use Rattle.std.specs.contracts.alloc.AllocError as AE
use Rattle.std.proofs.alloc.Calls.{Al, second, Answer-typed, takes_key, Takes, at_takes, Answered, Takes-goes, Takes-gives, answers}
use Rattle.std.proofs.ResultValues.{ok_of, err_of}
use Rattle.std.proofs.RcSteps.{Good, first_Good}
use Rattle.std.proofs.VecSteps.El.{El, P, R, args, elτ, sz}
use Rattle.std.proofs.VecSteps.Shapes.{after, head, arm_body}
use Rattle.cckd_frames.specs.Ownership.{row_owns}
use Rattle.cckd_frames.specs.contracts.block.Row as Row-type
use Rattle.cckd_frames.specs.contracts.block.Deed as Deed-type
use Rattle.cckd_frames.proofs.Cutting.{bytes_of, row_new, cut, Two}
use Rattle.cckd_frames.proofs.Marks.{mark, row_mark, deed_mark, RowMark, DeedMark, four_val, four_of, of_one_word, block_size, block_align}
use Rattle.cckd_frames.specs.contracts.block.allocate as F
use Rattle.cckd_frames.specs.contracts.block.allocate.Key.{name as #self}
use Rattle.cckd_frames.proofs.block.allocate.Statement as stated
use Rattle.cckd_frames.proofs.block.allocate.Code as code

module _ (E : El) where
  abbrev Z : Al
  Z = E.al

  abbrev function : Fn
  function = inst_fn (args E) code.function

  abbrev ended : Ended
  ended = F.ended E.row Z.row Z.g Z.d Z.drops

  abbrev clauses : {M : Type 1} {𝓤 : Ura M} (𝓛 : Logic 𝓤) → (Memory → SProp 𝓤) → (Routine → Fun 𝓤) → Clauses 𝓤 ended
  clauses 𝓛 = F.clauses E.row Z.row Z.g Z.d Z.drops 𝓛

  abbrev Rw : RattleType
  Rw = Row-type.the_row (R E)

  abbrev Rb : RattleType
  Rb = Row-type.the_row u8

  abbrev Dd : RattleType
  Dd = Deed-type.the_row (R E) (P E) Z.g

  abbrev stayed : Stays ended.signature.params ended.kept
  stayed = (stay_dropped (RefOf (0 ∷ []) tt (plain (λ _. P E)) (λ _. tt)) yes, (stay_dropped (plain (λ _. usize)) yes, (stay_dropped (plain (λ _. usize)) yes, tt)))

  abbrev Four : RattleType
  Four = Tuple (RawPtr ∷ Rw ∷ Rb ∷ Dd ∷ [])

  abbrev Out : RattleType
  Out = RS.the_row Four AE.the_row

  abbrev Asks : ℕ → ℕ → Type 0
  Asks n k = (0 < n) × (0 < k) × (0 < sz E) × ((n + k) * sz E < 2 ^ 63)

module _ (E : El) {M : Type 1} {𝓤 : Ura M} (𝓛 : Logic 𝓤) (at_mem : Memory → SProp 𝓤) (run : Routine → Fun 𝓤) (C : Calls 𝓤 𝓛.H) (Λ : Loops 𝓤 𝓛.H) (fm : FmC 𝓤 𝓛.H 𝓛.laws C)
    (callee : Triple 𝓤 (C (takes_key (Z E))) (Takes (Z E) 𝓛 at_mem run)) (κ κ₁ κ₂ : Lft) (q q₁ q₂ : Share) (short : κ ⊑ κ₂) (within : κ₂ ⊑ (Z E).row.lives) (rb ro : ℕ) (a : (Z E).row.Denot) (n k : ℕ) (us0 us1 us2 : List Val) where
  open 𝓛 use {H, A}

  abbrev self : Bor (Z E).row.Denot
  self = record { ref_ptr = (rb, ro); now = a }

  abbrev others : Item 𝓤
  others = ‵ (flft κ₁ q₁) ⊛ ‵ (flft κ₂ q₂) ⊛ ‵ ftrue

  abbrev bound : (walk_of 𝓛 (ended E) (stayed E) (clauses E 𝓛 at_mem run)).Ghost
  bound = (((κ, (κ₁, (κ₂, tt))), (q, (q₁, (q₂, tt))), (short, tt), (self, (n, (k, tt))), (us0, (us1, (us2, tt)))), tt)

  abbrev Post : Val → SProp 𝓤
  Post = (walk_of 𝓛 (ended E) (stayed E) (clauses E 𝓛 at_mem run)).post bound

  abbrev Says : (Four E).Denot → Type 0
  Says r = InBlock r.0 × (r.1.at ≡ r.0) × (r.1.room ≡ n) × (r.1.items ≡ []) × (r.2.at ≡ r.0 +ₚ n * sz E) × (r.2.room ≡ k * sz E) × (r.2.items ≡ []) × (r.3.at ≡ r.0) × (r.3.front ≡ n) × (r.3.back ≡ k) × (r.3.alloc ≡ a)

  exits : (r : (Out E).Denot) (v : Val) → IfOk r Says → ent 𝓤 (⋆ 𝓛 (‵ ((Out E).own_val r (v ∷ [])) ∷ ‵ (flft κ q) ∷ others ∷ [])) (Post v)
  exits r v g =
      qed 𝓛 (‵ ((Out E).own_val r (v ∷ [])) ∷ ‵ (flft κ q) ∷ others ∷ []) ∵
      suffices ! _ (ends_at 𝓛 (ended E) (stayed E) (clauses E 𝓛 at_mem run) bound v r (tt, (tt, (tt, tt))) (tt, (tt, (tt, tt)))) $ says ! g $
      move ! (1 ∷ 2 ∷ []) $ join ! $ frame ! $ nothing ! $ nothing ! $ fjoin ! $ nothing ! $ fjoin ! $ nothing ! $ fjoin ! $ done !

  abbrev Had : List (Item 𝓤)
  Had = ‵ (hidden_shr (P E) κ a rb ro) ∷ ‵ (flft κ q) ∷ others ∷ []

  walk : Asks E n k → n < 2 ^ 64 → k < 2 ^ 64 → ent 𝓤 (⋆ 𝓛 Had) (WpFn 𝓤 H C Λ (function E) (vptr rb ro ∷ vint w64 n ∷ vint w64 k ∷ []) Post)
  walk asked fits_n fits_k =
      let s = sz E in let m : ℕ = n + k in let small : m * s < 2 ^ 63 = asked.3 in let bytes : m * s < 2 ^ 64 = omega arith in
      let one : m * 1 ≤ m * s = (let h : 1 ≤ s = asked.2 in mul-le-mul_left m h) in
      let sum : m < 2 ^ 64 = (let e = mul-one m in omega arith) in
      let left : n * s < 2 ^ 63 = (let h : n * s ≤ m * s = mul-le-mul_right s (let l : n ≤ m = omega arith in l) in omega arith) in
      let right : k * s < 2 ^ 63 = (let h : k * s ≤ m * s = mul-le-mul_right s (let l : k ≤ m = omega arith in l) in omega arith) in
      qed 𝓛 Had ∵ enter ! C Λ (function E) (vptr rb ro ∷ vint w64 n ∷ vint w64 k ∷ []) _ $ alloc_all ! (λ l. pass_all ! refl ((tt, tt), ((tt, record { fits = fits_n }), ((tt, record { fits = fits_k }), tt))) $
      let En : Env 𝓤 H = env (function E).locals l in
      let both : Body = head (after 3 (function E).body) in
      let Then : After 𝓤 H = any_q (after_seq 𝓤 H (Wp 𝓤 H C Λ En (after 4 (function E).body) (at_return 𝓤 H En Post)) (at_return 𝓤 H En Post)) in
      let al : ℕ = capped (align (elτ E)) in
      let block : Ty = bare (ty_array (elτ E) m) in
      let y : (Takes (Z E) 𝓛 at_mem run).Ghost = at_takes (Z E) 𝓛 at_mem run κ q (rb, ro) a (m * s) al block in
      sets ! (bin ! (get ! refl) (get ! refl) (record { fits = sum })) refl (tt, record { fits = sum }) $
      sets ! (is ! (bin ! (get ! refl) (size_word !) (record { fits = subst (λ (j : ℕ). j < 2 ^ 64) (sym (of_one_word s m bytes)) bytes })) (ap (vint w64) (of_one_word s m bytes))) refl (tt, record { fits = bytes }) $
      use2 𝓛 (raw ((Takes (Z E) 𝓛 at_mem run).pre y)) (Takes-goes (Z E) 𝓛 at_mem run κ q (rb, ro) a (Incl-trans short within) (m * s) al block (block_size (elτ E) m bytes) (block_align (elτ E) m) bytes (capped_fits (align (elτ E)))) $
      calls_at ! fm (Takes (Z E) 𝓛 at_mem run) callee y (and_then ! (get ! refl) (and_then ! (get ! refl) (and_then ! (align_word !) (no_more !)))) (λ v.
      use1 𝓛 (later (raw (Answered (Z E) 𝓛 at_mem run a block v) ⊛ ‵ (flft κ q))) (Takes-gives (Z E) 𝓛 at_mem run κ q (rb, ro) a (m * s) al block v) $ await ! tt $ split ! $
      answers (Z E) ! at_mem run a block v
      (λ b o e.
      let p : Ptr = block_ptr b o in
      let values : (Rw E).Denot = record { mark = record {}; at = p; room = n; items = []; within = omega arith } in
      let byte_row : (Rb E).Denot = record { mark = record {}; at = p +ₚ n * s; room = k * s; items = []; within = omega arith } in
      let deed : (Dd E).Denot = record { mark = record {}; at = p; front = n; back = k; alloc = a } in
      let made : Val = four_val (vptr b o) mark mark mark in
      let typed : Good (layout (Four E)) made = (tt, (tt, ((tt, tt), ((tt, tt), ((tt, tt), tt))))) in
      let ok = first_Good (layout (Four E)) made typed in
      lands_as ! e refl (Answer-typed true b o) $ first ! $ switches_on ! (get_tag ! (vrt ! refl (fld ! refl (stop !))) (whole !)) $ exec ! C Λ En (arm_body 0 both) Then $
      sets ! (of_opd ! (get_in ! (vrt ! refl (fld ! refl (stop !))) (in_variant ! 0 0 refl refl (whole !)))) refl (tt, tt) $ sets ! (of_opd ! (get ! refl)) refl (tt, tt) $
      sets ! (agg ! (no_more !)) refl (tt, tt) $ sets ! (agg ! (and_then ! (get ! refl) (no_more !))) refl (tt, (tt, tt)) $
      sets ! (agg ! (no_more !)) refl (tt, tt) $ sets ! (agg ! (and_then ! (get ! refl) (no_more !))) refl (tt, (tt, tt)) $
      sets ! (agg ! (no_more !)) refl (tt, tt) $ sets ! (agg ! (and_then ! (get ! refl) (no_more !))) refl (tt, (tt, tt)) $
      sets ! (agg ! (and_then ! (get ! refl) (and_then ! (get ! refl) (and_then ! (get ! refl) (and_then ! (get ! refl) (no_more !)))))) refl typed $
      sets_last ! (agg ! (and_then ! (lit ! tt) (and_then ! (get ! refl) (no_more !)))) refl ok $
      exec ! C Λ En (after 4 (function E).body) (at_ret En Post) $ sets ! (of_opd ! (get ! refl)) refl ok $
      use1 𝓛 (‵ (froom (bare (ty_array (elτ E) n)) b o) ⊛ ‵ (froom (bytes_of (k * s)) b (o + n * s)) ⊛ ‵ (fwand (Two E 𝓛 b o n k) (froom (bare (ty_array (elτ E) (n + k))) b o))) (cut E 𝓛 b o n k) $ split3 ! $
      -- [room for the values; room for the bytes; the way back; the token]
      move ! (3 ∷ 2 ∷ []) $ fjoin ! $ use0 𝓛 (‵ ((DeedMark (R E) (P E) (Z E).g).own_val (tt, tt) (mark ∷ []))) (deed_mark 𝓛 (R E) (P E) (Z E).g) $ fjoin ! $
      move ! (2 ∷ []) $ use1 𝓛 (‵ (row_owns u8 (p +ₚ n * s) (k * s) [])) (row_new u8 𝓛 b (o + n * s) (k * s) (subst (λ j. j < 2 ^ 63) (sym (mul-one (k * s))) right)) $
      use0 𝓛 (‵ ((RowMark u8).own_val (tt, tt) (mark ∷ []))) (row_mark 𝓛 u8) $ fjoin ! $
      move ! (2 ∷ []) $ use1 𝓛 (‵ (row_owns (R E) p n [])) (row_new (R E) 𝓛 b o n left) $ use0 𝓛 (‵ ((RowMark (R E)).own_val (tt, tt) (mark ∷ []))) (row_mark 𝓛 (R E)) $ fjoin ! $
      feq_i ! (List Val) (vptr b o ∷ []) (ptr_val p ∷ []) refl $ group ! 4 $
      use1 𝓛 (‵ ((Four E).own_val (p, values, byte_row, deed) (made ∷ []))) (four_of 𝓛 RawPtr (Rw E) (Rb E) (Dd E) p values byte_row deed (vptr b o) mark mark mark) $
      use1 𝓛 (‵ ((Out E).own_val (Ok (p, values, byte_row, deed)) (live 0 (vcons made vnil) ∷ []))) (ok_of 𝓛 (Four E) AE.the_row (p, values, byte_row, deed) made) $
      returns ! (look_at ! 0 refl) $ free_all ! refl $ keep ! (0 ∷ 1 ∷ 2 ∷ []) $ by ! (exits (Ok (p, values, byte_row, deed)) (live 0 (vcons made vnil)) (tt, refl, refl, refl, refl, refl, refl, refl, refl, refl, refl)))
      (λ e.
      let Refusal : RattleType = Struct (Declared.shape AE.the_type) in
      let none : Val = live 1 (vcons (vstruct vnil) vnil) in
      lands_as ! e refl (Answer-typed false 0 0) $ first ! $ switches_on ! (get_tag ! (vrt ! refl (fld ! refl (stop !))) (whole !)) $ exec ! C Λ En (arm_body 1 both) Then $
      sets ! (of_opd ! (get_in ! (vrt ! refl (fld ! refl (stop !))) (in_variant ! 1 0 refl refl (whole !)))) refl (tt, tt) $
      sets_last ! (agg ! (and_then ! (lit ! tt) (and_then ! (get ! refl) (no_more !)))) refl (tt, (record { fits = lit< tt }, (tt, tt))) $
      exec ! C Λ En (after 4 (function E).body) (at_ret En Post) $ sets ! (of_opd ! (get ! refl)) refl (tt, (record { fits = lit< tt }, (tt, tt))) $
      owned ! Refusal (Is Refusal) (Struct-Makes 𝓛 (Declared.shape AE.the_type) tt) tt (vstruct vnil ∷ []) (tt, (refl, tt)) $
      use1 𝓛 (‵ ((Out E).own_val (Err (record {})) (none ∷ []))) (err_of 𝓛 (Four E) AE.the_row (record {}) (vstruct vnil)) $
      returns ! (look_at ! 0 refl) $ free_all ! refl $ keep ! (0 ∷ 1 ∷ 2 ∷ []) $ by ! (exits (Err (record {})) none tt))))

  entry : Asks E n k → ent 𝓤 (on_entry 𝓛 (ended E).signature (κ, (κ₁, (κ₂, tt))) (q, (q₁, (q₂, tt))) (self, (n, (k, tt))) (us0, (us1, (us2, tt)))) (WpFn 𝓤 H C Λ (function E) (us0 ++ (us1 ++ (us2 ++ []))) Post)
  entry asked =
      qed 𝓛 ((‵ (flft κ q) ⊛ others) ∷ ‵ (owns (ShrRef (named 0) κ (P E) ∷ usize ∷ usize ∷ []) (self, (n, (k, tt))) (us0, (us1, (us2, tt)))) ∷ []) ∵ split ! $ move ! (2 ∷ []) $ fsplit3 ! $ fsplit ! $ feq_l ! (λ e0.
      move ! (1 ∷ []) $ fsplit ! $ feq_l ! (λ e1. flt_l ! (λ fits_n. move ! (1 ∷ []) $ fsplit ! $ fsplit ! $ feq_l ! (λ e2. flt_l ! (λ fits_k. keep ! (1 ∷ 2 ∷ 3 ∷ []) $
      by ! (subst (λ (ws : List Val × List Val × List Val). ent 𝓤 (⋆ 𝓛 Had) (WpFn 𝓤 H C Λ (function E) (ws.0 ++ (ws.1 ++ (ws.2 ++ []))) Post)) (λ j. (sym e0 j, sym e1 j, sym e2 j)) (walk asked fits_n fits_k)))))))

meets : (E : El) {M : Type 1} {𝓤 : Ura M} (𝓛 : Logic 𝓤) (at_mem : Memory → SProp 𝓤) (run : Routine → Fun 𝓤) (𝓣 : Tables 𝓤 𝓛.H) → Triple 𝓤 (𝓣.C (takes_key (Z E))) (Takes (Z E) 𝓛 at_mem run)
    → Meets 𝓛 (ended E).signature (WpFn 𝓤 𝓛.H 𝓣.C 𝓣.Λ (function E)) (closing 𝓛 (ended E) (clauses E 𝓛 at_mem run))
meets E {𝓤 = 𝓤} 𝓛 at_mem run 𝓣 callee =
    walk_Meets 𝓛 (ended E) (stayed E) (Goes-dropped 𝓛 3 (RefOf (0 ∷ []) tt (plain (λ _. P E)) (λ _. tt)) yes (λ κs x f. refl), (Goes-dropped 𝓛 3 (plain (λ _. usize)) yes (λ κs x f. refl), (Goes-dropped 𝓛 3 (plain (λ _. usize)) yes (λ κs x f. refl), tt)))
    (clauses E 𝓛 at_mem run) (WpFn 𝓤 𝓛.H 𝓣.C 𝓣.Λ (function E)) (WpFn-mono 𝓤 𝓛.H 𝓛.laws 𝓣 (function E))
    (λ z. let κs = z.0.0 in let qs = z.0.1 in let a = z.0.3 in let vss = z.0.4 in let On : SProp 𝓤 = on_entry 𝓛 (ended E).signature κs qs a vss in
    let asks = Asks E a.1.0 a.1.1.0 in
    second 𝓤 (κs.1.0 ⊑ E.row.lives) (κs.1.1.0 ⊑ (Z E).row.lives) On (fact 𝓤 asks) (λ within. needs 𝓤 asks On
    (entry E 𝓛 at_mem run 𝓣.C 𝓣.Λ (fm_of 𝓤 𝓛.H 𝓛.laws 𝓣) callee κs.0 κs.1.0 κs.1.1.0 qs.0 qs.1.0 qs.1.1.0 z.0.2.0 within a.0.ref_ptr.0 a.0.ref_ptr.1 a.0.now a.1.0 a.1.1.0 vss.0 vss.1.0 vss.1.1.0)))

pub allocate_spec : {M : Type 1} → stated.statement M
unfolding tables_of
allocate_spec 𝓤 𝓛 𝓜 𝓡 wired X W LX LW g d dd met md =
    let E : El = record { row = X; laws = LX; al = record { row = W; laws = LW; g = g; d = d; drops = dd } } in
    let 𝓣 : Tables 𝓤 𝓛.H = tables_of 𝓤 𝓛.H 𝓜 (tables 𝓤 𝓛.H 𝓜 𝓡 𝓡.env) in
    entered 𝓤 𝓛.H (triple_of 𝓛 (ended E).signature (F.spec X W g d dd 𝓛 𝓜.mem 𝓡.returns)) 𝓣.C 𝓣.Λ (#self (args E)) (function E) (code.unfolded 𝓤 𝓛.H 𝓜 𝓡 wired (X, (W, tt)) d dd)
    (meets E 𝓛 𝓜.mem 𝓡.returns 𝓣 (met.allocate dd))
