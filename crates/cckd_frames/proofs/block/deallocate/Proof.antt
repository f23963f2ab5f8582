-- `deallocate` makes the block of its two rows again, and gives it back. A walk of its code by hand. Assumes `Logic`.
use mathlib.Core.Path.{◌≡◌, refl, sym, ap, subst}
use Prim.Native.Nat.{ℕ, ◌+◌, ◌-◌, ◌*◌, ◌≤◌, ◌<◌, ◌^◌}
use native.Mathlib.Nat.{mul-one, mul-le-mul_left}
use native.Mathlib.Omega.{arith}
use mathlib.Core.List.{List, [], ◌∷◌, ◌++◌}
use lib.Dec.{T}
use lib.ListN.{length}
use seplogic.Ra.Ura.{Ura}
use mir.Syntax.{Fn, Ty, named, w64, ty_array, ty_ptr, ty_unit}
use mir.MapTy.{inst_fn}
use mir.Raw.{raw as bare}
use mir.Val.{Val, vptr, vint, vunit, has_ty, WT}
use base.Logic.{SProp, ent, never, id⊢, apply∗}
use base.Fml.{Lft, Share, ftrue, fsep, fat, froom, flft, Incl-trans}
use base.Fraction.{full_share}
use prog.Memory.{Memory, align, capped}
use prog.Capped.{capped_fits}
use prog.Routine.{Routine}
use prog.Wp.{Env, Calls, Loops, WpFn, Tables}
use types.Logic.{Logic, sem}
use contract.Monad.{Fun, fact}
use contract.Running.{tables, tables_of}
use contract.BorrowLft.{◌⊑◌}
use sound.WpLaws.{WpFn-mono, FmC, fm_of}
use types.Kit.{Item, ⋆, ‵, raw, ◌⊛◌, given, later, await, learn, at_ret, rewrite, ◌$◌, ◌∵◌, !, qed, by, move, keep, use1, use2, split, join, group, fsplit, fjoin, feq_i, feq_l, flt_l, suffices, done}
use types.Run.{of_opd, bin, unit_lit, and_then, no_more, first, blocks, exec, returns, enter, size_word, align_word}
use types.ByLocal.{alloc_all, pass_all, free_all, look_at, get, sets, take_at, give_at, lands_last, is, env}
use denote.Exit.{yes, no}
use denote.RattleType.{RattleType, owns}
use denote.Memory.{hidden_shr}
use denote.Array.{Array}
use denote.RawPtr.{Ptr, RawPtr, ptr_val, rawptr_Lawful, lies_at, room_for, in_block, in_a_block, ◌+ₚ◌}
use denote.Ref.{Bor, ShrRef}
use denote.Builtin.{RefOf, u8, usize}
use denote.Signature.{plain}
use denote.Steps.{nothing}
use denote.Triple.Call.{calls_at_last}
use denote.Triple.Clauses.{Clauses, Ended, closing}
use denote.Triple.Entry.{on_entry}
use denote.Triple.Spec.{Meets, triple_of}
use denote.Triple.Statement.{Triple}
use denote.Triple.Table.{entered}
use denote.Triple.Walked.{needs, Stays, stay_dropped, walk_of, ends_at, Goes-dropped, walk_Meets}
use Rattle.std.proofs.alloc.Calls.{Al, Goes-blank, second, token, gives_key, Gives, at_gives, Gives-goes, Gives-Gives}
use Rattle.std.proofs.VecSteps.El.{El, P, R, args, elτ, sz}
use Rattle.std.proofs.VecSteps.Shapes.{after}
use Rattle.cckd_frames.specs.Ownership.{array_type, row_owns, deed_owns}
use Rattle.cckd_frames.specs.contracts.block.Row as Row-type
use Rattle.cckd_frames.specs.contracts.block.Deed as Deed-type
use Rattle.cckd_frames.proofs.Cutting.{bytes_of, row_over, bytes_over, Two, All}
use Rattle.cckd_frames.proofs.Marks.{mark, row_had, deed_had, of_one_word, block_size, block_align}
use Rattle.cckd_frames.specs.contracts.block.deallocate as F
use Rattle.cckd_frames.specs.contracts.block.deallocate.Key.{name as #self}
use Rattle.cckd_frames.proofs.block.deallocate.Statement as stated
use Rattle.cckd_frames.proofs.block.deallocate.Code as code

module _ (E : El) where
  abbrev Z : Al
  Z = E.al

  abbrev function : Fn
  function = inst_fn (args E) code.function

  abbrev ended : Ended
  ended = F.ended E.row Z.row Z.g Z.d Z.drops

  abbrev clauses : {M : Type 1} {𝓤 : Ura M} (𝓛 : Logic 𝓤) → (Memory → SProp 𝓤) → (Routine → Fun 𝓤) → Clauses 𝓤 ended
  clauses 𝓛 = F.clauses E.row Z.row Z.g Z.d Z.drops 𝓛

  abbrev Rw : RattleType
  Rw = Row-type.the_row (R E)

  abbrev Rb : RattleType
  Rb = Row-type.the_row u8

  abbrev Dd : RattleType
  Dd = Deed-type.the_row (R E) (P E) Z.g

  abbrev stayed : Stays ended.signature.params ended.kept
  stayed = (
    stay_dropped (RefOf (0 ∷ []) tt (plain (λ _. P E)) (λ _. tt)) yes,
    (stay_dropped (plain (λ _. RawPtr)) yes, (stay_dropped (plain (λ _. usize)) yes, (stay_dropped (plain (λ _. usize)) yes, (stay_dropped (plain (λ _. Rw)) no, (stay_dropped (plain (λ _. Rb)) yes, (stay_dropped (plain (λ _. Dd)) no, tt)))))),
  )

  abbrev Asks : Z.row.Denot → Ptr → ℕ → ℕ → Rw.Denot → Rb.Denot → Dd.Denot → Type 0
  Asks a p n k values bytes deed =
      (values.at ≡ p) × (values.room ≡ n) × (bytes.at ≡ p +ₚ n * sz E) × (bytes.room ≡ k * sz E) × (deed.at ≡ p) × (deed.front ≡ n) × (deed.back ≡ k) × (deed.alloc ≡ a) × (0 < sz E) × ((n + k) * sz E < 2 ^ 63)

module _ (E : El) {M : Type 1} {𝓤 : Ura M} (𝓛 : Logic 𝓤) (at_mem : Memory → SProp 𝓤) (run : Routine → Fun 𝓤) (C : Calls 𝓤 𝓛.H) (Λ : Loops 𝓤 𝓛.H) (fm : FmC 𝓤 𝓛.H 𝓛.laws C)
    (callee : Triple 𝓤 (C (gives_key (Z E))) (Gives (Z E) 𝓛 at_mem run)) (κ κ₁ κ₂ : Lft) (q q₁ q₂ : Share) (short : κ ⊑ κ₂) (within : κ₂ ⊑ (Z E).row.lives) (rb ro : ℕ) (a : (Z E).row.Denot) (p : Ptr) (n k : ℕ)
    (values : (Rw E).Denot) (bytes : (Rb E).Denot) (deed : (Dd E).Denot) (us0 us1 us2 us3 us4 us5 us6 : List Val) where
  open 𝓛 use {H, A}

  abbrev self : Bor (Z E).row.Denot
  self = record { ref_ptr = (rb, ro); now = a }

  abbrev others : Item 𝓤
  others = ‵ (flft κ₁ q₁) ⊛ ‵ (flft κ₂ q₂) ⊛ ‵ ftrue

  abbrev bound : (walk_of 𝓛 (ended E) (stayed E) (clauses E 𝓛 at_mem run)).Ghost
  bound = (((κ, (κ₁, (κ₂, tt))), (q, (q₁, (q₂, tt))), (short, tt), (self, (p, (n, (k, (values, (bytes, (deed, tt))))))), (us0, (us1, (us2, (us3, (us4, (us5, (us6, tt)))))))), tt)

  abbrev Post : Val → SProp 𝓤
  Post = (walk_of 𝓛 (ended E) (stayed E) (clauses E 𝓛 at_mem run)).post bound

  exits : ent 𝓤 (⋆ 𝓛 (‵ (flft κ q) ∷ others ∷ [])) (Post vunit)
  exits =
      qed 𝓛 (‵ (flft κ q) ∷ others ∷ []) ∵
      suffices ! _ (ends_at 𝓛 (ended E) (stayed E) (clauses E 𝓛 at_mem run) bound vunit tt (tt, (tt, (tt, (tt, (tt, (tt, (tt, tt))))))) (tt, (tt, (tt, (tt, (tt, (tt, (tt, tt)))))))) $
      join ! $ feq_i ! (List Val) (vunit ∷ []) (vunit ∷ []) refl $ nothing ! $ nothing ! $ fjoin ! $ nothing ! $ fjoin ! $ nothing ! $ fjoin ! $ nothing ! $ fjoin ! $ nothing ! $ fjoin ! $ nothing ! $ fjoin ! $ nothing ! $ fjoin ! $ join ! $
      move ! (1 ∷ 0 ∷ []) $ join ! $ nothing ! $ move ! (1 ∷ 0 ∷ []) $ done !

  abbrev Had : List (Item 𝓤)
  Had = ‵ (row_owns (R E) values.at values.room values.items) ∷ ‵ (row_owns u8 bytes.at bytes.room bytes.items) ∷ ‵ (deed_owns (R E) (token (Z E) deed.alloc) deed.at deed.front deed.back)
      ∷ ‵ (hidden_shr (P E) κ a rb ro) ∷ ‵ (flft κ q) ∷ others ∷ []

  walk : Asks E a p n k values bytes deed → n < 2 ^ 64 → k < 2 ^ 64
      → ent 𝓤 (⋆ 𝓛 Had) (WpFn 𝓤 H C Λ (function E) (vptr rb ro ∷ ptr_val p ∷ vint w64 n ∷ vint w64 k ∷ mark ∷ mark ∷ mark ∷ []) Post)
  walk asked fits_n fits_k =
      let s = sz E in let m : ℕ = n + k in let al : ℕ = capped (align (elτ E)) in
      let e_at = asked.0 in let e_room = asked.1 in let e_bytes = asked.2 in let e_size = asked.3 in let d_at = asked.4 in let d_n = asked.5 in let d_k = asked.6 in let d_a = asked.7 in
      let small : m * s < 2 ^ 63 = asked.9 in let size : m * s < 2 ^ 64 = omega arith in
      let sum : m < 2 ^ 64 = (let e = mul-one m in let o : m * 1 ≤ m * s = (let h : 1 ≤ s = asked.8 in mul-le-mul_left m h) in omega arith) in
      qed 𝓛 Had ∵ enter ! C Λ (function E) (vptr rb ro ∷ ptr_val p ∷ vint w64 n ∷ vint w64 k ∷ mark ∷ mark ∷ mark ∷ []) _ $
      alloc_all ! (λ l. pass_all ! refl ((tt, tt), (((rawptr_Lawful 𝓛).typed p _ refl).0, ((tt, record { fits = fits_n }), ((tt, record { fits = fits_k }), ((tt, (tt, tt)), ((tt, (tt, tt)), ((tt, (tt, tt)), tt))))))) $
      let En : Env 𝓤 H = env (function E).locals l in
      rewrite ! 0 (λ (u : Ptr × ℕ). ‵ (row_owns (R E) u.0 u.1 values.items)) (λ i. (e_at i, e_room i)) refl $
      rewrite ! 1 (λ (u : Ptr × ℕ). ‵ (row_owns u8 u.0 u.1 bytes.items)) (λ i. (e_bytes i, e_size i)) refl $
      rewrite ! 2 (λ (u : (Z E).row.Denot × Ptr × ℕ × ℕ). ‵ (deed_owns (R E) (token (Z E) u.0) u.1 u.2 u.3)) (λ i. (d_a i, d_at i, d_n i, d_k i)) refl $
      fsplit ! $ move ! (1 ∷ []) $ in_a_block ! p (λ r. in_block r (fsep (lies_at (Array (R E) (length values.items)) full_share r values.items) (room_for (array_type (R E) (n - length values.items)) (r +ₚ length values.items * s)))) (id⊢ 𝓤 (never 𝓤)) (λ b o e.
      move ! (1 ∷ 0 ∷ []) $ fjoin ! $
      use1 𝓛 (‵ (froom (bare (ty_array (elτ E) n)) b o)) (row_over E 𝓛 b o n values.items (subst (λ (j : ℕ). length values.items ≤ j) e_room values.within)) $ move ! (1 ∷ []) $
      rewrite ! 0 (λ (r : Ptr). ‵ (row_owns u8 (r +ₚ n * s) (k * s) bytes.items)) e refl $
      use1 𝓛 (‵ (froom (bytes_of (k * s)) b (o + n * s))) (bytes_over 𝓛 b (o + n * s) (k * s) bytes.items (subst (λ (j : ℕ). length bytes.items ≤ j) e_size bytes.within)) $ move ! (1 ∷ 0 ∷ []) $ fjoin ! $
      move ! (1 ∷ []) $ rewrite ! 0 (λ (r : Ptr). ‵ (deed_owns (R E) (token (Z E) a) r n k)) e refl $ fsplit ! $ move ! (2 ∷ 1 ∷ []) $
      use2 𝓛 (‵ (All E 𝓛 b o n k)) (apply∗ 𝓤 (sem 𝓛 (Two E 𝓛 b o n k)) (sem 𝓛 (All E 𝓛 b o n k))) $
      -- [the block; the token; the allocator; the token of κ]
      let block : Ty = bare (ty_array (elτ E) m) in
      let y : (Gives (Z E) 𝓛 at_mem run).Ghost = at_gives (Z E) 𝓛 at_mem run κ q (rb, ro) a b o (m * s) al block in
      take_at ! 2 $ rewrite ! 0 (λ (r : Ptr). ‵ (fat full_share ty_ptr (l 2) 0 (ptr_val r))) e refl $ give_at ! 2 $ first ! $ blocks ! $
      sets ! (of_opd ! (get ! refl)) refl (tt, tt) $
      sets ! (bin ! (get ! refl) (get ! refl) (record { fits = sum })) refl (tt, record { fits = sum }) $
      sets ! (is ! (bin ! (get ! refl) (size_word !) (record { fits = subst (λ (j : ℕ). j < 2 ^ 64) (sym (of_one_word s m size)) size })) (ap (vint w64) (of_one_word s m size))) refl (tt, record { fits = size }) $
      group ! 4 $ use1 𝓛 (raw ((Gives (Z E) 𝓛 at_mem run).pre y)) (Gives-goes (Z E) 𝓛 at_mem run κ q (rb, ro) a (Incl-trans short within) b o (m * s) al block (block_size (elτ E) m size) (block_align (elτ E) m) size (capped_fits (align (elτ E)))) $
      calls_at_last ! fm (Gives (Z E) 𝓛 at_mem run) callee y (and_then ! (get ! refl) (and_then ! (get ! refl) (and_then ! (get ! refl) (and_then ! (align_word !) (no_more !))))) (λ v.
      use1 𝓛 (later (given (v ≡ vunit) (‵ (flft κ q)))) (Gives-Gives (Z E) 𝓛 at_mem run κ q (rb, ro) a b o (m * s) al block v) $ await ! tt $ learn ! (λ done_with.
      lands_last ! refl (subst (λ (z : Val). T (has_ty ty_unit z) × WT z) (sym done_with) (tt, tt)) $ exec ! C Λ En (after 1 (function E).body) (at_ret En Post) $
      sets ! (of_opd ! (unit_lit !)) refl (tt, tt) $ returns ! (look_at ! 0 refl) $ free_all ! refl $ keep ! (0 ∷ 1 ∷ []) $ by ! exits))))

  entry : Asks E a p n k values bytes deed
      → ent 𝓤 (on_entry 𝓛 (ended E).signature (κ, (κ₁, (κ₂, tt))) (q, (q₁, (q₂, tt))) (self, (p, (n, (k, (values, (bytes, (deed, tt))))))) (us0, (us1, (us2, (us3, (us4, (us5, (us6, tt))))))))
      (WpFn 𝓤 H C Λ (function E) (us0 ++ (us1 ++ (us2 ++ (us3 ++ (us4 ++ (us5 ++ (us6 ++ []))))))) Post)
  entry asked =
      qed 𝓛 ((‵ (flft κ q) ⊛ others) ∷ ‵ (owns (ShrRef (named 0) κ (P E) ∷ RawPtr ∷ usize ∷ usize ∷ Rw E ∷ Rb E ∷ Dd E ∷ []) (self, (p, (n, (k, (values, (bytes, (deed, tt))))))) (us0, (us1, (us2, (us3, (us4, (us5, (us6, tt)))))))) ∷ []) ∵
      split ! $ move ! (2 ∷ []) $ fsplit ! $ fsplit ! $ feq_l ! (λ e0. move ! (1 ∷ []) $ fsplit ! $ feq_l ! (λ e1. fsplit ! $ fsplit ! $ feq_l ! (λ e2. flt_l ! (λ fits_n. fsplit ! $ fsplit ! $ feq_l ! (λ e3. flt_l ! (λ fits_k.
      fsplit ! $ fsplit ! $ row_had ! (R E) us4 (λ e4. move ! (1 ∷ []) $ fsplit ! $ fsplit ! $ row_had ! u8 us5 (λ e5. move ! (1 ∷ []) $ fsplit ! $ fsplit ! $ deed_had ! (R E) (P E) (Z E).g us6 (λ e6.
      keep ! (3 ∷ 2 ∷ 0 ∷ 4 ∷ 5 ∷ 6 ∷ []) $
      by ! (subst (λ (ws : List Val × List Val × List Val × List Val × List Val × List Val × List Val). ent 𝓤 (⋆ 𝓛 Had) (WpFn 𝓤 H C Λ (function E) (ws.0 ++ (ws.1 ++ (ws.2 ++ (ws.3 ++ (ws.4 ++ (ws.5 ++ (ws.6 ++ []))))))) Post))
      (λ j. (sym e0 j, sym e1 j, sym e2 j, sym e3 j, sym e4 j, sym e5 j, sym e6 j)) (walk asked fits_n fits_k)))))))))))

meets : (E : El) {M : Type 1} {𝓤 : Ura M} (𝓛 : Logic 𝓤) (at_mem : Memory → SProp 𝓤) (run : Routine → Fun 𝓤) (𝓣 : Tables 𝓤 𝓛.H) → Triple 𝓤 (𝓣.C (gives_key (Z E))) (Gives (Z E) 𝓛 at_mem run)
    → Meets 𝓛 (ended E).signature (WpFn 𝓤 𝓛.H 𝓣.C 𝓣.Λ (function E)) (closing 𝓛 (ended E) (clauses E 𝓛 at_mem run))
meets E {𝓤 = 𝓤} 𝓛 at_mem run 𝓣 callee =
    walk_Meets 𝓛 (ended E) (stayed E) (
      Goes-dropped 𝓛 3 (RefOf (0 ∷ []) tt (plain (λ _. P E)) (λ _. tt)) yes (λ κs x f. refl),
      (
        Goes-dropped 𝓛 3 (plain (λ _. RawPtr)) yes (λ κs x f. refl),
        (
          Goes-dropped 𝓛 3 (plain (λ _. usize)) yes (λ κs x f. refl),
          (
            Goes-dropped 𝓛 3 (plain (λ _. usize)) yes (λ κs x f. refl),
            (Goes-blank 𝓛 3 (plain (λ _. Rw E)) no (λ κs x f. tt), (Goes-blank 𝓛 3 (plain (λ _. Rb E)) yes (λ κs x f. tt), (Goes-blank 𝓛 3 (plain (λ _. Dd E)) no (λ κs x f. tt), tt))),
          ),
        ),
      ),
    )
    (clauses E 𝓛 at_mem run) (WpFn 𝓤 𝓛.H 𝓣.C 𝓣.Λ (function E)) (WpFn-mono 𝓤 𝓛.H 𝓛.laws 𝓣 (function E))
    (λ z. let κs = z.0.0 in let qs = z.0.1 in let a = z.0.3 in let vss = z.0.4 in let On : SProp 𝓤 = on_entry 𝓛 (ended E).signature κs qs a vss in
    let asks = Asks E a.0.now a.1.0 a.1.1.0 a.1.1.1.0 a.1.1.1.1.0 a.1.1.1.1.1.0 a.1.1.1.1.1.1.0 in
    second 𝓤 (κs.1.0 ⊑ E.row.lives) (κs.1.1.0 ⊑ (Z E).row.lives) On (fact 𝓤 asks) (λ within. needs 𝓤 asks On
    (entry E 𝓛 at_mem run 𝓣.C 𝓣.Λ (fm_of 𝓤 𝓛.H 𝓛.laws 𝓣) callee κs.0 κs.1.0 κs.1.1.0 qs.0 qs.1.0 qs.1.1.0 z.0.2.0 within a.0.ref_ptr.0 a.0.ref_ptr.1 a.0.now a.1.0 a.1.1.0 a.1.1.1.0 a.1.1.1.1.0 a.1.1.1.1.1.0 a.1.1.1.1.1.1.0
    vss.0 vss.1.0 vss.1.1.0 vss.1.1.1.0 vss.1.1.1.1.0 vss.1.1.1.1.1.0 vss.1.1.1.1.1.1.0)))

pub deallocate_spec : {M : Type 1} → stated.statement M
unfolding tables_of
deallocate_spec 𝓤 𝓛 𝓜 𝓡 wired X W LX LW g d dd met md =
    let E : El = record { row = X; laws = LX; al = record { row = W; laws = LW; g = g; d = d; drops = dd } } in
    let 𝓣 : Tables 𝓤 𝓛.H = tables_of 𝓤 𝓛.H 𝓜 (tables 𝓤 𝓛.H 𝓜 𝓡 𝓡.env) in
    entered 𝓤 𝓛.H (triple_of 𝓛 (ended E).signature (F.spec X W g d dd 𝓛 𝓜.mem 𝓡.returns)) 𝓣.C 𝓣.Λ (#self (args E)) (function E) (code.unfolded 𝓤 𝓛.H 𝓜 𝓡 wired (X, (W, tt)) d dd)
    (meets E 𝓛 𝓜.mem 𝓡.returns 𝓣 (met.deallocate dd))
