-- The values of no bytes that stand for a row and for a deed. Assumes `Logic`.
use mathlib.Core.Path.{◌≡◌, refl, ap, subst, ◌∙◌}
use Prim.Native.Nat.{ℕ, zero, suc, ◌*◌, ◌<◌, ◌≤◌, ◌^◌}
use native.Mathlib.Nat.{mul-le-mul_right}
use native.Mathlib.Omega.{arith}
use mathlib.Core.List.{List, [], ◌∷◌, ◌++◌}
use seplogic.Ra.Ura.{Ura}
use mir.Syntax.{Ty, ty_array}
use mir.Raw.{raw as bare}
use mir.Val.{Val, vstruct, vcons, vnil, of_list}
use base.Logic.{ent, sep, emp}
use prog.Memory.{size, align, capped}
use prog.Capped.{capped_is}
use prog.RawLaws.{size-raw, align-raw}
use types.Logic.{Logic, sem}
use types.Kit.{Item, Goal, Seq, ‵, ◌$◌, ◌∵◌, !, qed, move, drop, fpick, fpack, fsplit, fjoin, feq_i, feq_l, done}
use denote.RattleType.{RattleType, Valss}
use denote.Shadow.{makes_shadow}
use denote.Steps.{nothing}
use denote.Struct.Struct.{Struct, within}
use denote.Struct.Owning.{shape}
use denote.Struct.Declared as Declared
use denote.Struct.Tuple.{Tuple, tuple_type}
use Rattle.std.specs.declared.alloc.Allocator.{Ghosts}
use Rattle.cckd_frames.specs.contracts.block.Row as Row-type
use Rattle.cckd_frames.specs.contracts.block.Deed as Deed-type

abbrev pub mark : Val
mark = vstruct (vcons (vstruct vnil) vnil)

abbrev pub RowMark : RattleType → RattleType
RowMark X = Struct (shape (Row-type.the_type X))

abbrev pub DeedMark : (X A : RattleType) → Ghosts A.Denot → RattleType
DeedMark X A g = Struct (shape (Deed-type.the_type X A g))

module _ {M : Type 1} {𝓤 : Ura M} (𝓛 : Logic 𝓤) where
  pub row_mark : (X : RattleType) → ent 𝓤 (emp 𝓤) (sem 𝓛 ((RowMark X).own_val (tt, tt) (mark ∷ [])))
  row_mark X = makes_shadow 𝓛 ((RowMark X).own_val (tt, tt) (mark ∷ [])) (λ vss. (tt, ((λ uss. (tt, tt)), tt))) ((vstruct vnil ∷ [], tt), (refl, ((tt, (refl, tt)), tt)))

  pub deed_mark : (X A : RattleType) (g : Ghosts A.Denot) → ent 𝓤 (emp 𝓤) (sem 𝓛 ((DeedMark X A g).own_val (tt, tt) (mark ∷ [])))
  deed_mark X A g = makes_shadow 𝓛 ((DeedMark X A g).own_val (tt, tt) (mark ∷ [])) (λ vss. (tt, ((λ uss. (tt, tt)), tt))) ((vstruct vnil ∷ [], tt), (refl, ((tt, (refl, tt)), tt)))

abbrev pub four_val : Val → Val → Val → Val → Val
four_val t u v w = vstruct (vcons t (vcons u (vcons v (vcons w vnil))))

pub four_of : {M : Type 1} {𝓤 : Ura M} (𝓛 : Logic 𝓤) (Q R S T : RattleType) (w : Q.Denot) (x : R.Denot) (y : S.Denot) (z : T.Denot) (a b c d : Val)
    → ent 𝓤 (sep 𝓤 (sem 𝓛 (Q.own_val w (a ∷ []))) (sep 𝓤 (sem 𝓛 (R.own_val x (b ∷ []))) (sep 𝓤 (sem 𝓛 (S.own_val y (c ∷ []))) (sem 𝓛 (T.own_val z (d ∷ []))))))
    (sem 𝓛 ((Tuple (Q ∷ R ∷ S ∷ T ∷ [])).own_val (w, x, y, z) (four_val a b c d ∷ [])))
four_of 𝓛 Q R S T w x y z a b c d =
    qed 𝓛 (‵ (Q.own_val w (a ∷ [])) ∷ ‵ (R.own_val x (b ∷ [])) ∷ ‵ (S.own_val y (c ∷ [])) ∷ ‵ (T.own_val z (d ∷ [])) ∷ []) ∵
    nothing ! $ move ! (4 ∷ 0 ∷ []) $ fjoin ! $ move ! (3 ∷ 0 ∷ []) $ fjoin ! $ move ! (2 ∷ 0 ∷ []) $ fjoin ! $ move ! (1 ∷ 0 ∷ []) $ fjoin ! $
    feq_i ! (List Val) (four_val a b c d ∷ []) (four_val a b c d ∷ []) refl $ fjoin ! $
    fpack ! (Valss (Q ∷ R ∷ S ∷ T ∷ [])) (within (Declared.shape (tuple_type (Q ∷ R ∷ S ∷ T ∷ []))) (w, (x, (y, (z, tt)))) (four_val a b c d ∷ [])) (a ∷ [], (b ∷ [], (c ∷ [], (d ∷ [], tt)))) $ done !

-- the bytes of n values, as many as a word counts, are what the code asks for
pub of_one_word : (k n : ℕ) → n * k < 2 ^ 64 → n * capped k ≡ n * k
of_one_word k zero below = omega arith
of_one_word k (suc n) below =
    let least : 1 * k ≤ suc n * k = mul-le-mul_right k (let one : 1 ≤ suc n = omega arith in one) in
    ap (λ (size : ℕ). suc n * size) (capped_is k (omega arith))

pub block_size : (τ : Ty) (n : ℕ) → n * size τ < 2 ^ 64 → capped (size (bare (ty_array τ n))) ≡ n * size τ
block_size τ n fits = ap capped (size-raw (ty_array τ n)) ∙ capped_is (n * size τ) fits

pub block_align : (τ : Ty) (n : ℕ) → capped (align (bare (ty_array τ n))) ≡ capped (align τ)
block_align τ n = ap capped (align-raw (ty_array τ n))

module _ {M : Type 1} {𝓤 : Ura M} {𝓛 : Logic 𝓤} {K : Type 0} {Γ : List (Item 𝓤)} {G : Goal 𝓤 𝓛.H} where
  -- the value of no bytes that a row is
  pub row_had : K → (X : RattleType) (vs : List Val) → (vs ≡ mark ∷ [] → Seq K 𝓛 Γ G) → Seq K 𝓛 (‵ ((RowMark X).own_val (tt, tt) vs) ∷ Γ) G
  row_had t X vs k = fpick t (λ vss. fsplit t $ feq_l t (λ ev. fsplit t $ fpick t (λ uss. fsplit t $ feq_l t (λ e. drop t $ drop t $
      k (subst (λ (ws : List Val). vs ≡ vstruct (of_list (ws ++ [])) ∷ []) e ev)))))

  pub deed_had : K → (X A : RattleType) (g : Ghosts A.Denot) (vs : List Val) → (vs ≡ mark ∷ [] → Seq K 𝓛 Γ G) → Seq K 𝓛 (‵ ((DeedMark X A g).own_val (tt, tt) vs) ∷ Γ) G
  deed_had t X A g vs k = fpick t (λ vss. fsplit t $ feq_l t (λ ev. fsplit t $ fpick t (λ uss. fsplit t $ feq_l t (λ e. drop t $ drop t $
      k (subst (λ (ws : List Val). vs ≡ vstruct (of_list (ws ++ [])) ∷ []) e ev)))))
