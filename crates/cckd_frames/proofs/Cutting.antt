-- A new block is cut in two rows with nothing in them, and is made of the two again. Assumes `Logic`.
use mathlib.Core.Path.{◌≡◌, refl, sym, ap, subst, ◌∙◌}
use Prim.Native.Nat.{ℕ, ◌+◌, ◌-◌, ◌*◌, ◌^◌, ◌<◌, ◌≤◌}
use native.Mathlib.Nat.{mul-one}
use native.Mathlib.Omega.{arith}
use mathlib.Core.List.{List, [], ◌∷◌}
use lib.Dec.{T}
use lib.ListN.{length}
use seplogic.Ra.Ura.{Ura}
use base.Fraction.{full_share}
use mir.Syntax.{Ty, Width, w8, w16, w32, w64, w128, ty_int, ty_array}
use mir.Raw.{raw as bare}
use mir.Val.{bytes}
use base.Logic.{SProp, ent, sep, wand, apply∗}
use base.Fml.{Fml, fsep, fwand, feq, froom}
use prog.Memory.{size, align, divides}
use prog.Align.{align_w, align-bytes}
use types.Logic.{Logic, sem}
use types.Kit.{‵, raw, ◌⊛◌, ◌$◌, ◌∵◌, !, qed, by, move, drop, use1, use2, split, assume, fsplit, fjoin, feq_i, flt_i, rewrite, done}
use denote.Array.{Array}
use denote.ArrayMemory.{Array-whole}
use denote.Memory.{part_at, lone}
use denote.RattleType.{RattleType}
use denote.RawPtr.{block_ptr}
use denote.RawPtr.Bytes.{bytes as byte_cells, bytes_apart, bytes-room}
use denote.RawPtr.Room.{past, past_bytes, room_glue}
use denote.Builtin.{u8}
use denote.Steps.{nothing}
use Rattle.std.proofs.RawLayout.{as_raw, as_written}
use Rattle.std.proofs.VecSteps.El.{El, el_x, elτ, R, sz}
use Rattle.std.proofs.VecSteps.Rows.{room_split, glued, all_room}
use Rattle.cckd_frames.specs.Ownership.{array_type, row_owns}

one_divides : (τ : Ty) → T (divides 1 (align τ))
one_divides τ = subst (λ (k : ℕ). T (divides 1 k)) (sym (align-bytes τ)) (by_width (align_w τ)) where
  by_width : (w : Width) → T (divides 1 (bytes w))
  by_width w8 = tt
  by_width w16 = tt
  by_width w32 = tt
  by_width w64 = tt
  by_width w128 = tt

-- the bytes of k values
abbrev pub bytes_of : ℕ → Ty
bytes_of m = bare (ty_array (ty_int w8) m)

module _ (X : RattleType) {M : Type 1} {𝓤 : Ura M} (𝓛 : Logic 𝓤) (b o : ℕ) where
  -- room is a row with nothing in it
  pub row_new : (c : ℕ) → c * size (lone X.mir) < 2 ^ 63 → ent 𝓤 (sem 𝓛 (froom (array_type X c) b o)) (sem 𝓛 (row_owns X (block_ptr b o) c []))
  row_new c small =
      let all : c ≡ c - 0 = omega arith in let here : o ≡ o + 0 * size (lone X.mir) = omega arith in
      qed 𝓛 (‵ (froom (array_type X c) b o) ∷ []) ∵
      rewrite ! 0 (λ (u : ℕ × ℕ). ‵ (froom (array_type X u.0) b u.1)) (λ i. (all i, here i)) refl $
      nothing ! $ feq_i ! ℕ (length {A = X.Denot} []) 0 refl $ fjoin ! $ use1 𝓛 (‵ (part_at (Array X 0) full_share [] b o)) (Array-whole 𝓛 X full_share 0 [] b o) $
      fjoin ! $ flt_i ! (c * size (lone X.mir)) (2 ^ 63) small $ fjoin ! $ done !

module _ (E : El) {M : Type 1} {𝓤 : Ura M} (𝓛 : Logic 𝓤) (b o n k : ℕ) where
  open 𝓛 use {H}

  abbrev s : ℕ
  s = sz E

  abbrev τ : Ty
  τ = elτ E

  abbrev pub Two : Fml
  Two = fsep (froom (bare (ty_array τ n)) b o) (froom (bytes_of (k * s)) b (o + n * s))

  abbrev pub All : Fml
  All = froom (bare (ty_array τ (n + k))) b o

  -- the way back
  joined : ent 𝓤 (wand 𝓤 (H.room (ty_array (ty_int w8) (k * s)) b (o + n * s)) (H.room (ty_array τ k) b (o + n * s))) (sem 𝓛 (fwand Two All))
  joined =
      let Back : SProp 𝓤 = wand 𝓤 (H.room (ty_array (ty_int w8) (k * s)) b (o + n * s)) (H.room (ty_array τ k) b (o + n * s)) in
      qed 𝓛 (raw Back ∷ []) ∵ assume ! (‵ Two) $ fsplit ! $ as_written ! (ty_array τ n) b o $ move ! (1 ∷ []) $ as_written ! (ty_array (ty_int w8) (k * s)) b (o + n * s) $
      move ! (0 ∷ 2 ∷ []) $ use2 𝓛 (raw (H.room (ty_array τ k) b (o + n * s))) (apply∗ 𝓤 (H.room (ty_array (ty_int w8) (k * s)) b (o + n * s)) (H.room (ty_array τ k) b (o + n * s))) $
      move ! (1 ∷ 0 ∷ []) $ use2 𝓛 (raw (H.room (ty_array τ (n + k)) b o)) (glued E 𝓛 n k (n + k) b o refl) $ by ! (𝓛.laws.room-raw (ty_array τ (n + k)) b o)

  pub cut : ent 𝓤 (sem 𝓛 All) (sep 𝓤 (sem 𝓛 (froom (bare (ty_array τ n)) b o)) (sep 𝓤 (sem 𝓛 (froom (bytes_of (k * s)) b (o + n * s))) (sem 𝓛 (fwand Two All))))
  cut =
      let le : n ≤ n + k = omega arith in let rest : n + k - n ≡ k = omega arith in
      qed 𝓛 (‵ All ∷ []) ∵ as_written ! (ty_array τ (n + k)) b o $
      use1 𝓛 (‵ (froom (ty_array τ n) b o) ⊛ ‵ (froom (ty_array τ (n + k - n)) b (o + n * s))) (room_split E 𝓛 n (n + k) b o le) $ split ! $
      as_raw ! (ty_array τ n) b o $ move ! (1 ∷ []) $ rewrite ! 0 (λ (m : ℕ). ‵ (froom (ty_array τ m) b (o + n * s))) rest refl $
      use1 𝓛 (‵ (froom (ty_array (ty_int w8) (k * s)) b (o + n * s)) ⊛ raw (wand 𝓤 (H.room (ty_array (ty_int w8) (k * s)) b (o + n * s)) (H.room (ty_array τ k) b (o + n * s))))
      (𝓛.laws.room_as (ty_array τ k) (ty_array (ty_int w8) (k * s)) b (o + n * s) (mul-one (k * s)) (one_divides τ)) $ split ! $
      as_raw ! (ty_array (ty_int w8) (k * s)) b (o + n * s) $ move ! (1 ∷ []) $ use1 𝓛 (‵ (fwand Two All)) joined $ move ! (2 ∷ 1 ∷ 0 ∷ []) $ done !

-- the rows are let go: what they hold becomes room
module _ (E : El) {M : Type 1} {𝓤 : Ura M} (𝓛 : Logic 𝓤) (b o c : ℕ) where
  pub row_over : (xs : List (el_x E)) → length xs ≤ c → ent 𝓤 (sem 𝓛 (row_owns (R E) (block_ptr b o) c xs)) (sem 𝓛 (froom (array_type (R E) c) b o))
  row_over xs le =
      qed 𝓛 (‵ (row_owns (R E) (block_ptr b o) c xs) ∷ []) ∵ fsplit ! $ drop ! $ fsplit ! $ move ! (1 ∷ []) $ as_written ! (ty_array (elτ E) (c - length xs)) b (o + length xs * sz E) $
      move ! (1 ∷ 0 ∷ []) $ use2 𝓛 (‵ (froom (ty_array (elτ E) c) b o)) (all_room E 𝓛 b o (length xs) c xs le) $ as_raw ! (ty_array (elτ E) c) b o $ done !

module _ {M : Type 1} {𝓤 : Ura M} (𝓛 : Logic 𝓤) (b o c : ℕ) where
  pub bytes_over : (xs : List ℕ) → length xs ≤ c → ent 𝓤 (sem 𝓛 (row_owns u8 (block_ptr b o) c xs)) (sem 𝓛 (froom (bytes_of c) b o))
  bytes_over xs le =
      let sum : length xs + (c - length xs) ≡ c = omega arith in
      let behind : o + length xs * 1 ≡ past (ty_int w8) (length xs) o = ap (λ (k : ℕ). o + k) (mul-one (length xs)) ∙ sym (past_bytes (length xs) o) in
      qed 𝓛 (‵ (row_owns u8 (block_ptr b o) c xs) ∷ []) ∵ fsplit ! $ drop ! $ fsplit ! $ use1 𝓛 (‵ (fsep (feq ℕ (length xs) (length xs)) (byte_cells full_share xs b o))) (bytes_apart 𝓛 full_share (length xs) xs b o) $
      fsplit ! $ drop ! $ use1 𝓛 (‵ (froom (ty_array (ty_int w8) (length xs)) b o)) (bytes-room 𝓛 xs b o) $ move ! (1 ∷ []) $
      as_written ! (ty_array (ty_int w8) (c - length xs)) b (o + length xs * 1) $ rewrite ! 0 (λ (k : ℕ). ‵ (froom (ty_array (ty_int w8) (c - length xs)) b k)) behind refl $ move ! (1 ∷ 0 ∷ []) $
      use2 𝓛 (‵ (froom (ty_array (ty_int w8) (length xs + (c - length xs))) b o)) (room_glue 𝓛 (ty_int w8) (length xs) (c - length xs) b o) $
      rewrite ! 0 (λ (k : ℕ). ‵ (froom (ty_array (ty_int w8) k) b o)) sum refl $ as_raw ! (ty_array (ty_int w8) c) b o $ done !
