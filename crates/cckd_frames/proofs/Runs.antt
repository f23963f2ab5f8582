-- Of what a `&` to elements side by side holds, that to a run of them. Assumes `Logic`.
use Prim.Native.Nat.{ℕ, zero, suc, ◌+◌}
use mathlib.Core.List.{List, [], ◌∷◌}
use lib.ListN.{take, drop as drop_list}
use seplogic.Ra.Ura.{Ura}
use base.Logic.{ent, id⊢, via, snd∗, mono_r}
use base.Fml.{Lft}
use types.Logic.{Logic, sem}
use types.Kit.{‵, ◌$◌, ◌∵◌, !, qed, drop, done}
use denote.Index.{place}
use denote.Memory.{shared_of, each_shared}
use denote.RattleType.{RattleType}
use denote.Steps.{nothing}

module _ (T : RattleType) (s : ℕ) {M : Type 1} {𝓤 : Ura M} (𝓛 : Logic 𝓤) (κ : Lft) (b : ℕ) where
  pub drop_seen : (xs : List T.Denot) (i o : ℕ) → ent 𝓤 (sem 𝓛 (each_shared xs (shared_of T) s b o κ)) (sem 𝓛 (each_shared (drop_list i xs) (shared_of T) s b (place s o i) κ))
  drop_seen xs zero o = id⊢ 𝓤 (sem 𝓛 (each_shared xs (shared_of T) s b o κ))
  drop_seen [] (suc i) o = qed 𝓛 (‵ (each_shared [] (shared_of T) s b o κ) ∷ []) ∵ drop ! $ nothing ! $ done !
  drop_seen (x ∷ xs) (suc i) o = via 𝓤 (sem 𝓛 (each_shared xs (shared_of T) s b (o + s) κ))
      (snd∗ 𝓤 (sem 𝓛 (shared_of T x b o κ)) (sem 𝓛 (each_shared xs (shared_of T) s b (o + s) κ))) (drop_seen xs i (o + s))

  pub take_seen : (xs : List T.Denot) (n o : ℕ) → ent 𝓤 (sem 𝓛 (each_shared xs (shared_of T) s b o κ)) (sem 𝓛 (each_shared (take n xs) (shared_of T) s b o κ))
  take_seen xs zero o = qed 𝓛 (‵ (each_shared xs (shared_of T) s b o κ) ∷ []) ∵ drop ! $ nothing ! $ done !
  take_seen [] (suc n) o = qed 𝓛 (‵ (each_shared [] (shared_of T) s b o κ) ∷ []) ∵ drop ! $ nothing ! $ done !
  take_seen (x ∷ xs) (suc n) o = mono_r 𝓤 (sem 𝓛 (shared_of T x b o κ)) (take_seen xs n (o + s))
