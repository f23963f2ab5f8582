-- A row may cross threads as its values may, and a deed as its allocator may.
use Rattle.std.specs.Prelude.{length}
use mir.Syntax.{Ty}
use base.Shift.{Keyless}
use denote.Array.{Array}
use denote.RattleType.{RattleType}
use base.Fraction.{full_share}
use base.Fml.{fsep}
use denote.Exit.{Exit, unchanged, leaves, hidden, under}
use denote.RawPtr.{Ptr, block_ptr, null_ptr, block_of, count_of, in_block, lies_at, room_for}
use denote.Struct.Lending.{lent_at}
use denote.Struct.Struct.{exits_of}
use denote.Struct.Owning.{shape, fields, to}
use denote.Param.Send.{IsSend, IsSync, Frees, Quiet, Common, AllSend, part_keyless, array_send, array_sync, owning_send, struct_send, struct_sync, sendable}
use Rattle.std.specs.declared.alloc.Allocator.{Ghosts}
use Rattle.cckd_frames.specs.contracts.block.Row as Row
use Rattle.cckd_frames.specs.contracts.block.Deed as Deed

-- what a value leaves behind at its end crosses as that of its fields does
crosses_at_end : {D X : Type 0} (e : Exit X) → Quiet e → (to : D → X) → Quiet (hidden (under to e))
crosses_at_end (leaves L l S s r₀) still to = λ d. still (to d)
crosses_at_end unchanged still to = λ x w. tt

-- room may cross, wherever it lies
unwritten : (τ : Ty) (p : Ptr) → Keyless (room_for τ p)
unwritten τ null_ptr = tt
unwritten τ (block_ptr b o) = tt

-- so may values that may cross, with the room behind them
held : (T : RattleType) → IsSend T → (p q : Ptr) (x : T.Denot) (τ : Ty) → Keyless (in_block p (fsep (lies_at T full_share p x) (room_for τ q)))
held T s null_ptr q x τ = tt
held T s (block_ptr b o) q x τ = (part_keyless T s full_share x b o, unwritten τ q)

-- and shares of them
shown : (T : RattleType) → IsSync T → (p : Ptr) (x : T.Denot) → Common (lent_at T p x)
shown T s null_ptr x κ = (tt, s.shared x (block_of null_ptr) (count_of null_ptr) κ)
shown T s (block_ptr b o) x κ = (tt, s.shared x b o κ)

module _ (T : RattleType) where
  pub Row-send : IsSend T → IsSend (Row.the_row T)
  Row-send s =
      let O = Row.the_type T in let all : AllSend (fields O) = (search sendable, tt) in
      owning_send O all (λ d. (tt, held (Array T (length d.items)) (array_send T (length d.items) s) d.at _ d.items _)) (λ k. crosses_at_end (exits_of k (fields O)) ((struct_send (shape O) all).leaving k) (to O))

  pub Row-sync : IsSync T → IsSync (Row.the_row T)
  Row-sync y = let O = Row.the_type T in record {
    shared = λ d b o κ. ((struct_sync (shape O) (search sendable, tt)).shared (to O d) b o κ, (tt, shown (Array T (length d.items)) (array_sync T (length d.items) y) d.at d.items κ));
  }

  module _ (A : RattleType) (g : Ghosts A.Denot) where
    pub Deed-send : Frees g g.dealloc_token → IsSend (Deed.the_row T A g)
    Deed-send f =
        let O = Deed.the_type T A g in let all : AllSend (fields O) = (search sendable, tt) in
        owning_send O all (λ d. (f.frees d.alloc _ d.at, ((unwritten _ _, unwritten _ _), unwritten _ _))) (λ k. crosses_at_end (exits_of k (fields O)) ((struct_send (shape O) all).leaving k) (to O))

    pub Deed-sync : IsSync (Deed.the_row T A g)
    Deed-sync = let O = Deed.the_type T A g in record { shared = λ d b o κ. ((struct_sync (shape O) (search sendable, tt)).shared (to O d) b o κ, tt) }
