use Rattle.std.proofs.Common.{◌≡◌, ◌<◌, ◌≤◌, ◌+◌, ◌↔◌, ℕ, List, Option, Some, None, Result, Ok, Err, IfOk, OnOk, IsErr, max, true, false, sym, ◌∙◌, ap, subst, arith}
use Rattle.std.specs.Option.{option_map, unwrap_or}
use Rattle.cckd_base.specs.declared.space.Full.{Full}
use Rattle.cckd_space.specs.declared.piece.Piece.{Piece}
use Rattle.cckd_space.specs.Pieces.{aligned_up, appended, end_place, has_room, largest}
use Rattle.cckd_space.specs.Plan.{Plan, Becomes, IsClear, first_fit, reserved_by, room, size_at}
use Rattle.cckd_space.proofs.NumberLemmas.{nowhere_small, small_nowhere}
use Rattle.cckd_space.proofs.PlaceLemmas.{end_clear, fit_within, placed_clear}
use Rattle.cckd_space.proofs.HeldLemmas.{no_place}
use Rattle.cckd_space.proofs.space.Space.place.Goals as goal

pub place_at_end-requires-clause-none : goal.place_at_end-requires-clause-none
place_at_end-requires-clause-none c =
    let none = no_place (has_room c.args.need) c.args.self.now.pieces (sym c.place_first.ensures.placed ∙ c.in-None.is) in
    subst (λ (now : Plan). largest now.pieces < c.args.need) (sym c.in-None.ensures.none) (nowhere_small c.args.need (omega (arith, c.requires.need.some)) c.args.self.now.pieces none)

pub place_at_end-requires-clause-spare : goal.place_at_end-requires-clause-spare
place_at_end-requires-clause-spare c = subst (λ (now : Plan). 2 ≤ now.spare) (sym c.in-None.ensures.none) c.requires.spare

fits : (need pos : ℕ) (ps : List Piece) → Some pos ≡ first_fit need ps → largest ps < need → ⊥
fits need pos ps e h =
    let none = ap (option_map (λ (p : Piece). aligned_up p.pos)) (small_nowhere (has_room need) need (λ p t. t) ps h) in
    let g : Some pos ≡ None = e ∙ none in
    cc

pub returns-in-Some-clause-placed : goal.returns-in-Some-clause-placed
returns-in-Some-clause-placed c = ap (λ (o : Option ℕ). unwrap_or o (end_place c.args.self.now.pieces)) (sym c.in-Some.is ∙ c.place_first.ensures.placed)

pub returns-in-Some-clause-reserved : goal.returns-in-Some-clause-reserved
returns-in-Some-clause-reserved c =
    let need = c.args.need in
    let was = c.args.self.now in
    let at : Some c.in-Some.pos ≡ first_fit need was.pieces = sym c.in-Some.is ∙ c.place_first.ensures.placed in
    subst (λ (o : Option ℕ). Becomes was c.place_first.new.self (reserved_by o need was.pieces) (size_at o need was)) at c.place_first.ensures.reserved

pub returns-in-Some-clause-full : goal.returns-in-Some-clause-full
returns-in-Some-clause-full c =
    (λ (e : false ≡ true). absurd cc, λ h. absurd (fits c.args.need c.in-Some.pos c.args.self.now.pieces (sym c.in-Some.is ∙ c.place_first.ensures.placed) h.0))

pub returns-in-Some-clause-clear : goal.returns-in-Some-clause-clear
returns-in-Some-clause-clear c =
    let old = c.args.self.now.pieces in
    let at : Some c.in-Some.pos ≡ first_fit c.args.need old = sym c.in-Some.is ∙ c.place_first.ensures.placed in
    subst (λ (n : ℕ). IsClear old n c.args.need) (sym (ap (λ (o : Option ℕ). unwrap_or o (end_place old)) at))
    (placed_clear c.args.need old c.args.self.now.size c.place_first.ensures.was.laid)

pub returns-in-Some-clause-within : goal.returns-in-Some-clause-within
returns-in-Some-clause-within c =
    let w = fit_within c.args.need c.args.self.now.pieces c.args.self.now.size c.in-Some.pos c.place_first.ensures.was.laid (sym (sym c.in-Some.is ∙ c.place_first.ensures.placed)) in
    omega (arith, w)

-- the same where nothing fits
nowhere : (c : goal.After-place_at_end) → first_fit c.args.need c.args.self.now.pieces ≡ None
nowhere c = sym c.place_first.ensures.placed ∙ c.in-None.is

pub returns-in-None-clause-placed : goal.returns-in-None-clause-placed
returns-in-None-clause-placed c =
    subst (λ (o : Option ℕ). IfOk c.place_at_end.result (λ pos. pos ≡ unwrap_or o (end_place c.args.self.now.pieces))) (sym (nowhere c))
    (subst (λ (now : Plan). IfOk c.place_at_end.result (λ pos. pos ≡ end_place now.pieces)) c.in-None.ensures.none c.place_at_end.ensures.placed)

pub returns-in-None-clause-reserved : goal.returns-in-None-clause-reserved
returns-in-None-clause-reserved c =
    subst (λ (o : Option ℕ). OnOk c.place_at_end.result (Becomes c.args.self.now c.place_at_end.new.self (reserved_by o c.args.need c.args.self.now.pieces) (size_at o c.args.need c.args.self.now))) (sym (nowhere c))
    (subst (λ (now : Plan). OnOk c.place_at_end.result (Becomes now c.place_at_end.new.self (appended c.args.need now.pieces) (end_place now.pieces + c.args.need))) c.in-None.ensures.none c.place_at_end.ensures.reserved)

pub returns-in-None-clause-full : goal.returns-in-None-clause-full
returns-in-None-clause-full c =
    let small = nowhere_small c.args.need (omega (arith, c.requires.need.some)) c.args.self.now.pieces (no_place (has_room c.args.need) c.args.self.now.pieces (nowhere c)) in
    let full : IsErr c.place_at_end.result ↔ (room c.args.self.now < c.args.need) =
    subst (λ (now : Plan). IsErr c.place_at_end.result ↔ (room now < c.args.need)) c.in-None.ensures.none c.place_at_end.ensures.full in
    (λ e. (small, full.0 e), λ h. full.1 h.1)

-- a place that is the end of the file is clear
clear_there : (r : Result ℕ Full) (n need : ℕ) (ps : List Piece) → IfOk r (λ pos. pos ≡ n) → IsClear ps n need → IfOk r (λ pos. IsClear ps pos need)
clear_there (Ok pos) n need ps e h = subst (λ (m : ℕ). IsClear ps m need) (sym e) h
clear_there (Err full) n need ps e h = tt

pub returns-in-None-clause-clear : goal.returns-in-None-clause-clear
returns-in-None-clause-clear c =
    let old = c.args.self.now.pieces in
    clear_there c.place_at_end.result (end_place old) c.args.need old
    (subst (λ (now : Plan). IfOk c.place_at_end.result (λ pos. pos ≡ end_place now.pieces)) c.in-None.ensures.none c.place_at_end.ensures.placed)
    (end_clear c.args.need old c.args.self.now.size c.place_first.ensures.was.laid)

-- and below the limit
within_there : (r : Result ℕ Full) (need limit size : ℕ) → IfOk r (λ pos. pos + need ≤ limit) → IfOk r (λ pos. pos + need ≤ max limit size)
within_there (Ok pos) need limit size h = omega (arith, h)
within_there (Err full) need limit size h = tt

pub returns-in-None-clause-within : goal.returns-in-None-clause-within
returns-in-None-clause-within c =
    within_there c.place_at_end.result c.args.need c.args.self.now.limit c.args.self.now.size
    (subst (λ (now : Plan). IfOk c.place_at_end.result (λ pos. pos + c.args.need ≤ now.limit)) c.in-None.ensures.none c.place_at_end.ensures.within)
