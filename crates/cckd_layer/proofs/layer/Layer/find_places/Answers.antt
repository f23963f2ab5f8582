use Rattle.std.proofs.Common.{[], Option, Result, Ok, Err, sym, ◌∙◌, ap, subst, ◌≡◌, None}
use Rattle.cckd_shelf.specs.Seen.{seen}
use Rattle.cckd_layer.specs.declared.preparing.Room.{Room}
use Rattle.cckd_layer.specs.Writes.{claims_of}
use Rattle.cckd_layer.specs.Preparing.{IsDenial, IsUnplaced}
use Rattle.cckd_layer.proofs.ThenLemmas.{same_file, same_file_twice, act_still, act_hardened, act_then, maps_then, map_ok, map_err, err_for}
use Rattle.cckd_layer.proofs.PrepareLemmas.{plan_same, hardened_full}
use Rattle.cckd_base.specs.declared.layer_fault.LayerFault.{LayerFault}
use Rattle.cckd_layer.specs.Mounted.{LayerState}
use Rattle.cckd_layer.specs.Calm.{KeepsUnharmed}
use Rattle.cckd_layer.proofs.CalmLemmas.{looked_unharmed, unharmed_then, hardened_unharmed, unread_unharmed, for_errors}
use Rattle.cckd_layer.proofs.HeadedLemmas.{headers_still, headers_then, steady_by_plan, steady_hardened}
use Rattle.cckd_layer.proofs.TakenLemmas.{takes_hardened}
use Rattle.cckd_layer.proofs.layer.Layer.find_places.Goals as goal

-- the first try did nothing to the outside, and where it gave nothing the map is as before
pub returns-in-Err-harden_anew-clause-act : goal.returns-in-Err-harden_anew-clause-act
returns-in-Err-harden_anew-clause-act g c =
    let null = g.U.Unit.null_bytes in
    let s = c.args.self.now in
    let m = c.place_at_once.new.self in
    let h = c.harden_anew.new.self in
    let a = seen g.T.Shows c.args.stage.now in
    let b = seen g.T.Shows c.place_at_once.new.stage in
    let d = seen g.T.Shows c.harden_anew.new.stage in
    let first = act_still [] null s m a b (plan_same s m c.place_at_once.ensures.rest c.place_at_once.ensures.limit) c.place_at_once.ensures.reads.kept in
    let kept = c.in-Ok.ensures.kept (subst (λ (o : Option Room). IsUnplaced (Ok o)) (sym c.in_default.is) tt) in
    act_then [] [] null s m h a b d (λ told. told) first kept (act_hardened null m h b d c.harden_anew.ensures.same c.harden_anew.ensures.stopped c.harden_anew.ensures.others)

pub returns-clause-act : goal.returns-clause-act
returns-clause-act g c =
    let null = g.U.Unit.null_bytes in
    let s = c.args.self.now in
    let m = c.place_at_once.new.self in
    let h = c.harden_anew.new.self in
    let n = c.place_hardened.new.self in
    let a = seen g.T.Shows c.args.stage.now in
    let b = seen g.T.Shows c.place_at_once.new.stage in
    let d = seen g.T.Shows c.harden_anew.new.stage in
    let e = seen g.T.Shows c.place_hardened.new.stage in
    let first = act_still [] null s m a b (plan_same s m c.place_at_once.ensures.rest c.place_at_once.ensures.limit) c.place_at_once.ensures.reads.kept in
    let kept = c.in-Ok.ensures.kept (subst (λ (o : Option Room). IsUnplaced (Ok o)) (sym c.in_default.is) tt) in
    let second = act_hardened null m h b d c.harden_anew.ensures.same c.harden_anew.ensures.stopped c.harden_anew.ensures.others in
    let last = act_still [] null h n d e (plan_same h n c.place_hardened.ensures.rest c.place_hardened.ensures.limit) c.place_hardened.ensures.reads.kept in
    let one = act_then [] [] null s m h a b d (λ told. told) first kept second in
    act_then [] [] null s h n a d e (λ told. told) one
    (maps_then [] [] [] null s m h a b d (λ told. told) first.same kept c.in_default-harden_anew.ensures.map) last

pub returns-clause-map : goal.returns-clause-map
returns-clause-map g c =
    let null = g.U.Unit.null_bytes in
    let s = c.args.self.now in
    let m = c.place_at_once.new.self in
    let h = c.harden_anew.new.self in
    let n = c.place_hardened.new.self in
    let a = seen g.T.Shows c.args.stage.now in
    let b = seen g.T.Shows c.place_at_once.new.stage in
    let d = seen g.T.Shows c.harden_anew.new.stage in
    let e = seen g.T.Shows c.place_hardened.new.stage in
    let same = plan_same s m c.place_at_once.ensures.rest c.place_at_once.ensures.limit in
    let kept = c.in-Ok.ensures.kept (subst (λ (o : Option Room). IsUnplaced (Ok o)) (sym c.in_default.is) tt) in
    map_ok (λ (room : Room). claims_of c.args.need room.places) null s h n a d e c.place_hardened.result (λ told. told) (same_file_twice s m h same (same_file m h c.harden_anew.ensures.same))
    (maps_then [] [] [] null s m h a b d (λ told. told) same kept c.in_default-harden_anew.ensures.map) c.place_hardened.ensures.map

pub returns-clause-takes : goal.returns-clause-takes
returns-clause-takes g c =
    let null = g.U.Unit.null_bytes in
    let s = c.args.self.now in
    let m = c.place_at_once.new.self in
    let h = c.harden_anew.new.self in
    let n = c.place_hardened.new.self in
    let a = seen g.T.Shows c.args.stage.now in
    let b = seen g.T.Shows c.place_at_once.new.stage in
    let d = seen g.T.Shows c.harden_anew.new.stage in
    let e = seen g.T.Shows c.place_hardened.new.stage in
    let same = plan_same s m c.place_at_once.ensures.rest c.place_at_once.ensures.limit in
    let kept = c.in-Ok.ensures.kept (subst (λ (o : Option Room). IsUnplaced (Ok o)) (sym c.in_default.is) tt) in
    let none : c.place_at_once.result ≡ Ok None = c.in-Ok.is ∙ (let given : Option Room → Result (Option Room) LayerFault = λ x. Ok x in ap given c.in_default.is) in
    takes_hardened null s m h n a b d e c.args.t.0 c.args.need c.place_hardened.result (λ told. told) (λ told. told) same kept c.in_default-harden_anew.ensures.map c.in_default-harden_anew.ensures.settled
    (λ told agrees room enough. c.place_at_once.ensures.finds told agrees room enough none) c.place_hardened.ensures.reads.kept c.place_hardened.ensures.rest c.place_hardened.ensures.found

pub returns-clause-kept : goal.returns-clause-kept
returns-clause-kept g c =
    let null = g.U.Unit.null_bytes in
    let s = c.args.self.now in
    let m = c.place_at_once.new.self in
    let h = c.harden_anew.new.self in
    let n = c.place_hardened.new.self in
    let a = seen g.T.Shows c.args.stage.now in
    let b = seen g.T.Shows c.place_at_once.new.stage in
    let d = seen g.T.Shows c.harden_anew.new.stage in
    let e = seen g.T.Shows c.place_hardened.new.stage in
    let same = plan_same s m c.place_at_once.ensures.rest c.place_at_once.ensures.limit in
    let kept = c.in-Ok.ensures.kept (subst (λ (o : Option Room). IsUnplaced (Ok o)) (sym c.in_default.is) tt) in
    err_for _ IsDenial c.place_hardened.result
    (map_err null s h n a d e c.place_hardened.result (λ told. told) (same_file_twice s m h same (same_file m h c.harden_anew.ensures.same))
    (maps_then [] [] [] null s m h a b d (λ told. told) same kept c.in_default-harden_anew.ensures.map) c.place_hardened.ensures.kept)

pub returns-clause-full : goal.returns-clause-full
returns-clause-full g c =
    let null = g.U.Unit.null_bytes in
    let s = c.args.self.now in
    let m = c.place_at_once.new.self in
    let h = c.harden_anew.new.self in
    let n = c.place_hardened.new.self in
    let a = seen g.T.Shows c.args.stage.now in
    let b = seen g.T.Shows c.place_at_once.new.stage in
    let d = seen g.T.Shows c.harden_anew.new.stage in
    let e = seen g.T.Shows c.place_hardened.new.stage in
    let same = plan_same s m c.place_at_once.ensures.rest c.place_at_once.ensures.limit in
    let kept = c.in-Ok.ensures.kept (subst (λ (o : Option Room). IsUnplaced (Ok o)) (sym c.in_default.is) tt) in
    hardened_full s m h n a b d e c.args.t.0 c.args.need c.place_hardened.result null (λ told. told) (λ told. told) kept c.in_default-harden_anew.ensures.map
    (c.place_hardened.ensures.full c.in_default-harden_anew.ensures.settled)

pub returns-in-Err-clause-unharmed : goal.returns-in-Err-clause-unharmed
returns-in-Err-clause-unharmed g c = λ denial.
    looked_unharmed c.args.self.now c.place_at_once.new.self (seen g.T.Shows c.args.stage.now) (seen g.T.Shows c.place_at_once.new.stage)
    (ap (λ (x : LayerState). x.marked) c.place_at_once.ensures.rest) (ap (λ (x : LayerState). x.hardened) c.place_at_once.ensures.rest) c.place_at_once.ensures.reads.kept

pub returns-in-Err-harden_anew-clause-unharmed : goal.returns-in-Err-harden_anew-clause-unharmed
returns-in-Err-harden_anew-clause-unharmed g c = λ denial.
    let null = g.U.Unit.null_bytes in
    let s = c.args.self.now in
    let m = c.place_at_once.new.self in
    let h = c.harden_anew.new.self in
    let a = seen g.T.Shows c.args.stage.now in
    let b = seen g.T.Shows c.place_at_once.new.stage in
    let d = seen g.T.Shows c.harden_anew.new.stage in
    let kept = c.in-Ok.ensures.kept (subst (λ (o : Option Room). IsUnplaced (Ok o)) (sym c.in_default.is) tt) in
    let looked = looked_unharmed s m a b (ap (λ (x : LayerState). x.marked) c.place_at_once.ensures.rest) (ap (λ (x : LayerState). x.hardened) c.place_at_once.ensures.rest) c.place_at_once.ensures.reads.kept in
    let same = plan_same s m c.place_at_once.ensures.rest c.place_at_once.ensures.limit in
    unharmed_then null s m h a b d (λ told. told) same kept looked
    (unread_unharmed m h b d c.in-Err-harden_anew.fault (λ why. c.in-Err-harden_anew.ensures.read (let failed : LayerFault → Result (Unit {0}) LayerFault = λ x. Err x in ap failed why)) c.in-Err-harden_anew.ensures.refusal denial)

pub returns-clause-unharmed : goal.returns-clause-unharmed
returns-clause-unharmed g c =
    let null = g.U.Unit.null_bytes in
    let s = c.args.self.now in
    let m = c.place_at_once.new.self in
    let h = c.harden_anew.new.self in
    let a = seen g.T.Shows c.args.stage.now in
    let b = seen g.T.Shows c.place_at_once.new.stage in
    let d = seen g.T.Shows c.harden_anew.new.stage in
    let kept = c.in-Ok.ensures.kept (subst (λ (o : Option Room). IsUnplaced (Ok o)) (sym c.in_default.is) tt) in
    let looked = looked_unharmed s m a b (ap (λ (x : LayerState). x.marked) c.place_at_once.ensures.rest) (ap (λ (x : LayerState). x.hardened) c.place_at_once.ensures.rest) c.place_at_once.ensures.reads.kept in
    let same = plan_same s m c.place_at_once.ensures.rest c.place_at_once.ensures.limit in
    let n = c.place_hardened.new.self in
    let e = seen g.T.Shows c.place_hardened.new.stage in
    let hard = hardened_unharmed m h b d c.harden_anew.ensures.same c.in_default-harden_anew.ensures.hardened c.in_default-harden_anew.ensures.leaves in
    let one = unharmed_then null s m h a b d (λ told. told) same kept looked hard in
    let both = maps_then [] [] [] null s m h a b d (λ told. told) same kept c.in_default-harden_anew.ensures.map in
    let last = looked_unharmed h n d e (ap (λ (x : LayerState). x.marked) c.place_hardened.ensures.rest) (ap (λ (x : LayerState). x.hardened) c.place_hardened.ensures.rest) c.place_hardened.ensures.reads.kept in
    for_errors (KeepsUnharmed s n a e) IsDenial c.place_hardened.result
    (unharmed_then null s h n a d e (λ told. told) (same_file_twice s m h same (same_file m h c.harden_anew.ensures.same)) both one last)

pub returns-in-Err-clause-headers : goal.returns-in-Err-clause-headers
returns-in-Err-clause-headers g c = headers_still c.args.self.now (seen g.T.Shows c.args.stage.now) (seen g.T.Shows c.place_at_once.new.stage) c.place_at_once.ensures.reads.kept

pub returns-in-Some-clause-headers : goal.returns-in-Some-clause-headers
returns-in-Some-clause-headers g c = headers_still c.args.self.now (seen g.T.Shows c.args.stage.now) (seen g.T.Shows c.place_at_once.new.stage) c.place_at_once.ensures.reads.kept

pub returns-in-Some-clause-steady : goal.returns-in-Some-clause-steady
returns-in-Some-clause-steady g c = steady_by_plan c.args.self.now c.place_at_once.new.self (seen g.T.Shows c.args.stage.now) c.place_at_once.ensures.rest

pub returns-in-Err-harden_anew-clause-headers : goal.returns-in-Err-harden_anew-clause-headers
returns-in-Err-harden_anew-clause-headers g c =
    let null = g.U.Unit.null_bytes in
    let s = c.args.self.now in
    let m = c.place_at_once.new.self in
    let a = seen g.T.Shows c.args.stage.now in
    let b = seen g.T.Shows c.place_at_once.new.stage in
    let h = c.harden_anew.new.self in
    let d = seen g.T.Shows c.harden_anew.new.stage in
    let kept = c.in-Ok.ensures.kept (subst (λ (o : Option Room). IsUnplaced (Ok o)) (sym c.in_default.is) tt) in
    headers_then s m a b d (λ told. told) (plan_same s m c.place_at_once.ensures.rest c.place_at_once.ensures.limit).slot (λ told agrees. (kept told agrees).agrees)
    (λ told agrees hard. ap (λ (x : LayerState). x.hardened) c.place_at_once.ensures.rest ∙ hard) (headers_still s a b c.place_at_once.ensures.reads.kept) c.harden_anew.ensures.headers

pub returns-clause-headers : goal.returns-clause-headers
returns-clause-headers g c =
    let null = g.U.Unit.null_bytes in
    let s = c.args.self.now in
    let m = c.place_at_once.new.self in
    let a = seen g.T.Shows c.args.stage.now in
    let b = seen g.T.Shows c.place_at_once.new.stage in
    let h = c.harden_anew.new.self in
    let d = seen g.T.Shows c.harden_anew.new.stage in
    let e = seen g.T.Shows c.place_hardened.new.stage in
    let kept = c.in-Ok.ensures.kept (subst (λ (o : Option Room). IsUnplaced (Ok o)) (sym c.in_default.is) tt) in
    let same = plan_same s m c.place_at_once.ensures.rest c.place_at_once.ensures.limit in
    let first = headers_then s m a b d (λ told. told) same.slot (λ told agrees. (kept told agrees).agrees)
    (λ told agrees hard. ap (λ (x : LayerState). x.hardened) c.place_at_once.ensures.rest ∙ hard) (headers_still s a b c.place_at_once.ensures.reads.kept) c.harden_anew.ensures.headers in
    let both = maps_then [] [] [] null s m h a b d (λ told. told) same kept c.in_default-harden_anew.ensures.map in
    headers_then s h a d e (λ told. told) (same_file_twice s m h same (same_file m h c.harden_anew.ensures.same)).slot (λ told agrees. (both told agrees).agrees)
    (λ told agrees hard. c.in_default-harden_anew.ensures.hardened) first (headers_still h d e c.place_hardened.ensures.reads.kept)

pub returns-clause-steady : goal.returns-clause-steady
returns-clause-steady g c =
    let s = c.args.self.now in
    let m = c.place_at_once.new.self in
    let h = c.harden_anew.new.self in
    let n = c.place_hardened.new.self in
    steady_hardened s m h n (seen g.T.Shows c.args.stage.now) c.place_hardened.result c.place_at_once.ensures.rest c.harden_anew.ensures.same c.in_default-harden_anew.ensures.hardened c.place_hardened.ensures.rest
