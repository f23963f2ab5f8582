use Rattle.std.proofs.Common.{ℕ, length, Option, sym, subst}
use Rattle.cckd_shelf.specs.Seen.{seen}
use Rattle.cckd_shelf.specs.World.{file_of}
use Rattle.cckd_space.specs.Pieces.{aligned_up}
use Rattle.cckd_layer.specs.Writes.{IsAct}
use Rattle.cckd_layer.specs.Storing.{stored_as, IsPutTo, IsClaimed}
use Rattle.cckd_layer.proofs.ThenLemmas.{same_marked, same_put, act_then, maps_then, ok_then}
use Rattle.cckd_layer.proofs.StoreLemmas.{put_after}
use Rattle.cckd_layer.proofs.HeadedLemmas.{mark_then_put}
use Rattle.cckd_layer.proofs.layer.Layer.put_track.Goals as goal

pub returns-in-Some-clause-map : goal.returns-in-Some-clause-map
returns-in-Some-clause-map g c = λ claims claimed.
    let null = g.U.Unit.null_bytes in
    let s = c.args.self.now in
    let m = c.mark.new.self in
    let n = c.put_reserved.new.self in
    let a = seen g.T.Shows c.args.stage.now in
    let b = seen g.T.Shows c.mark.new.stage in
    let d = seen g.T.Shows c.put_reserved.new.stage in
    let among = subst (λ (o : Option ℕ). IsClaimed o (aligned_up (length c.args.bytes.now)) claims) c.in-Some.is claimed in
    ok_then c.put_reserved.result (maps_then claims claims claims null s m n a b d (λ told. told) (same_marked s m c.in_default.ensures.rest) (c.in_default.ensures.map claims))
    (c.put_reserved.ensures.map claims among)

pub returns-in-Some-clause-act : goal.returns-in-Some-clause-act
returns-in-Some-clause-act g c = λ claims claimed.
    let null = g.U.Unit.null_bytes in
    let s = c.args.self.now in
    let m = c.mark.new.self in
    let n = c.put_reserved.new.self in
    let a = seen g.T.Shows c.args.stage.now in
    let b = seen g.T.Shows c.mark.new.stage in
    let d = seen g.T.Shows c.put_reserved.new.stage in
    let among = subst (λ (o : Option ℕ). IsClaimed o (aligned_up (length c.args.bytes.now)) claims) c.in-Some.is claimed in
    let first : IsAct claims null s m a b = record { same = same_marked s m c.in_default.ensures.rest; stopped = c.mark.ensures.stopped claims; others = c.mark.ensures.others } in
    let second : IsAct claims null m n b d = record {
      same = same_put m n c.put_reserved.result c.put_reserved.ensures.rest c.put_reserved.ensures.failed;
      stopped = c.put_reserved.ensures.stopped claims among;
      others = c.put_reserved.ensures.others;
    } in
    act_then claims claims null s m n a b d (λ told. told) first (c.in_default.ensures.map claims) second

pub returns-in-Some-clause-put : goal.returns-in-Some-clause-put
returns-in-Some-clause-put g c = λ claims told agrees.
    let s = c.args.self.now in
    let m = c.mark.new.self in
    let a = seen g.T.Shows c.args.stage.now in
    let b = seen g.T.Shows c.mark.new.stage in
    let d = seen g.T.Shows c.put_reserved.new.stage in
    let value = stored_as g.U.Unit.value c.args.form c.args.bytes.now in
    let same = same_marked s m c.in_default.ensures.rest in
    let long = c.in_default.ensures.len claims told agrees in
    ok_then c.put_reserved.result
    (λ made. subst (λ (o : Option ℕ). IsPutTo o value (file_of a.world s.slot) (file_of d.world s.slot)) (sym c.in-Some.is)
    (put_after s.slot m.slot c.in-Some.pos value a.world b.world d.world same.slot (made told) long))
    c.put_reserved.ensures.made

pub returns-in-Some-clause-marks : goal.returns-in-Some-clause-marks
returns-in-Some-clause-marks g c = λ claims claimed.
    let s = c.args.self.now in
    let m = c.mark.new.self in
    let a = seen g.T.Shows c.args.stage.now in
    let b = seen g.T.Shows c.mark.new.stage in
    let d = seen g.T.Shows c.put_reserved.new.stage in
    let among = subst (λ (o : Option ℕ). IsClaimed o (aligned_up (length c.args.bytes.now)) claims) c.in-Some.is claimed in
    mark_then_put claims s m a b d (λ told. told) (same_marked s m c.in_default.ensures.rest).slot c.in_default.ensures.marked (λ told agrees. (c.in_default.ensures.map claims told agrees).agrees)
    (c.mark.ensures.marks claims) (c.put_reserved.ensures.headers claims among)
