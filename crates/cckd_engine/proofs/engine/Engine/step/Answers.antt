use Rattle.std.proofs.Common.{◌≡◌, ◌+◌, Bool, true, false, refl, sym, ◌∙◌, ap}
use Rattle.cckd_stack.specs.History.{reply_breaks}
use Rattle.cckd_shelf.specs.Seen.{seen}
use Rattle.cckd_engine.proofs.FrameLemmas.{spares_still}
use Rattle.cckd_engine.proofs.StepLemmas.{number_if, stands_next, keeps_next, keeps_still, room_next, room_still}
use Rattle.cckd_engine.proofs.engine.Engine.step.Goals as goal

pub returns-in-Some-clause-stops : goal.returns-in-Some-clause-stops
returns-in-Some-clause-stops g c = λ session s0 h told stands tells left.
    keeps_still _ s0 h _ _ _ _ stands refl left c.in-Some.at c.in-Some.is refl

pub returns-in-Some-clause-spares : goal.returns-in-Some-clause-spares
returns-in-Some-clause-spares g c = spares_still (g.D.Disk.spares c.args.self.now.disk) (seen g.T.Shows c.args.self.now.stage)

pub returns-then-breaks-clause-stands : goal.returns-then-breaks-clause-stands
returns-then-breaks-clause-stands g c = λ session s0 h told stands.
    let breaks : reply_breaks c.args.call c.perform-reply.result ≡ true = sym c.breaks.ensures ∙ c.if-breaks.true in
    let sure = stands.sure c.in_default.is in
    stands_next s0 h _ _ _ stands c.perform-reply.ensures.geometry refl c.in_default.is (c.perform-reply.ensures.answers told sure)
    (c.perform-reply.ensures.sure told sure) (c.perform-reply.ensures.stack told sure) (ap (λ (b : Bool). number_if b (c.args.self.now.calls + 1)) (sym breaks)) c.count.ensures

pub returns-then-breaks-clause-stops : goal.returns-then-breaks-clause-stops
returns-then-breaks-clause-stops g c = λ session s0 h told stands tells left.
    keeps_next _ s0 h _ _ _ _ stands refl left c.in_default.is
    (λ was is hardened. c.perform-reply.ensures.stops was told (tells c.in_default.is) is hardened)

pub returns-else-breaks-clause-stands : goal.returns-else-breaks-clause-stands
returns-else-breaks-clause-stands g c = λ session s0 h told stands.
    let fine : reply_breaks c.args.call c.perform-reply.result ≡ false = sym c.breaks.ensures ∙ c.if-breaks.false in
    let sure = stands.sure c.in_default.is in
    stands_next s0 h _ _ _ stands c.perform-reply.ensures.geometry refl c.in_default.is (c.perform-reply.ensures.answers told sure)
    (c.perform-reply.ensures.sure told sure) (c.perform-reply.ensures.stack told sure) (c.in_default.is ∙ ap (λ (b : Bool). number_if b (c.args.self.now.calls + 1)) (sym fine)) c.count.ensures

pub returns-else-breaks-clause-stops : goal.returns-else-breaks-clause-stops
returns-else-breaks-clause-stops g c = λ session s0 h told stands tells left.
    keeps_next _ s0 h _ _ _ _ stands refl left c.in_default.is
    (λ was is hardened. c.perform-reply.ensures.stops was told (tells c.in_default.is) is hardened)

pub returns-in-Some-clause-room : goal.returns-in-Some-clause-room
returns-in-Some-clause-room g c = λ session s0 h room told stands keeps.
    room_still (g.D.Disk.has_room c.args.self.now.disk) (g.D.Disk.has_room c.args.self.now.disk) room s0 h _ _ _ stands refl keeps c.in-Some.at c.in-Some.is refl refl

pub returns-then-breaks-clause-room : goal.returns-then-breaks-clause-room
returns-then-breaks-clause-room g c = λ session s0 h room told stands keeps.
    let breaks : reply_breaks c.args.call c.perform-reply.result ≡ true = sym c.breaks.ensures ∙ c.if-breaks.true in
    let sure = stands.sure c.in_default.is in
    room_next (g.D.Disk.has_room c.args.self.now.disk) (g.D.Disk.has_room c.perform-reply.new.self) room s0 h _ _ _ stands c.perform-reply.ensures.geometry keeps c.in_default.is
    (ap (λ (b : Bool). number_if b (c.args.self.now.calls + 1)) (sym breaks))
    (λ room has. c.perform-reply.ensures.room room told sure has) (λ room has fine. c.perform-reply.ensures.room_on room told sure has fine)

pub returns-else-breaks-clause-room : goal.returns-else-breaks-clause-room
returns-else-breaks-clause-room g c = λ session s0 h room told stands keeps.
    let fine : reply_breaks c.args.call c.perform-reply.result ≡ false = sym c.breaks.ensures ∙ c.if-breaks.false in
    let sure = stands.sure c.in_default.is in
    room_next (g.D.Disk.has_room c.args.self.now.disk) (g.D.Disk.has_room c.perform-reply.new.self) room s0 h _ _ _ stands c.perform-reply.ensures.geometry keeps c.in_default.is
    (c.in_default.is ∙ ap (λ (b : Bool). number_if b (c.args.self.now.calls + 1)) (sym fine))
    (λ room has. c.perform-reply.ensures.room room told sure has) (λ room has fine. c.perform-reply.ensures.room_on room told sure has fine)

pub returns-in-Some-clause-closes : goal.returns-in-Some-clause-closes
returns-in-Some-clause-closes g c = λ session base h told tells was. record {
  since = λ whole. was.since whole;
  closed = λ closed. absurd (let e = closed in cc);
}

pub returns-then-breaks-clause-closes : goal.returns-then-breaks-clause-closes
returns-then-breaks-clause-closes g c = λ session base h told tells was. record {
  since = λ whole. absurd (let e = whole in cc);
  closed = (c.perform-reply.ensures.closes base told (tells c.in_default.is) (was.since c.in_default.is)).closed;
}

pub returns-else-breaks-clause-closes : goal.returns-else-breaks-clause-closes
returns-else-breaks-clause-closes g c = λ session base h told tells was.
    let fine : reply_breaks c.args.call c.perform-reply.result ≡ false = sym c.breaks.ensures ∙ c.if-breaks.false in
    let t = c.perform-reply.ensures.closes base told (tells c.in_default.is) (was.since c.in_default.is) in
    record { since = λ whole. t.again fine; closed = t.closed }
