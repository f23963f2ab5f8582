use Rattle.cckd_stack.specs.Layers.{base, empty_layer}
use Rattle.std.proofs.Common.{◌≡◌, Bool, true, false, not, refl, sym, ◌∙◌, ap, [], ◌∷◌}
use Rattle.cckd_shelf.specs.Seen.{Seen, seen}
use Rattle.cckd_script.specs.Text.{answered_bytes, reply_line}
use Rattle.cckd_engine.specs.Calls.{asks, answer_in}
use Rattle.cckd_engine.specs.Engine.{entry_of}
use Rattle.cckd_engine.proofs.ClosingLemmas.{tells_since_puts}
use Rattle.cckd_engine.proofs.FrameLemmas.{spares_and_puts}
use Rattle.cckd_engine.proofs.ServeLemmas.{stands_at_puts, room_at_puts, files_at_puts_of, serves_line, tells_at_puts, front_put, whole_put}
use Rattle.cckd_engine.proofs.engine.Engine.serve.Goals as goal

pub returns-clause-stands : goal.returns-clause-stands
returns-clause-stands g c = λ s0 h told stands.
    stands_at_puts c.args.who (asks c.args.call c.args.input.now) (answer_in c.step-reply.result c.step-reply.new.out) s0 h
    (reply_line c.args.call c.step-reply.result (answered_bytes c.step-reply.result c.step-reply.new.out))
    (g.T.Shows.world c.step-reply.new.self.stage) (g.T.Shows.world c.put_line-self.new.stage) (c.put_line-self.ensures.front told)
    (g.D.Disk.geometry c.step-reply.new.self.disk) (g.D.Disk.stack c.step-reply.new.self.disk) c.step-reply.new.self.calls
    c.step-reply.new.self.broken c.step-reply.new.self.tally (g.met.D.Disk.stack_at_put c.step-reply.new.self.disk)
    (c.step-reply.ensures.stands c.args.who s0 h told stands)

pub returns-clause-stops : goal.returns-clause-stops
returns-clause-stops g c = λ s0 h told stands tells left.
    serves_line c.args.who (asks c.args.call c.args.input.now) (answer_in c.step-reply.result c.step-reply.new.out) s0 h
    (reply_line c.args.call c.step-reply.result (answered_bytes c.step-reply.result c.step-reply.new.out))
    (g.T.Shows.world c.args.self.now.stage) (g.T.Shows.world c.step-reply.new.self.stage) (g.T.Shows.world c.put_line-self.new.stage)
    (c.put_line-self.ensures.front told) (g.D.Disk.geometry c.args.self.now.disk) c.step-reply.new.self.mute
    (c.step-reply.ensures.stops c.args.who s0 h told stands tells left) (c.step-reply.ensures.run told).output c.put_line-self.ensures.one
    (λ cut. ap (λ (s : Seen). s.world) (c.put_line-self.ensures.still cut).1)

pub returns-clause-runs : goal.returns-clause-runs
returns-clause-runs g c =
    λ none.
    g.met.D.Disk.tied_at_puts c.step-reply.new.self.disk
    (reply_line c.args.call c.step-reply.result (answered_bytes c.step-reply.result c.step-reply.new.out))
    (seen g.T.Shows c.step-reply.new.self.stage) (seen g.T.Shows c.put_line-self.new.stage) refl c.put_line-self.ensures.front (c.step-reply.ensures.runs none)

not_true : (b : Bool) → not b ≡ true → b ≡ false
not_true true e = sym e
not_true false e = refl

pub returns-clause-said : goal.returns-clause-said
returns-clause-said g c = λ told printed.
    whole_put _ _ _ _ (c.step-reply.ensures.run told).output (c.put_line-self.ensures.whole (not_true c.put_line-self.result printed) told)

pub returns-clause-front : goal.returns-clause-front
returns-clause-front g c = λ told. front_put _ _ _ _ (c.step-reply.ensures.run told).output (c.put_line-self.ensures.front told)

pub returns-clause-agrees : goal.returns-clause-agrees
returns-clause-agrees g c = λ told tells.
    tells_at_puts (g.D.Disk.agrees c.step-reply.new.self.disk) c.step-reply.new.self.broken
    (reply_line c.args.call c.step-reply.result (answered_bytes c.step-reply.result c.step-reply.new.out))
    (g.T.Shows.world c.step-reply.new.self.stage) (g.T.Shows.world c.put_line-self.new.stage)
    (g.met.D.Disk.agrees_at_put c.step-reply.new.self.disk) (c.put_line-self.ensures.front told) (c.step-reply.ensures.agrees told tells)

pub returns-clause-script : goal.returns-clause-script
returns-clause-script g c = λ told. (c.put_line-self.ensures.front told).put.script ∙ (c.step-reply.ensures.run told).script

pub returns-clause-one : goal.returns-clause-one
returns-clause-one g c = λ heard. c.put_line-self.ensures.one (c.step-reply.ensures.mute ∙ heard)

pub returns-clause-spares : goal.returns-clause-spares
returns-clause-spares g c =
    spares_and_puts (g.D.Disk.spares c.args.self.now.disk) (g.D.Disk.spares c.step-reply.new.self.disk)
    (reply_line c.args.call c.step-reply.result (answered_bytes c.step-reply.result c.step-reply.new.out))
    (seen g.T.Shows c.args.self.now.stage) (seen g.T.Shows c.step-reply.new.self.stage) (seen g.T.Shows c.put_line-self.new.stage) (λ told. told)
    c.step-reply.ensures.spares c.put_line-self.ensures.front

pub returns-clause-room : goal.returns-clause-room
returns-clause-room g c = λ s0 h room told stands keeps.
    room_at_puts c.args.who (asks c.args.call c.args.input.now) (answer_in c.step-reply.result c.step-reply.new.out) s0 h
    (reply_line c.args.call c.step-reply.result (answered_bytes c.step-reply.result c.step-reply.new.out))
    (g.T.Shows.world c.step-reply.new.self.stage) (g.T.Shows.world c.put_line-self.new.stage) (c.put_line-self.ensures.front told)
    (g.D.Disk.has_room c.step-reply.new.self.disk) room
    (g.D.Disk.geometry c.step-reply.new.self.disk) (g.D.Disk.stack c.step-reply.new.self.disk) c.step-reply.new.self.calls
    c.step-reply.new.self.broken c.step-reply.new.self.tally
    (c.step-reply.ensures.room c.args.who s0 h room told stands keeps)

pub returns-clause-files : goal.returns-clause-files
returns-clause-files g c = λ told.
    let moved = ((c.step-reply.ensures.spares).leaves told).others in
    files_at_puts_of c.args.who (asks c.args.call c.args.input.now) (answer_in c.step-reply.result c.step-reply.new.out) (base empty_layer) []
    (reply_line c.args.call c.step-reply.result (answered_bytes c.step-reply.result c.step-reply.new.out))
    (g.T.Shows.world c.step-reply.new.self.stage) (g.T.Shows.world c.put_line-self.new.stage) (c.put_line-self.ensures.front told)
    (g.T.Shows.world c.args.self.now.stage) (record { newer = moved.newer; grown = moved.grown }) (c.step-reply.ensures.run told).output

pub returns-clause-closes : goal.returns-clause-closes
returns-clause-closes g c = λ base h told tells was.
    let r = asks c.args.call c.args.input.now in
    let said = answer_in c.step-reply.result c.step-reply.new.out in
    let mid = g.T.Shows.world c.step-reply.new.self.stage in
    let new = g.T.Shows.world c.put_line-self.new.stage in
    tells_since_puts (g.D.Disk.marks c.step-reply.new.self.disk) c.step-reply.new.self.broken base (entry_of c.args.who r said mid.events ∷ h) (entry_of c.args.who r said new.events ∷ h)
    (reply_line c.args.call c.step-reply.result (answered_bytes c.step-reply.result c.step-reply.new.out)) mid new
    (g.met.D.Disk.marks_at_put c.step-reply.new.self.disk) (c.put_line-self.ensures.front told) (λ closed. closed) (c.step-reply.ensures.closes c.args.who base h told tells was)
