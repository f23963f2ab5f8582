use Rattle.std.proofs.Common.{sym, ap, ◌∙◌}
use Rattle.cckd_frames.specs.Frames.{Kept, frame_of}
use Rattle.cckd_frames.proofs.Calls.{found_at, none_at, seen_frame, seen_none}
use Rattle.cckd_frames.proofs.States.{peeked}
use Rattle.cckd_frames.proofs.frames.Frames.peek.Goals as goal

pub returns-in-Some-clause-found : goal.returns-in-Some-clause-found
returns-in-Some-clause-found c =
    let i = c.self.inside in
    let at = sym c.frame_with.ensures ∙ c.in-Some.is in
    sym at ∙ (peeked i.count i.frame_len i.used i.nodes.words i.bytes.bytes c.self.invariant.0 c.args.key ∙ ap (λ (k : Kept). frame_of c.args.key k.entries) c.self.view_is)

pub returns-in-None-clause-found : goal.returns-in-None-clause-found
returns-in-None-clause-found c =
    let i = c.self.inside in
    let at = sym c.frame_with.ensures ∙ c.in-None.is in
    sym at ∙ (peeked i.count i.frame_len i.used i.nodes.words i.bytes.bytes c.self.invariant.0 c.args.key ∙ ap (λ (k : Kept). frame_of c.args.key k.entries) c.self.view_is)

pub returns-in-Some-clause-used : goal.returns-in-Some-clause-used
returns-in-Some-clause-used c =
    let i = c.self.inside in let x = c.in-Some.frame in
    let at = sym c.frame_with.ensures ∙ c.in-Some.is in
    seen_frame i.count i.frame_len i.used i.nodes.words i.bytes.bytes c.self.invariant.0 c.args.self.now c.self.view_is x (found_at i.count i.frame_len i.used i.nodes.words i.bytes.bytes c.self.invariant.0 c.args.key x at).0

pub returns-in-None-clause-absent : goal.returns-in-None-clause-absent
returns-in-None-clause-absent c =
    let i = c.self.inside in
    let at = sym c.frame_with.ensures ∙ c.in-None.is in
    λ _. seen_none i.count i.frame_len i.used i.nodes.words i.bytes.bytes c.self.invariant.0 c.args.self.now c.self.view_is c.args.key (none_at i.count i.frame_len i.used i.nodes.words i.bytes.bytes c.self.invariant.0 c.args.key at)
