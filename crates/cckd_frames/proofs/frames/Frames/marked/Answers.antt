use Rattle.std.proofs.Common.{◌≡◌, Option, IfSome, sym, subst}
use Rattle.cckd_frames.specs.Frames.{Entry}
use Rattle.cckd_frames.proofs.Calls.{used_here, entry_here, in_count}
use Rattle.cckd_frames.proofs.frames.Frames.marked.Goals as goal

pub mark_at-requires-clause-frame : goal.mark_at-requires-clause-frame
mark_at-requires-clause-frame c =
    let i = c.self.inside in in_count i.count i.frame_len i.used i.nodes.words i.bytes.bytes c.self.invariant.0 c.args.f.0 (used_here i.count i.frame_len i.used i.nodes.words i.bytes.bytes c.self.invariant.0 c.args.self.now c.self.view_is c.args.f.0 c.requires)

pub returns : goal.returns
returns c =
    let i = c.self.inside in let x = c.args.f.0 in
    let e = entry_here i.count i.frame_len i.used i.nodes.words i.bytes.bytes c.self.invariant.0 c.args.self.now c.self.view_is x (used_here i.count i.frame_len i.used i.nodes.words i.bytes.bytes c.self.invariant.0 c.args.self.now c.self.view_is x c.requires) in
    subst (λ (o : Option Entry). IfSome o (λ e. c.mark_at.result ≡ e.mark)) (sym e)
    c.mark_at.ensures
