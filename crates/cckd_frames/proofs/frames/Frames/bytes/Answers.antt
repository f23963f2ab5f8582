use Rattle.std.proofs.Common.{◌≡◌, ◌*◌, Option, IfSome, take, drop, sym, ap, ◌∙◌, subst, arith}
use Rattle.cckd_frames.specs.Frames.{Entry}
use Rattle.cckd_frames.proofs.Calls.{used_here, entry_here, in_count}
use Rattle.cckd_frames.proofs.Writes.{frame_inside}
use Rattle.cckd_frames.proofs.frames.Frames.bytes.Goals as goal

pub len_of-len-requires-clause-frame : goal.len_of-len-requires-clause-frame
len_of-len-requires-clause-frame c =
    let i = c.self.inside in in_count i.count i.frame_len i.used i.nodes.words i.bytes.bytes c.self.invariant.0 c.args.f.0 (used_here i.count i.frame_len i.used i.nodes.words i.bytes.bytes c.self.invariant.0 c.args.self.now c.self.view_is c.args.f.0 c.requires)

pub part-requires : goal.part-requires
part-requires c =
    let i = c.self.inside in let x = c.args.f.0 in
    let h = used_here i.count i.frame_len i.used i.nodes.words i.bytes.bytes c.self.invariant.0 c.args.self.now c.self.view_is x c.requires in
    let hx = in_count i.count i.frame_len i.used i.nodes.words i.bytes.bytes c.self.invariant.0 x h in
    let inside = frame_inside i.count i.frame_len i.used i.nodes.words i.bytes.bytes c.self.invariant.0 x h in let fits = c.self.invariant.0.fitting x hx in
    let len = c.len_of-len.ensures in omega arith

pub returns : goal.returns
returns c =
    let i = c.self.inside in let x = c.args.f.0 in
    let e = entry_here i.count i.frame_len i.used i.nodes.words i.bytes.bytes c.self.invariant.0 c.args.self.now c.self.view_is x (used_here i.count i.frame_len i.used i.nodes.words i.bytes.bytes c.self.invariant.0 c.args.self.now c.self.view_is x c.requires) in
    let len = c.len_of-len.ensures in
    subst (λ (o : Option Entry). IfSome o (λ e. c.part.result.now ≡ e.body)) (sym e)
    (c.part.ensures ∙ ap (λ n. take n (drop (x * i.frame_len) i.bytes.bytes)) len)
