use Rattle.std.proofs.Common.{◌≡◌, ◌*◌, List, Option, IfSome, take, drop, refl, sym, ap, ◌∙◌, subst, arith}
use Rattle.cckd_frames.specs.Frames.{Entry, Kept, with_entries, with_writes}
use Rattle.cckd_frames.specs.Store.{over}
use Rattle.cckd_frames.proofs.CallerLemmas.{used_written, kept_written}
use Rattle.cckd_frames.proofs.Calls.{seen, used_here, entry_here, in_count, kept_here}
use Rattle.cckd_frames.proofs.Writes.{frame_inside, entries_written}
use Rattle.cckd_frames.proofs.frames.Frames.bytes_mut.Goals as goal

pub len_of-len-requires-clause-frame : goal.len_of-len-requires-clause-frame
len_of-len-requires-clause-frame c =
    let i = c.self.inside in in_count i.count i.frame_len i.used i.nodes.words i.bytes.bytes c.self.invariant.0 c.args.f.0 (used_here i.count i.frame_len i.used i.nodes.words i.bytes.bytes c.self.invariant.0 c.args.self.now c.self.view_is c.args.f.0 c.requires)

pub part_mut-requires : goal.part_mut-requires
part_mut-requires c =
    let i = c.self.inside in let x = c.args.f.0 in
    let h = used_here i.count i.frame_len i.used i.nodes.words i.bytes.bytes c.self.invariant.0 c.args.self.now c.self.view_is x c.requires in
    let hx = in_count i.count i.frame_len i.used i.nodes.words i.bytes.bytes c.self.invariant.0 x h in
    let inside = frame_inside i.count i.frame_len i.used i.nodes.words i.bytes.bytes c.self.invariant.0 x h in let fits = c.self.invariant.0.fitting x hx in
    let len = c.len_of-len.ensures in omega arith

pub returns : goal.returns
returns c =
    let i = c.self.inside in let x = c.args.f.0 in
    let h = used_here i.count i.frame_len i.used i.nodes.words i.bytes.bytes c.self.invariant.0 c.args.self.now c.self.view_is x c.requires in
    let e = entry_here i.count i.frame_len i.used i.nodes.words i.bytes.bytes c.self.invariant.0 c.args.self.now c.self.view_is x h in
    let len = c.len_of-len.ensures in (
      (
        refl,
        λ w. subst (λ (k : Kept). seen i.count i.frame_len i.used i.nodes.words (over (x * i.frame_len) c.len_of-len.result i.bytes.bytes w) ≡ with_entries k (with_writes x w k.entries)) c.self.view_is
            (ap (λ n. seen i.count i.frame_len i.used i.nodes.words (over (x * i.frame_len) n i.bytes.bytes w)) len
            ∙ ap (λ (es : List Entry). with_entries (seen i.count i.frame_len i.used i.nodes.words i.bytes.bytes) es) (entries_written i.count i.frame_len i.used i.nodes.words i.bytes.bytes c.self.invariant.0 x w h)),
      ),
      record {
        writes_back = tt;
        value = subst (λ (o : Option Entry). IfSome o (λ e. c.part_mut.result.now ≡ e.body)) (sym e)
            (c.part_mut.ensures.value ∙ ap (λ n. take n (drop (x * i.frame_len) i.bytes.bytes)) len);
        used = λ w. used_written x w x c.args.self.now.entries c.requires;
        kept = λ w. kept_written x w c.args.self.now (kept_here i.count i.frame_len i.used i.nodes.words i.bytes.bytes c.self.invariant.0 c.args.self.now c.self.view_is);
      },
    )
