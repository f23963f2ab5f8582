use Rattle.std.proofs.Common.{◌≢◌, ◌-◌, ap, sym, ◌∙◌}
use Rattle.cckd_frames.specs.Nodes.{word, trail}
use Rattle.cckd_frames.specs.Placed.{number_of}
use Rattle.cckd_frames.specs.Table.{node_with}
use Rattle.cckd_frames.proofs.Trails.{node_with-skip}
use Rattle.cckd_frames.proofs.rings.search.Goals as goal

pub loop-left-preserved : goal.loop-left-preserved
loop-left-preserved c =
    let ws = c.args.nodes.now.words in let a = number_of c.args.nodes.now c.loop-left.node.ptr in
    let at = c.link-node.ensures.value in
    let ne : word ws 4 (word ws 2 a) ≢ c.args.key = λ e. c.if-key.false (c.key.ensures ∙ (ap (λ x. word ws 4 x) at ∙ e)) in record {
      node = c.link-node.ensures.node;
      rest = ap (λ x. node_with ws c.args.key (trail ws 2 x (c.loop-left.left - 1))) at ∙ (sym (node_with-skip ws c.args.key a c.loop-left.left c.loop-left-test.true ne) ∙ c.loop-left.invariant.rest);
    }
