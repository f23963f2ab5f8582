use Rattle.std.proofs.Common.{◌≡◌, ◌*◌, ◌<◌, length, get_or, slice_index, sym, ◌∙◌, arith}
use Rattle.std.proofs.lemmas.List.{get_or-map}
use Rattle.cckd_shelf.specs.Seen.{seen, Tells}
use Rattle.cckd_tables.specs.declared.staged.StagedWord.{StagedWord}
use Rattle.cckd_tables.specs.Staging.{Stages}
use Rattle.cckd_tables.specs.Commit.{staged_groups}
use Rattle.cckd_tables.proofs.MakingLemmas.{made_more}
use Rattle.cckd_tables.proofs.making.Making.make.Goals as goal

pub loop-word-preserved : goal.loop-word-preserved
loop-word-preserved g c =
    let d : StagedWord = record { group = 0; pos = 0 } in
    let words = c.args.moved.now in
    let i = c.loop-word.word-index in
    let l = c.args.self.now.layout.now in
    let stages : Stages = record { entries = c.args.self.now.entries.now; words = words } in
    let first = seen g.T.Shows c.args.stage.now in
    let now = seen g.T.Shows c.loop-word.stage in
    let before = c.loop-word.invariant in
    let within : i < length words = c.loop-word-test.true in
    let own : (get_or words i d).group ≡ slice_index (staged_groups words) i = sym (get_or-map (λ (w : StagedWord). w.group) words i d 0 within) in
    let count : length c.loop-word.tables.items ≡ 2048 * i = (let n = before.len in omega (arith, c.loop-word.tables.ok.0)) in
    let looks = c.in_ok-add.ensures.looks in
    record {
      made = made_more l stages i (get_or words i d).group c.args.slot c.loop-word.tables.items c.add.new.tables.items first now before.made count
          (λ (told : Tells first). told) before.looked.kept c.in_ok-add.ensures.added own;
      len = (let n = before.len in let m = c.in_ok-add.ensures.len in omega arith);
      capacity = (let n = before.capacity in let m = c.add.ensures.capacity in omega arith);
      looked = record { kept = λ told. looks.kept told ∙ before.looked.kept told; faults = looks.counts ∙ before.looked.faults };
      calls = (let n = before.calls in let m = c.add.ensures.called.once in omega arith);
    }
