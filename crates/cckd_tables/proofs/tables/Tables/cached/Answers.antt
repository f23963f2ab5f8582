use Rattle.std.proofs.Common.{◌↔◌, Bool, sym, subst, IsTrue}
use Rattle.cckd_frames.specs.declared.frames.Frame.{Frame}
use Rattle.cckd_tables.specs.Tables.{TableView}
use Rattle.cckd_tables.specs.Cached.{IsCached, tables_in}
use Rattle.cckd_tables.proofs.CacheLemmas.{cached_tells}
use Rattle.cckd_tables.proofs.tables.Tables.cached.Goals as goal

pub returns : goal.returns
returns c =
    let told = cached_tells (λ (f : Frame). f.0) c.peek.result c.self.inside.cache c.args.group c.peek.ensures.found in
    let mine = subst (λ (b : Bool). IsTrue b ↔ IsCached c.args.group (tables_in c.self.inside.cache.entries)) (sym c.is_some.ensures) told in
    subst (λ (v : TableView). IsTrue c.is_some.result ↔ IsCached c.args.group v.cached) c.self.view_is mine
