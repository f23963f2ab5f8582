use Rattle.cckd_shelf.specs.World.{file_of}
use Rattle.cckd_layer.proofs.StandLemmas.{stands_sits}
use Rattle.cckd_layer.proofs.CommitLemmas.{can_commit}
use Rattle.cckd_layer.proofs.CommittedLemmas.{commit_keeps, stands_committed, committed_holds}
use Rattle.cckd_layer.proofs.laws.commits_stand.Goals as goal

pub returns : goal.returns
returns c = record {
  can = λ v slot w rising h. can_commit v.layout v.stages v.claims v.plan (file_of w slot) rising.groups (stands_sits v slot w h) h.now;
  keeps = commit_keeps;
  stands = stands_committed;
  holds = committed_holds;
}
