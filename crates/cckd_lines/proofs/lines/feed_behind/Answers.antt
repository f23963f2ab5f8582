use Rattle.std.proofs.Common.{◌≡◌, ℕ, ◌-◌, List, Option, MatchOption, length, take, drop, position, length-drop, subst}
use Rattle.std.proofs.Math.Seq.{take-length}
use Rattle.cckd_script.specs.Lines.{HasNoFeed}
use Rattle.cckd_lines.specs.Lines.{is_feed, IsFirstFeed}
use Rattle.cckd_lines.proofs.FeedLemmas.{feed_found, no_feed_behind, feed_behind}
use Rattle.cckd_lines.proofs.lines.feed_behind.Goals as goal

-- what is searched is all behind the front
searched : (text : List ℕ) (seen : ℕ) (found : Option ℕ) → found ≡ position is_feed (take (length text - seen) (drop seen text))
    → found ≡ position is_feed (drop seen text)
searched text seen found e =
    let all : take (length text - seen) (drop seen text) ≡ drop seen text =
    let n = length-drop seen text in rw (← n) (take-length (drop seen text)) in
    subst (λ (t : List ℕ). found ≡ position is_feed t) all e

pub returns-in-Some : goal.returns-in-Some
returns-in-Some c =
    let text = c.args.text.now in
    let rest = drop c.args.seen text in
    feed_behind text c.args.seen c.in-Some.at c.requires.within c.requires.searched
    (subst (λ (o : Option ℕ). MatchOption o (HasNoFeed rest) (IsFirstFeed rest)) c.in-Some.is
    (feed_found rest c.first_feed.result (searched text c.args.seen c.first_feed.result c.first_feed.ensures)))

pub returns-in-None : goal.returns-in-None
returns-in-None c =
    let text = c.args.text.now in
    let rest = drop c.args.seen text in
    no_feed_behind text c.args.seen c.requires.searched
    (subst (λ (o : Option ℕ). MatchOption o (HasNoFeed rest) (IsFirstFeed rest)) c.in-None.is
    (feed_found rest c.first_feed.result (searched text c.args.seen c.first_feed.result c.first_feed.ensures)))
