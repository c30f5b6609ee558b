use Rattle.desk.proofs.Vocabulary.{sym, ◌∙◌}
use Rattle.desk.proofs.FollowLemmas.{followed}
use Rattle.desk.proofs.desk.following.follow.Goals as goal

pub returns-then-follow_change-clause-follows : goal.returns-then-follow_change-clause-follows
returns-then-follow_change-clause-follows c apart =
    let decided = c.args.decided.now in
    rw (sym c.take.ensures.value ∙ c.in-Some.is, c.replace.ensures.after)
    (followed decided.change decided.first decided.second c.in-Some.day c.follow_change.new.kept apart (c.follow_change.ensures.yes c.if-follow_change.true))
