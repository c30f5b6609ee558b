use Rattle.desk.proofs.FollowLemmas.{follows_none, follows_some}
use Rattle.desk.proofs.desk.following.follow_edit.Goals as goal

pub returns-in-Some-clause-ok : goal.returns-in-Some-clause-ok
returns-in-Some-clause-ok c =
    rw c.in-Some.is (follows_some c.follow.result c.args.edit.now c.in-Some.auths.now c.deref.result.now c.args.kept.now c.follow.new.self
    c.deref.ensures.value c.follow.ensures.same c.follow.ensures.ok)

pub returns-in-None-clause-ok : goal.returns-in-None-clause-ok
returns-in-None-clause-ok c = rw c.in-None.is (follows_none c.args.edit.now c.args.kept.now)

pub returns-in-Some-clause-err : goal.returns-in-Some-clause-err
returns-in-Some-clause-err c =
    rw (c.in-Some.is, ← c.deref.ensures.value) c.follow.ensures.err
