use Rattle.daily_vrps.proofs.Vocabulary.{begun, ended, on-err}
use Rattle.daily_vrps.proofs.Follows.{followed}
use Rattle.daily_vrps.proofs.daily.DailyVrps.follow.Goals as goal

pub returns-clause-ok : goal.returns-clause-ok
returns-clause-ok c =
    followed c.args.self.now c.begin_all.new.self c.end_all.new.self (ended c.args.edit.now c.args.auths.now) (begun c.args.edit.now c.args.auths.now)
    c.begin_all.ensures.same (rw c.begun-begun.ensures at c.in_ok-begin_all.ensures.ok) (rw c.begun-begun.ensures at c.end_all.ensures.left)

pub returns-in_err-begin_all-clause-err : goal.returns-in_err-begin_all-clause-err
returns-in_err-begin_all-clause-err c = on-err c.from_residual.result _ (rw c.begun-begun.ensures at c.in_err-begin_all.ensures.err)
