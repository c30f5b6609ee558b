use Rattle.daily_vrps.proofs.Follows.{auth_joined, in_force_gives}
use Rattle.daily_vrps.proofs.Vocabulary.{on-err}
use Rattle.daily_vrps.proofs.daily.DailyVrps.begin.Goals as goal

pub returns-in_ok-begin_entries-clause-ok : goal.returns-in_ok-begin_entries-clause-ok
returns-in_ok-begin_entries-clause-ok c =
    auth_joined c.args.self.now c.begin_entries.new.self c.args.auth.now (rw (← c.self.view_is) (c.is_in_force.ensures.0 c.if-is_in_force.true))
    (rw c.as_slice.ensures.items at c.in_ok-begin_entries.ensures.ok)

pub returns-in_err-begin_entries-clause-err : goal.returns-in_err-begin_entries-clause-err
returns-in_err-begin_entries-clause-err c =
    let some = rw c.as_slice.ensures.items at c.in_err-begin_entries.ensures.err in
    on-err c.from_residual.result _ (
      some.0,
      ((in_force_gives c.args.auth.now c.args.self.now.day (rw (← c.self.view_is) (c.is_in_force.ensures.0 c.if-is_in_force.true)) some.0).0 some.1.0, some.1.1, some.1.2),
    )
