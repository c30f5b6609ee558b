use Rattle.daily_vrps.proofs.Follows.{auth_left}
use Rattle.daily_vrps.proofs.daily.DailyVrps.end_unless_given.Goals as goal

pub returns-then-is_in_force-clause-left : goal.returns-then-is_in_force-clause-left
returns-then-is_in_force-clause-left c =
    auth_left c.args.self.now c.end_entries.new.self c.args.auth.now c.args.begun.now
    (rw (← c.self.view_is) (c.is_in_force.ensures.0 c.if-is_in_force.true)) (rw c.as_slice.ensures.items at c.end_entries.ensures.left)
