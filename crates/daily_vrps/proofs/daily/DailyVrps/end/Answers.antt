use Rattle.daily_vrps.proofs.Keeps.{left_alone}
use Rattle.daily_vrps.proofs.daily.DailyVrps.end.Goals as goal

pub returns-clause-left : goal.returns-clause-left
returns-clause-left c = left_alone c.args.self.now c.end_unless_given.new.self c.args.auth.now c.end_unless_given.ensures.left
