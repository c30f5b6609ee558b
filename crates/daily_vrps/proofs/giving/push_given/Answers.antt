use Rattle.daily_vrps.proofs.GivenVrps.{auth_added}
use Rattle.daily_vrps.proofs.giving.push_given.Goals as goal

pub returns-in_ok-push_entries : goal.returns-in_ok-push_entries
returns-in_ok-push_entries c =
    auth_added c.args.vrps.now.items c.push_entries.new.vrps.items c.args.auth.now c.args.day
    (c.is_in_force.ensures.0 c.if-is_in_force.true) (rw c.as_slice.ensures.items at c.in_ok-push_entries.ensures)
