use Rattle.std.proofs.Common.{rules}
use Rattle.requests.proofs.PartsLemmas.{mapped-second}
use Rattle.requests.proofs.request.asked_with.Goals as goal

pub returns-in_err-day : goal.returns-in_err-day
returns-in_err-day c = rw (mapped-second, mapped-second, ← c.both.ensures, ← c.both-2.ensures) (search rules)
