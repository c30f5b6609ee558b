use Rattle.std.proofs.Common.{rules}
use Rattle.requests.proofs.PartsLemmas.{mapped-second}
use Rattle.requests.proofs.request.commands.amend_in.Goals as goal

pub returns : goal.returns
returns c =
    rw (
      ← c.in_ok-maxes.ensures,
      ← c.day_in.ensures,
      mapped-second,
      mapped-second,
      ← c.both.ensures,
      ← c.both-authorization.ensures,
      ← c.both-parts.ensures,
    ) (search rules)
