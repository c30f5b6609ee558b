use Rattle.std.proofs.Common.{rules}
use Rattle.requests.proofs.PartsLemmas.{mapped-first, mapped-second}
use Rattle.requests.proofs.request.lists.what_if_in.Goals as goal

pub returns : goal.returns
returns c =
    rw (
      ← c.in_ok-changes.ensures,
      ← c.in_ok-routes.ensures,
      mapped-second,
      mapped-first,
      mapped-second,
      mapped-second,
      ← c.both.ensures,
      ← c.both-parts.ensures,
    ) (search rules)
