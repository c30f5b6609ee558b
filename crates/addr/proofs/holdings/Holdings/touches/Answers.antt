use Rattle.addr.proofs.SpanLemmas.{met_iff}
use Rattle.addr.proofs.holdings.Holdings.touches.Goals as goal

pub returns-clause-some : goal.returns-clause-some
returns-clause-some c = rw (c.is_met.ensures, c.deref.ensures.value, c.self.view_is) (met_iff c.args.self.now c.args.prefix.now)
