use Rattle.addr.proofs.SpanLemmas.{covered_iff}
use Rattle.addr.proofs.holdings.Holdings.holds.Goals as goal

pub returns-clause-each : goal.returns-clause-each
returns-clause-each c = rw (c.is_covered.ensures, c.deref.ensures.value, c.self.view_is) (covered_iff c.args.self.now c.args.prefix.now (rw (← c.self.view_is) c.self.invariant))
