use Rattle.desk.proofs.KeptLemmas.{day_read, kept_anew, none_read}
use Rattle.payload.proofs.Visits.{on-err}
use Rattle.desk.proofs.desk.Desk.keep_anew.Goals as goal

pub invariant_of-self : goal.invariant_of-self
invariant_of-self g c = rw c.take.ensures.after (none_read g.S.Store c.self.inside.store c.kept_on.new.store c.self.inside.kept c.self.invariant c.kept_on.ensures.read)

pub returns-in_err-kept-clause-err : goal.returns-in_err-kept-clause-err
returns-in_err-kept-clause-err g c = on-err c.from_residual.result _ c.take.ensures.after

pub invariant_of-self-2 : goal.invariant_of-self-2
invariant_of-self-2 g c =
    rw c.replace.ensures.after (kept_anew g.S.Store c.self.inside.store c.kept_on.new.store c.self.inside.kept c.in_ok-kept.kept c.self.invariant c.kept_on.ensures.read c.in_ok-kept.ensures.kept)

pub returns-clause-found : goal.returns-clause-found
returns-clause-found g c =
    rw (c.replace.ensures.after, ← c.self.view_is)
    (day_read g.S.Store c.self.inside.store c.kept_on.new.store c.in_ok-kept.kept c.in_ok-kept.ensures.kept)
