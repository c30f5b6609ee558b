use Rattle.store_open.proofs.Vocabulary.{[], sym, subst, true, JoinsRows}
use Rattle.store_open.proofs.Joining.{joins_none}
use Rattle.store_open.proofs.join.Joined.start.Goals as goal

pub returns-clause-joins : goal.returns-clause-joins
returns-clause-joins c all keyed = subst (λ l. JoinsRows all [] 0 l true) (sym c.new.ensures.items) (joins_none all)
