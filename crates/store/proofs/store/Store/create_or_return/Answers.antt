use Rattle.store.proofs.Vocabulary.{ap, Schema}
use Rattle.store.proofs.StoreLemmas.{leaves_new}
use Rattle.store.proofs.store.Store.create_or_return.Goals as goal

pub invariant_of-result : goal.invariant_of-result
invariant_of-result g c = (c.in-Ok-make_tables.ensures.idle, λ clean opened. let new = c.in-Ok-make_tables.ensures.made clean in record { tables = ap (λ (s : Schema). s.tables) new.schema; settled = new.settled })

pub returns-in-Ok-make_tables-clause-left : goal.returns-in-Ok-make_tables-clause-left
returns-in-Ok-make_tables-clause-left g c clean = leaves_new g.S.Store _ c.make_tables.new.conn (λ trees. g.met.S.Store.settled c.make_tables.new.conn.store trees) (c.in-Ok-make_tables.ensures.made clean)
