use Rattle.store.proofs.OpenedStore.{opened_store}
use Rattle.store.proofs.store.Store.open_or_return.Goals as goal

pub returns-in-Ok-clause-opened : goal.returns-in-Ok-clause-opened
returns-in-Ok-clause-opened g c clean =
    opened_store g.S.Store _ _ c.open_tables.new.conn (c.in-Ok.ensures.opened clean) c.operators-rising.ensures.valid c.schema-schema.ensures.live clean
    (λ trees. g.met.S.Store.settled c.open_tables.new.conn.store trees)
