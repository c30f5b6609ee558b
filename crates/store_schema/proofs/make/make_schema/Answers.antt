use Rattle.store_schema.proofs.Vocabulary.{stays_then}
use Rattle.store_schema.proofs.make.make_schema.Goals as goal

pub returns-in_err-make_other_tables-clause-inside : goal.returns-in_err-make_other_tables-clause-inside
returns-in_err-make_other_tables-clause-inside g c = stays_then g.S.Store _ _ _ c.make_first_tables.ensures.inside c.make_other_tables.ensures.inside

pub returns-clause-inside : goal.returns-clause-inside
returns-clause-inside g c =
    stays_then g.S.Store _ _ _ (stays_then g.S.Store _ _ _ c.make_first_tables.ensures.inside c.make_other_tables.ensures.inside) c.make_last_tables.ensures.inside
