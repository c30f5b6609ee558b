use Rattle.store_schema.proofs.Vocabulary.{arith, on_ok_weaker, claim, entry, CREATE_CLAIM, CREATE_ENTRY, schema_so_far, stays_then}
use Rattle.store_schema.proofs.MakingSteps.{makes_table, makes_claim_tables}
use Rattle.store_schema.proofs.Creates.{claim_defined, entry_defined}
use Rattle.store_schema.proofs.make.make_claim_tables.Goals as goal

pub returns-clause-made : goal.returns-clause-made
returns-clause-made g c clean =
    let before_2 = c.execute-2.ensures.inside.survives.clean in
    let start = c.requires (omega (arith, c.execute.ensures.inside.survives.clean, before_2)) in
    let ran = c.in_ok-execute.ensures.ran (omega (arith, before_2)) in
    let made = makes_table CREATE_CLAIM.now claim (schema_so_far 8) (schema_so_far 9) claim_defined _ _ (start.schema ran.1.1.was_open) ran in
    on_ok_weaker c.execute-2.result (λ then. makes_claim_tables _ _ _ made (makes_table CREATE_ENTRY.now entry (schema_so_far 9) (schema_so_far 10) entry_defined _ _ made.redefines.schema then)) (c.execute-2.ensures.ran clean)

pub returns-clause-inside : goal.returns-clause-inside
returns-clause-inside g c = stays_then g.S.Store _ _ _ c.execute.ensures.inside c.execute-2.ensures.inside
