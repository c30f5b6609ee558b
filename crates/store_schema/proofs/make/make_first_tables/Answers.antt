use Rattle.store_schema.proofs.Vocabulary.{arith, refl, on_ok_weaker, meta, operator, pool, holder, CREATE_HOLDER, CREATE_META, CREATE_OPERATOR, CREATE_POOL, stays_then}
use Rattle.store_schema.proofs.MakingSteps.{makes}
use Rattle.store_schema.proofs.Creates.{meta_defined, operator_defined, pool_defined, holder_defined}
use Rattle.store_schema.proofs.make.make_first_tables.Goals as goal

pub returns-in_err-execute-2-clause-inside : goal.returns-in_err-execute-2-clause-inside
returns-in_err-execute-2-clause-inside g c = stays_then g.S.Store _ _ _ c.execute.ensures.inside c.execute-2.ensures.inside

pub returns-in_err-execute-3-clause-inside : goal.returns-in_err-execute-3-clause-inside
returns-in_err-execute-3-clause-inside g c = stays_then g.S.Store _ _ _ (stays_then g.S.Store _ _ _ c.execute.ensures.inside c.execute-2.ensures.inside) c.execute-3.ensures.inside

pub returns-clause-made : goal.returns-clause-made
returns-clause-made g c clean =
    let before_4 = c.execute-4.ensures.inside.survives.clean in
    let before_3 = c.execute-3.ensures.inside.survives.clean in
    let before_2 = c.execute-2.ensures.inside.survives.clean in
    let start = c.requires (omega (arith, c.execute.ensures.inside.survives.clean, before_2, before_3, before_4)) in
    let made_1 = makes 0 CREATE_META.now meta meta_defined refl _ _ start (c.in_ok-execute.ensures.ran (omega (arith, before_2, before_3, before_4))) in
    let made_2 = makes 1 CREATE_OPERATOR.now operator operator_defined refl _ _ made_1 (c.in_ok-execute-2.ensures.ran (omega (arith, before_3, before_4))) in
    let made_3 = makes 2 CREATE_POOL.now pool pool_defined refl _ _ made_2 (c.in_ok-execute-3.ensures.ran (omega (arith, before_4))) in
    on_ok_weaker c.execute-4.result (makes 3 CREATE_HOLDER.now holder holder_defined refl _ _ made_3) (c.execute-4.ensures.ran clean)

pub returns-clause-inside : goal.returns-clause-inside
returns-clause-inside g c =
    stays_then g.S.Store _ _ _ (stays_then g.S.Store _ _ _ (stays_then g.S.Store _ _ _ c.execute.ensures.inside c.execute-2.ensures.inside) c.execute-3.ensures.inside) c.execute-4.ensures.inside
