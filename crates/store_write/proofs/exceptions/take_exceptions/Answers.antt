use Rattle.store_write.proofs.Vocabulary.{[], refl}
use Rattle.store_write.proofs.ExceptionSteps.{takes_exceptions}
use Rattle.store_write.proofs.exceptions.take_exceptions.Goals as goal

pub returns-clause-done : goal.returns-clause-done
returns-clause-done g c = takes_exceptions _ _ _ g.S.Store c.execute.result [] _ _ refl c.requires c.execute.ensures.inside c.execute.ensures.ran
