use Rattle.store_read.proofs.Vocabulary.{option_copied, subst, AreCounted}
use Rattle.store_read.proofs.GivenAuths.{created_shown, none_created}
use Rattle.store_read.proofs.answers.created_of.Goals as goal

pub returns-in-Some : goal.returns-in-Some
returns-in-Some c held are = created_shown held c.in-Some.rows.now (subst (λ rows. AreCounted held (option_copied rows)) c.in-Some.is are)

pub returns-in-None : goal.returns-in-None
returns-in-None c held are = none_created held (subst (λ rows. AreCounted held (option_copied rows)) c.in-None.is are)
