use Rattle.store.proofs.Vocabulary.{FitIfAny}
use Rattle.store.proofs.StoreLemmas.{refused_held}
use Rattle.store.proofs.store.Store.load_for.Goals as goal

pub returns-in-Delegate-clause-schema : goal.returns-in-Delegate-clause-schema
returns-in-Delegate-clause-schema g c clean refused rows holds fit =
    refused_held g.S.Store c.self.view_is c.load_for_delegate.ensures.asked clean (λ all. ¬ FitIfAny (all.of_holder c.in-Delegate.holder)) (c.load_for_delegate.ensures.schema clean refused) rows holds (rw c.in-Delegate.is at fit).0

pub returns-in-Create-clause-schema : goal.returns-in-Create-clause-schema
returns-in-Create-clause-schema g c clean refused rows holds fit =
    refused_held g.S.Store c.self-in-Create.view_is c.load_for_create.ensures.asked clean (λ all. ¬ FitIfAny (all.of_holder c.in-Create.holder)) (c.load_for_create.ensures.schema clean refused) rows holds (rw c.in-Create.is at fit).0

pub returns-in-Amend-clause-schema : goal.returns-in-Amend-clause-schema
returns-in-Amend-clause-schema g c clean refused rows holds fit =
    refused_held g.S.Store c.self-in-Amend.view_is c.load_for_amend.ensures.asked clean (λ all. ¬ FitIfAny (all.of_holder c.in-Amend.holder)) (c.load_for_amend.ensures.schema clean refused) rows holds (rw c.in-Amend.is at fit).0
