use Rattle.store_read.proofs.Vocabulary.{Some, Option, None, ◌∙◌, ap, IfSome, auth_of_number, refused_by}
use Rattle.store_read.proofs.InTurn.{earlier, later, unfit_later}
use Rattle.store_read.proofs.answers.load_for_amend.Goals as goal

pub returns-in_err-part-clause-schema : goal.returns-in_err-part-clause-schema
returns-in_err-part-clause-schema g c clean is = c.load_numbered.ensures.schema clean (refused_by _ _ _ c.in_err-part.was c.from_residual.ensures.1 is)

pub returns-in_err-gives-clause-schema : goal.returns-in_err-gives-clause-schema
returns-in_err-gives-clause-schema g c clean is =
    unfit_later g.S.Store c.in_ok-part.ensures.asked (earlier g.S.Store c.load_shared.ensures.asked clean)
    (c.load_shared.ensures.schema clean (refused_by _ _ _ c.in_err-gives.was c.from_residual-in_err-gives.ensures.1 is))

weaker : {X : Type 0} (P Q : X → Type 0) → ((x : X) → P x → Q x) → (o : Option X) → IfSome o P → IfSome o Q
weaker P Q so None p = p
weaker P Q so (Some x) p = so x p

pub returns-clause-found : goal.returns-clause-found
returns-clause-found g c clean charter all holds =
    let before = earlier g.S.Store c.load_shared.ensures.asked clean in
    let found = c.auth_of_number-found.ensures ∙ ap (auth_of_number c.args.number) c.deref.ensures.value in
    record {
      numbered = c.in_ok-part.ensures.found before charter all holds;
      shared = weaker _ _ (λ x given fits. given fits charter all (later g.S.Store c.in_ok-part.ensures.asked before charter all holds)) (auth_of_number c.args.number c.in_ok-part.part.auths.items) (rw found at c.in_ok-gives.ensures.found clean);
    }
