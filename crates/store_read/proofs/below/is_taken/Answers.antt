use Rattle.store_read.proofs.Vocabulary.{Some, None, subst, false≢true, IsRowBelow}
use Rattle.store_read.proofs.RunsApart.{met_by_last, none_met}
use Rattle.store_read.proofs.below.is_taken.Goals as goal

pub returns-in-Some-clause-found : goal.returns-in-Some-clause-found
returns-in-Some-clause-found g c clean charter rows holds apart =
    let p = c.args.prefix.now in
    let found = rw c.in-Some.is at (c.in_ok-run.ensures.found clean charter rows holds) in
    let it = subst (λ a. IsRowBelow rows p.family a (Some c.in-Some.run')) c.last.ensures found in
    let decided = met_by_last rows apart p it.0 it.1 it.2 in
    let told = c.reaches.ensures it.0 it.1 it.3 in
    (λ yes. decided.1 (told.0 yes), λ met. told.1 (decided.0 met))

pub returns-in-None-clause-found : goal.returns-in-None-clause-found
returns-in-None-clause-found g c clean charter rows holds apart =
    let p = c.args.prefix.now in
    let found = rw c.in-None.is at (c.in_ok-run.ensures.found clean charter rows holds) in
    let none = subst (λ a. IsRowBelow rows p.family a None) c.last.ensures found in
    (λ yes. absurd (false≢true yes), λ met. absurd (none_met rows apart p none met))
