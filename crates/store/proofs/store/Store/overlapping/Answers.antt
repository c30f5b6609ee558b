use Rattle.store.proofs.Vocabulary.{◌↔◌, IsTrue, IsTaken, taken_iff}
use Rattle.store.proofs.StoreLemmas.{found_held}
use Rattle.store.proofs.store.Store.overlapping.Goals as goal

pub returns-clause-found : goal.returns-clause-found
returns-clause-found g c clean =
    let p = c.args.prefix.now in
    found_held g.S.Store c.self.view_is c.in_ok-some_overlap.ensures.asked clean (λ some rows. IsTrue some ↔ IsTaken rows p) (λ charter rows holds.
    let found = c.in_ok-some_overlap.ensures.found clean charter rows holds in (λ yes. (taken_iff rows p).0 (found.0 yes), λ taken. found.1 ((taken_iff rows p).1 taken)))
