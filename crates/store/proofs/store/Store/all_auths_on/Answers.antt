use Rattle.store.proofs.Vocabulary.{◌≢◌, ◌↔◌, Contains, AllPairs, IsGivenOn, AllGiveOn}
use Rattle.addr.specs.declared.vrp.Vrp.{Vrp}
use Rattle.store.proofs.StoreLemmas.{found_held, refused_held}
use Rattle.store.proofs.store.Store.all_auths_on.Goals as goal

pub returns-clause-found : goal.returns-clause-found
returns-clause-found g c clean = found_held g.S.Store c.self.view_is c.load_vrps.ensures.asked clean (λ vrps rows. (v : Vrp) → Contains vrps.items v ↔ IsGivenOn rows c.args.day v) (c.load_vrps.ensures.found clean)

pub returns-clause-once : goal.returns-clause-once
returns-clause-once g c clean = found_held g.S.Store c.self.view_is c.load_vrps.ensures.asked clean (λ vrps _. AllPairs ◌≢◌ vrps.items) (c.load_vrps.ensures.once clean)

pub returns-clause-schema : goal.returns-clause-schema
returns-clause-schema g c clean refused = refused_held g.S.Store c.self.view_is c.load_vrps.ensures.asked clean (λ rows. ¬ AllGiveOn rows c.args.day) (c.load_vrps.ensures.schema clean refused)
