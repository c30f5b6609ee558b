use Rattle.requests.proofs.Vocabulary.{path_routes, with_path}
use Rattle.requests.proofs.TableLemmas.{fold-past}
use Rattle.requests.proofs.router.Routes.new.Goals as goal

pub loop-template-preserved : goal.loop-template-preserved
loop-template-preserved c =
    rw c.in_ok-add.ensures
    (fold-past with_path (λ p. (p.0.now, p.1)) _ c.loop-template.template-index _ c.loop-template.router path_routes
    c.loop-template-test.true c.loop-template.invariant)
