use Rattle.requests.proofs.Vocabulary.{◌≡◌, drop, fold, map, path_routes, with_path}
use Rattle.requests.proofs.router.Routes.new.Given as goal

abbrev pub invariant-loop-template : goal.invariant-loop-template
invariant-loop-template l =
    fold with_path l.router (map (λ p. (p.0.now, p.1)) (drop l.template-index l.template-items)) ≡ path_routes
