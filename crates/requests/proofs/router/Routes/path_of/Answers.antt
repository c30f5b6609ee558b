use Rattle.requests.proofs.Vocabulary.{ap, sym, ◌∙◌, path_at}
use Rattle.requests.proofs.PathLemmas.{path_of-bytes, path_of-text}
use Rattle.requests.proofs.router.Routes.path_of.Goals as goal

pub returns-in_default : goal.returns-in_default
returns-in_default c = path_of-bytes c.args.target.now c.if-has_query.ensures c.in_default.ensures.cases.0

pub returns : goal.returns
returns c =
    c.path_at.ensures
    ∙ ap path_at c.in-Ok.ensures.cases.0
    ∙ sym (path_of-text c.args.target.now c.if-has_query.ensures c.in-Ok.ensures.cases.1)
