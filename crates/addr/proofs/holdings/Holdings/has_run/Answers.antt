use Rattle.addr.proofs.Vocabulary.{sym, ap, subst, ◌∙◌, is_one_of, AreMaximal}
use Rattle.addr.proofs.RunSearch.{search-tells}
use Rattle.addr.proofs.holdings.Holdings.has_run.Goals as goal

pub returns : goal.returns
returns c =
    let runs = c.deref.result.now in
    let s = c.args.span.now in
    let maximal = subst AreMaximal (sym c.deref.ensures.value) c.self.invariant in
    c.is_ok.ensures.value ∙ search-tells runs s c.binary_search.result maximal c.binary_search.ensures.bound c.binary_search.ensures.position
    ∙ ap (λ rs. is_one_of rs s) (c.deref.ensures.value ∙ c.self.view_is)
