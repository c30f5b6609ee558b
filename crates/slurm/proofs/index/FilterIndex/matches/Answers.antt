use Rattle.slurm.proofs.Vocabulary.{List, IsTrue, ◌↔◌, ap, sym, subst, ◌∙◌, Any, list_any, FilterMatches, filter_matches, some_reaches, Filter}
use Rattle.slurm.proofs.FilterLemmas.{some_filter}
use Rattle.slurm.proofs.index.FilterIndex.matches.Goals as goal

pub returns-clause-by_test : goal.returns-clause-by_test
returns-clause-by_test c =
    c.some_reaches.ensures
    ∙ ap (λ reaches. some_reaches reaches c.args.vrp.now) c.deref.ensures.value
    ∙ c.self.invariant.0 c.args.vrp.now
    ∙ ap (λ (filters : List Filter). list_any (λ f. filter_matches f c.args.vrp.now) filters) c.self.view_is

pub returns-clause-some : goal.returns-clause-some
returns-clause-some c =
    subst (λ b. IsTrue b ↔ Any (λ f. FilterMatches f c.args.vrp.now) c.args.self.now) (sym (returns-clause-by_test c)) (some_filter c.args.self.now c.args.vrp.now)
