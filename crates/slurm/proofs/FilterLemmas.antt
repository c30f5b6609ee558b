-- The test of a filter's match decides the match.
use Rattle.slurm.proofs.Vocabulary.{List, ◌↔◌, IsTrue, Decides-and, Decides-eqb, Any-from_list_any, list_any-from_Any, Decides, Any, list_any, contains_each, Vrp, FilterMatches, filter_matches, Filter, Under, By, Both}

pub filter_matches-Decides : (f : Filter) (v : Vrp) → Decides (filter_matches f v) (FilterMatches f v)
filter_matches-Decides (Under p) v = contains_each p v.prefix
filter_matches-Decides (By asn) v = Decides-eqb asn.0 v.asn.0
filter_matches-Decides (Both p asn) v = Decides-and _ _ (contains_each p v.prefix) (Decides-eqb asn.0 v.asn.0)

pub some_filter : (filters : List Filter) (v : Vrp) → IsTrue (list_any (λ f. filter_matches f v) filters) ↔ Any (λ f. FilterMatches f v) filters
some_filter filters v = (
  λ reported. let some = Any-from_list_any (λ f. filter_matches f v) filters reported in
      (some.0, some.1, some.2, some.3, (filter_matches-Decides some.1 v).0 some.4),
  λ some. list_any-from_Any (λ f. filter_matches f v) filters
      (some.0, some.1, some.2, some.3, (filter_matches-Decides some.1 v).1 some.4),
)
