use Rattle.store_open.proofs.Vocabulary.{◌≡◌, ap, is_lt, rules, always_returns_same, All-permutation, IsPermutation-map, IsPermutation-trans, ranks_by}
use Rattle.store_open.proofs.reading.read_in_order.Goals as goal

pub returns-clause-read : goal.returns-clause-read
returns-clause-read g c clean =
    let values = c.in_ok-values.values.items in
    let sorted = c.sort_unstable_by.new.self.items in
    let moved = c.sort_unstable_by.ensures.permutation in
    let read = c.in_ok-values.ensures.read clean in
    record {
      fit = All-permutation g.T.FromRow.fits values sorted moved read.fit;
      same = IsPermutation-trans _ _ _ read.same (IsPermutation-map g.T.FromRow.cells values sorted moved);
    }

pub returns-clause-sorted : goal.returns-clause-sorted
returns-clause-sorted g c clean =
    let order = g.T.InOrder.order in
    c.sort_unstable_by.ensures.sorted (λ x y. is_lt (order x y)) (ranks_by g.T.InOrder.total (λ x. x))
    (always_returns_same _ (λ a r. is_lt r ≡ is_lt (order a.0.now a.1.0.now)) _ (λ a r f k. (ap is_lt (search rules), search rules)))
