use Rattle.store_open.proofs.Vocabulary.{◌≡◌, ap, is_lt, rules, always_returns_same, ranks_by, state, key_cmp}
use Rattle.store_open.proofs.Keys.{key_total, sorted_claims}
use Rattle.store_open.proofs.reading.collect_in_order.Goals as goal

pub returns-clause-read : goal.returns-clause-read
returns-clause-read g c clean =
    sorted_claims (state g.S.Store c.args.conn.now).now c.in_ok-keys.keys.items c.sort_unstable_by.new.self.items (c.in_ok-keys.ensures.read clean) c.sort_unstable_by.ensures.permutation
    (c.sort_unstable_by.ensures.sorted (λ x y. is_lt (key_cmp x y)) (ranks_by key_total (λ x. x))
    (always_returns_same _ (λ a r. is_lt r ≡ is_lt (key_cmp a.0.now a.1.0.now)) _ (λ a r f k. (ap is_lt {y = key_cmp a.0.now a.1.0.now} (search rules), search rules))))
