use Rattle.slurm.proofs.Vocabulary.{overlaps}
use Rattle.slurm.proofs.OverlapLemmas.{named-by_assertions, named-by_filters}
use Rattle.slurm.proofs.exceptions.Slurm.shares.Goals as goal

pub returns-then-some_filter_shares : goal.returns-then-some_filter_shares
returns-then-some_filter_shares c =
    named-by_filters (λ q. overlaps c.args.prefix.now q) c.args.self.now _ _ c.if-some_filter_shares.true c.some_filter_shares.ensures c.filters.ensures.list

pub returns-else-some_filter_shares : goal.returns-else-some_filter_shares
returns-else-some_filter_shares c =
    named-by_assertions (λ q. overlaps c.args.prefix.now q) c.args.self.now _ _ _ _ c.if-some_filter_shares.false c.some_filter_shares.ensures c.filters.ensures.list c.some_assertion_shares.ensures c.assertions.ensures
