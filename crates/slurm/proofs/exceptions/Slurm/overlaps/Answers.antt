use Rattle.slurm.proofs.Vocabulary.{◌↔◌, IsTrue, subst, sym, shares, Overlap}
use Rattle.slurm.proofs.OverlapLemmas.{named-by_assertions, named-by_filters, overlap_decides}
use Rattle.slurm.proofs.exceptions.Slurm.overlaps.Goals as goal

pub returns-then-some_filter_overlaps-clause-by_test : goal.returns-then-some_filter_overlaps-clause-by_test
returns-then-some_filter_overlaps-clause-by_test c =
    named-by_filters (shares c.args.other.now) c.args.self.now _ _ c.if-some_filter_overlaps.true c.some_filter_overlaps.ensures c.filters.ensures.list

pub returns-then-some_filter_overlaps-clause-some : goal.returns-then-some_filter_overlaps-clause-some
returns-then-some_filter_overlaps-clause-some c =
    subst (λ b. IsTrue b ↔ Overlap c.args.self.now c.args.other.now) (sym (returns-then-some_filter_overlaps-clause-by_test c)) (overlap_decides c.args.self.now c.args.other.now)

pub returns-else-some_filter_overlaps-clause-by_test : goal.returns-else-some_filter_overlaps-clause-by_test
returns-else-some_filter_overlaps-clause-by_test c =
    named-by_assertions (shares c.args.other.now) c.args.self.now _ _ _ _ c.if-some_filter_overlaps.false c.some_filter_overlaps.ensures c.filters.ensures.list c.some_assertion_overlaps.ensures c.assertions.ensures

pub returns-else-some_filter_overlaps-clause-some : goal.returns-else-some_filter_overlaps-clause-some
returns-else-some_filter_overlaps-clause-some c =
    subst (λ b. IsTrue b ↔ Overlap c.args.self.now c.args.other.now) (sym (returns-else-some_filter_overlaps-clause-by_test c)) (overlap_decides c.args.self.now c.args.other.now)
