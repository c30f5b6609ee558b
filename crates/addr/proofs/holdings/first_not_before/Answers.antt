use Rattle.addr.proofs.Vocabulary.{rules, take_rest, IsPartitionPoint-from_clause, is_before}
use Rattle.addr.proofs.RunSearch.{IsPlace, before-partitioned, covered-at_place, met-at_place}
use Rattle.addr.proofs.holdings.first_not_before.Goals as goal

place : (c : goal.After-first) → IsPlace c.args.prefix.now c.args.spans.now c.partition_point-start.result
place c = IsPartitionPoint-from_clause (λ s. is_before s c.args.prefix.now) _ _ c.partition_point-start.ensures.partitioned (before-partitioned c.args.prefix.now _ c.requires) (λ a r q k. search rules)

pub returns-clause-covers : goal.returns-clause-covers
returns-clause-covers c = rw (c.first.ensures.value, take_rest c.args.spans.now c.partition_point-start.result) (covered-at_place c.args.prefix.now _ _ c.requires (place c))

pub returns-clause-meets : goal.returns-clause-meets
returns-clause-meets c = rw (c.first.ensures.value, take_rest c.args.spans.now c.partition_point-start.result) (met-at_place c.args.prefix.now _ _ c.requires (place c))
