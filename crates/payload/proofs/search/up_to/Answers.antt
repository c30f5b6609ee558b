use Rattle.payload.proofs.Vocabulary.{rules, IsPartitionPoint-from_clause, is_at_most}
use Rattle.payload.proofs.Fronts.{rising-partitioned, front-up_to}
use Rattle.payload.proofs.search.up_to.Goals as goal

pub returns : goal.returns
returns c =
    let parted = rising-partitioned c.args.prefix.now c.args.vrps.now c.requires in
    let point = IsPartitionPoint-from_clause (λ v. is_at_most v.prefix c.args.prefix.now) _ _ c.partition_point-end.ensures.partitioned parted (λ a r q k. search rules) in
    front-up_to _ _ _ c.partition_point-end.ensures.bound point
