use Rattle.payload.proofs.Vocabulary.{rules, IsPartitionPoint-from_clause, is_below}
use Rattle.payload.proofs.Unlike.{rising-below, front-below}
use Rattle.payload.proofs.search.past_unlike.Goals as goal

pub returns-in-Some : goal.returns-in-Some
returns-in-Some c =
    let first = c.first_unlike-first.result in
    let parted = rising-below first c.args.before.now c.requires.rising in
    let point = IsPartitionPoint-from_clause (λ v. is_below v first) _ _ c.partition_point-end.ensures.partitioned parted (λ a r q k. search rules) in
    front-below c.args.route.now c.args.vrp.now first c.args.before.now _ c.partition_point-end.ensures.bound point c.requires.less c.first_unlike-first.ensures
