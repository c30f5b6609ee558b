use Rattle.slurm.proofs.Vocabulary.{rules, ◌∙◌, IsPartitionPoint-from_clause, is_le, reach_cmp}
use Rattle.slurm.proofs.ReachLemmas.{last-of_front, none-of_front, widest-partitioned}
use Rattle.slurm.proofs.reach.some_encloses.Goals as goal

pub returns-in-Some : goal.returns-in-Some
returns-in-Some c =
    let parted = widest-partitioned c.args.wanted.now c.args.reaches.now c.requires in
    let point = IsPartitionPoint-from_clause (λ r. is_le (reach_cmp r c.args.wanted.now)) _ _ c.partition_point-end.ensures.partitioned parted (λ a r q k. search rules) in
    c.encloses.ensures
    ∙ last-of_front _ c.args.wanted.now c.in-Some.last.now _ c.requires point c.partition_point-end.ensures.bound c.in-Some.ensures.item.3.0 c.in-Some.ensures.item.1

pub returns-in-None : goal.returns-in-None
returns-in-None c =
    let parted = widest-partitioned c.args.wanted.now c.args.reaches.now c.requires in
    let point = IsPartitionPoint-from_clause (λ r. is_le (reach_cmp r c.args.wanted.now)) _ _ c.partition_point-end.ensures.partitioned parted (λ a r q k. search rules) in
    none-of_front _ c.args.wanted.now _ c.requires point c.partition_point-end.ensures.bound c.in-None.ensures.item.3
