use Rattle.store_transactions.proofs.Vocabulary.{rules, ◌∙◌, IsPartitionPoint-from_clause, is_in_file}
use Rattle.store_transactions.proofs.FilesIn.{front_is}
use Rattle.store_transactions.proofs.files.split_file.Goals as goal

pub returns-clause-mine : goal.returns-clause-mine
returns-clause-mine c =
    let point = IsPartitionPoint-from_clause (is_in_file c.args.name.now) _ _ c.partition_point.ensures.partitioned c.requires (λ a r q k. search rules) in
    c.split_at.ensures.front ∙ (front_is (is_in_file c.args.name.now) c.args.exceptions.now c.partition_point.result c.partition_point.ensures.bound point).0

pub returns-clause-others : goal.returns-clause-others
returns-clause-others c =
    let point = IsPartitionPoint-from_clause (is_in_file c.args.name.now) _ _ c.partition_point.ensures.partitioned c.requires (λ a r q k. search rules) in
    c.split_at.ensures.back ∙ (front_is (is_in_file c.args.name.now) c.args.exceptions.now c.partition_point.result c.partition_point.ensures.bound point).1
