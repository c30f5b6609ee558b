use Rattle.slurm.proofs.Vocabulary.{List, map, ap, ◌∙◌, filter_map, map-append, filter_prefix, Filter, of_file}
use Rattle.std.proofs.lemmas.List.Elements.{filter_map-append}
use Rattle.slurm.proofs.Pushed.{pushed_more}
use Rattle.slurm.proofs.walk.push_filters.Goals as goal

pub loop-filter-preserved : goal.loop-filter-preserved
loop-filter-preserved c =
    pushed_more (λ (fs : List Filter). map (of_file c.args.file) (filter_map filter_prefix fs))
    (λ xs ys. ap (map (of_file c.args.file)) (filter_map-append filter_prefix xs ys) ∙ map-append (of_file c.args.file) (filter_map filter_prefix xs) (filter_map filter_prefix ys))
    c.args.prefixes.now.items c.loop-filter.prefixes.items _ c.args.filters.now c.loop-filter.filter-index c.filter-item.result c.loop-filter-test.true c.filter-item.is c.loop-filter.invariant c.in_ok-push_filter.ensures
