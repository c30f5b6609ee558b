use Rattle.slurm.proofs.Vocabulary.{rules, ap, sym, subst, ◌∙◌, dedup_same, list_any-IsPermutation, IsSorted, encloses, some_encloses, AreWidest}
use Rattle.slurm.proofs.ReachLemmas.{derived_reach_order, goes, same-dedup, widest-dedup}
use Rattle.slurm.proofs.reach.keep_widest.Goals as goal

pub returns-clause-widest : goal.returns-clause-widest
returns-clause-widest c =
    let kept = dedup_same _ goes _ (λ x y b f' x' y' k. search rules) _ _ c.dedup_by.ensures.filtered in
    subst AreWidest (sym kept) (widest-dedup _ (subst (λ cmp. IsSorted cmp c.sort_unstable.new.self.items) derived_reach_order c.sort_unstable.ensures.sorted))

pub returns-clause-same : goal.returns-clause-same
returns-clause-same c = λ wanted.
    let kept = dedup_same _ goes _ (λ x y b f' x' y' k. search rules) _ _ c.dedup_by.ensures.filtered in
    ap (λ reaches. some_encloses reaches wanted) kept
    ∙ same-dedup wanted _
    ∙ sym (list_any-IsPermutation (λ r. encloses r wanted) _ _ c.sort_unstable.ensures.permutation)
