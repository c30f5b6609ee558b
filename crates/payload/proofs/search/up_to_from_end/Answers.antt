use Rattle.payload.proofs.Vocabulary.{◌≡◌, true, rules, sym, subst, arith, IsPartitionPoint-from_clause, AllWithin, is_at_most}
use Rattle.payload.proofs.Fronts.{after-onwards, upto-before, range-partitioned, front-in_range}
use Rattle.payload.proofs.search.up_to_from_end.Goals as goal
use Rattle.payload.proofs.search.up_to_from_end.Goals.{then-loop-step-test+else-not-is_up_to, else-loop-step-test}

pub loop-step-preserved : goal.loop-step-preserved
loop-step-preserved c = record {
  forward = omega (arith, c.saturating_add-step.ensures);
  within = omega arith;
  after = after-onwards c.args.prefix.now _ _ c.index-vrps-end.result c.requires (omega arith) c.index-vrps-end.is (sym c.if-not-is_up_to.ensures);
}

pub returns : goal.returns
returns c =
    let parted = range-partitioned c.args.prefix.now _ _ _ c.loop-step.invariant.within c.requires in
    let point = IsPartitionPoint-from_clause (λ v. is_at_most v.prefix c.args.prefix.now) _ _ c.partition_point-more.ensures.partitioned parted (λ a r q k. search rules) in
    let before : AllWithin (λ v. is_at_most v.prefix c.args.prefix.now ≡ true) c.args.vrps.now 0 c.saturating_sub-start.result =
    subst (λ n. AllWithin (λ v. is_at_most v.prefix c.args.prefix.now ≡ true) c.args.vrps.now 0 n) (sym c.saturating_sub-start.ensures)
    (elim c.loop-step-test.branch [
      | then-loop-step-test+else-not-is_up_to w ↦ upto-before c.args.prefix.now _ _ w.index-vrps-end.result c.requires (omega arith) w.index-vrps-end.is (sym w.if-not-is_up_to.ensures)
      | else-loop-step-test w ↦ λ k d low high. absurd (omega arith)
    ]) in
    front-in_range c.args.prefix.now c.args.vrps.now c.saturating_sub-start.result c.loop-step.end _ c.loop-step.invariant.within (omega (arith, c.saturating_sub-start.ensures)) before c.loop-step.invariant.after c.partition_point-more.ensures.bound point
