use Rattle.registry.proofs.Vocabulary.{◌≡◌, ◌≤◌, ℕ, length, nat_eq, sym, ◌∙◌, ap, subst, pointwise, length_permutation, prefix_eq, has_repeat}
use Rattle.std.proofs.lemmas.Cmp.{nat_list_eq_equiv}
use Rattle.registry.specs.declared.charter.TheConstants.{MOST_OPERATORS, MOST_POOL_PREFIXES}
use Rattle.registry.proofs.Repeats.{has_repeat-moved, prefix_eq-flips}
use Rattle.registry.proofs.charter.Charter.make.Goals as goal

pub invariant_of-result : goal.invariant_of-result
invariant_of-result c =
    let number = c.are_in_number.ensures.0 c.if-not-are_in_number.false in
    let operators : length c.sort_unstable.new.self.items ≡ length c.deref.result.now =
    length_permutation c.args.operators.items c.sort_unstable.new.self.items c.sort_unstable.ensures.permutation ∙ ap length (sym c.deref.ensures.value) in
    let pool : length c.sort_unstable-2.new.self.items ≡ length c.deref-2.result.now =
    length_permutation c.args.pool.items c.sort_unstable-2.new.self.items c.sort_unstable-2.ensures.permutation ∙ ap length (sym c.deref-2.ensures.value) in
    record {
      number = (
        subst (λ (k : ℕ). 1 ≤ k) (sym operators) number.0,
        subst (λ (k : ℕ). k ≤ MOST_OPERATORS) (sym operators) number.1,
        subst (λ (k : ℕ). 1 ≤ k) (sym pool) number.2,
        subst (λ (k : ℕ). k ≤ MOST_POOL_PREFIXES) (sym pool) number.3,
      );
      operators_once = has_repeat-moved (pointwise nat_eq) nat_list_eq_equiv.symm c.args.operators.items c.sort_unstable.new.self.items c.sort_unstable.ensures.permutation
          (ap (has_repeat (pointwise nat_eq)) (sym c.deref-3.ensures.value) ∙ sym c.has_repeat.ensures ∙ c.if-has_repeat.false);
      pool_once = has_repeat-moved prefix_eq prefix_eq-flips c.args.pool.items c.sort_unstable-2.new.self.items c.sort_unstable-2.ensures.permutation
          (ap (has_repeat prefix_eq) (sym c.deref-else-has_repeat.ensures.value)
          ∙ sym c.has_repeat-else-has_repeat.ensures ∙ c.if-has_repeat-2.false);
      operators_rise = c.sort_unstable.ensures.sorted;
      pool_rises = c.sort_unstable-2.ensures.sorted;
    }
