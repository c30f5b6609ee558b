use Rattle.roa.proofs.Vocabulary.{◌≡◌, true, arith, rules, both_ways, list_all, is_in_range, All-permutation, AllPass-from_list_all, list_all-from_AllPass}
use Rattle.roa.proofs.RisingEntries.{rise_is, is_repeated}
use Rattle.roa.proofs.content.Content.make.Goals as goal

pub returns-then-not-sort_each_once-clause-fault : goal.returns-then-not-sort_each_once-clause-fault
returns-then-not-sort_each_once-clause-fault c =
    let twice = is_repeated c.args.entries.items (λ once. both_ways c.sort_each_once.result c.if-not-sort_each_once.true ((c.sort_each_once.ensures.once (λ e. e) (λ x k entry. search rules)).1 once)) in
    (record { some = search rules; few = search rules }, search rules, twice.0, twice.1)

pub invariant_of-result : goal.invariant_of-result
invariant_of-result c =
    let given = c.args.entries.items in
    let sorted = c.sort_each_once.new.items.items in
    let checked : list_all is_in_range given ≡ true = search rules in
    record {
      asn = search rules;
      entries = record {
        count = record { some = search rules; few = omega (arith, c.sort_each_once.ensures.number) };
        in_range = list_all-from_AllPass is_in_range sorted (All-permutation (λ e. is_in_range e ≡ true) given sorted c.sort_each_once.ensures.same_items (AllPass-from_list_all is_in_range given checked));
        rising = (rise_is _).0 ((c.sort_each_once.ensures.rising (λ e. e) (λ x k entry. search rules)).0 c.if-not-sort_each_once.false);
      };
    }

pub returns-clause-content : goal.returns-clause-content
returns-clause-content c = invariant_of-result c
