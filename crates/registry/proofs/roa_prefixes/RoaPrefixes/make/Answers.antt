use Rattle.registry.proofs.Vocabulary.{◌≡◌, true, false, refl, rules, both_ways, repeats_prefix}
use Rattle.registry.proofs.Rising.{rise_is, once_is}
use Rattle.registry.proofs.roa_prefixes.RoaPrefixes.make.Goals as goal

-- the list in order does not rise
repeated : (c : goal.After-drop-entries-then-not-sort_each_once) → repeats_prefix c.args.entries.items ≡ true
repeated c = by (repeats_prefix c.args.entries.items) refl
  where
    by : (b : _) → repeats_prefix c.args.entries.items ≡ b → repeats_prefix c.args.entries.items ≡ true
    by true is = is
    by false is =
        absurd (both_ways c.sort_each_once.result c.if-not-sort_each_once.true
        ((c.sort_each_once.ensures.once (λ e. e.prefix) (λ x k prefix. search rules)).1 ((once_is c.args.entries.items).1 is)))

once : (c : goal.Else-not-sort_each_once) → repeats_prefix c.args.entries.items ≡ false
once c = (once_is c.args.entries.items).0 ((c.sort_each_once.ensures.once (λ e. e.prefix) (λ x k prefix. search rules)).0 c.if-not-sort_each_once.false)

pub returns-then-not-sort_each_once-clause-ok : goal.returns-then-not-sort_each_once-clause-ok
returns-then-not-sort_each_once-clause-ok c = (λ is. absurd cc, λ fits. absurd (both_ways (repeats_prefix c.args.entries.items) fits.1 (repeated c)))

pub returns-then-not-sort_each_once-clause-repeated : goal.returns-then-not-sort_each_once-clause-repeated
returns-then-not-sort_each_once-clause-repeated c = (λ is. (search rules, repeated c), λ _. refl)

pub returns-clause-ok : goal.returns-clause-ok
returns-clause-ok c = (λ is. (search rules, once c), λ _. refl)

pub returns-clause-rising : goal.returns-clause-rising
returns-clause-rising c =
    (rise_is _).0 ((c.sort_each_once.ensures.rising (λ e. e.prefix) (λ x k prefix. search rules)).0 c.if-not-sort_each_once.false)

pub returns-clause-repeated : goal.returns-clause-repeated
returns-clause-repeated c = (λ is. absurd cc, λ twice. absurd (both_ways (repeats_prefix c.args.entries.items) (once c) twice.1))

pub invariant_of-result : goal.invariant_of-result
invariant_of-result c = record { number = search rules; rising = returns-clause-rising c }
