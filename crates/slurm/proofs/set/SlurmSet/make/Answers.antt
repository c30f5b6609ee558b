use Rattle.slurm.proofs.Vocabulary.{◌↔◌, IsTrue, refl, rules, both_ways, AreNamedOnce}
use Rattle.slurm.proofs.RisingNames.{by_bytes}
use Rattle.slurm.proofs.set.SlurmSet.make.Goals as goal

-- the files in order do not rise
repeated : (c : goal.After-drop-files-then-not-sort_each_once) → ¬ AreNamedOnce c.args.files.items
repeated c once =
    both_ways c.sort_each_once.result c.if-not-sort_each_once.true
    ((by_bytes (λ P. IsTrue c.sort_each_once.result ↔ P) _ (c.sort_each_once.ensures.once (λ f. f.name) (λ x k named. search rules))).1 once)

once : (c : goal.Else-not-sort_each_once) → AreNamedOnce c.args.files.items
once c = by_bytes (λ P. P) _ ((c.sort_each_once.ensures.once (λ f. f.name) (λ x k named. search rules)).0 c.if-not-sort_each_once.false)

pub returns-then-not-sort_each_once-clause-ok : goal.returns-then-not-sort_each_once-clause-ok
returns-then-not-sort_each_once-clause-ok c = (λ is. absurd cc, λ fits. absurd (repeated c fits.1))

pub returns-then-not-sort_each_once-clause-repeated : goal.returns-then-not-sort_each_once-clause-repeated
returns-then-not-sort_each_once-clause-repeated c = (λ is. (search rules, repeated c), λ _. refl)

pub returns-clause-ok : goal.returns-clause-ok
returns-clause-ok c = (λ is. (search rules, once c), λ _. refl)

pub returns-clause-rising : goal.returns-clause-rising
returns-clause-rising c = (c.sort_each_once.ensures.rising (λ f. f.name) (λ x k named. search rules)).0 c.if-not-sort_each_once.false

pub returns-clause-repeated : goal.returns-clause-repeated
returns-clause-repeated c = (λ is. absurd cc, λ twice. absurd (twice.1 (once c)))

pub invariant_of-result : goal.invariant_of-result
invariant_of-result c = record { number = search rules; rising = returns-clause-rising c }
