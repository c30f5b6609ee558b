use Rattle.registry.proofs.Vocabulary.{◌≡◌, ℕ, ◌+◌, ◌-◌, ◌<◌, ◌≤◌, true, pool_has}
use Rattle.registry.proofs.charter.is_in_pool.Given as goal

abbrev pub invariant-loop-end : goal.invariant-loop-end
invariant-loop-end l =
    (l.prefix.first ≤ l.next) × (l.next ≤ l.last) × ((n : ℕ) → l.prefix.first ≤ n → n < l.next → pool_has l.pool (record { family = l.prefix.family; number = n }) ≡ true)

abbrev pub decreases-loop-end : goal.decreases-loop-end
decreases-loop-end l = l.last + 1 - l.next
