use Rattle.store.proofs.Vocabulary.{refl, memory_is_clean}
use Rattle.store.proofs.laws.memory_stays_open.Goals as goal

pub returns-clause-open : goal.returns-clause-open
returns-clause-open c conn = refl

pub returns-clause-rows : goal.returns-clause-rows
returns-clause-rows c store rows holds = holds (memory_is_clean store.connection) refl
