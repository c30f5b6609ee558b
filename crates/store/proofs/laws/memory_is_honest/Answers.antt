use Rattle.store.proofs.Vocabulary.{memory_is_clean}
use Rattle.store.proofs.laws.memory_is_honest.Goals as goal

pub returns : goal.returns
returns c = memory_is_clean
