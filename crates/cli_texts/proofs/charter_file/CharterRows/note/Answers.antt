use Rattle.cli_texts.proofs.Vocabulary.{refl}
use Rattle.cli_texts.proofs.CharterSteps.{noted-operator, noted-pool}
use Rattle.cli_texts.proofs.charter_file.CharterRows.note.Goals as goal

pub returns-in_ok-insert-in-Operator-clause-noted : goal.returns-in_ok-insert-in-Operator-clause-noted
returns-in_ok-insert-in-Operator-clause-noted c = λ other.
    rw c.in-Operator.is
    (noted-operator c.args.self.now
    (record { operators = c.args.self.now.operators; pool = c.args.self.now.pool; names = c.insert.new.self; prefixes = c.args.self.now.prefixes })
    c.in-Operator.name c.in_ok-insert-in-Operator.ensures.updates.0 refl other)

pub returns-in_ok-insert-in-Pool-clause-noted : goal.returns-in_ok-insert-in-Pool-clause-noted
returns-in_ok-insert-in-Pool-clause-noted c = λ other.
    rw c.in-Pool.is
    (noted-pool c.args.self.now
    (record { operators = c.args.self.now.operators; pool = c.args.self.now.pool; names = c.args.self.now.names; prefixes = c.insert-in-Pool.new.self })
    c.in-Pool.prefix c.in_ok-insert-in-Pool.ensures.updates.0 refl other)
