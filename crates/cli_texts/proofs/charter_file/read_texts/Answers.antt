use Rattle.cli_texts.proofs.Vocabulary.{refl}
use Rattle.cli_texts.proofs.CharterSteps.{pool_value}
use Rattle.cli_texts.proofs.charter_file.read_texts.Goals as goal

pub returns-in-Ok : goal.returns-in-Ok
returns-in-Ok c =
    pool_value c.args.kind.now c.args.value.now c.in-Ok.prefix (rw c.as_bytes-2.ensures.value at c.if-eq-2.ensures) ((c.in-Ok.ensures.each c.in-Ok.prefix).0 refl)
