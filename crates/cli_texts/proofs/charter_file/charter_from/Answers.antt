use Rattle.cli_texts.proofs.CharterSteps.{no_repeats}
use Rattle.cli_texts.proofs.charter_file.charter_from.Goals as goal

pub unreachable-requires : goal.unreachable-requires
unreachable-requires c =
    let (rows, file, held) = c.in-Ok.ensures.ok in
    no_repeats c.in-Ok.rows rows held (c.make.ensures.repeated.0 (rw c.in-Err-Repeated.field-0-is at c.in-Err-Repeated.is)).1
