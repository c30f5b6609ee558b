use Rattle.desk.proofs.Vocabulary.{◌≡◌, length, arith}
use Rattle.desk.proofs.DeskLemmas.{done_accepted, imported_accepted}
use Rattle.desk.proofs.desk.commands.accepted.Goals as goal

pub returns-in-Import-clause-answers : goal.returns-in-Import-clause-answers
returns-in-Import-clause-answers c =
    let long : c.len.result ≡ length c.in-Import.rows.items = omega (arith, c.len.ensures, c.in-Import.rows.ok.0) in
    rw (c.in-Import.is, c.saturating_sub.ensures, c.imported-made.ensures) (imported_accepted c.in-Import.holder c.in-Import.rows c.args.change.now c.len.result long)

pub returns-in_default-clause-answers : goal.returns-in_default-clause-answers
returns-in_default-clause-answers c = rw c.number.ensures (done_accepted c.args.command.now c.args.change.now c.in_default.not-Import)
