use Rattle.cli_texts.proofs.Vocabulary.{refl, Some, None}
use Rattle.cli_texts.proofs.RowLemmas.{route_texts_fault-Spells}
use Rattle.cli_texts.specs.declared.fault.RowFault.TheVariants as row_fault
use Rattle.cli_texts.proofs.files.routes.read_texts.Goals as goal

pub returns-in-Some : goal.returns-in-Some
returns-in-Some c =
    let spells = (c.in-Ok.ensures.each c.in-Ok.prefix).0 refl in
    (spells, c.in-Some.ensures.0, route_texts_fault-Spells c.args.prefix.now c.args.origin.now c.in-Ok.prefix None spells c.in-Some.ensures.1)

pub returns-in-None : goal.returns-in-None
returns-in-None c =
    route_texts_fault-Spells c.args.prefix.now c.args.origin.now c.in-Ok.prefix (Some row_fault.Origin) ((c.in-Ok.ensures.each c.in-Ok.prefix).0 refl) c.in-None.ensures
