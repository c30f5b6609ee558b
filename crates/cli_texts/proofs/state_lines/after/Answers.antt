use Rattle.cli_texts.proofs.LineSteps.{strip-gives}
use Rattle.cli_texts.proofs.state_lines.after.Goals as goal

pub returns : goal.returns
returns c = strip-gives c.strip_prefix.result c.args.text.now c.args.part.now _ c.strip_prefix.ensures.cases
