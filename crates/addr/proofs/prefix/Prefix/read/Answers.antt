use Rattle.addr.proofs.PrefixSpellingLemmas.{read_gives, spelled_prefix-gives}
use Rattle.addr.proofs.prefix.Prefix.read.Goals as goal

pub returns-clause-each : goal.returns-clause-each
returns-clause-each c = read_gives c.args.text.now c.read_prefix.result c.read_prefix.ensures

pub returns-clause-value : goal.returns-clause-value
returns-clause-value c = spelled_prefix-gives c.args.text.now c.read_prefix.result c.read_prefix.ensures
