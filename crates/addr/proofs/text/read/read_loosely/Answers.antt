use Rattle.addr.proofs.Vocabulary.{sym}
use Rattle.addr.proofs.PrefixTextLemmas.{short_number_below}
use Rattle.addr.proofs.text.read.read_loosely.Goals as goal

pub returns-clause-short : goal.returns-clause-short
returns-clause-short c = short_number_below _ _ (sym c.in_ok-length.ensures)
