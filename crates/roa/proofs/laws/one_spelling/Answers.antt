use Rattle.roa.proofs.Grammar.{encodes_is, encodes_from}
use Rattle.roa.proofs.laws.one_spelling.Goals as goal

pub returns : goal.returns
returns c = λ content octets is. (encodes_is content octets is, encodes_from content octets is)
