use Rattle.roa.proofs.Vocabulary.{rules}
use Rattle.roa.proofs.RisingEntries.{rise_is}
use Rattle.roa.proofs.content.rises.Goals as goal

pub returns : goal.returns
returns c =
    let answer = c.rise_by_key.ensures (λ e. e) (λ x k entry. search rules) in
    (λ yes. (rise_is c.args.entries.now).0 (answer.0 yes), λ rising. answer.1 ((rise_is c.args.entries.now).1 rising))
