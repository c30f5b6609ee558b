use Rattle.registry.proofs.Vocabulary.{rules}
use Rattle.registry.proofs.Rising.{rise_is}
use Rattle.registry.proofs.roa_prefixes.rise.Goals as goal

pub returns : goal.returns
returns c =
    let answer = c.rise_by_key.ensures (λ e. e.prefix) (λ x k prefix. search rules) in
    (λ yes. (rise_is c.args.entries.now).0 (answer.0 yes), λ rising. answer.1 ((rise_is c.args.entries.now).1 rising))
