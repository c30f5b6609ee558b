use Rattle.addr.proofs.Vocabulary.{◌∙◌, sym}
use Rattle.addr.proofs.SpanSteps.{last_of_maximal}
use Rattle.addr.proofs.holdings.is_apart_above.Goals as goal

pub returns-in-len1-up : goal.returns-in-len1-up
returns-in-len1-up c = c.is_apart_below.ensures ∙ sym (last_of_maximal c.args.spans.now c.last-item.result c.args.span.now c.in-len1-up.len_at_least c.last-item.is c.requires)
