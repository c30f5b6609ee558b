use Rattle.web.proofs.Vocabulary.{ap, ◌∙◌, sym, ◌∷◌, ◌+◌, ◌-◌, ◌≡◌, length, take, drop, take_all, arith, length-drop, pieces}
use Rattle.web.proofs.LineSplits.{pieces-first, pieces-none}
use Rattle.web.proofs.lines.cut_at_line_feed.Goals as goal

pub returns-in_default-clause-none : goal.returns-in_default-clause-none
returns-in_default-clause-none c = pieces-none c.args.bytes.now (rw c.in_default.is at c.memchr.ensures)

pub returns-clause-found : goal.returns-clause-found
returns-clause-found c =
    let bytes = c.args.bytes.now in
    let end = c.in-Some.end in
    let first = rw c.in-Some.is at c.memchr.ensures in
    let after = drop (end + 1) bytes in
    let whole : take (length bytes - (end + 1)) after ≡ after =
    take_all (length bytes - (end + 1)) after (omega (arith, length-drop (end + 1) bytes)) in
    pieces-first bytes end first.0 first.1 ∙ ap (λ rest. take end bytes ∷ pieces rest) (sym whole)
