use Rattle.addr.proofs.Vocabulary.{◌+◌, ◌-◌, length, drop, take_all, length-drop, arith}
use Rattle.addr.proofs.PrefixTextLemmas.{cut_at-position}
use Rattle.addr.proofs.text.read.cut_text.Goals as goal

pub returns-in_err-at : goal.returns-in_err-at
returns-in_err-at c = rw (c.from_residual.ensures, cut_at-position, ← c.in_err-at.ensures)

pub returns : goal.returns
returns c =
    let text = c.args.text.now in
    let at = c.in_ok-at.at in
    rw (cut_at-position, ← c.in_ok-at.ensures, take_all (length text - (at + 1)) (drop (at + 1) text) (omega (arith, length-drop (at + 1) text)))
