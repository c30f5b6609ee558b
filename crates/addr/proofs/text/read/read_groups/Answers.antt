use Rattle.addr.proofs.Vocabulary.{sym, ◌∙◌, false≢true}
use Rattle.addr.proofs.PrefixGroupsLemmas.{loose_groups_none, read_none, read_some}
use Rattle.addr.proofs.text.read.read_groups.Goals as goal

pub returns-then-contains : goal.returns-then-contains
returns-then-contains c =
    sym (loose_groups_none c.args.text.now λ segments is lacks. false≢true (sym lacks ∙ (sym c.contains.ensures.value ∙ c.if-contains.true)))

pub returns-in_err-address : goal.returns-in_err-address
returns-in_err-address c =
    c.from_residual.ensures ∙ sym (read_none c.args.text.now _ c.parse_ascii.ensures c.in_err-address.ensures.value)

pub returns : goal.returns
returns c =
    let lacks = sym c.contains.ensures.value ∙ c.if-contains.false in
    rw c.segments.ensures (sym (read_some c.args.text.now _ c.in_ok-address.address c.parse_ascii.ensures c.in_ok-address.ensures.value lacks))
