use Rattle.addr.proofs.Vocabulary.{rules, IsTrue, length, drop-replicate, is_name}
use Rattle.addr.proofs.NameLemmas.{padded}
use Rattle.addr.proofs.name.Name.read.Goals as goal

pub invariant_of-result : goal.invariant_of-result
invariant_of-result c =
    let named : IsTrue (is_name c.args.text.now) = search rules in
    rw c.copy_from_slice.ensures.after (padded c.args.text.now _ (drop-replicate (length c.args.text.now) 32 0) named)
