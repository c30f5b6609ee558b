use Rattle.payload.proofs.Vocabulary.{rules, ◌<◌, ◌∙◌, length, false, sym, arith, ne_eqb, shrinks, top_of, common, bits_from, originator_of}
use Rattle.payload.proofs.Grown.{common-least, has-apart, has-grown, pruned-past}
use Rattle.payload.proofs.Bits.{bits_from-next}
use Rattle.payload.proofs.Trees.{has-leaf}
use Rattle.payload.proofs.trie.+contains.Goals as goal

pub contains::contains_below-returns-in-None : goal.contains::contains_below-returns-in-None
contains::contains_below-returns-in-None t c = rw c.in-None.is (sym (has-leaf (bits_from c.args.vrp.now.prefix c.args.at) (originator_of c.args.vrp.now)))

pub node::Branch::contains-returns-else-bit : goal.node::Branch::contains-returns-else-bit
node::Branch::contains-returns-else-bit t c =
    rw (bits_from-next c.args.vrp.now.prefix c.args.at false (omega arith) c.if-bit.ensures) c.contains_below-else-bit.ensures

pub node::Node::contains-contains-requires : goal.node::Node::contains-contains-requires
node::Node::contains-contains-requires t c =
    let pruned = rw (← c.self.view_is) at c.requires.pruned in
    (search (rules, shrinks c.self.inside), (c.shared-shared.ensures.within, pruned-past _ _ _ c.self.inside.skipped (top_of c.self.inside.branch) (omega (arith, c.if-shared-count.true, c.count.ensures)) pruned))

pub node::Node::contains-returns-then-shared-count : goal.node::Node::contains-returns-then-shared-count
node::Node::contains-returns-then-shared-count t c =
    rw (c.shared-shared.ensures.all (omega (arith, c.if-shared-count.true, c.count.ensures)), ← c.self.view_is)
    (c.contains.ensures ∙ sym (has-grown c.self.inside.skipped _ (originator_of c.args.vrp.now) (top_of c.self.inside.branch)))

pub node::Node::contains-returns-else-shared-count : goal.node::Node::contains-returns-else-shared-count
node::Node::contains-returns-else-shared-count t c =
    let path = c.self.inside.skipped in
    let bits = bits_from c.args.vrp.now.prefix c.args.at in
    let apart : common path bits < length path = grind (arith, c.shared-shared.ensures.common, c.count.ensures, c.if-shared-count.false, common-least path bits) in
    rw (← c.self.view_is) (ne_eqb _ _ c.if-shared-count.false ∙ sym (has-apart path bits (originator_of c.args.vrp.now) (top_of c.self.inside.branch) apart))
