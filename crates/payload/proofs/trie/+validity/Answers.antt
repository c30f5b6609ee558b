use Rattle.payload.proofs.Vocabulary.{◌+◌, true, false, sym, ◌∙◌, arith, top_of, authorizes, bits_from, state_of, subtree}
use Rattle.payload.proofs.Grown.{nodes-apart, nodes-grown}
use Rattle.payload.proofs.TrieStates.{walked-apart, walked-grown, nodes-next, walked-leaf, walked-next}
use Rattle.payload.proofs.Bits.{bits_from-next}
use Rattle.payload.proofs.trie.+validity.Goals as goal

pub node::Branch::validity-returns-then-bit-clause-state : goal.node::Branch::validity-returns-then-bit-clause-state
node::Branch::validity-returns-then-bit-clause-state t c =
    rw (bits_from-next c.args.route.now.prefix c.args.at true (omega arith) c.if-bit.ensures)
    (c.validity_below.ensures.state ∙ rw (c.unmatched-state.ensures, c.deref-2.ensures)
    (walked-next c.args.route.now (state_of c.args.above) true _ c.args.self.now.originators.items (subtree c.args.self.now.zero) (subtree c.args.self.now.one) (rw c.deref.ensures at (sym c.if-some_authorizes.ensures))))

pub node::Branch::validity-returns-then-bit-clause-count : goal.node::Branch::validity-returns-then-bit-clause-count
node::Branch::validity-returns-then-bit-clause-count t c =
    rw (bits_from-next c.args.route.now.prefix c.args.at true (omega arith) c.if-bit.ensures)
    (c.validity_below.ensures.count
    ∙ nodes-next c.args.route.now true _ c.args.self.now.originators.items (subtree c.args.self.now.zero) (subtree c.args.self.now.one) c.args.count (rw c.deref.ensures at (sym c.if-some_authorizes.ensures)))

pub node::Branch::validity-returns-else-bit-clause-state : goal.node::Branch::validity-returns-else-bit-clause-state
node::Branch::validity-returns-else-bit-clause-state t c =
    rw (bits_from-next c.args.route.now.prefix c.args.at false (omega arith) c.if-bit.ensures)
    (c.validity_below-else-bit.ensures.state ∙ rw (c.unmatched-state.ensures, c.deref-2.ensures)
    (walked-next c.args.route.now (state_of c.args.above) false _ c.args.self.now.originators.items (subtree c.args.self.now.zero) (subtree c.args.self.now.one) (rw c.deref.ensures at (sym c.if-some_authorizes.ensures))))

pub node::Branch::validity-returns-else-bit-clause-count : goal.node::Branch::validity-returns-else-bit-clause-count
node::Branch::validity-returns-else-bit-clause-count t c =
    rw (bits_from-next c.args.route.now.prefix c.args.at false (omega arith) c.if-bit.ensures)
    (c.validity_below-else-bit.ensures.count
    ∙ nodes-next c.args.route.now false _ c.args.self.now.originators.items (subtree c.args.self.now.zero) (subtree c.args.self.now.one) c.args.count (rw c.deref.ensures at (sym c.if-some_authorizes.ensures)))

pub validity::validity_below-returns-in-None-clause-state : goal.validity::validity_below-returns-in-None-clause-state
validity::validity_below-returns-in-None-clause-state t c = rw c.in-None.is (walked-leaf c.args.route.now (state_of c.args.above) (bits_from c.args.route.now.prefix c.args.at))

pub validity::validity_below-returns-in-Some-clause-count : goal.validity::validity_below-returns-in-Some-clause-count
validity::validity_below-returns-in-Some-clause-count t c = rw (c.in-Some.is, ← c.deref.ensures) c.validity.ensures.count

pub node::Node::validity-returns-then-shared-count-clause-state : goal.node::Node::validity-returns-then-shared-count-clause-state
node::Node::validity-returns-then-shared-count-clause-state t c =
    rw (← c.self.view_is) (walked-apart c.args.route.now (state_of c.args.above) c.self.inside.skipped (bits_from c.args.route.now.prefix c.args.at) (top_of c.self.inside.branch) (omega (arith, c.shared-shared.ensures.common, c.count.ensures, c.if-shared-count.true)))

pub node::Node::validity-returns-then-shared-count-clause-count : goal.node::Node::validity-returns-then-shared-count-clause-count
node::Node::validity-returns-then-shared-count-clause-count t c =
    rw (← c.self.view_is) (omega (arith, c.from.ensures, c.shared-shared.ensures.common, nodes-apart (authorizes c.args.route.now) c.self.inside.skipped (bits_from c.args.route.now.prefix c.args.at) (top_of c.self.inside.branch) (omega (arith, c.shared-shared.ensures.common, c.count.ensures, c.if-shared-count.true))))

pub node::Node::validity-returns-clause-state : goal.node::Node::validity-returns-clause-state
node::Node::validity-returns-clause-state t c =
    rw (c.shared-shared.ensures.all (omega (arith, c.if-shared-count.false, c.count.ensures)), ← c.self.view_is)
    (c.validity.ensures.state ∙ walked-grown c.args.route.now (state_of c.args.above) c.self.inside.skipped (bits_from c.args.route.now.prefix (c.args.at + c.shared-shared.result)) (top_of c.self.inside.branch))

pub node::Node::validity-returns-clause-count : goal.node::Node::validity-returns-clause-count
node::Node::validity-returns-clause-count t c =
    rw (c.shared-shared.ensures.all (omega (arith, c.if-shared-count.false, c.count.ensures)), ← c.self.view_is)
    (omega (arith, c.from.ensures, c.if-shared-count.false, c.count.ensures, c.shared-shared.ensures.most, c.validity.ensures.count, nodes-grown (authorizes c.args.route.now) c.self.inside.skipped (bits_from c.args.route.now.prefix (c.args.at + c.shared-shared.result)) (top_of c.self.inside.branch)))
