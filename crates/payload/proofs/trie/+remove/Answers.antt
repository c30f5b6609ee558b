use Rattle.payload.proofs.Vocabulary.{rules, ◌+◌, ◌∙◌, ◌≡◌, false, true, not, ◌&&◌, refl, sym, arith, top_of, shrinks, is_bare, tree, bits_from, originator_of}
use Rattle.payload.proofs.Grown.{has-apart, has-grown, pruned-grown, pruned-past, removed-apart, removed-last}
use Rattle.payload.proofs.Bits.{bits_from-next}
use Rattle.payload.proofs.Trees.{changed-grown, changed-one, changed-zero, has-leaf, originators-removed, removed-bare, removed-leaf}
use Rattle.payload.proofs.trie.+remove.Goals as goal

pub node::Branch::remove-returns-then-at-vrp-clause-pruned : goal.node::Branch::remove-returns-then-at-vrp-clause-pruned
node::Branch::remove-returns-then-at-vrp-clause-pruned t c =
    (originators-removed _ _ _ _ _ c.requires.pruned.0 c.remove.ensures.rise c.remove.ensures.members, c.requires.pruned.1, c.requires.pruned.2)

pub node::Branch::remove-returns-then-bit-clause-rest : goal.node::Branch::remove-returns-then-bit-clause-rest
node::Branch::remove-returns-then-bit-clause-rest t c =
    rw (bits_from-next c.args.vrp.now.prefix c.args.at true (omega arith) c.if-bit.ensures) (changed-one (λ is had. not is && had) (λ had. refl) _ _ _ _ _ _ c.remove_below.ensures.rest)

pub node::Branch::remove-returns-else-bit-clause-found : goal.node::Branch::remove-returns-else-bit-clause-found
node::Branch::remove-returns-else-bit-clause-found t c =
    rw (bits_from-next c.args.vrp.now.prefix c.args.at false (omega arith) c.if-bit.ensures) c.remove_below-else-bit.ensures.found

pub node::Branch::remove-returns-else-bit-clause-rest : goal.node::Branch::remove-returns-else-bit-clause-rest
node::Branch::remove-returns-else-bit-clause-rest t c =
    rw (bits_from-next c.args.vrp.now.prefix c.args.at false (omega arith) c.if-bit.ensures) (changed-zero (λ is had. not is && had) (λ had. refl) _ _ _ _ _ _ c.remove_below-else-bit.ensures.rest)

pub remove::remove_below-returns-in_default-clause-found : goal.remove::remove_below-returns-in_default-clause-found
remove::remove_below-returns-in_default-clause-found t c = rw c.in_default.is (sym (has-leaf (bits_from c.args.vrp.now.prefix c.args.at) (originator_of c.args.vrp.now)))

pub remove::remove_below-returns-in_default-clause-rest : goal.remove::remove_below-returns-in_default-clause-rest
remove::remove_below-returns-in_default-clause-rest t c = rw c.in_default.is (removed-leaf _ _)

pub remove::remove_below-returns-then-is_bare-clause-rest : goal.remove::remove_below-returns-then-is_bare-clause-rest
remove::remove_below-returns-then-is_bare-clause-rest t c =
    let bare : is_bare (tree c.remove-was_there.new.self) ≡ true = rw (← c.deref.ensures) (sym c.if-is_bare.ensures) in
    rw c.in-Some.is (removed-bare _ _ _ (tree c.remove-was_there.new.self) bare (rw (← c.deref_mut.ensures.value) c.remove-was_there.ensures.rest))

pub node::Node::remove-returns-then-shared-count-clause-found : goal.node::Node::remove-returns-then-shared-count-clause-found
node::Node::remove-returns-then-shared-count-clause-found t c =
    rw (← c.self.view_is) (sym (has-apart c.self.inside.skipped (bits_from c.args.vrp.now.prefix c.args.at) (originator_of c.args.vrp.now) (top_of c.self.inside.branch) (omega (arith, c.shared-shared.ensures.common, c.count.ensures, c.if-shared-count.true))))

pub node::Node::remove-returns-then-shared-count-clause-rest : goal.node::Node::remove-returns-then-shared-count-clause-rest
node::Node::remove-returns-then-shared-count-clause-rest t c =
    rw (← c.self.view_is) (removed-apart c.self.inside.skipped (bits_from c.args.vrp.now.prefix c.args.at) (originator_of c.args.vrp.now) (top_of c.self.inside.branch) (omega (arith, c.shared-shared.ensures.common, c.count.ensures, c.if-shared-count.true)))

pub node::Node::remove-remove-was_there-requires : goal.node::Node::remove-remove-was_there-requires
node::Node::remove-remove-was_there-requires t c =
    let pruned = rw (← c.self.view_is) at c.requires.pruned in
    (search (rules, shrinks c.self.inside), (c.shared-shared.ensures.within, pruned-past _ _ _ c.self.inside.skipped (top_of c.self.inside.branch) (omega (arith, c.if-shared-count.false, c.count.ensures, c.shared-shared.ensures.most)) pruned))

pub node::Node::remove-returns-then-is_bare-clause-found : goal.node::Node::remove-returns-then-is_bare-clause-found
node::Node::remove-returns-then-is_bare-clause-found t c =
    rw (c.shared-shared.ensures.all (omega (arith, c.if-shared-count.false, c.count.ensures)), ← c.self.view_is)
    (c.remove-was_there.ensures.found ∙ sym (has-grown c.self.inside.skipped (bits_from c.args.vrp.now.prefix (c.args.at + c.shared-shared.result)) (originator_of c.args.vrp.now) (top_of c.self.inside.branch)))

pub node::Node::remove-returns-then-is_bare-clause-rest : goal.node::Node::remove-returns-then-is_bare-clause-rest
node::Node::remove-returns-then-is_bare-clause-rest t c =
    rw (c.shared-shared.ensures.all (omega (arith, c.if-shared-count.false, c.count.ensures)), ← c.self.view_is, c.none-self-inside.ensures)
    (removed-last c.self.inside.skipped (bits_from c.args.vrp.now.prefix (c.args.at + c.shared-shared.result)) (originator_of c.args.vrp.now) (top_of c.self.inside.branch) (top_of c.remove-was_there.new.self) (sym c.if-is_bare.ensures) c.remove-was_there.ensures.rest)

pub node::Node::remove-returns-else-is_bare-clause-found : goal.node::Node::remove-returns-else-is_bare-clause-found
node::Node::remove-returns-else-is_bare-clause-found t c =
    rw (c.shared-shared.ensures.all (omega (arith, c.if-shared-count.false, c.count.ensures)), ← c.self.view_is)
    (c.remove-was_there.ensures.found ∙ sym (has-grown c.self.inside.skipped (bits_from c.args.vrp.now.prefix (c.args.at + c.shared-shared.result)) (originator_of c.args.vrp.now) (top_of c.self.inside.branch)))

pub node::Node::remove-returns-else-is_bare-clause-rest : goal.node::Node::remove-returns-else-is_bare-clause-rest
node::Node::remove-returns-else-is_bare-clause-rest t c =
    rw (c.shared-shared.ensures.all (omega (arith, c.if-shared-count.false, c.count.ensures)), ← c.self.view_is)
    (changed-grown (λ is had. not is && had) (λ had. refl) c.self.inside.skipped (bits_from c.args.vrp.now.prefix (c.args.at + c.shared-shared.result)) (originator_of c.args.vrp.now) (top_of c.self.inside.branch) (top_of c.remove-was_there.new.self) c.remove-was_there.ensures.rest)

pub node::Node::remove-returns-else-is_bare-clause-pruned : goal.node::Node::remove-returns-else-is_bare-clause-pruned
node::Node::remove-returns-else-is_bare-clause-pruned t c =
    pruned-grown _ _ (c.args.at + c.shared-shared.result) c.self.inside.skipped (top_of c.remove-was_there.new.self) (omega (arith, c.if-shared-count.false, c.count.ensures, c.shared-shared.ensures.most)) c.remove-was_there.ensures.pruned (sym c.if-is_bare.ensures)
