use Rattle.payload.proofs.Vocabulary.{rules, true, false, refl, sym, ap, ◌∙◌, subst, arith, width, state_of, top_of, shrinks, IsPruned, subtree, tree, state_among, vrps_at}
use Rattle.payload.proofs.Bits.{is_one}
use Rattle.payload.proofs.Grown.{pruned-past}
use Rattle.payload.proofs.Halves.{contains-longer}
use Rattle.payload.proofs.TrieValidity.{among-end, among-next, among-outside}
use Rattle.payload.proofs.trie.+among.Goals as goal

pub node::Branch::validity_among-bit-requires : goal.node::Branch::validity_among-bit-requires
node::Branch::validity_among-bit-requires g t c =
    omega (arith, c.if-place-route.false, contains-longer c.args.place.now c.args.route.now.prefix c.requires.inside)

pub node::Branch::validity_among-returns-then-place-route : goal.node::Branch::validity_among-returns-then-place-route
node::Branch::validity_among-returns-then-place-route g t c =
    (rw c.as_slice.ensures at c.with_originators-state.ensures)
    ∙ among-end (g.T.VrpTest.passes c.args.test.now) c.args.route.now (state_of c.args.above) c.args.place.now c.args.self.now.originators.items (subtree c.args.self.now.zero) (subtree c.args.self.now.one) c.requires.pruned (omega (arith, c.if-place-route.true))

pub node::Branch::validity_among-returns-then-bit : goal.node::Branch::validity_among-returns-then-bit
node::Branch::validity_among-returns-then-bit g t c =
    among-next (g.T.VrpTest.passes c.args.test.now) c.args.route.now (state_of c.args.above) c.args.place.now c.args.self.now.originators.items (subtree c.args.self.now.zero) (subtree c.args.self.now.one) c.requires.pruned true (is_one true _ c.if-bit.ensures)
    (state_of c.with_originators-state.result) (state_of c.validity_among_below.result) (rw c.as_slice.ensures at c.with_originators-state.ensures) c.validity_among_below.ensures

pub node::Branch::validity_among-returns-else-bit : goal.node::Branch::validity_among-returns-else-bit
node::Branch::validity_among-returns-else-bit g t c =
    among-next (g.T.VrpTest.passes c.args.test.now) c.args.route.now (state_of c.args.above) c.args.place.now c.args.self.now.originators.items (subtree c.args.self.now.zero) (subtree c.args.self.now.one) c.requires.pruned false (is_one false _ c.if-bit.ensures)
    (state_of c.with_originators-state.result) (state_of c.validity_among_below-else-bit.result) (rw c.as_slice.ensures at c.with_originators-state.ensures) c.validity_among_below-else-bit.ensures

pub node::Node::validity_among-past-place-requires : goal.node::Node::validity_among-past-place-requires
node::Node::validity_among-past-place-requires g t c =
    let pruned = rw (← c.self.view_is) at c.requires in
    (pruned-past _ _ _ c.self.inside.skipped (top_of c.self.inside.branch) refl pruned).0.fits

pub node::Node::validity_among-validity_among-requires : goal.node::Node::validity_among-validity_among-requires
node::Node::validity_among-validity_among-requires g t c =
    let pruned = rw (← c.self.view_is) at c.requires in
    let below = pruned-past _ _ _ c.self.inside.skipped (top_of c.self.inside.branch) c.past-place.ensures.length pruned in
    let there = subst (λ f. IsPruned (width f) c.past-place.result.length (tree (top_of c.self.inside.branch))) (sym c.past-place.ensures.family) below in
    λ κs alive. (search (rules, shrinks c.self.inside), (search rules, (there, sym c.if-contains.ensures.by_ends)))

pub node::Node::validity_among-returns-else-contains : goal.node::Node::validity_among-returns-else-contains
node::Node::validity_among-returns-else-contains g t c =
    let pruned = rw (← c.self.view_is) at c.requires in
    let passes = g.T.VrpTest.passes c.args.test.now in
    let below = pruned-past _ _ _ c.self.inside.skipped (top_of c.self.inside.branch) c.past-place.ensures.length pruned in
    let there = subst (λ f. IsPruned (width f) c.past-place.result.length (tree (top_of c.self.inside.branch))) (sym c.past-place.ensures.family) below in
    among-outside passes c.args.route.now (state_of c.args.above) c.past-place.result (tree (top_of c.self.inside.branch)) there (sym c.if-contains.ensures.by_ends)
    ∙ ap (state_among (state_of c.args.above) passes c.args.route.now) (c.past-place.ensures.vrps (top_of c.self.inside.branch))
    ∙ ap (λ t. state_among (state_of c.args.above) passes c.args.route.now (vrps_at c.args.place.now (tree t))) c.self.view_is
