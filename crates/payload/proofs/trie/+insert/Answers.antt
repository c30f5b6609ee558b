use Rattle.payload.proofs.Vocabulary.{rules, ◌+◌, length, IfOk, false, true, not, ◌||◌, ◌≡◌, ◌≤◌, refl, sym, ap, ◌∙◌, subst, arith, length-take-le, OnErr, on_ok_weaker, width, top_of, shrinks, grown, weight, Leaf, IsPruned, is_bare, tree, bits_from, originator_of}
use Rattle.payload.proofs.Grown.{has-apart, has-grown, pruned-after, pruned-chain, pruned-past}
use Rattle.payload.proofs.Skips.{common-some}
use Rattle.payload.proofs.Bits.{bits_from-next, length-bits_from}
use Rattle.payload.proofs.Trees.{changed-grown, changed-one, changed-zero, full-after, full-inserted, has-leaf, inserted-chain, originators-after}
use Rattle.payload.proofs.Visits.{on-err}
use Rattle.payload.proofs.trie.+insert.Goals as goal

pub insert::insert_below-returns-in-Some-clause-full : goal.insert::insert_below-returns-in-Some-clause-full
insert::insert_below-returns-in-Some-clause-full t c =
    full-after c.insert.result _ _ _ _ c.insert.ensures.ok c.insert.ensures.err (rw c.deref_mut.ensures.value (rw c.in-Some.is at c.requires.full))

pub insert::insert_below-returns-in_ok-new-in-None-clause-new : goal.insert::insert_below-returns-in_ok-new-in-None-clause-new
insert::insert_below-returns-in_ok-new-in-None-clause-new t c = rw c.in-None.is (ap not (sym (has-leaf (bits_from c.args.vrp.now.prefix c.args.at) (originator_of c.args.vrp.now))))

pub insert::insert_below-returns-in_err-new-in-None-clause-absent : goal.insert::insert_below-returns-in_err-new-in-None-clause-absent
insert::insert_below-returns-in_err-new-in-None-clause-absent t c = on-err c.from_residual.result _ (rw c.in-None.is (has-leaf (bits_from c.args.vrp.now.prefix c.args.at) _))

pub insert::insert_below-returns-in_ok-new-in-None-clause-ok : goal.insert::insert_below-returns-in_ok-new-in-None-clause-ok
insert::insert_below-returns-in_ok-new-in-None-clause-ok t c = rw (c.in-None.is, c.in_ok-new-in-None.ensures.ok, c.lone.ensures) (inserted-chain _ _)

pub insert::insert_below-returns-in_ok-new-in-None-clause-pruned : goal.insert::insert_below-returns-in_ok-new-in-None-clause-pruned
insert::insert_below-returns-in_ok-new-in-None-clause-pruned t c =
    let v = c.args.vrp.now in
    rw c.in_ok-new-in-None.ensures.ok (subst (IsPruned (width v.prefix.family) c.args.at) (sym c.lone.ensures)
    (pruned-chain _ _ _ _ (omega (arith, length-bits_from v.prefix c.args.at, v.at_least_length, c.requires.within)) v.at_most_width))

pub insert::insert_below-returns-in_ok-new-in-None-clause-full : goal.insert::insert_below-returns-in_ok-new-in-None-clause-full
insert::insert_below-returns-in_ok-new-in-None-clause-full t c = rw c.in_ok-new-in-None.ensures.ok (subst (λ t. is_bare t ≡ false) (sym c.lone.ensures) (full-inserted _ _ Leaf _ (inserted-chain _ _)))

pub node::Branch::insert-returns-then-at-vrp-clause-pruned : goal.node::Branch::insert-returns-then-at-vrp-clause-pruned
node::Branch::insert-returns-then-at-vrp-clause-pruned t c =
    let v = c.args.vrp.now in
    let low : c.args.at ≤ c.of.result.max = rw c.of.ensures (omega (arith, c.if-at-vrp.true, v.at_least_length)) in
    let high : c.of.result.max ≤ width v.prefix.family = rw c.of.ensures v.at_most_width in
    (originators-after c.insert.result _ _ _ _ c.of.result c.requires.pruned.0 low high c.insert.ensures.rise c.insert.ensures.members c.insert.ensures.err, c.requires.pruned.1, c.requires.pruned.2)

pub node::Branch::insert-returns-then-bit-clause-new : goal.node::Branch::insert-returns-then-bit-clause-new
node::Branch::insert-returns-then-bit-clause-new t c =
    rw (bits_from-next c.args.vrp.now.prefix c.args.at true (omega arith) c.if-bit.ensures) c.insert_below.ensures.new

pub node::Branch::insert-returns-then-bit-clause-ok : goal.node::Branch::insert-returns-then-bit-clause-ok
node::Branch::insert-returns-then-bit-clause-ok t c =
    rw (bits_from-next c.args.vrp.now.prefix c.args.at true (omega arith) c.if-bit.ensures) (on_ok_weaker c.insert_below.result (changed-one (λ is had. is || had) (λ had. refl) _ _ _ _ _ _) c.insert_below.ensures.ok)

pub node::Branch::insert-returns-else-bit-clause-new : goal.node::Branch::insert-returns-else-bit-clause-new
node::Branch::insert-returns-else-bit-clause-new t c =
    rw (bits_from-next c.args.vrp.now.prefix c.args.at false (omega arith) c.if-bit.ensures) c.insert_below-else-bit.ensures.new

pub node::Branch::insert-returns-else-bit-clause-ok : goal.node::Branch::insert-returns-else-bit-clause-ok
node::Branch::insert-returns-else-bit-clause-ok t c =
    rw (bits_from-next c.args.vrp.now.prefix c.args.at false (omega arith) c.if-bit.ensures) (on_ok_weaker c.insert_below-else-bit.result (changed-zero (λ is had. is || had) (λ had. refl) _ _ _ _ _ _) c.insert_below-else-bit.ensures.ok)

pub node::Node::insert-insert-requires : goal.node::Node::insert-insert-requires
node::Node::insert-insert-requires t c =
    let same : grown c.cut.new.skipped (top_of c.cut.new.branch) ≡ c.args.self.now = c.in_ok-cut.ensures.same ∙ c.self.view_is in
    let long : c.args.at + c.shared-shared.result ≡ c.args.at + length c.cut.new.skipped =
    rw c.in_ok-cut.ensures.first (ap (λ n. c.args.at + n) (sym (length-take-le c.shared-shared.result c.self.inside.skipped c.shared-shared.ensures.most))) in
    let pruned = rw (sym same) at c.requires.pruned in
    (search (rules, shrinks (record { skipped = c.cut.new.skipped; branch = c.cut.new.branch }), ap (λ u. weight (tree u)) same), (c.shared-shared.ensures.within, pruned-past _ _ _ c.cut.new.skipped (top_of c.cut.new.branch) long pruned))

pub node::Node::insert-returns-clause-new : goal.node::Node::insert-returns-clause-new
node::Node::insert-returns-clause-new t c =
    rw (common-some c.args.vrp.now.prefix c.args.at c.shared-shared.result c.self.inside.skipped c.requires.within (sym c.shared-shared.ensures.common), sym c.in_ok-cut.ensures.first, sym (c.in_ok-cut.ensures.same ∙ c.self.view_is)) (subst (λ b. IfOk c.insert.result (λ is_new. is_new ≡ not b)) (sym (has-grown c.cut.new.skipped _ (originator_of c.args.vrp.now) (top_of c.cut.new.branch))) c.insert.ensures.new)

pub node::Node::insert-returns-clause-ok : goal.node::Node::insert-returns-clause-ok
node::Node::insert-returns-clause-ok t c =
    rw (common-some c.args.vrp.now.prefix c.args.at c.shared-shared.result c.self.inside.skipped c.requires.within (sym c.shared-shared.ensures.common), sym c.in_ok-cut.ensures.first, sym (c.in_ok-cut.ensures.same ∙ c.self.view_is)) (on_ok_weaker c.insert.result (changed-grown (λ is had. is || had) (λ had. refl) c.cut.new.skipped _ (originator_of c.args.vrp.now) (top_of c.cut.new.branch) (top_of c.insert.new.self)) c.insert.ensures.ok)

pub node::Node::insert-returns-in_err-cut-clause-absent : goal.node::Node::insert-returns-in_err-cut-clause-absent
node::Node::insert-returns-in_err-cut-clause-absent t c =
    on-err c.from_residual.result _ (rw (sym c.self.view_is) (has-apart c.self.inside.skipped _ _ (top_of c.self.inside.branch) (rw c.shared-shared.ensures.common at c.in_err-cut.ensures.more)))

pub node::Node::insert-returns-clause-absent : goal.node::Node::insert-returns-clause-absent
node::Node::insert-returns-clause-absent t c =
    rw (common-some c.args.vrp.now.prefix c.args.at c.shared-shared.result c.self.inside.skipped c.requires.within (sym c.shared-shared.ensures.common), sym c.in_ok-cut.ensures.first, sym (c.in_ok-cut.ensures.same ∙ c.self.view_is)) (subst (λ b. OnErr c.insert.result (b ≡ false)) (sym (has-grown c.cut.new.skipped _ (originator_of c.args.vrp.now) (top_of c.cut.new.branch))) c.insert.ensures.absent)

pub node::Node::insert-returns-clause-pruned : goal.node::Node::insert-returns-clause-pruned
node::Node::insert-returns-clause-pruned t c =
    let long : c.args.at + c.shared-shared.result ≡ c.args.at + length c.cut.new.skipped =
    rw c.in_ok-cut.ensures.first (ap (λ n. c.args.at + n) (sym (length-take-le c.shared-shared.result c.self.inside.skipped c.shared-shared.ensures.most))) in
    let pruned = rw (sym (c.in_ok-cut.ensures.same ∙ c.self.view_is)) at c.requires.pruned in
    pruned-after c.insert.result _ _ _ c.cut.new.skipped (bits_from c.args.vrp.now.prefix (c.args.at + c.shared-shared.result)) (originator_of c.args.vrp.now) (top_of c.cut.new.branch) (top_of c.insert.new.self) long pruned c.insert.ensures.pruned c.insert.ensures.ok c.insert.ensures.err
