use Rattle.payload.proofs.Vocabulary.{rules, refl, subst, sym, ◌∙◌, All, on_err_weaker, width, IsPruned, grown, tree, shrinks, vrps_at, top_of}
use Rattle.payload.proofs.Grown.{pruned-past}
use Rattle.payload.proofs.Halves.{above-half}
use Rattle.payload.proofs.TrieVisits.{node-beginning, node-took, node-took_all}
use Rattle.payload.proofs.TrieVrps.{HasLengths}
use Rattle.payload.proofs.Visits.{beginning-later, beginning-longer, on-err}
use Rattle.payload.proofs.trie.+visit.Goals as goal

pub node::Branch::visit-loop-originator-preserved : goal.node::Branch::visit-loop-originator-preserved
node::Branch::visit-loop-originator-preserved g t c =
    let lengths : All (HasLengths c.args.prefix.now) c.as_slice-originator-items.result.now = rw c.as_slice-originator-items.ensures c.requires.0.lengths in
    record {
      taken = λ fresh. node-took g.S.Sink.took g.met.S.Sink.took_then c.args.prefix.now _ _ _ _ _ _ _ lengths c.loop-originator-test.true refl refl (c.loop-originator.invariant.taken fresh) (c.take.ensures.took (c.loop-originator.invariant.goes_on fresh));
      goes_on = λ fresh. sym c.in_ok-take.ensures.stopped;
    }

pub node::Branch::visit-returns-in_err-take-clause-beginning : goal.node::Branch::visit-returns-in_err-take-clause-beginning
node::Branch::visit-returns-in_err-take-clause-beginning g t c =
    let lengths : All (HasLengths c.args.prefix.now) c.as_slice-originator-items.result.now = rw c.as_slice-originator-items.ensures c.requires.0.lengths in
    rw (← c.as_slice-originator-items.ensures)
    (on-err c.from_residual.result _ (λ fresh.
    node-beginning g.S.Sink.took g.met.S.Sink.took_then c.args.prefix.now _ _ _ _ _ _ _ _ lengths c.loop-originator-test.true refl refl (c.loop-originator.invariant.taken fresh) (c.take.ensures.took (c.loop-originator.invariant.goes_on fresh))))

pub node::Branch::visit-returns-in_err-visit_below-clause-beginning : goal.node::Branch::visit-returns-in_err-visit_below-clause-beginning
node::Branch::visit-returns-in_err-visit_below-clause-beginning g t c =
    rw (← c.as_slice-originator-items.ensures)
    (on-err c.from_residual-in_err-visit_below.result _ (λ fresh.
    beginning-later g.S.Sink.took g.met.S.Sink.took_then _ _ _ _ _ (node-took_all g.S.Sink.took c.args.prefix.now _ _ _ _ (c.loop-originator.invariant.taken fresh) c.loop-originator-test.false)
    (beginning-longer g.S.Sink.took _ _ _ _ (c.in_err-visit_below.ensures.beginning (c.loop-originator.invariant.goes_on fresh)))))

pub node::Branch::visit-returns-clause-beginning : goal.node::Branch::visit-returns-clause-beginning
node::Branch::visit-returns-clause-beginning g t c =
    rw (← c.as_slice-originator-items.ensures)
    (on_err_weaker c.visit_below-2.result (λ is fresh.
    let going = c.loop-originator.invariant.goes_on fresh in
    beginning-later g.S.Sink.took g.met.S.Sink.took_then _ _ _ _ _ (node-took_all g.S.Sink.took c.args.prefix.now _ _ _ _ (c.loop-originator.invariant.taken fresh) c.loop-originator-test.false)
    (beginning-later g.S.Sink.took g.met.S.Sink.took_then _ _ _ _ _ (c.in_ok-visit_below.ensures.all going) (is (c.in_ok-visit_below.ensures.goes_on going))))
    c.visit_below-2.ensures.beginning)

pub node::Node::visit-past-requires : goal.node::Node::visit-past-requires
node::Node::visit-past-requires g t c =
    let pruned = rw (← c.self.view_is) at c.requires in
    (pruned-past _ _ _ c.self.inside.skipped (top_of c.self.inside.branch) refl pruned).0.fits

pub node::Node::visit-visit-requires : goal.node::Node::visit-visit-requires
node::Node::visit-visit-requires g t c =
    let pruned = rw (← c.self.view_is) at c.requires in
    let below = pruned-past _ _ _ c.self.inside.skipped (top_of c.self.inside.branch) c.past.ensures.length pruned in
    let there = subst (λ f. IsPruned (width f) c.past.result.length (tree (top_of c.self.inside.branch))) (sym c.past.ensures.family) below in
    λ κs alive. (search (rules, shrinks c.self.inside), (search rules, there))

pub visit::visit_below-returns-in-Some-clause-all : goal.visit::visit_below-returns-in-Some-clause-all
visit::visit_below-returns-in-Some-clause-all g t c =
    let half = c.past.ensures.vrps c.in-Some.node.value ∙ (λ i. vrps_at c.args.prefix.now (tree (grown (c.one.ensures i) c.in-Some.node.value))) ∙ above-half c.args.bit c.args.prefix.now _ in
    rw (c.in-Some.is, sym half, ← c.deref.ensures) c.visit.ensures.all

pub visit::visit_below-returns-in-Some-clause-beginning : goal.visit::visit_below-returns-in-Some-clause-beginning
visit::visit_below-returns-in-Some-clause-beginning g t c =
    let half = c.past.ensures.vrps c.in-Some.node.value ∙ (λ i. vrps_at c.args.prefix.now (tree (grown (c.one.ensures i) c.in-Some.node.value))) ∙ above-half c.args.bit c.args.prefix.now _ in
    rw (c.in-Some.is, sym half, ← c.deref.ensures) c.visit.ensures.beginning
