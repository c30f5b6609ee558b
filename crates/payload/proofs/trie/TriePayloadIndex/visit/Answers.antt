use Rattle.payload.proofs.Vocabulary.{subst, on_err_weaker, on_ok_weaker, V4, V6, TookBeginning, tree, vrps_at, whole}
use Rattle.payload.proofs.TrieValidity.{trie-items}
use Rattle.payload.proofs.Visits.{beginning-later, beginning-longer, on-err}
use Rattle.payload.proofs.trie.TriePayloadIndex.visit.Goals as goal

pub returns-in_err-visit-clause-beginning : goal.returns-in_err-visit-clause-beginning
returns-in_err-visit-clause-beginning g c =
    rw (trie-items c.args.self.now (tree c.self.inside.four) (tree c.self.inside.six) c.self.view_is c.self.invariant.0 c.self.invariant.1)
    (on-err c.from_residual.result _ (λ fresh.
    beginning-longer g.S.Sink.took (vrps_at (whole V4) (tree c.self.inside.four)) (vrps_at (whole V6) (tree c.self.inside.six)) _ _
    (subst (λ p. TookBeginning g.S.Sink.took (vrps_at p (tree c.self.inside.four)) c.args.sink.now c.visit.new.sink) c.whole.ensures (c.in_err-visit.ensures.beginning fresh))))

pub returns-clause-all : goal.returns-clause-all
returns-clause-all g c =
    rw (trie-items c.args.self.now (tree c.self.inside.four) (tree c.self.inside.six) c.self.view_is c.self.invariant.0 c.self.invariant.1)
    (on_ok_weaker c.visit-2.result (λ all fresh.
    g.met.S.Sink.took_then _ _ _ (vrps_at (whole V4) (tree c.self.inside.four)) (vrps_at (whole V6) (tree c.self.inside.six))
    (subst (λ p. g.S.Sink.took c.args.sink.now (vrps_at p (tree c.self.inside.four)) c.visit.new.sink) c.whole.ensures (c.in_ok-visit.ensures.all fresh))
    (subst (λ p. g.S.Sink.took c.visit.new.sink (vrps_at p (tree c.self.inside.six)) c.visit-2.new.sink) c.whole-2.ensures (all (c.in_ok-visit.ensures.goes_on fresh))))
    c.visit-2.ensures.all)

pub returns-clause-beginning : goal.returns-clause-beginning
returns-clause-beginning g c =
    rw (trie-items c.args.self.now (tree c.self.inside.four) (tree c.self.inside.six) c.self.view_is c.self.invariant.0 c.self.invariant.1)
    (on_err_weaker c.visit-2.result (λ is fresh.
    beginning-later g.S.Sink.took g.met.S.Sink.took_then (vrps_at (whole V4) (tree c.self.inside.four)) (vrps_at (whole V6) (tree c.self.inside.six)) _ _ _
    (subst (λ p. g.S.Sink.took c.args.sink.now (vrps_at p (tree c.self.inside.four)) c.visit.new.sink) c.whole.ensures (c.in_ok-visit.ensures.all fresh))
    (subst (λ p. TookBeginning g.S.Sink.took (vrps_at p (tree c.self.inside.six)) c.visit.new.sink c.visit-2.new.sink) c.whole-2.ensures (is (c.in_ok-visit.ensures.goes_on fresh))))
    c.visit-2.ensures.beginning)
