use Rattle.payload.proofs.Vocabulary.{length, sym, ap, ◌∙◌, arith, validation_state, search_depths, tree, trie_vrps}
use Rattle.payload.proofs.TrieValidity.{depths-four, depths-six, search_depths-most, state-four, state-six, trie-items}
use Rattle.payload.proofs.trie.Trie.validity_counted.Goals as goal

pub returns-in-V4-clause-state : goal.returns-in-V4-clause-state
returns-in-V4-clause-state c =
    c.validity.ensures.state
    ∙ state-four c.args.route.now (tree c.self.inside.four) (tree c.self.inside.six) c.self.invariant.0 c.self.invariant.1 c.in-V4.is
    ∙ ap (λ vrps. validation_state vrps c.args.route.now) (sym (trie-items c.args.self.now (tree c.self.inside.four) (tree c.self.inside.six) c.self.view_is c.self.invariant.0 c.self.invariant.1))

pub returns-in-V4-clause-count : goal.returns-in-V4-clause-count
returns-in-V4-clause-count c =
    omega (arith, c.validity.ensures.count, depths-four c.args.route.now c.self.inside.four.originators c.self.inside.four.zero c.self.inside.four.one (tree c.self.inside.six) c.self.invariant.0 c.self.invariant.1 c.in-V4.is, ap (λ vrps. length (search_depths vrps c.args.route.now)) (sym (trie-items c.args.self.now (tree c.self.inside.four) (tree c.self.inside.six) c.self.view_is c.self.invariant.0 c.self.invariant.1)))

pub returns-in-V4-clause-most : goal.returns-in-V4-clause-most
returns-in-V4-clause-most c =
    omega (arith, c.validity.ensures.count, depths-four c.args.route.now c.self.inside.four.originators c.self.inside.four.zero c.self.inside.four.one (tree c.self.inside.six) c.self.invariant.0 c.self.invariant.1 c.in-V4.is, search_depths-most (trie_vrps (tree c.self.inside.four) (tree c.self.inside.six)) c.args.route.now)

pub returns-in-V6-clause-state : goal.returns-in-V6-clause-state
returns-in-V6-clause-state c =
    c.validity-in-V6.ensures.state
    ∙ state-six c.args.route.now (tree c.self.inside.four) (tree c.self.inside.six) c.self.invariant.0 c.self.invariant.1 c.in-V6.is
    ∙ ap (λ vrps. validation_state vrps c.args.route.now) (sym (trie-items c.args.self.now (tree c.self.inside.four) (tree c.self.inside.six) c.self.view_is c.self.invariant.0 c.self.invariant.1))

pub returns-in-V6-clause-count : goal.returns-in-V6-clause-count
returns-in-V6-clause-count c =
    omega (arith, c.validity-in-V6.ensures.count, depths-six c.args.route.now (tree c.self.inside.four) c.self.inside.six.originators c.self.inside.six.zero c.self.inside.six.one c.self.invariant.0 c.self.invariant.1 c.in-V6.is, ap (λ vrps. length (search_depths vrps c.args.route.now)) (sym (trie-items c.args.self.now (tree c.self.inside.four) (tree c.self.inside.six) c.self.view_is c.self.invariant.0 c.self.invariant.1)))

pub returns-in-V6-clause-most : goal.returns-in-V6-clause-most
returns-in-V6-clause-most c =
    omega (arith, c.validity-in-V6.ensures.count, depths-six c.args.route.now (tree c.self.inside.four) c.self.inside.six.originators c.self.inside.six.zero c.self.inside.six.one c.self.invariant.0 c.self.invariant.1 c.in-V6.is, search_depths-most (trie_vrps (tree c.self.inside.four) (tree c.self.inside.six)) c.args.route.now)
