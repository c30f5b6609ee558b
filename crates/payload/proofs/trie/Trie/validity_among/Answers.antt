use Rattle.payload.proofs.Vocabulary.{filter, sym, ap, ◌∙◌, NotFound, validation_state, tree, state_among, vrps_at, whole}
use Rattle.payload.proofs.TrieValidity.{among-four, among-six, trie-items}
use Rattle.payload.proofs.trie.Trie.validity_among.Goals as goal

pub returns-in-V4 : goal.returns-in-V4
returns-in-V4 g c =
    let passes = g.T.VrpTest.passes c.args.test.now in
    c.validity_among.ensures
    ∙ ap (λ p. state_among NotFound passes c.args.route.now (vrps_at p (tree c.self.inside.four))) (c.whole-place.ensures ∙ ap whole c.in-V4.is)
    ∙ among-four passes c.args.route.now (tree c.self.inside.four) (tree c.self.inside.six) c.self.invariant.1 c.in-V4.is
    ∙ ap (λ vrps. validation_state (filter passes vrps) c.args.route.now) (sym (trie-items c.args.self.now (tree c.self.inside.four) (tree c.self.inside.six) c.self.view_is c.self.invariant.0 c.self.invariant.1))

pub returns-in-V6 : goal.returns-in-V6
returns-in-V6 g c =
    let passes = g.T.VrpTest.passes c.args.test.now in
    c.validity_among-in-V6.ensures
    ∙ ap (λ p. state_among NotFound passes c.args.route.now (vrps_at p (tree c.self.inside.six))) (c.whole-place.ensures ∙ ap whole c.in-V6.is)
    ∙ among-six passes c.args.route.now (tree c.self.inside.four) (tree c.self.inside.six) c.self.invariant.0 c.in-V6.is
    ∙ ap (λ vrps. validation_state (filter passes vrps) c.args.route.now) (sym (trie-items c.args.self.now (tree c.self.inside.four) (tree c.self.inside.six) c.self.view_is c.self.invariant.0 c.self.invariant.1))
