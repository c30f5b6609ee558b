use Rattle.payload.proofs.Vocabulary.{◌≡◌, take, state_of, node_vrps, state_among}
use Rattle.payload.proofs.trie.among.with_originators.Given as goal

-- the state by the originators so far
abbrev pub invariant-loop-originator : goal.invariant-loop-originator
invariant-loop-originator g l =
    state_of l.state ≡ state_among (state_of l.fn.above) (g.T.VrpTest.passes l.test) l.route (node_vrps l.place (take l.originator-index l.originators))
