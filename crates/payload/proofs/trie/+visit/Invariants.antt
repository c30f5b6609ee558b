use Rattle.payload.proofs.Vocabulary.{◌≡◌, false, take, node_vrps}
use Rattle.payload.proofs.trie.+visit.Given as goal

abbrev pub invariant-node::Branch::visit-loop-originator : goal.invariant-node::Branch::visit-loop-originator
invariant-node::Branch::visit-loop-originator g l = record {
  taken : g.S.Sink.has_stopped l.fn.sink ≡ false → g.S.Sink.took l.fn.sink (node_vrps l.fn.prefix (take l.originator-index l.originator-items)) l.sink;
  goes_on : g.S.Sink.has_stopped l.fn.sink ≡ false → g.S.Sink.has_stopped l.sink ≡ false;
}
