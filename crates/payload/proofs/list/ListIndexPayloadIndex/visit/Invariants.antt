use Rattle.payload.proofs.Vocabulary.{◌≡◌, false, take}
use Rattle.payload.proofs.list.ListIndexPayloadIndex.visit.Given as goal

abbrev pub invariant-loop-vrp : goal.invariant-loop-vrp
invariant-loop-vrp g l = record {
  taken : g.S.Sink.has_stopped l.fn.sink ≡ false → g.S.Sink.took l.fn.sink (take l.vrp-index l.vrp-items) l.sink;
  goes_on : g.S.Sink.has_stopped l.fn.sink ≡ false → g.S.Sink.has_stopped l.sink ≡ false;
}
