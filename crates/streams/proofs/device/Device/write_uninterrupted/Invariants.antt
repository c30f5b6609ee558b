use Rattle.streams.proofs.Vocabulary.{Keeps, device_inner, device_calls_left, IsCalled}
use Rattle.streams.proofs.device.Device.write_uninterrupted.Given as goal

abbrev pub invariant-loop-self : goal.invariant-loop-self
invariant-loop-self g l = IsCalled l.initial.self l.self
    × Keeps (g.T.Write.contents (device_inner l.initial.self)) (g.T.Write.contents (device_inner l.self))

abbrev pub decreases-loop-self : goal.decreases-loop-self
decreases-loop-self g l = device_calls_left l.self
