use Rattle.streams.proofs.Vocabulary.{◌∙◌}
use Rattle.streams.proofs.StreamLemmas.{AppendsBeginning-take, on-err}
use Rattle.streams.proofs.device.DeviceDrain.write.Goals as goal

pub returns-in_err-flush-clause-err : goal.returns-in_err-flush-clause-err
returns-in_err-flush-clause-err g c =
    on-err c.from_residual-in_err-flush.result _
    (AppendsBeginning-take _ _ c.args.bytes.now c.in_ok-count.count
    (c.in_err-flush.ensures.bytes ∙ c.in_ok-count.ensures.ok))
