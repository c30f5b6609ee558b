use Rattle.store_write.proofs.Vocabulary.{arith, state_in}
use Rattle.store_write.proofs.ExceptionSteps.{replaced}
use Rattle.store_write.proofs.exceptions.replace_files.Goals as goal

pub returns-clause-done : goal.returns-clause-done
returns-clause-done g c clean =
    let taken = c.in_ok-take_exceptions.ensures.done (omega (arith, c.put_files.ensures.inside.survives.clean)) in
    let put = rw c.files.ensures.files at (c.put_files.ensures.done clean) in
    let bounded = rw c.files.ensures.files at c.put_files.ensures.bounded in
    replaced c.put_files.result c.args.files.now _ _ (state_in g.S.Store c.put_files.new.tx) c.files.ensures.rising taken put bounded
