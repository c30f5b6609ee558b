use Rattle.policy.proofs.Vocabulary.{refl}
use Rattle.policy.proofs.what_if.suppose.Goals as goal

pub returns : goal.returns
returns c history h legal are =
    c.suppose_on.ensures.rows refl c.args.charter.now history h legal (rw c.as_ref.ensures.value are)
