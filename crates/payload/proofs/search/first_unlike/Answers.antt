use Rattle.payload.proofs.Vocabulary.{◌≡◌, ◌≤◌, arith}
use Rattle.payload.proofs.Unlike.{unlike-between}
use Rattle.payload.proofs.search.first_unlike.Goals as goal
use Rattle.payload.proofs.search.first_unlike.Goals.{then-route-vrp, else-route-vrp}

pub returns : goal.returns
returns c v less from =
    let top : c.args.route.now.prefix.length ≤ c.args.vrp.now.max → c.if-route-vrp.max ≡ c.args.vrp.now.max = λ fits.
    elim c.if-route-vrp.branch [ then-route-vrp w ↦ w.max-is | else-route-vrp w ↦ absurd (omega arith) ] in
    unlike-between v c.args.vrp.now c.args.route.now c.if-route-vrp.max c.first_other.result.0 top c.first_other.ensures less from
