use Rattle.cli_tasks.proofs.Vocabulary.{[], ◌≡◌, OnErr, arith, refl, subst}
use Rattle.cli_tasks.proofs.ConnectionLemmas.{accepts-none, logs-none}
use Rattle.cli_tasks.proofs.LivesLemmas.{count_of_stop}
use Rattle.cli_tasks.proofs.lives.serve_life.Goals as goal

pub returns-then-life-clause-served : goal.returns-then-life-clause-served
returns-then-life-clause-served g c = rw c.if-life.true c.serve_until_close.ensures.served

pub returns-in-Ok-clause-served : goal.returns-in-Ok-clause-served
returns-in-Ok-clause-served g c =
    let (passed, few, whole, accepted, logged, serves) = c.in-Ok.ensures.served in
    (passed, few, count_of_stop whole, accepted, logged, rw c.if-life.false serves, tt)

pub returns-in-Err-clause-served : goal.returns-in-Err-clause-served
returns-in-Err-clause-served g c =
    let same = subst (λ r. OnErr r ((c.serve_until_stop.new.connections ≡ c.args.connections.now)
    × (c.serve_until_stop.new.log ≡ c.args.log.now))) c.in-Err.is c.serve_until_stop.ensures.unserved in (
      [],
      omega arith,
      tt,
      rw same.0 (accepts-none _),
      rw same.1 (logs-none _ _),
      tt,
      (refl, c.in-Err.ensures.err, c.in-Err.ensures.no_legal, c.in-Err.ensures.left),
    )
