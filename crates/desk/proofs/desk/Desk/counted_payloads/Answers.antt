use Rattle.desk.proofs.Vocabulary.{refl}
use Rattle.desk.proofs.LentLemmas.{has_lent}
use Rattle.desk.proofs.desk.Desk.counted_payloads.Goals as goal

pub returns-then-prepare : goal.returns-then-prepare
returns-then-prepare g c = (
  (
    refl,
    λ _. tt,
    has_lent g.S.Store c.args.self.now c.count_kept.new.self c.args.day c.counted_vrps.result
        (rw (← c.count_kept.ensures, c.if-prepare.true) at c.prepare.ensures) c.counted_vrps.ensures,
  ),
  tt,
)
