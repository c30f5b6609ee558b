use Rattle.desk.proofs.Vocabulary.{refl}
use Rattle.desk.proofs.LentLemmas.{has_lent}
use Rattle.desk.proofs.desk.Desk.payloads.Goals as goal

pub returns-then-prepare : goal.returns-then-prepare
returns-then-prepare g c =
    ((refl, λ _. tt, has_lent g.S.Store c.args.self.now c.prepare.new.self c.args.day c.kept_vrps.result (rw c.if-prepare.true at c.prepare.ensures) c.kept_vrps.ensures), tt)
