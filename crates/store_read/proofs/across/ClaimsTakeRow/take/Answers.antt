use Rattle.store_read.proofs.Vocabulary.{rules}
use Rattle.store_read.proofs.InForce.{one_key_more}
use Rattle.store_read.proofs.across.ClaimsTakeRow.take.Goals as goal

pub returns-clause-took : goal.returns-clause-took
returns-clause-took c = λ _ rows was. one_key_more c.args.self.keys.items c.push.new.self.items rows c.args.row.now c.in-Some.claim was c.in-Some.ensures.1 (search rules)
