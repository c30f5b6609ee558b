use Rattle.requests.proofs.request.request_in.Goals as goal

pub returns-in-Transfer-clause-read : goal.returns-in-Transfer-clause-read
returns-in-Transfer-clause-read c = rw c.in-Transfer.is (c.transfer_in.ensures c.args.subject)
