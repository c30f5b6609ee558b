use Rattle.desk.proofs.desk.queries.content.Goals as goal

pub returns-in-Some-clause-answered : goal.returns-in-Some-clause-answered
returns-in-Some-clause-answered g c clean history legal held =
    (c.in-Shown.auth, rw c.in-Shown.is at c.in_ok-refused.ensures.answered clean history legal held, rw c.in-Some.is at c.in_ok-text.ensures.text)
