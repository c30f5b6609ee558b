use Rattle.roa.proofs.content.Content.entries.Goals as goal

pub returns-clause-content : goal.returns-clause-content
returns-clause-content c = rw (← c.self.view_is) c.self.invariant
