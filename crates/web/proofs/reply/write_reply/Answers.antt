use Rattle.web.proofs.reply.write_reply.Goals as goal

pub returns-in-Answers-clause-ok : goal.returns-in-Answers-clause-ok
returns-in-Answers-clause-ok g c =
    rw (c.in-Answers.is, ← c.as_slice-in-Answers.ensures.value) c.write_list-in-Answers.ensures.ok

pub returns-in-Report-clause-ok : goal.returns-in-Report-clause-ok
returns-in-Report-clause-ok g c =
    rw (c.in-Report.is, ← c.as_slice-in-Report.ensures.value) c.write_list-in-Report.ensures.ok
