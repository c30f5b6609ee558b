use Rattle.cli_tasks.proofs.serve.connections.answer_in_time.Goals as goal

pub returns : goal.returns
returns g c =
    let (passed, after, ended, passes, answers) = c.answer_between-2.ensures in
    (passed, after.peer.now, ended, rw (c.new.ensures, c.new-to.ensures) at passes, answers)
