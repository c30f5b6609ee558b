use Rattle.cli_tasks.proofs.serve.connections.DeskAnswerConnections.make_ready.Goals as goal

pub returns : goal.returns
returns g c = (c.prepare-is_kept.result, c.prepare-is_kept.ensures)
