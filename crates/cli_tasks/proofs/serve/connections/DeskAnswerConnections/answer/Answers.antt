use Rattle.cli_tasks.proofs.Vocabulary.{ap}
use Rattle.cli_tasks.proofs.ServingLemmas.{serves}
use Rattle.cli_tasks.proofs.serve.connections.DeskAnswerConnections.answer.Goals as goal

pub returns : goal.returns
returns g c =
    let said = c.serve_request.ensures in
    serves g.A.Store c.args.day c.args.self.now c.serve_request.new.desk
    (g.S.Source.handed_out c.args.source.now) (g.S.Source.handed_out c.serve_request.new.source)
    (g.D.Drain.written c.args.drain.now) (g.D.Drain.written c.serve_request.new.drain) _ _ _ c.serve_request.result
    said.desk said.ok (λ is. let (bytes, given, cut, over, same, kept) = said.read is in
    (bytes, given, cut, over, same, ap g.D.Drain.written kept)) said.write said.write_failed
