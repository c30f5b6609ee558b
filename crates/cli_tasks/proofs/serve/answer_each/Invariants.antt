use Rattle.cli_tasks.proofs.Vocabulary.{◌≡◌, ◌-◌, ◌≤◌, List, length, Accepts, Logs, AnswersInTurn, AnswersReady, fault_lines, Transcript}
use Rattle.cli_tasks.proofs.serve.answer_each.Given as goal

abbrev pub invariant-loop-served : goal.invariant-loop-served
invariant-loop-served g l = (l.served ≤ l.fn.count)
    × (g.C.Connections.is_listening l.connections ≡ g.C.Connections.is_listening l.fn.connections)
    × (g.C.Connections.listen_error l.connections ≡ g.C.Connections.listen_error l.fn.connections)
    × (passed : List Transcript) × (length passed ≡ l.served)
    × Accepts (g.C.Connections.accepted l.fn.connections) (g.C.Connections.accepted l.connections) passed
    × AnswersInTurn (AnswersReady (g.E.AnswerConnections.answers l.fn.day) (g.E.AnswerConnections.tells_ready l.fn.day)
    (g.E.AnswerConnections.readied l.fn.day)) l.fn.engine passed l.engine
    × Logs (g.L.Log.has_lost l.fn.log) (g.L.Log.has_lost l.log) (g.L.Log.contents l.fn.log) (g.L.Log.contents l.log)
    (fault_lines 1 passed)

abbrev pub decreases-loop-served : goal.decreases-loop-served
decreases-loop-served g l = l.count - l.served
