use Rattle.cli_tasks.proofs.Vocabulary.{◌∙◌, ◌++◌, ◌∷◌, [], ap, arith, length-append, result_err, AnswersReady}
use Rattle.cli_tasks.proofs.ConnectionLemmas.{accepts-then, in-turn-then, logs-one}
use Rattle.cli_tasks.proofs.serve.answer_each.Goals as goal

pub loop-served-preserved : goal.loop-served-preserved
loop-served-preserved g c =
    let (few, listens, flawless, passed, counted, accepted, in_turn, logged) = c.loop-served.invariant in
    let (one, ended, accepted_one, answered) = c.in-Ok.ensures.ok in (
      omega (arith, c.loop-served-test.true),
      c.answer_next.ensures.listens.0 ∙ listens,
      c.answer_next.ensures.listens.1 ∙ flawless,
      passed ++ one ∷ [],
      omega (arith, counted, length-append passed (one ∷ [])),
      accepts-then _ _ _ passed (one ∷ []) accepted accepted_one,
      in-turn-then (AnswersReady (g.E.AnswerConnections.answers c.args.day) (g.E.AnswerConnections.tells_ready c.args.day)
          (g.E.AnswerConnections.readied c.args.day)) c.args.engine.now c.loop-served.engine c.make_ready_again.new.engine
          passed one in_turn
          (c.answer_next.new.engine, answered, c.is_ready-was_ready.result, c.is_ready-was_ready.ensures, c.make_ready_again.ensures),
      logs-one _ _ _ _ _ _ c.loop-served.served passed one _ counted (ap result_err ended) logged c.log_fault.ensures,
    )
