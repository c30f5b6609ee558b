use Rattle.cli_tasks.proofs.LivesLemmas.{life_count, serves_life}
use Rattle.cli_tasks.proofs.lives.serve_until_stop.Goals as goal

pub returns-clause-served : goal.returns-clause-served
returns-clause-served g c =
    let (passed, all, few, accepted, in_turn, leaves, logged) = c.serve_on-ended.ensures.served in
    let (within, counted) = life_count c.serve_on-ended.result all few c.serve_on-ended.ensures.failed in (
      passed,
      within,
      counted,
      accepted,
      logged,
      λ clean.
          let before = c.stop.ensures.clean clean in
          serves_life g.D.Disk c.args.day passed c.args.files c.in-Ok.desk c.serve_on-ended.new.desk c.stop.result
          (c.in-Ok.ensures.resumed_left (c.serve_on-ended.ensures.later.clean before)) leaves before (c.stop.ensures.left clean),
    )
