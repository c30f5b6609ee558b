use Rattle.cli_tasks.proofs.Vocabulary.{[], ◌∷◌, ◌++◌, arith, length-append, refl, take_all, Files}
use Rattle.sqlite_wal.proofs.CleanLemmas.{both_clean}
use Rattle.cli_tasks.proofs.ConnectionLemmas.{accepts-none, logs-none}
use Rattle.cli_tasks.proofs.LivesLemmas.{accepts_more, ends_lives, lives_more, logs_more, serves_none}
use Rattle.cli_tasks.proofs.lives.serve_lives.Goals as goal

pub loop-life-init : goal.loop-life-init
loop-life-init g c =
    ([], refl, omega arith, (λ clean. clean), accepts-none _, logs-none _ _, (λ clean. serves_none g.D.Disk c.args.files))

pub loop-life-preserved : goal.loop-life-preserved
loop-life-preserved g c =
    let (served, counted, within, clean, accepted, logged, so_far) = c.loop-life.invariant in
    let (passed, few, whole, accepted_more, logged_more, serves, none) = c.in-Ok.ensures.served in
    let crashed : Files g.row.D.Denot = record { log = c.crash.new.self; db = c.crash-in-loop-life.new.self } in
    let crash_clean = both_clean _ _ _ _ c.crash.ensures.clean c.crash-in-loop-life.ensures.clean in (
      served ++ passed ∷ [],
      omega (arith, counted, length-append served (passed ∷ [])),
      omega (arith, c.loop-life-test.true),
      (λ now. clean (crash_clean (c.in-Ok.ensures.clean now))),
      accepts_more _ _ _ served passed accepted accepted_more,
      logs_more _ _ _ _ _ _ served passed logged logged_more,
      (λ now.
          lives_more g.D.Disk c.pending_fits.ensures c.args.files c.loop-life.files crashed c.in-Ok.left
          c.args.lives.now c.loop-life.life-index served c.life-item.result passed c.loop-life-test.true c.life-item.is
          (so_far (crash_clean (c.in-Ok.ensures.clean now)))
          (λ image may. (c.crash.ensures.crash image.log may.0, c.crash-in-loop-life.ensures.crash image.db may.1))
          few (serves now)),
    )

pub returns-in-Err-clause-served : goal.returns-in-Err-clause-served
returns-in-Err-clause-served g c =
    let (served, counted, within, clean, accepted, logged, so_far) = c.loop-life.invariant in
    let crashed : Files g.row.D.Denot = record { log = c.crash.new.self; db = c.crash-in-loop-life.new.self } in
    let crash_clean = both_clean _ _ _ _ c.crash.ensures.clean c.crash-in-loop-life.ensures.clean in
    let (passed, few, whole, accepted_more, logged_more, none, ends) = c.in-Err.ensures.served in (
      served ++ passed ∷ [],
      accepts_more _ _ _ served passed accepted accepted_more,
      logs_more _ _ _ _ _ _ served passed logged logged_more,
      tt,
      tt,
      ends_lives g.D.Disk g.met.D.Disk.seen_may_stay c.pending_fits.ensures c.args.files c.loop-life.files crashed c.args.lives.now
          c.loop-life.life-index served c.life-item.result passed c.in-Err.fault counted c.loop-life-test.true c.life-item.is few
          clean crash_clean so_far
          (λ image may. (c.crash.ensures.crash image.log may.0, c.crash-in-loop-life.ensures.crash image.db may.1)) ends,
    )

pub returns-clause-clean : goal.returns-clause-clean
returns-clause-clean g c = c.loop-life.invariant.3

pub returns-clause-served : goal.returns-clause-served
returns-clause-served g c =
    let (served, counted, within, clean, accepted, logged, so_far) = c.loop-life.invariant in (
      served,
      accepted,
      logged,
      omega (arith, counted, within, c.loop-life-test.false),
      rw (take_all c.loop-life.life-index c.args.lives.now (omega (arith, c.loop-life-test.false))) at so_far,
      tt,
    )
