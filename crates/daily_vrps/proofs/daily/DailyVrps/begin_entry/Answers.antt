use Rattle.daily_vrps.proofs.Vocabulary.{sym, ◌∙◌, true≢false, KeptDay, on-err}
use Rattle.daily_vrps.proofs.Keeps.{filtered_joined, inserted_joined}
use Rattle.daily_vrps.proofs.VrpSets.{not_in_set}
use Rattle.daily_vrps.proofs.daily.DailyVrps.begin_entry.Goals as goal

pub returns-in_ok-insert-clause-ok : goal.returns-in_ok-insert-clause-ok
returns-in_ok-insert-clause-ok c =
    let day : KeptDay = record { day = c.self.inside.day; vrps = c.self.inside.vrps; filters = c.self.inside.filters; asserted = c.self.inside.asserted } in
    rw (c.in_ok-insert.ensures.ok, ← c.self.view_is)
    (inserted_joined day c.args.entry.now c.args.asn c.in-Some.vrp c.in-Some.ensures.value (λ some. true≢false (sym (c.matches.ensures.some.1 some) ∙ c.if-not-matches.true)))

pub returns-in_err-insert-clause-err : goal.returns-in_err-insert-clause-err
returns-in_err-insert-clause-err c =
    on-err c.from_residual.result _ (
      c.in-Some.vrp,
      rw (← c.self.view_is) (
        c.in-Some.ensures.value,
        λ some. true≢false (sym (c.matches.ensures.some.1 some) ∙ c.if-not-matches.true),
        not_in_set c.self.inside.vrps c.in-Some.vrp c.in_err-insert.ensures.absent,
      ),
    )

pub returns-else-not-matches-clause-ok : goal.returns-else-not-matches-clause-ok
returns-else-not-matches-clause-ok c =
    let day : KeptDay = record { day = c.self.inside.day; vrps = c.self.inside.vrps; filters = c.self.inside.filters; asserted = c.self.inside.asserted } in
    rw (← c.self.view_is)
    (filtered_joined day c.args.entry.now c.args.asn c.in-Some.vrp c.in-Some.ensures.value (c.matches.ensures.some.0 c.if-not-matches.false))
