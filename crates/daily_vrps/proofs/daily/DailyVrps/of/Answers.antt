use Rattle.daily_vrps.proofs.Vocabulary.{Contains, Vrp}
use Rattle.daily_vrps.proofs.Keeps.{kept_after}
use Rattle.daily_vrps.proofs.VrpSets.{items_of_list}
use Rattle.daily_vrps.proofs.daily.DailyVrps.of.Goals as goal

pub returns-clause-exceptions : goal.returns-clause-exceptions
returns-clause-exceptions c = record {
  filters = c.in_ok-filters.ensures;
  assertions = λ v. rw c.from-asserted.ensures (items_of_list c.args.assertions.items v);
}

pub returns-clause-kept : goal.returns-clause-kept
returns-clause-kept c =
    kept_after (λ (v : Vrp). Contains c.args.given.items v)
    (record { day = c.args.day; vrps = c.from-vrps.result; filters = c.in_ok-filters.filters; asserted = c.from-asserted.result })
    (record { filters = c.args.filters.items; assertions = c.args.assertions.items }) (returns-clause-exceptions c)
    (λ v. rw (c.from-vrps.ensures, ← c.in_ok-filters.ensures, ← c.deref.ensures.value) (c.in_ok-excepted.ensures v))
