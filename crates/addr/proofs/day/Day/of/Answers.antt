use Rattle.addr.proofs.Vocabulary.{◌≡◌, ◌≤◌, ◌/◌, Some, FitsSigned, w64, ◌∙◌, arith, to_z-of_z, epoch_day, signed_arith, from_1970, LAST_DAY}
use Rattle.addr.proofs.DayLemmas.{hours_between, number_by_hours, number_within}
use Rattle.addr.proofs.day.Day.of.Goals as goal

numbered : (c : goal.In-Ok) → from_1970 (epoch_day c.args.date) ≡ Some (c.in-Ok.hours / 24)
numbered c =
    let fits : FitsSigned w64 c.as_hours-hours.result = omega (arith, signed_arith) in
    let ok = c.in-Ok.ensures in
    number_by_hours (epoch_day c.args.date) _ c.in-Ok.hours
    (to_z-of_z _ _ fits ∙ hours_between _ _ _ _ c.epoch.ensures c.duration_since.ensures c.as_hours-hours.ensures) ok.0 ok.1

pub overflow_cast-result : goal.overflow_cast-result
overflow_cast-result c =
    let small : c.in-Ok.hours / 24 ≤ LAST_DAY = number_within c.args.date _ (numbered c) in
    omega arith

pub invariant_of-result : goal.invariant_of-result
invariant_of-result c = number_within c.args.date _ (numbered c)
