use Rattle.addr.proofs.Vocabulary.{◌≡◌, ◌≤◌, false, true, pos, ◌+ℤ◌, ◌∙◌, ap, FitsSigned, w64, arith, to_z-of_z, signed_arith, epoch_day, IsEpochDay, LAST_DAY}
use Rattle.jiff.proofs.SpanFacts.{date_add-days, can_add-days}
use Rattle.addr.proofs.day.Day.date.Goals as goal

pub unreachable-requires : goal.unreachable-requires
unreachable-requires c =
    let bound : c.self.inside.number ≤ LAST_DAY = c.self.invariant in
    let fits : FitsSigned w64 c.from.result = omega (arith, signed_arith) in
    let only = simp to_z-of_z at c.days.ensures in
    let day : IsEpochDay (epoch_day c.epoch.result +ℤ c.from.result) = omega (arith, signed_arith) in
    let err = c.in-Err.ensures in
    let no : false ≡ true = err.succeeds.1 ((can_add-days c.epoch.result c.from.result c.days.result only).1 day) in
    cc

pub returns : goal.returns
returns c =
    let bound : c.self.inside.number ≤ LAST_DAY = c.self.invariant in
    let fits : FitsSigned w64 c.from.result = omega (arith, signed_arith) in
    let only = simp to_z-of_z at c.days.ensures in
    let ok = c.in-Ok.ensures in
    let sum : epoch_day c.in-Ok.date ≡ epoch_day c.epoch.result +ℤ c.from.result =
    ok.value ∙ date_add-days c.epoch.result c.from.result c.days.result only
    in
    let number : pos c.self.inside.number ≡ pos c.args.self.now = ap pos c.self.view_is in
    omega (arith, signed_arith)
