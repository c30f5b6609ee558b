use Rattle.daily_vrps.proofs.Vocabulary.{sym, ◌∙◌, true≢false, KeptDay}
use Rattle.daily_vrps.proofs.Keeps.{removed_left, spared_left}
use Rattle.daily_vrps.proofs.daily.DailyVrps.end_entry.Goals as goal

pub returns-then-not-is_spared-clause-left : goal.returns-then-not-is_spared-clause-left
returns-then-not-is_spared-clause-left c =
    let day : KeptDay = record { day = c.self.inside.day; vrps = c.self.inside.vrps; filters = c.self.inside.filters; asserted = c.self.inside.asserted } in
    rw (c.remove.ensures.rest, ← c.self.view_is)
    (removed_left day c.args.begun.now c.args.entry.now c.args.asn c.in-Some.vrp c.in-Some.ensures.value
    (λ spared. true≢false (sym ((rw (← c.self.view_is) at c.is_spared.ensures).1 spared) ∙ c.if-not-is_spared.true)))

pub returns-else-not-is_spared-clause-left : goal.returns-else-not-is_spared-clause-left
returns-else-not-is_spared-clause-left c =
    spared_left c.args.self.now c.args.begun.now c.args.entry.now c.args.asn c.in-Some.vrp c.in-Some.ensures.value (c.is_spared.ensures.0 c.if-not-is_spared.false)
