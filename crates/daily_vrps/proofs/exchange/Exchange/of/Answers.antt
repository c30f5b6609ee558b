use Rattle.daily_vrps.proofs.Vocabulary.{refl, Any, Contains, Vrp, FilterMatches, AreGivingOn}
use Rattle.payload.specs.VrpSet as set
use Rattle.daily_vrps.proofs.Exchanges.{given_left}
use Rattle.daily_vrps.proofs.VrpSets.{items_such}
use Rattle.daily_vrps.proofs.exchange.Exchange.of.Goals as goal

pub returns-clause-begun : goal.returns-clause-begun
returns-clause-begun c =
    let unfiltered = λ (v : Vrp). ¬ Any (λ filter. FilterMatches filter v) c.args.kept.now.filters in
    items_such (λ (v : Vrp). AreGivingOn c.args.begun.now c.args.kept.now.day v × unfiltered v) c.keep_unfiltered.new.vrps.items c.keep_unfiltered.new.vrps.items
    c.from-begun.result c.from-begun.ensures refl
    (given_left (λ (v : Vrp). AreGivingOn c.args.begun.now c.args.kept.now.day v) unfiltered c.in_ok-begun.begun.items c.keep_unfiltered.new.vrps.items
    (rw c.day.ensures at c.in_ok-begun.ensures) (rw c.filters.ensures at c.keep_unfiltered.ensures))

pub returns-clause-ended : goal.returns-clause-ended
returns-clause-ended c =
    let other = λ (v : Vrp). ¬ Contains (set.items c.from-begun.result) v in
    items_such (λ (v : Vrp). AreGivingOn c.args.ended.now c.args.kept.now.day v × other v) c.remove_all.new.vrps.items c.remove_all.new.vrps.items
    c.from-ended.result c.from-ended.ensures refl
    (given_left (λ (v : Vrp). AreGivingOn c.args.ended.now c.args.kept.now.day v) other c.in_ok-ended.ended.items c.remove_all.new.vrps.items
    (rw c.day-2.ensures at c.in_ok-ended.ensures) c.remove_all.ensures)
