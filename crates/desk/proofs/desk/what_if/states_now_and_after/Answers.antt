use Rattle.desk.proofs.ExchangeLemmas.{judged_over}
use Rattle.desk.proofs.KeptLemmas.{kept_held}
use Rattle.desk.proofs.desk.what_if.states_now_and_after.Goals as goal

pub returns-in_ok-judge_twice-in-Some-clause-states : goal.returns-in_ok-judge_twice-in-Some-clause-states
returns-in_ok-judge_twice-in-Some-clause-states g c =
    let a = c.args in
    let of_day = rw c.in-Some.is at c.kept_if.ensures in
    let read = c.in_ok-is_registered-in-Some in
    let judged = c.in_ok-judge_twice-in-Some in
    judged_over g.S.Store a.store.now c.is_registered.new.self c.in-Some.kept.now a.day a.ended.now a.begun.now a.routes.now judged.field-0.items of_day.1
    (λ clean. kept_held g.S.Store a.store.now a.kept.now c.in-Some.kept.now a.holder.now read.field-0 c.requires of_day.0 (read.ensures.read.clean clean) (read.ensures.found clean))
    judged.ensures.now judged.ensures.after

pub returns-in_ok-judge_twice-in-None-clause-states : goal.returns-in_ok-judge_twice-in-None-clause-states
returns-in_ok-judge_twice-in-None-clause-states g c =
    let a = c.args in
    let read = c.in_ok-kept-in-None in
    let judged = c.in_ok-judge_twice-in-None in
    judged_over g.S.Store a.store.now c.kept_on.new.store read.kept a.day a.ended.now a.begun.now a.routes.now judged.field-0.items read.ensures.day
    (λ clean history legal held. read.ensures.kept clean held.0 held.2) judged.ensures.now judged.ensures.after
