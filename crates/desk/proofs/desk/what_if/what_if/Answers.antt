use Rattle.desk.proofs.Vocabulary.{History, ExchangesVrps, AreStatesOver}
use Rattle.desk.proofs.DeskLemmas.{found_later, read_then}
use Rattle.desk.proofs.KeptLemmas.{kept_read}
use Rattle.desk.proofs.desk.what_if.what_if.Goals as goal

pub states_now_and_after-requires : goal.states_now_and_after-requires
states_now_and_after-requires g c = kept_read g.S.Store c.args.store.now c.suppose.new.store c.args.kept.now c.requires c.in-Ok.ensures.read

pub returns-in-Err-clause-answered : goal.returns-in-Err-clause-answered
returns-in-Err-clause-answered g c clean history legal held = c.in-Err.ensures.found clean history legal held c.args.routes.now

pub returns-in_err-states-clause-read : goal.returns-in_err-states-clause-read
returns-in_err-states-clause-read g c =
    read_then g.S.Store c.args.store.now c.suppose.new.store c.states_now_and_after.new.store c.in-Ok.ensures.read c.states_now_and_after.ensures.read

pub returns-clause-read : goal.returns-clause-read
returns-clause-read g c =
    read_then g.S.Store c.args.store.now c.suppose.new.store c.states_now_and_after.new.store c.in-Ok.ensures.read c.states_now_and_after.ensures.read

pub returns-clause-answered : goal.returns-clause-answered
returns-clause-answered g c clean history legal held =
    let day = c.args.day in
    let ended = c.auths_of-ended.result.now in
    let begun = c.auths_of-begun.result.now in
    let read = c.states_now_and_after.ensures.read in
    let would = c.in-Ok.ensures.found (read.clean clean) history legal held in
    let over = found_later g.S.Store (λ (h : History). AreStatesOver h day ended begun c.args.routes.now c.in_ok-states.states.items)
    c.args.store.now c.suppose.new.store c.states_now_and_after.new.store c.in-Ok.ensures.read read c.in_ok-states.ensures.states clean history legal held in
    let exchanges : ExchangesVrps history would.0 day ended begun =
    rw (c.auths_of-ended.ensures, c.as_ref.ensures.value, c.auths_of-begun.ensures, c.as_ref-2.ensures.value) would.2 in
    (would.0, would.1, over.0, over.1 would.0 exchanges)
