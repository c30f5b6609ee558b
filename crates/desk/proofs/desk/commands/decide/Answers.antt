use Rattle.desk.proofs.Vocabulary.{◌≡◌, Err, subst, ◌∙◌, Charter, IsAccepted, IsAnswer}
use Rattle.desk.proofs.DeskLemmas.{refuses}
use Rattle.desk.proofs.FollowLemmas.{enough_for}
use Rattle.desk.proofs.desk.commands.decide.Goals as goal

pub returns-in_err-change-clause-decides : goal.returns-in_err-change-clause-decides
returns-in_err-change-clause-decides g c =
    let a = c.args in
    let old = a.store.now in
    let refusal = c.in_err-change.field-0.0 in
    let same : c.charter-charter.result.now ≡ old.charter = c.charter-charter.ensures ∙ c.load_for.ensures.read.charter in
    refuses g.S.Store a.day a.caller.now a.command.now old c.load_for.new.self refusal c.from_residual-in_err-change.result c.from_residual-in_err-change.ensures.1
    (λ clean history legal held.
    let facts = c.facts_of_a_history.ensures old.charter history a.command.now held.0 c.in_ok-rows.field-0 legal held.1 (c.in_ok-rows.ensures.found clean held.0 held.2) in
    subst (λ (k : Charter). IsAnswer k history a.day a.caller.now a.command.now (Err refusal)) same
    (c.in_err-change.ensures.answer history (rw same legal) (rw (c.as_ref.ensures.value, c.as_ref-2.ensures.value) facts)))

pub returns-clause-decides : goal.returns-clause-decides
returns-clause-decides g c =
    let a = c.args in
    let old = a.store.now in
    let change = c.in_ok-change.ensures in
    let loaded = c.in_ok-rows.field-0 in
    let same : c.charter-charter.result.now ≡ old.charter = c.charter-charter.ensures ∙ c.load_for.ensures.read.charter in
    record {
      shape = change.shape;
      enough = λ clean rows holds.
          let ruled = rw (c.as_ref.ensures.value) at change.ruled in
          rw (c.auths_of.ensures, c.auths_of-2.ensures) (enough_for a.command.now c.in_ok-change.change loaded rows change.shape ruled (c.in_ok-rows.ensures.found clean rows holds));
      answer = λ clean history legal held.
          let facts = c.facts_of_a_history.ensures old.charter history a.command.now held.0 loaded legal held.1 (c.in_ok-rows.ensures.found clean held.0 held.2) in
          subst (λ (k : Charter). IsAccepted k history a.day a.caller.now a.command.now c.in_ok-change.change) same
          (change.answer history (rw same legal) (rw (c.as_ref.ensures.value, c.as_ref-2.ensures.value) facts));
      never_done = tt;
    }
