use Rattle.desk.proofs.Vocabulary.{inr, sym, ◌∙◌}
use Rattle.desk.proofs.FollowLemmas.{drops_first, when_err, when_no_error, when_not_ok, when_ok}
use Rattle.desk.proofs.desk.following.follow_change.Goals as goal

pub returns-in-Some-clause-yes : goal.returns-in-Some-clause-yes
returns-in-Some-clause-yes c done =
    let early = when_no_error c.follow_edit.result (sym c.is_err.ensures.value ∙ c.if-is_err.false) c.follow_edit.ensures.ok in
    let late = when_ok c.follow_edit-in-Some.result (sym c.is_ok.ensures.value ∙ done) c.follow_edit-in-Some.ensures.ok in
    rw (c.in-Holders.is, c.in-Some.is) (c.follow_edit.new.kept, rw c.as_ref.ensures.value at early, rw c.as_ref-in-Some.ensures.value at late)

pub returns-in-None-clause-yes : goal.returns-in-None-clause-yes
returns-in-None-clause-yes c done =
    let only = when_no_error c.follow_edit.result (sym c.is_err.ensures.value ∙ c.if-is_err.false) c.follow_edit.ensures.ok in
    rw (c.in-Holders.is, c.in-None.is) (rw c.as_ref.ensures.value at only)

pub returns-then-is_err-clause-no : goal.returns-then-is_err-clause-no
returns-then-is_err-clause-no c not =
    let adds = when_err c.follow_edit.result (sym c.is_err.ensures.value ∙ c.if-is_err.true) c.follow_edit.ensures.err in
    rw c.in-Holders.is (drops_first c.in-Holders.first c.in-Holders.second c.args.decided.now.first c.args.decided.now.second c.args.kept.now (rw c.as_ref.ensures.value at adds))

pub returns-in-Some-clause-no : goal.returns-in-Some-clause-no
returns-in-Some-clause-no c not =
    let adds = when_not_ok c.follow_edit-in-Some.result (sym c.is_ok.ensures.value ∙ not) c.follow_edit-in-Some.ensures.err in
    rw (c.in-Holders.is, c.in-Some.is) (inr (c.follow_edit.new.kept, rw c.as_ref-in-Some.ensures.value at adds))
