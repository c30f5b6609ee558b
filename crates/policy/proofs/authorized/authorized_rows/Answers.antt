use Rattle.policy.proofs.Vocabulary.{◌+◌, subst, sym, take, ◌∙◌, BTreeSet, ImportRow, AreAuthorized}
use Rattle.policy.proofs.AuthorizedRows.{no_row_more, one_row_more}
use Rattle.policy.proofs.authorized.authorized_rows.Goals as goal
use Rattle.policy.proofs.authorized.authorized_rows.Goals.{in-Some+in_ok-insert, in_default}

pub loop-auth-preserved : goal.loop-auth-preserved
loop-auth-preserved c =
    let auths = c.args.auths.now in
    let i = c.loop-auth.auth-index in
    let at_next = λ (rows : BTreeSet ImportRow). AreAuthorized rows (take (i + 1) auths) in
    elim c.match-row_of.branch [
      | in-Some+in_ok-insert w ↦
          subst at_next (sym w.rows-is) (one_row_more auths i c.auth-item.result c.loop-auth-test.true c.auth-item.is c.loop-auth.rows w.insert.new.self
          w.in-Some.row (sym c.row_of.ensures ∙ w.in-Some.is) w.in_ok-insert.ensures.updates.0 c.loop-auth.invariant)
      | in_default w ↦
          subst at_next (sym w.rows-is) (no_row_more auths i c.auth-item.result c.loop-auth-test.true c.auth-item.is c.loop-auth.rows
          (sym c.row_of.ensures ∙ w.in_default.is) c.loop-auth.invariant)
    ]
