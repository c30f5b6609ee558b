use Rattle.store_open.proofs.Vocabulary.{rules, ◌≡◌, true, false, IsTrue, sym, ap, ◌∙◌, not, state, always}
use Rattle.std.proofs.Math.Bool.{not-not}
use Rattle.store_open.proofs.opening.find_in.Goals as goal

pub returns-clause-idle : goal.returns-clause-idle
returns-clause-idle g c =
    let idle : c.args.conn.now.in_transaction ≡ false = sym (not-not c.args.conn.now.in_transaction) ∙ ap not (sym c.is_autocommit.ensures.value ∙ c.if-not-is_autocommit.false) in
    always c.find_tables.result (rw c.set_step_limit.ensures idle)

pub returns-clause-settled : goal.returns-clause-settled
returns-clause-settled g c =
    let old = state g.S.Store c.args.conn.now in
    let auto : c.is_autocommit.result ≡ true = search rules in
    let settled : IsTrue old.is_open → old.committed ≡ old.now = λ opened. sym (c.is_autocommit.ensures.settled auto opened) in
    always c.find_tables.result (rw c.set_step_limit.ensures settled)
