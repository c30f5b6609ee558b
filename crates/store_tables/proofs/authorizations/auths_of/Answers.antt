use Rattle.store_tables.proofs.Vocabulary.{subst, sym, AreAuths}
use Rattle.store_tables.proofs.Ungrouping.{no_auths, ungrouped}
use Rattle.store_tables.proofs.authorizations.auths_of.Goals as goal

pub returns-in_default : goal.returns-in_default
returns-in_default c = no_auths c.args.claims.now c.args.rows.now (rw c.in_default.is at c.in_ok-groups.ensures)

pub returns : goal.returns
returns c =
    let are = ungrouped c.args.claims.now c.args.rows.now c.in-Some.groups.items (rw c.in-Some.is at c.in_ok-groups.ensures) in
    subst (AreAuths c.args.claims.now c.args.rows.now) (sym c.in_ok-ungroup.ensures) are
