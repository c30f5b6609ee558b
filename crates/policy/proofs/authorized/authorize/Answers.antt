use Rattle.policy.proofs.AuthorizedRows.{row_authorized}
use Rattle.policy.proofs.authorized.authorize.Goals as goal

pub returns : goal.returns
returns c auths made of_terms are = row_authorized c.args.rows.now c.insert.new.self auths made c.args.row.now of_terms c.in_ok-insert.ensures.updates.0 are
