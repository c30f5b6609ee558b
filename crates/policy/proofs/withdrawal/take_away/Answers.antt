use Rattle.policy.proofs.Vocabulary.{List, ap, rules, Auth, Rows, rows_of}
use Rattle.std.proofs.lemmas.Fn.{filter_same}
use Rattle.policy.proofs.withdrawal.take_away.Goals as goal

pub returns : goal.returns
returns c =
    let rows = rows_of c.args.rows.now in
    let kept = filter_same _ _ _ (λ x b f k. search rules) _ _ c.retain.ensures.filtered in
    ap (λ (xs : List Auth). let r : Rows = record rows { auths = xs } in r) kept
