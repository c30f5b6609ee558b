use Rattle.store_write.proofs.Vocabulary.{arith, [], take, get_or, ◌+◌, take_more, Withdraw, edited, without_auths, state_in, stays}
use Rattle.store_write.proofs.InTurn.{one_more}
use Rattle.store_write.proofs.RowSteps.{one_auth_less, no_auths, done_none, done_more}
use Rattle.store_write.proofs.auth.take_auths.Goals as goal

pub loop-number-init : goal.loop-number-init
loop-number-init g c = (stays g.S.Store _, λ clean. done_none c.args.holder.now (without_auths []) (state_in g.S.Store c.args.tx.now) no_auths (c.requires clean))

pub loop-number-preserved : goal.loop-number-preserved
loop-number-preserved g c =
    let xs = c.args.numbers.now in
    let i = c.loop-number.number-index in
    let x = get_or xs i 0 in
    one_more g.S.Store (done_more c.args.holder.now without_auths (edited (Withdraw x)) (take i xs) x (take (i + 1) xs) _ _ _ (take_more xs i 0 (omega arith)) (one_auth_less (take i xs) x))
    c.loop-number.invariant c.take_auth.ensures.inside c.in_ok-take_auth.ensures.done
