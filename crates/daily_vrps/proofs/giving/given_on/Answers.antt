use Rattle.daily_vrps.proofs.Vocabulary.{◌≡◌, ◌+◌, ◌∷◌, ◌++◌, [], take, take_all, sym, ap, ◌∙◌, arith, take_more}
use Rattle.daily_vrps.proofs.GivenVrps.{more_are_given, none_are_given}
use Rattle.daily_vrps.proofs.giving.given_on.Goals as goal

pub loop-auth-init : goal.loop-auth-init
loop-auth-init c = rw c.new-vrps.ensures.items (none_are_given c.args.day)

pub loop-auth-preserved : goal.loop-auth-preserved
loop-auth-preserved c =
    let auths = c.args.auths.now in
    let index = c.loop-auth.auth-index in
    let grown : take (index + 1) auths ≡ take index auths ++ c.auth-item.result ∷ [] =
    take_more auths index c.auth-item.result c.loop-auth-test.true ∙ ap (λ x. take index auths ++ x ∷ []) (sym c.auth-item.is) in
    more_are_given c.loop-auth.vrps.items c.push_given.new.vrps.items c.args.day (take index auths) (take (index + 1) auths) c.auth-item.result
    grown c.loop-auth.invariant c.in_ok-push_given.ensures

pub returns : goal.returns
returns c = rw (take_all c.loop-auth.auth-index c.args.auths.now (omega (arith, c.loop-auth-test.false))) at c.loop-auth.invariant
