use Rattle.daily_vrps.proofs.Vocabulary.{◌≡◌, ◌+◌, ◌∷◌, ◌++◌, [], take, take_all, sym, ap, ◌∙◌, arith, refl, false≢true, true≢false, take_more}
use Rattle.daily_vrps.proofs.Follows.{none_given, not_given}
use Rattle.daily_vrps.proofs.giving.is_given.Goals as goal

pub loop-auth-init : goal.loop-auth-init
loop-auth-init c = none_given c.args.day c.args.vrp.now

pub returns-then-gives_on : goal.returns-then-gives_on
returns-then-gives_on c = (
  λ _. (c.auth-item.result, (c.loop-auth.auth-index, c.loop-auth-test.true, sym c.auth-item.is), c.gives_on.ensures.0 c.if-gives_on.true),
  λ _. refl,
)

pub loop-auth-preserved : goal.loop-auth-preserved
loop-auth-preserved c =
    let auths = c.args.auths.now in
    let index = c.loop-auth.auth-index in
    let grown : take (index + 1) auths ≡ take index auths ++ c.auth-item.result ∷ [] =
    take_more auths index c.auth-item.result c.loop-auth-test.true ∙ ap (λ x. take index auths ++ x ∷ []) (sym c.auth-item.is) in
    not_given c.args.day c.args.vrp.now (take index auths) (take (index + 1) auths) c.auth-item.result grown
    c.loop-auth.invariant (λ gives. true≢false (sym (c.gives_on.ensures.1 gives) ∙ c.if-gives_on.false))

pub returns : goal.returns
returns c = (
  λ is. absurd (false≢true is),
  λ given. absurd (c.loop-auth.invariant (rw (take_all c.loop-auth.auth-index c.args.auths.now (omega (arith, c.loop-auth-test.false))) given)),
)
