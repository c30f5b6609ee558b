use Rattle.daily_vrps.proofs.Vocabulary.{◌≡◌, ℕ, ◌+◌, ◌∷◌, ◌++◌, [], inl, take, take_all, subst, sym, ap, ◌∙◌, arith, refl, take_more, AreGivingOn, GivesOn, on-err}
use Rattle.daily_vrps.proofs.Follows.{added_since, more_joined, none_joined, same_then}
use Rattle.daily_vrps.proofs.daily.DailyVrps.begin_all.Goals as goal

pub loop-auth-init : goal.loop-auth-init
loop-auth-init c = record {
  same = record { day = refl; filters = refl; asserted = refl };
  joined = none_joined c.args.self.now;
}

pub loop-auth-preserved : goal.loop-auth-preserved
loop-auth-preserved c =
    let auths = c.args.auths.now in
    let index = c.loop-auth.auth-index in
    let grown : take (index + 1) auths ≡ take index auths ++ c.auth-item.result ∷ [] =
    take_more auths index c.auth-item.result c.loop-auth-test.true ∙ ap (λ x. take index auths ++ x ∷ []) (sym c.auth-item.is) in
    record {
      same = same_then c.args.self.now c.loop-auth.self c.begin.new.self c.loop-auth.invariant.same c.begin.ensures.same;
      joined = more_joined c.args.self.now c.loop-auth.self c.begin.new.self (take index auths) (take (index + 1) auths) c.auth-item.result grown
          c.loop-auth.invariant.same c.loop-auth.invariant.joined c.in_ok-begin.ensures.ok;
    }

pub returns-clause-ok : goal.returns-clause-ok
returns-clause-ok c = rw (take_all c.loop-auth.auth-index c.args.auths.now (omega (arith, c.loop-auth-test.false))) at c.loop-auth.invariant.joined

pub returns-in_err-begin-clause-err : goal.returns-in_err-begin-clause-err
returns-in_err-begin-clause-err c =
    let some = c.in_err-begin.ensures.err in
    let on : GivesOn c.auth-item.result c.loop-auth.self.day some.0 → GivesOn c.auth-item.result c.args.self.now.day some.0 =
    subst (λ (day : ℕ). GivesOn c.auth-item.result day some.0) c.loop-auth.invariant.same.day in
    on-err c.from_residual.result _ (
      some.0,
      added_since c.args.self.now c.loop-auth.self (GivesOn c.auth-item.result c.loop-auth.self.day) (AreGivingOn c.args.auths.now c.args.self.now.day) some.0 c.loop-auth.invariant.same
          (λ there. (c.loop-auth.invariant.joined some.0).1 (inl there))
          (λ is. (c.auth-item.result, (c.loop-auth.auth-index, c.loop-auth-test.true, sym c.auth-item.is), on is)) some.1,
    )
