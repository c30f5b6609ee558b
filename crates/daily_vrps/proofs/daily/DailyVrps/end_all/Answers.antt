use Rattle.daily_vrps.proofs.Vocabulary.{◌≡◌, ◌+◌, ◌∷◌, ◌++◌, [], take, take_all, sym, ap, ◌∙◌, arith, refl, take_more}
use Rattle.daily_vrps.proofs.Follows.{all_spared, ending, same_then, staying}
use Rattle.daily_vrps.proofs.daily.DailyVrps.end_all.Goals as goal
use Rattle.daily_vrps.proofs.daily.DailyVrps.end_all.Goals.{then-ends, else-ends}

pub loop-auth-init : goal.loop-auth-init
loop-auth-init c = record {
  same = record { day = refl; filters = refl; asserted = refl };
  left = all_spared c.args.self.now c.args.edit.now c.args.begun.now;
}

pub loop-auth-preserved : goal.loop-auth-preserved
loop-auth-preserved c =
    let auths = c.args.auths.now in
    let index = c.loop-auth.auth-index in
    let grown : take (index + 1) auths ≡ take index auths ++ c.auth-item.result ∷ [] =
    take_more auths index c.auth-item.result c.loop-auth-test.true ∙ ap (λ x. take index auths ++ x ∷ []) (sym c.auth-item.is) in
    let old = c.args.self.now in
    let edit = c.args.edit.now in
    let begun = c.args.begun.now in
    let x = c.auth-item.result in
    let before = c.loop-auth.invariant in
    elim c.if-ends.branch [
      | then-ends w ↦ rw w.self-is (record {
        same = same_then old c.loop-auth.self w.end_unless_given.new.self before.same w.end_unless_given.ensures.same;
        left = ending old c.loop-auth.self w.end_unless_given.new.self edit (take index auths) (take (index + 1) auths) x begun grown
            (sym c.ends.ensures ∙ w.if-ends.true) before.same before.left w.end_unless_given.ensures.left;
      })
      | else-ends w ↦ rw w.self-is (record {
        same = before.same;
        left = staying old c.loop-auth.self edit (take index auths) (take (index + 1) auths) x begun grown (sym c.ends.ensures ∙ w.if-ends.false) before.left;
      })
    ]

pub returns-clause-left : goal.returns-clause-left
returns-clause-left c = rw (take_all c.loop-auth.auth-index c.args.auths.now (omega (arith, c.loop-auth-test.false))) at c.loop-auth.invariant.left
