use Rattle.policy.proofs.Vocabulary.{ℕ, ◌<◌, ◌≤◌, sym, ◌∙◌, ap, subst, length, Some, arith, ◌+◌, refl, nat_tests, MOST_GRANTS, LAST_NUMBER, Grant, Granted, IsAccepted, IsMadeIfAny, numbered_grant, grant_terms, grants_made}
use Rattle.policy.proofs.CarryGrants.{carries-grant}
use Rattle.policy.proofs.granting.grant.Goals as goal

pub returns-clause-answer : goal.returns-clause-answer
returns-clause-answer c history legal are =
    let a = c.args in
    let h = a.holder.now in
    let t = a.terms.now in
    let counted = subst (IsMadeIfAny history h) c.in_ok-made.ensures.ok_part are.counter in
    let room = c.has_room_for_grant.ensures.0 c.in_ok-require-3.ensures in
    let few : length (grant_terms history h) < MOST_GRANTS = subst (λ (gs : _). length gs < MOST_GRANTS) are.grants room.0 in
    let below : grants_made history h < LAST_NUMBER = subst (λ (k : ℕ). k < LAST_NUMBER) counted.1 room.1 in
    let test = c.in_ok-require-2.ensures in
    let today = c.number.ensures.value in
    let last = c.number-2.ensures.value in
    let in_time : a.day ≤ t.until = grind (arith, nat_tests) in
    subst (IsAccepted a.charter.now history a.day a.caller.now (Grant h t)) (sym c.change_of.ensures) (record {
      after = _;
      leaves = ((sym (c.is_steward.ensures history h are.grants) ∙ c.in_ok-require.ensures, (counted.0, (in_time, ((few, below), tt)))), refl);
      numbered = ap (λ (g : Granted). Some g.number) c.numbered-grant.ensures
          ∙ ap (λ n. Some (n + 1)) counted.1;
      carries = carries-grant history a.day a.caller.now h t _ counted.0 (c.numbered-grant.ensures ∙ ap (λ n. numbered_grant t (n + 1)) counted.1);
      sparing = (tt, tt);
      of_command = (refl, tt);
    })
