-- What is kept of a day is of the rows that give its VRPs, and of a history of them.
use Rattle.daily_vrps.proofs.Vocabulary.{◌≡◌, ℕ, ◌↔◌, List, ap, ◌∙◌, subst, sym, Contains, Vrp, Charter, IsAfterExceptions, IsVrpInForce, History, AllRows, HasRows, IsGivenOn, IsLegal, Exceptions, union, Filter, IsWithSame, IsDayOf, IsDayOfRows, kept_exceptions, HasExceptions, FollowsExceptions, KeptDay}
use Rattle.daily_vrps.proofs.VrpsOfDay.{given_on}
use Rattle.daily_vrps.proofs.ExceptionLemmas.{after_alike}
use Rattle.daily_vrps.proofs.Keeps.{after_same}

-- with the same exceptions, it is after those that it was after
pub has_same : (old new : KeptDay) (exceptions : Exceptions) → IsWithSame old new → HasExceptions old exceptions → HasExceptions new exceptions
has_same old new exceptions same has = record {
  filters = same.filters ∙ has.filters;
  assertions = rw same.asserted has.assertions;
}

-- what is kept of the rows of a legal history is of the history
pub day_of_history : (charter : Charter) (rows : AllRows) (history : History) → IsLegal charter history → HasRows rows history
    → (k : KeptDay) → IsDayOfRows rows k → IsDayOf history k
day_of_history charter rows history legal has k is v =
    let on = given_on charter rows history legal has k.day v in
    let alike = after_alike (kept_exceptions k) v on.0 on.1 in
    let same = subst (λ (e : Exceptions). IsAfterExceptions e (IsVrpInForce history k.day v) v ↔ IsAfterExceptions (kept_exceptions k) (IsVrpInForce history k.day v) v) (ap union has.files)
    (after_same k (union rows.files) is.exceptions (IsVrpInForce history k.day v) v) in
    (λ there. same.1 (alike.0 ((is.given v).0 there)), λ on_day. (is.given v).1 (alike.1 (same.0 on_day)))

-- what is kept of the VRPs that the rows give, with their exceptions, is of the rows
pub day_of_found : (rows : AllRows) (day : ℕ) (vrps : List Vrp) (k : KeptDay) (filters : List Filter) (assertions : List Vrp)
    → k.day ≡ day → FollowsExceptions (λ v. Contains vrps v) k → HasExceptions k (record { filters = filters; assertions = assertions })
    → ((v : Vrp) → Contains vrps v ↔ IsGivenOn rows day v) → record { filters = filters; assertions = assertions } ≡ union rows.files
    → IsDayOfRows rows k
day_of_found rows day vrps k filters assertions on kept has found are = record {
  exceptions = subst (HasExceptions k) are has;
  given = λ v.
      let given = subst (λ (n : ℕ). Contains vrps v ↔ IsGivenOn rows n v) (sym on) (found v) in
      let alike = after_alike (kept_exceptions k) v given.0 given.1 in
      (λ there. alike.0 ((kept v).0 there), λ after. (kept v).1 (alike.1 after));
}
