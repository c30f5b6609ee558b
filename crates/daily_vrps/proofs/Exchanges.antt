-- What an exchange leaves of a day that is kept, and the states of routes over it.
use Rattle.daily_vrps.proofs.Vocabulary.{◌≡◌, ℕ, Bool, true, not, ◌||◌, ◌↔◌, ◌⊎◌, inl, inr, List, Contains, filter, sym, ap, subst, ◌∙◌, Any, cases_Bool, false≢true, or_right, validation_state, HasState, ValidationState, Route, Vrp, Charter, IsAfterExceptions, IsVrpInForce, IsVrpOn, History, AllRows, HasRows, IsGivenOn, IsLegal, Auth, FilterMatches, union, AreExchanged, AreGivingOn, ExchangesVrps, IsDayOfRows, kept_exceptions, HasExceptions, KeptDay, is_left, over_both, IsAfter}
use Rattle.payload.specs.VrpSet as set
use Rattle.registry.specs.ExceptionsInForce.{exceptions_in_force}
use Rattle.daily_vrps.proofs.VrpsOfDay.{given_on}
use Rattle.daily_vrps.proofs.ExceptionLemmas.{after_alike}
use Rattle.daily_vrps.proofs.Follows.{exchange_keeps}
use Rattle.daily_vrps.proofs.Keeps.{after_same}
use Rattle.daily_vrps.proofs.Members.{in_filter}
use Rattle.daily_vrps.proofs.RouteStates.{state_has}
use Rattle.daily_vrps.proofs.States.{state_over_both}
use Rattle.daily_vrps.proofs.VrpSets.{in_set, not_in_set}

-- the state over what is left and over what is put in is that after the exchange
pub state_after : (kept : KeptDay) (ended begun : set.VrpSet) (r : Route) (one other both : ValidationState)
    → one ≡ validation_state (filter (is_left ended kept.asserted) (set.items kept.vrps)) r → other ≡ validation_state (set.items begun) r → both ≡ over_both one other
    → HasState (IsAfter kept ended begun) r both
state_after kept ended begun r one other both one_is other_is both_is =
    let stays = is_left ended kept.asserted in
    let left = filter stays (set.items kept.vrps) in
    rw (both_is, one_is, other_is)
    (state_over_both (λ v. Contains (set.items kept.vrps) v × (stays v ≡ true)) (λ v. Contains (set.items begun) v) r (validation_state left r) (validation_state (set.items begun) r)
    (state_has (λ v. Contains (set.items kept.vrps) v × (stays v ≡ true)) left (in_filter stays (set.items kept.vrps)) r)
    (state_has (λ v. Contains (set.items begun) v) (set.items begun) (λ v. (λ there. there, λ there. there)) r))

-- what stays is not taken out, or it is asserted
left_where : (ended asserted : set.VrpSet) (v : Vrp) → (is_left ended asserted v ≡ true) ↔ ((¬ Contains (set.items ended) v) ⊎ Contains (set.items asserted) v)
left_where ended asserted v = (
  λ left. elim (cases_Bool (set.has_vrp ended v)) [
    | inl ends ↦ inr ((in_set asserted v).1 (sym (ap stays ends) ∙ left))
    | inr not_there ↦ inl (not_in_set ended v not_there)
  ],
  λ is. elim is [
    | inl none ↦ elim (cases_Bool (set.has_vrp ended v)) [
      | inl ends ↦ absurd (none ((in_set ended v).1 ends))
      | inr not_there ↦ ap stays not_there
    ]
    | inr there ↦ or_right (not (set.has_vrp ended v)) (set.has_vrp asserted v) ((in_set asserted v).0 there)
  ],
)
  where
    stays : Bool → Bool
    stays b = not b || set.has_vrp asserted v

-- so what is after it by sets is what authorizations exchange, even if what begins again is not taken out
pub after_exchanged : (kept : KeptDay) (outs ins : set.VrpSet) (ended begun : List Auth)
    → ((v : Vrp) → Contains (set.items outs) v ↔ (AreGivingOn ended kept.day v × ¬ Contains (set.items ins) v))
    → ((v : Vrp) → Contains (set.items ins) v ↔ (AreGivingOn begun kept.day v × ¬ Any (λ filter. FilterMatches filter v) kept.filters))
    → (v : Vrp) → IsAfter kept outs ins v ↔ AreExchanged kept ended begun v
after_exchanged kept outs ins ended begun out_are in_are v =
    let left = left_where outs kept.asserted v in (
      λ after. elim after [
        | inl was ↦ elim (left.0 was.1) [
          | inl none ↦ elim (cases_Bool (set.has_vrp ins v)) [
            | inl begins ↦ inr ((in_are v).0 ((in_set ins v).1 begins))
            | inr other ↦ inl (was.0, inl (λ gives. none ((out_are v).1 (gives, not_in_set ins v other))))
          ]
          | inr asserted ↦ inl (was.0, inr asserted)
        ]
        | inr begins ↦ inr ((in_are v).0 begins)
      ],
      λ exchanged. elim exchanged [
        | inl was ↦ inl (was.0, left.1 (elim was.1 [ inl none ↦ inl (λ there. none ((out_are v).0 there).0) | inr asserted ↦ inr asserted ]))
        | inr begins ↦ inr ((in_are v).1 begins)
      ],
    )

-- of a list, what is not in the set
pub in_rest : (index : set.VrpSet) (vrps : List Vrp) (v : Vrp)
    → Contains (filter (λ w. not (set.has_vrp index w)) vrps) v ↔ (Contains vrps v × ¬ Contains (set.items index) v)
in_rest index vrps v =
    let rest = in_filter (λ w. not (set.has_vrp index w)) vrps v in (
      λ there. elim (cases_Bool (set.has_vrp index v)) [
        | inl has ↦ absurd (false≢true (ap not (sym has) ∙ (rest.0 there).1))
        | inr none ↦ ((rest.0 there).0, not_in_set index v none)
      ],
      λ is. rest.1 (is.0, elim (cases_Bool (set.has_vrp index v)) [ inl has ↦ absurd (is.1 ((in_set index v).1 has)) | inr none ↦ ap not none ]),
    )

-- of what is given, what passes is left
pub given_left : (P Q : Vrp → Type 0) (given left : List Vrp) → ((v : Vrp) → Contains given v ↔ P v)
    → ((v : Vrp) → Contains left v ↔ (Contains given v × Q v)) → (v : Vrp) → Contains left v ↔ (P v × Q v)
given_left P Q given left are passing v = (
  λ there. let is = (passing v).0 there in ((are v).0 is.0, is.1),
  λ is. (passing v).1 ((are v).1 is.0, is.1),
)

-- what an exchange makes of the day that is kept of the one history is that of the other
pub exchanged_day : (charter : Charter) (rows : AllRows) (before after : History) → IsLegal charter before → HasRows rows before
    → (day : ℕ) (ended begun : List Auth) (kept : KeptDay) → kept.day ≡ day → IsDayOfRows rows kept
    → ExchangesVrps before after day ended begun → (v : Vrp) → AreExchanged kept ended begun v ↔ IsVrpOn after day v
exchanged_day charter rows before after legal has day ended begun kept on is exchanges v =
    let exchanged = exchange_keeps (λ (w : Vrp). IsGivenOn rows kept.day w) ended begun kept is.given v in
    let given = given_on charter rows before legal has day v in
    let then = exchanges.vrps v in
    let stays_or_begins : Type 0 = (IsGivenOn rows day v × ¬ AreGivingOn ended day v) ⊎ AreGivingOn begun day v in
    let to : stays_or_begins → IsVrpInForce after day v =
    λ giving. then.1 (elim giving [ inl stays ↦ inl (given.0 stays.0, stays.1) | inr begins ↦ inr begins ]) in
    let from : IsVrpInForce after day v → stays_or_begins =
    λ in_force. elim (then.0 in_force) [ inl stays ↦ inl (given.1 stays.0, stays.1) | inr begins ↦ inr begins ] in
    let alike = after_alike (kept_exceptions kept) v to from in
    let left : AreExchanged kept ended begun v
    ↔ IsAfterExceptions (kept_exceptions kept) stays_or_begins v =
    subst (λ (d : ℕ). AreExchanged kept ended begun v
    ↔ IsAfterExceptions (kept_exceptions kept) ((IsGivenOn rows d v × ¬ AreGivingOn ended d v) ⊎ AreGivingOn begun d v) v) on exchanged in
    let has_these = subst (HasExceptions kept) (ap union has.files ∙ sym exchanges.exceptions) is.exceptions in
    let after_these = after_same kept (exceptions_in_force after) has_these (IsVrpInForce after day v) v in
    (λ there. after_these.1 (alike.0 (left.0 there)), λ on_day. left.1 (alike.1 (after_these.0 on_day)))
