-- A day that is kept stays so where an authorization ends or begins.
use Rattle.daily_vrps.proofs.Vocabulary.{◌↔◌, ◌⊎◌, inl, inr, List, [], sym, subst, Contains, Any, Asn, Vrp, IsAfterExceptions, Auth, RoaPrefix, IsVrpOfEntry, one_of_entry, Exceptions, FilterMatches, IsLeft, AreGivingOn, GivesOn, kept_exceptions, HasExceptions, FollowsExceptions, KeptDay, IsJoinedBy, IsLeftWithout}
use Rattle.payload.specs.VrpSet as set
use Rattle.daily_vrps.proofs.Members.{none_such}
use Rattle.daily_vrps.proofs.VrpSets.{items_inserted, items_removed, one_or_two}

-- ---- a day that is made

-- with equal filters and the same assertions, what is after the one exceptions is after the others
pub after_same : (kept : KeptDay) (exceptions : Exceptions) → HasExceptions kept exceptions → (P : Type 0) (v : Vrp)
    → IsAfterExceptions exceptions P v ↔ IsAfterExceptions (kept_exceptions kept) P v
after_same kept exceptions has P v = rw has.filters (
  λ is. elim is [ inl given ↦ inl given | inr asserted ↦ inr ((has.assertions v).1 asserted) ],
  λ is. elim is [ inl given ↦ inl given | inr asserted ↦ inr ((has.assertions v).0 asserted) ],
)

-- a day with the VRPs after its exceptions is kept
pub kept_after : (given : Vrp → Type 0) (kept : KeptDay) (exceptions : Exceptions) → HasExceptions kept exceptions
    → ((v : Vrp) → Contains (set.items kept.vrps) v ↔ IsAfterExceptions exceptions (given v) v) → FollowsExceptions given kept
kept_after given kept exceptions has are v =
    let same = after_same kept exceptions has (given v) v in
    (λ there. same.0 ((are v).0 there), λ after. (are v).1 (same.1 after))

-- ---- an entry ends

-- where its VRP for the AS is spared, all that was there is left
pub spared_left : (old : KeptDay) (begun : List Auth) (e : RoaPrefix) (asn : Asn) (w : Vrp) → IsVrpOfEntry e asn w
    → AreGivingOn begun old.day w ⊎ Contains (set.items old.asserted) w
    → (v : Vrp) → Contains (set.items old.vrps) v ↔ IsLeftWithout old (IsVrpOfEntry e asn) begun v
spared_left old begun e asn w of_entry spared v = (λ there. (there, it), λ left. left.0)
  where
    IsSparedOne : Vrp → Type 0
    IsSparedOne u = AreGivingOn begun old.day u ⊎ Contains (set.items old.asserted) u

    it : (¬ IsVrpOfEntry e asn v) ⊎ IsSparedOne v
    it = elim (one_or_two w v) [
      | inl same ↦ inr (subst IsSparedOne same spared)
      | inr differ ↦ inl (λ is. differ (one_of_entry e asn w v of_entry is))
    ]

-- where it is not, it is taken out
pub removed_left : (old : KeptDay) (begun : List Auth) (e : RoaPrefix) (asn : Asn) (w : Vrp) → IsVrpOfEntry e asn w
    → ¬ (AreGivingOn begun old.day w ⊎ Contains (set.items old.asserted) w)
    → (v : Vrp) → Contains (set.items (set.remove old.vrps w)) v ↔ IsLeftWithout old (IsVrpOfEntry e asn) begun v
removed_left old begun e asn w of_entry other v =
    let is = items_removed old.vrps w v in (
      λ there. let kept = is.0 there in (kept.0, inl (λ also. kept.1 (one_of_entry e asn v w also of_entry))),
      λ left. is.1 (
        left.0,
        λ same. elim left.1 [
          | inl none ↦ none (subst (IsVrpOfEntry e asn) (sym same) of_entry)
          | inr spared ↦ other (subst (λ (u : Vrp). AreGivingOn begun old.day u ⊎ Contains (set.items old.asserted) u) same spared)
        ],
      ),
    )

-- where nothing begins, what is left without what the authorization gives is left
pub left_alone : (old new : KeptDay) (auth : Auth) → ((v : Vrp) → Contains (set.items new.vrps) v ↔ IsLeftWithout old (GivesOn auth old.day) [] v)
    → (v : Vrp) → Contains (set.items new.vrps) v ↔ IsLeft old auth v
left_alone old new auth is v = (
  λ there. let left = (is v).0 there in (
    left.0,
    elim left.1 [
      | inl none ↦ inl none
      | inr spared ↦ elim spared [ inl given ↦ absurd (none_such (λ (x : Auth). GivesOn x old.day v) given) | inr asserted ↦ inr asserted ]
    ],
  ),
  λ left. (is v).1 (left.0, elim left.1 [ inl none ↦ inl none | inr asserted ↦ inr (inr asserted) ]),
)

-- ---- an entry begins

-- where some filter matches its VRP for the AS, what was there has joined
pub filtered_joined : (old : KeptDay) (e : RoaPrefix) (asn : Asn) (w : Vrp) → IsVrpOfEntry e asn w
    → Any (λ f. FilterMatches f w) old.filters → (v : Vrp) → Contains (set.items old.vrps) v ↔ IsJoinedBy old (IsVrpOfEntry e asn) v
filtered_joined old e asn w of_entry some v = (
  λ there. inl there,
  λ joined. elim joined [
    | inl there ↦ there
    | inr is ↦ absurd (is.1 (subst (λ (u : Vrp). Any (λ f. FilterMatches f u) old.filters) (one_of_entry e asn w v of_entry is.0) some))
  ],
)

-- where none does, it is put in
pub inserted_joined : (old : KeptDay) (e : RoaPrefix) (asn : Asn) (w : Vrp) → IsVrpOfEntry e asn w
    → (¬ Any (λ f. FilterMatches f w) old.filters)
    → (v : Vrp) → Contains (set.items (set.insert old.vrps w)) v ↔ IsJoinedBy old (IsVrpOfEntry e asn) v
inserted_joined old e asn w of_entry none v =
    let is = items_inserted old.vrps w v in (
      λ there. elim (is.0 there) [
        | inl was ↦ inl was
        | inr same ↦ inr (
          subst (IsVrpOfEntry e asn) (sym same) of_entry,
          subst (λ (u : Vrp). ¬ Any (λ f. FilterMatches f u) old.filters) (sym same) none,
        )
      ],
      λ joined. is.1 (elim joined [ inl was ↦ inl was | inr given ↦ inr (one_of_entry e asn v w given.0 of_entry) ]),
    )
