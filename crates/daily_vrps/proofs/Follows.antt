-- A day that is kept follows an edit of a holder's rows.
use Rattle.daily_vrps.proofs.Vocabulary.{◌≡◌, ℕ, ◌≤◌, Bool, true, false, ◌↔◌, ◌⊎◌, inl, inr, List, [], ◌∷◌, ◌++◌, ap, ◌∙◌, subst, Contains, cond, Any, append-nil, filter-append, Asn, Vrp, IsAfterExceptions, ended, ends, vrp_of_terms, IsVrpOfEntry, Auth, RoaPrefix, Edit, FilterMatches, Filter, AreExchanged, AreJoined, IsAdded, IsJoined, IsSpared, IsWithSame, AreGivingOn, GivesOn, kept_exceptions, FollowsExceptions, KeptDay, IsJoinedBy, IsLeftWithout, IsVrpOfSome}
use Rattle.payload.specs.VrpSet as set
use Rattle.daily_vrps.proofs.Members.{none_such, such_among_more}
use Rattle.daily_vrps.proofs.Steps.{joined_more, joined_same, left_more, left_same}

-- ---- what authorizations and entries give

-- with one more
pub giving_more : (day : ℕ) (v : Vrp) (xs ys : List Auth) (x : Auth) → ys ≡ xs ++ x ∷ [] → AreGivingOn ys day v ↔ (AreGivingOn xs day v ⊎ GivesOn x day v)
giving_more day v xs ys x grown = such_among_more (λ (y : Auth). GivesOn y day v) xs ys x grown

pub entry_more : (asn : Asn) (v : Vrp) (es ds : List RoaPrefix) (e : RoaPrefix) → ds ≡ es ++ e ∷ []
    → IsVrpOfSome ds asn v ↔ (IsVrpOfSome es asn v ⊎ IsVrpOfEntry e asn v)
entry_more asn v es ds e grown = such_among_more (λ (d : RoaPrefix). IsVrpOfEntry d asn v) es ds e grown

pub none_given : (day : ℕ) (v : Vrp) → ¬ AreGivingOn [] day v
none_given day v = none_such (λ (y : Auth). GivesOn y day v)

-- where none so far gives it and the next does not, none of both does
pub not_given : (day : ℕ) (v : Vrp) (xs ys : List Auth) (x : Auth) → ys ≡ xs ++ x ∷ [] → (¬ AreGivingOn xs day v) → (¬ GivesOn x day v) → ¬ AreGivingOn ys day v
not_given day v xs ys x grown none other giving =
    elim ((giving_more day v xs ys x grown).0 giving) [ inl before ↦ none before | inr last ↦ other last ]

-- an authorization in force gives the VRPs of its entries
pub in_force_gives : (x : Auth) (day : ℕ) → (x.from ≤ day) × (day ≤ x.until) → (v : Vrp) → IsVrpOfSome x.entries x.asn v ↔ GivesOn x day v
in_force_gives x day days v = (λ some. (days.0, days.1, (vrp_of_terms x v).1 some), λ gives. (vrp_of_terms x v).0 gives.2)

-- ---- some begin

pub none_joined : (old : KeptDay) (v : Vrp) → Contains (set.items old.vrps) v ↔ AreJoined old [] v
none_joined old v = (λ there. inl there, λ joined. elim joined [ inl there ↦ there | inr begun ↦ absurd (none_given old.day v begun.0) ])

pub more_joined : (old mid new : KeptDay) (xs ys : List Auth) (x : Auth) → ys ≡ xs ++ x ∷ [] → IsWithSame old mid
    → ((v : Vrp) → Contains (set.items mid.vrps) v ↔ AreJoined old xs v) → ((v : Vrp) → Contains (set.items new.vrps) v ↔ IsJoined mid x v)
    → (v : Vrp) → Contains (set.items new.vrps) v ↔ AreJoined old ys v
more_joined old mid new xs ys x grown same before now v =
    joined_more (giving_more old.day v xs ys x grown) (before v) (rw (same.day, same.filters) at (now v))

-- of one that begins, no entry has joined
pub no_entry_joined : (old : KeptDay) (asn : Asn) (v : Vrp) → Contains (set.items old.vrps) v ↔ IsJoinedBy old (IsVrpOfSome [] asn) v
no_entry_joined old asn v = (
  λ there. inl there,
  λ joined. elim joined [ inl there ↦ there | inr begun ↦ absurd (none_such (λ (d : RoaPrefix). IsVrpOfEntry d asn v) begun.0) ],
)

-- and one more has
pub entry_joined : (old mid new : KeptDay) (asn : Asn) (es ds : List RoaPrefix) (e : RoaPrefix) → ds ≡ es ++ e ∷ [] → IsWithSame old mid
    → ((v : Vrp) → Contains (set.items mid.vrps) v ↔ IsJoinedBy old (IsVrpOfSome es asn) v)
    → ((v : Vrp) → Contains (set.items new.vrps) v ↔ IsJoinedBy mid (IsVrpOfEntry e asn) v)
    → (v : Vrp) → Contains (set.items new.vrps) v ↔ IsJoinedBy old (IsVrpOfSome ds asn) v
entry_joined old mid new asn es ds e grown same before now v =
    joined_more (entry_more asn v es ds e grown) (before v) (rw same.filters at (now v))

-- where all have, the authorization has
pub auth_joined : (old new : KeptDay) (x : Auth) → (x.from ≤ old.day) × (old.day ≤ x.until)
    → ((v : Vrp) → Contains (set.items new.vrps) v ↔ IsJoinedBy old (IsVrpOfSome x.entries x.asn) v)
    → (v : Vrp) → Contains (set.items new.vrps) v ↔ IsJoined old x v
auth_joined old new x days joined v = joined_same (in_force_gives x old.day days v) (joined v)

pub same_then : (old mid new : KeptDay) → IsWithSame old mid → IsWithSame mid new → IsWithSame old new
same_then old mid new one other = record {
  day = other.day ∙ one.day;
  filters = other.filters ∙ one.filters;
  asserted = other.asserted ∙ one.asserted;
}

-- one that was put in after others was not there before them
pub added_since : (old mid : KeptDay) (P Q : Vrp → Type 0) (v : Vrp) → IsWithSame old mid → (Contains (set.items old.vrps) v → Contains (set.items mid.vrps) v)
    → (P v → Q v) → IsAdded mid P v → IsAdded old Q v
added_since old mid P Q v same stays to added =
    (to added.0, subst (λ (filters : List Filter). ¬ Any (λ f. FilterMatches f v) filters) same.filters added.1, λ there. added.2 (stays there))

-- ---- some end

pub all_spared : (old : KeptDay) (edit : Edit) (begun : List Auth) (v : Vrp)
    → Contains (set.items old.vrps) v ↔ (Contains (set.items old.vrps) v × IsSpared old (ended edit []) begun v)
all_spared old edit begun v = (λ there. (there, inl (none_given old.day v)), λ both. both.0)

-- one that the edit does not end
pub staying : (old new : KeptDay) (edit : Edit) (xs ys : List Auth) (x : Auth) (begun : List Auth) → ys ≡ xs ++ x ∷ [] → ends edit x.number ≡ false
    → ((v : Vrp) → Contains (set.items new.vrps) v ↔ (Contains (set.items old.vrps) v × IsSpared old (ended edit xs) begun v))
    → (v : Vrp) → Contains (set.items new.vrps) v ↔ (Contains (set.items old.vrps) v × IsSpared old (ended edit ys) begun v)
staying old new edit xs ys x begun grown stays before v =
    let same : ended edit ys ≡ ended edit xs =
    ap (ended edit) grown ∙ filter-append (λ (y : Auth). ends edit y.number) xs (x ∷ [])
    ∙ ap (λ (b : Bool). ended edit xs ++ cond b (x ∷ []) []) stays ∙ append-nil (ended edit xs) in
    rw same (before v)

-- one that it ends
ended_more : (edit : Edit) (xs ys : List Auth) (x : Auth) → ys ≡ xs ++ x ∷ [] → ends edit x.number ≡ true → ended edit ys ≡ ended edit xs ++ x ∷ []
ended_more edit xs ys x grown ends_it =
    ap (ended edit) grown ∙ filter-append (λ (y : Auth). ends edit y.number) xs (x ∷ []) ∙ ap (λ (b : Bool). ended edit xs ++ cond b (x ∷ []) []) ends_it

pub ending : (old mid new : KeptDay) (edit : Edit) (xs ys : List Auth) (x : Auth) (begun : List Auth) → ys ≡ xs ++ x ∷ [] → ends edit x.number ≡ true
    → IsWithSame old mid
    → ((v : Vrp) → Contains (set.items mid.vrps) v ↔ (Contains (set.items old.vrps) v × IsSpared old (ended edit xs) begun v))
    → ((v : Vrp) → Contains (set.items new.vrps) v ↔ IsLeftWithout mid (GivesOn x mid.day) begun v)
    → (v : Vrp) → Contains (set.items new.vrps) v ↔ (Contains (set.items old.vrps) v × IsSpared old (ended edit ys) begun v)
ending old mid new edit xs ys x begun grown ends_it same before now v =
    left_more (giving_more old.day v (ended edit xs) (ended edit ys) x (ended_more edit xs ys x grown ends_it)) (before v) (rw (same.day, same.asserted) at (now v))

-- of one that ends, no entry is taken out
pub no_entry_left : (old : KeptDay) (asn : Asn) (begun : List Auth) (v : Vrp)
    → Contains (set.items old.vrps) v ↔ IsLeftWithout old (IsVrpOfSome [] asn) begun v
no_entry_left old asn begun v = (λ there. (there, inl (none_such (λ (d : RoaPrefix). IsVrpOfEntry d asn v))), λ left. left.0)

-- and one more is
pub entry_left : (old mid new : KeptDay) (asn : Asn) (begun : List Auth) (es ds : List RoaPrefix) (e : RoaPrefix) → ds ≡ es ++ e ∷ [] → IsWithSame old mid
    → ((v : Vrp) → Contains (set.items mid.vrps) v ↔ IsLeftWithout old (IsVrpOfSome es asn) begun v)
    → ((v : Vrp) → Contains (set.items new.vrps) v ↔ IsLeftWithout mid (IsVrpOfEntry e asn) begun v)
    → (v : Vrp) → Contains (set.items new.vrps) v ↔ IsLeftWithout old (IsVrpOfSome ds asn) begun v
entry_left old mid new asn begun es ds e grown same before now v =
    left_more (entry_more asn v es ds e grown) (before v) (rw (same.day, same.asserted) at (now v))

-- where all are, what the authorization gives is
pub auth_left : (old new : KeptDay) (x : Auth) (begun : List Auth) → (x.from ≤ old.day) × (old.day ≤ x.until)
    → ((v : Vrp) → Contains (set.items new.vrps) v ↔ IsLeftWithout old (IsVrpOfSome x.entries x.asn) begun v)
    → (v : Vrp) → Contains (set.items new.vrps) v ↔ IsLeftWithout old (GivesOn x old.day) begun v
auth_left old new x begun days left v = left_same (in_force_gives x old.day days v) (left v)

-- ---- an exchange

-- what an exchange leaves of a day that is kept is what is given without what ends and with what begins, after the exceptions
pub exchange_keeps : (given : Vrp → Type 0) (ended begun : List Auth) (kept : KeptDay) → FollowsExceptions given kept
    → (v : Vrp) → AreExchanged kept ended begun v
    ↔ IsAfterExceptions (kept_exceptions kept) ((given v × ¬ AreGivingOn ended kept.day v) ⊎ AreGivingOn begun kept.day v) v
exchange_keeps given ended begun kept is v = (
  λ exchanged. elim exchanged [
    | inl was ↦ elim ((is v).0 was.0) [
      | inl on ↦ elim was.1 [ inl none ↦ inl (inl (on.0, none), on.1) | inr asserted ↦ inr asserted ]
      | inr asserted ↦ inr asserted
    ]
    | inr begins ↦ inl (inr begins.0, begins.1)
  ],
  λ after. elim after [
    | inl on ↦ elim on.0 [
      | inl stays ↦ inl ((is v).1 (inl (stays.0, on.1)), inl stays.1)
      | inr begins ↦ inr (begins, on.1)
    ]
    | inr asserted ↦ inl ((is v).1 (inr asserted), inr asserted)
  ],
)

-- ---- an edit

pub followed : (old mid new : KeptDay) (ended begun : List Auth) → IsWithSame old mid
    → ((v : Vrp) → Contains (set.items mid.vrps) v ↔ AreJoined old begun v)
    → ((v : Vrp) → Contains (set.items new.vrps) v ↔ (Contains (set.items mid.vrps) v × IsSpared mid ended begun v))
    → (v : Vrp) → Contains (set.items new.vrps) v ↔ (AreJoined old begun v × IsSpared old ended begun v)
followed old mid new ended begun same joined left v =
    let is : Contains (set.items new.vrps) v ↔ (Contains (set.items mid.vrps) v × IsSpared old ended begun v) = rw (same.day, same.asserted) at (left v) in
    (λ there. ((joined v).0 (is.0 there).0, (is.0 there).1), λ both. is.1 ((joined v).1 both.0, both.1))

-- a day that is kept is so without what ends and with what begins
pub follow_keeps : (given : Vrp → Type 0) (ended begun : List Auth) (old new : KeptDay) → IsWithSame old new
    → ((v : Vrp) → Contains (set.items new.vrps) v ↔ (AreJoined old begun v × IsSpared old ended begun v)) → FollowsExceptions given old
    → FollowsExceptions (λ v. (given v × ¬ AreGivingOn ended old.day v) ⊎ AreGivingOn begun old.day v) new
follow_keeps given ended begun old new same followed kept v = rw (same.filters, same.asserted) (
  λ there.
      let is = (followed v).0 there in
      elim is.0 [
        | inl was ↦ elim ((kept v).0 was) [
          | inl on ↦ elim is.1 [
            | inl none ↦ inl (inl (on.0, none), on.1)
            | inr spared ↦ elim spared [ inl begins ↦ inl (inr begins, on.1) | inr asserted ↦ inr asserted ]
          ]
          | inr asserted ↦ inr asserted
        ]
        | inr begins ↦ inl (inr begins.0, begins.1)
      ],
  λ after. (followed v).1 (elim after [
    | inl on ↦ elim on.0 [
      | inl stays ↦ (inl ((kept v).1 (inl (stays.0, on.1))), inl stays.1)
      | inr begins ↦ (inr (begins, on.1), inr (inl begins))
    ]
    | inr asserted ↦ (inl ((kept v).1 (inr asserted)), inr (inr asserted))
  ]),
)
