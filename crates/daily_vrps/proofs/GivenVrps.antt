-- The VRPs that authorizations give on a day, put into a list one after the other.
use Rattle.daily_vrps.proofs.Vocabulary.{◌≡◌, ℕ, ◌≤◌, ◌↔◌, ◌⊎◌, inl, inr, List, [], ◌∷◌, ◌++◌, Contains, Asn, Vrp, IsVrpOfEntry, Auth, RoaPrefix, AreGivingOn, GivesOn, IsVrpOfSome}
use Rattle.daily_vrps.proofs.Follows.{entry_more, giving_more, in_force_gives, none_given}
use Rattle.daily_vrps.proofs.Members.{none_in_nil, none_such}
use Rattle.daily_vrps.proofs.Steps.{added_more}

-- of no entries none is added
pub no_entry_added : (was : List Vrp) (asn : Asn) (v : Vrp) → Contains was v ↔ (Contains was v ⊎ IsVrpOfSome [] asn v)
no_entry_added was asn v = (
  λ there. inl there,
  λ added. elim added [ inl there ↦ there | inr some ↦ absurd (none_such (λ (e : RoaPrefix). IsVrpOfEntry e asn v) some) ],
)

-- and of one more its VRP is
pub entry_added : (was mid now : List Vrp) (asn : Asn) (es ds : List RoaPrefix) (e : RoaPrefix) → ds ≡ es ++ e ∷ []
    → ((v : Vrp) → Contains mid v ↔ (Contains was v ⊎ IsVrpOfSome es asn v)) → ((v : Vrp) → Contains now v ↔ (Contains mid v ⊎ IsVrpOfEntry e asn v))
    → (v : Vrp) → Contains now v ↔ (Contains was v ⊎ IsVrpOfSome ds asn v)
entry_added was mid now asn es ds e grown before after v = added_more (entry_more asn v es ds e grown) (before v) (after v)

-- where those of all entries are, those of the authorization are
pub auth_added : (was now : List Vrp) (x : Auth) (day : ℕ) → (x.from ≤ day) × (day ≤ x.until)
    → ((v : Vrp) → Contains now v ↔ (Contains was v ⊎ IsVrpOfSome x.entries x.asn v)) → (v : Vrp) → Contains now v ↔ (Contains was v ⊎ GivesOn x day v)
auth_added was now x day days added v =
    let same = in_force_gives x day days v in (
      λ there. elim ((added v).0 there) [ inl was ↦ inl was | inr some ↦ inr (same.0 some) ],
      λ either. (added v).1 (elim either [ inl was ↦ inl was | inr gives ↦ inr (same.1 gives) ]),
    )

-- no authorizations give none
pub none_are_given : (day : ℕ) (v : Vrp) → Contains [] v ↔ AreGivingOn [] day v
none_are_given day v = (λ there. absurd (none_in_nil v there), λ giving. absurd (none_given day v giving))

-- and one more gives its own
pub more_are_given : (mid now : List Vrp) (day : ℕ) (xs ys : List Auth) (x : Auth) → ys ≡ xs ++ x ∷ []
    → ((v : Vrp) → Contains mid v ↔ AreGivingOn xs day v) → ((v : Vrp) → Contains now v ↔ (Contains mid v ⊎ GivesOn x day v))
    → (v : Vrp) → Contains now v ↔ AreGivingOn ys day v
more_are_given mid now day xs ys x grown before after v =
    let either = giving_more day v xs ys x grown in (
      λ there. either.1 (elim ((after v).0 there) [ inl was ↦ inl ((before v).0 was) | inr last ↦ inr last ]),
      λ giving. (after v).1 (elim (either.0 giving) [ inl was ↦ inl ((before v).1 was) | inr last ↦ inr last ]),
    )
