-- The changes of a grant and a revocation carry every holder's rows.
use Rattle.policy.proofs.Vocabulary.{◌≡◌, ℕ, ◌+◌, true, not, eqb, List, [], ◌∷◌, ◌++◌, None, refl, sym, ap, ◌∙◌, filter, cond-true, Granted, Holders, Grant, Revoke, Entry, History, is_registered, numbered_grant, grant_terms, grants_made, Carries, same_name-same, active-left, carries-edit}
use Rattle.registry.specs.declared.grant.GrantTerms.{GrantTerms}
use Rattle.registry.specs.declared.change.Edit.TheVariants.{Grant as GrantEdit, Revoke as RevokeEdit}

pub carries-grant : (before : History) (day : ℕ) (caller holder : List ℕ) (terms : GrantTerms) (g : Granted)
    → is_registered before holder ≡ true
    → g ≡ numbered_grant terms (grants_made before holder + 1)
    → Carries (Holders (record { holder = holder; edit = GrantEdit g }) None) before
    (record { day = day; caller = caller; command = Grant holder terms } ∷ before)
carries-grant before day caller holder terms g registered is =
    let e : Entry = record { day = day; caller = caller; command = Grant holder terms } in
    carries-edit e before holder (GrantEdit g) (record { named = refl; files = refl }) registered
    (λ rows had. record {
      apart = had.apart;
      holdings = had.holdings;
      grants = ap (λ gs. gs ++ g ∷ []) had.grants ∙ ap (λ x. grant_terms before holder ++ x ∷ []) is ∙ sym (cond-true _ _ _ (same_name-same holder));
      auths = active-left e before holder rows.auths (λ a. refl) refl had.auths;
      granted = ap (λ x. x.number) is ∙ sym (cond-true _ _ _ (same_name-same holder));
      created = had.created;
    })
    (λ h other a. refl)

pub carries-revoke : (before : History) (day : ℕ) (caller holder : List ℕ) (n : ℕ)
    → is_registered before holder ≡ true
    → Carries (Holders (record { holder = holder; edit = RevokeEdit n }) None) before
    (record { day = day; caller = caller; command = Revoke holder n } ∷ before)
carries-revoke before day caller holder n registered =
    let e : Entry = record { day = day; caller = caller; command = Revoke holder n } in
    carries-edit e before holder (RevokeEdit n) (record { named = refl; files = refl }) registered
    (λ rows had. record {
      apart = had.apart;
      holdings = had.holdings;
      grants = ap (filter (λ g. not (eqb g.number n))) had.grants ∙ sym (cond-true _ _ _ (same_name-same holder));
      auths = active-left e before holder rows.auths (λ a. refl) refl had.auths;
      granted = had.granted;
      created = had.created;
    })
    (λ h other a. refl)
