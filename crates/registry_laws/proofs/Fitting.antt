-- The rows of a legal history whose values are those of their types are in their ranges.
use Rattle.registry_laws.proofs.Vocabulary.{◌≡◌, ℕ, ◌+◌, ◌<◌, ◌≤◌, true, false, not, cond, eqb, List, [], ◌∷◌, inl, inr, Option, Some, None, IsSomeAnd, refl, sym, subst, arith, filter, All, cases_Bool, All-nil, All-cons, All-head, All-tail, All-push, All-filter, All-map, All-weaker, Auth, Charter, Command, Grant, Revoke, Create, Amend, Withdraw, Import, Slurm, Granted, NamedSlurm, files_after, files_in_force, Entry, History, same_name, numbered_grant, numbered_terms, granted_after, grants_after, grants_made, grant_terms, created_after, terms_after, authorizations_made, authorization_terms, amended, HeldSinceMade, CommandFits, FileFits, FilesFit, HistoryFits, AuthFits, GrantFits, Verdict, IsLegal, auth_of_number, maxes_fit, OfNumber, with_maxes-are, with_maxes-fit, same_name-true, Keeps-all, authorization_terms-numbered, since_same, amended-number, amended-addresses}
use Rattle.addr.specs.Day.{IsDay}
use Rattle.registry.specs.declared.limits.TheConstants.{LAST_NUMBER}
use Rattle.slurm.specs.SlurmSets.{has_entries}
use Rattle.registry_laws.specs.Ranges.{FilesInForceFit, LegalRowsFit}
use Rattle.registry_laws.proofs.SharedVrps.{Each, found_one, amended-other, amended-it}

-- the grants that were made at a holder, and how many they are
record GrantsFit (granted : ℕ) (grants : List Granted) : Type 0 where
  made : granted ≤ LAST_NUMBER
  terms : All GrantFits grants

grants_after-fit : (charter : Charter) (before : History) (day : ℕ) (caller : List ℕ) (c : Command) (h : List ℕ)
    → Verdict charter before day caller c None → CommandFits c → GrantsFit (grants_made before h) (grant_terms before h)
    → GrantsFit (granted_after c h (grants_made before h)) (grants_after c h (grants_made before h) (grant_terms before h))
grants_after-fit charter before day caller (Grant holder terms) h accepted values fit =
    let grants = grant_terms before h in
    let made = grants_made before h in
    let g = numbered_grant terms (made + 1) in
    elim (cases_Bool (same_name holder h)) [
      | inl t ↦
          let room : made < LAST_NUMBER = subst (λ (k : List ℕ). grants_made before k < LAST_NUMBER) (same_name-true holder h t) accepted.1.1.1.0.1 in
          let fits : GrantFits g = record { number = (omega arith, omega (arith, room)); caller = values.1; until = values.2 } in
          rw t (record { made = omega (arith, room); terms = All-push GrantFits grants g fit.terms fits })
      | inr f ↦ rw f fit
    ]
grants_after-fit charter before day caller (Revoke holder n) h accepted values fit =
    elim (same_name holder h) as (λ b. GrantsFit (grants_made before h) (cond b (filter (λ g. not (eqb g.number n)) (grant_terms before h)) (grant_terms before h)))
    [ true ↦ record { made = fit.made; terms = All-filter (λ g. not (eqb g.number n)) GrantFits (grant_terms before h) fit.terms } | false ↦ fit ]
grants_after-fit charter before day caller (Import holder rows) h accepted values fit = absurd accepted
grants_after-fit charter before day caller _ h accepted values fit = fit

grants_fit : (charter : Charter) (history : History) (h : List ℕ) → IsLegal charter history → HistoryFits history
    → GrantsFit (grants_made history h) (grant_terms history h)
grants_fit charter [] h legal fits = record { made = omega arith; terms = All-nil GrantFits }
grants_fit charter (e ∷ before) h legal fits =
    grants_after-fit charter before e.day e.caller e.command h legal.0 fits.0.command (grants_fit charter before h legal.1 fits.1)

-- ---- authorizations

-- an authorization is in its ranges where it is held since its making
abbrev FitsWhereHeld : History → List ℕ → Auth → Type 0
FitsWhereHeld history h x = HeldSinceMade history h x → AuthFits x

-- the authorizations that were made at a holder and not withdrawn, and how many were made
record AuthsFit (history : History) (h : List ℕ) (created : ℕ) (auths : List Auth) : Type 0 where
  made : created ≤ LAST_NUMBER
  terms : All (FitsWhereHeld history h) auths

-- the one authorization of the number, whose prefixes the maxLengths are for
record Found (before : History) (h : List ℕ) (n : ℕ) (maxes : List ℕ) : Type 0 where
  one : Auth
  fits : maxes_fit maxes one.entries ≡ true
  only : Each (λ x. HeldSinceMade before h x → eqb x.number n ≡ true → x ≡ one) (authorization_terms before h)

found : (before : History) (h : List ℕ) (n : ℕ) (maxes : List ℕ) → OfNumber before h n (λ x. maxes_fit maxes x.entries ≡ true) → Found before h n maxes
found before h n maxes of = by_case (auth_of_number n of.0) refl of.2
  where
    by_case : (o : Option Auth) → auth_of_number n of.0 ≡ o → IsSomeAnd o (λ x. maxes_fit maxes x.entries ≡ true) → Found before h n maxes
    by_case None is none = absurd none
    by_case (Some z) is fits = record {
      one = z;
      fits = fits;
      only = found_one (HeldSinceMade before h) n 0 (authorization_terms before h) of.0 (authorizations_made before h) z
          (authorization_terms-numbered before h) of.1 is;
    }

amended_fit : (e : Entry) (before : History) (h : List ℕ) (n : ℕ) (maxes : List ℕ) (until : ℕ) (z : Auth) → maxes_fit maxes z.entries ≡ true → IsDay until → (xs : List Auth)
    → Each (λ x. HeldSinceMade before h x → eqb x.number n ≡ true → x ≡ z) xs → All (FitsWhereHeld (e ∷ before) h) xs
    → All (λ x. FitsWhereHeld (e ∷ before) h (amended n maxes until x)) xs
amended_fit e before h n maxes until z range day [] only all = All-nil (λ x. FitsWhereHeld (e ∷ before) h (amended n maxes until x))
amended_fit e before h n maxes until z range day (x ∷ xs) only all =
    All-cons (λ y. FitsWhereHeld (e ∷ before) h (amended n maxes until y)) x xs first
    (amended_fit e before h n maxes until z range day xs only.1 (All-tail (FitsWhereHeld (e ∷ before) h) x xs all))
  where
    first : FitsWhereHeld (e ∷ before) h (amended n maxes until x)
    first since =
        let number = sym (amended-number n maxes until x) in
        let held = since_same (e ∷ before) h (amended n maxes until x) x number (λ a. sym (amended-addresses n maxes until x a)) since in
        let had = All-head (FitsWhereHeld (e ∷ before) h) x xs all held in
        elim (cases_Bool (eqb x.number n)) [
          | inl t ↦
              let one = only.0 held.1 t in
              let fits = subst AuthFits one had in
              subst AuthFits (sym (amended-it n maxes until x z t one))
              (record {
                number = fits.number;
                asn = fits.asn;
                entries = with_maxes-are maxes z.entries fits.entries;
                lengths = with_maxes-fit maxes z.entries range;
                from = fits.from;
                until = day;
              })
          | inr f ↦ subst AuthFits (sym (amended-other n maxes until x f)) had
        ]

auths_after-fit : (charter : Charter) (before : History) (day : ℕ) (caller : List ℕ) (c : Command) (h : List ℕ) → Verdict charter before day caller c None → CommandFits c
    → AuthsFit (record { day = day; caller = caller; command = c } ∷ before) h (authorizations_made before h) (authorization_terms before h)
    → AuthsFit (record { day = day; caller = caller; command = c } ∷ before) h
    (created_after c h (authorizations_made before h)) (terms_after c h (authorizations_made before h) (authorization_terms before h))
auths_after-fit charter before day caller (Create holder terms) h accepted values fit =
    let e : Entry = record { day = day; caller = caller; command = Create holder terms } in
    let F = FitsWhereHeld (e ∷ before) h in
    let auths = authorization_terms before h in
    let made = authorizations_made before h in
    let x = numbered_terms terms (made + 1) in
    elim (cases_Bool (same_name holder h)) [
      | inl t ↦
          let room : made < LAST_NUMBER =
          subst (λ (k : List ℕ). authorizations_made before k < LAST_NUMBER) (same_name-true holder h t) accepted.1.1.1.1.1.1.0.1 in
          let fits : AuthFits x = record {
            number = (omega arith, omega (arith, room));
            asn = values.1.asn;
            entries = values.1.entries;
            lengths = accepted.1.1.1.0;
            from = values.1.from;
            until = values.1.until;
          } in
          rw t (record { made = omega (arith, room); terms = All-push F auths x fit.terms (λ _. fits) })
      | inr f ↦ rw f fit
    ]
auths_after-fit charter before day caller (Amend holder n maxes until) h accepted values fit =
    let e : Entry = record { day = day; caller = caller; command = Amend holder n maxes until } in
    let auths = authorization_terms before h in
    elim (cases_Bool (same_name holder h)) [
      | inl t ↦
          let here = subst (λ (g : List ℕ). Found before g n maxes.items) (same_name-true holder h t) (found before holder n maxes.items accepted.1.1.1.0) in
          let terms = amended_fit e before h n maxes.items until here.one here.fits values.3 auths here.only fit.terms in
          rw t (record { made = fit.made; terms = All-map (FitsWhereHeld (e ∷ before) h) (amended n maxes.items until) auths terms })
      | inr f ↦ rw f fit
    ]
auths_after-fit charter before day caller (Withdraw holder n) h accepted values fit =
    let e : Entry = record { day = day; caller = caller; command = Withdraw holder n } in
    let F = FitsWhereHeld (e ∷ before) h in
    let auths = authorization_terms before h in
    let keep = λ (x : Auth). not (eqb x.number n) in
    elim (same_name holder h) as (λ b. AuthsFit (e ∷ before) h (authorizations_made before h) (cond b (filter keep auths) auths))
    [ true ↦ record { made = fit.made; terms = All-filter keep F auths fit.terms } | false ↦ fit ]
auths_after-fit charter before day caller (Import holder rows) h accepted values fit = absurd accepted
auths_after-fit charter before day caller _ h accepted values fit = fit

auths_fit : (charter : Charter) (history : History) (h : List ℕ) → IsLegal charter history → HistoryFits history
    → AuthsFit history h (authorizations_made history h) (authorization_terms history h)
auths_fit charter [] h legal fits = record { made = omega arith; terms = All-nil (FitsWhereHeld [] h) }
auths_fit charter (e ∷ before) h legal fits =
    let fit = auths_fit charter before h legal.1 fits.1 in
    let still = All-weaker (FitsWhereHeld before h) (FitsWhereHeld (e ∷ before) h) (λ x had since. had since.1) (authorization_terms before h) fit.terms in
    auths_after-fit charter before e.day e.caller e.command h legal.0 fits.0.command (record { made = fit.made; terms = still })

-- ---- rows

pub legal_rows_fit : LegalRowsFit
legal_rows_fit charter history h rows legal fits of =
    let grants = grants_fit charter history h legal fits in
    let auths = auths_fit charter history h legal fits in
    record {
      granted = rw of.granted grants.made;
      created = rw of.created auths.made;
      grants = rw of.grants grants.terms;
      auths = Keeps-all (HeldSinceMade history h) AuthFits (authorization_terms history h) rows.auths of.auths auths.terms;
    }

files_after-fit : (c : Command) (before : List NamedSlurm) → CommandFits c → FilesFit before → FilesFit (files_after c before)
files_after-fit (Slurm files) before values fit = All-filter (λ (f : NamedSlurm). has_entries f.file) FileFits files values.1
files_after-fit _ before values fit = fit

pub files_in_force_fit : FilesInForceFit
files_in_force_fit [] fits = All-nil FileFits
files_in_force_fit (e ∷ before) fits = files_after-fit e.command (files_in_force before) fits.0.command (files_in_force_fit before fits.1)
