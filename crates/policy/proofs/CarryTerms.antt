-- The changes of a create, an amend and a withdrawal carry every holder's rows.
use Rattle.policy.proofs.Vocabulary.{◌≡◌, ℕ, ◌+◌, ◌<◌, ◌≤◌, true, false, not, eqb, List, [], ◌∷◌, ◌++◌, inl, inr, Some, None, refl, sym, ap, ◌∙◌, subst, arith, map, filter, Vec, cases_Bool, cond-true, cond-false, nat_tests, Auth, AuthTerms, Holders, Amend, Withdraw, Entry, History, is_registered, entries_have, HoldsEntries, numbered_terms, authorizations_made, authorization_terms, with_terms, amended, HeldSinceMade, Keeps, AreActive, auth_of_number, replaced_by, Carries, same_name-same, Keeps-unique, Keeps-append, Keeps-filtered, Keeps-map, active-kept, active-numbered, not_yet_made, since_same, amended-number, amended-addresses, carries-edit}
use Rattle.std.proofs.lemmas.Option.{same_Some, none-some}
use Rattle.registry.specs.declared.change.Edit.TheVariants.{Create as CreateEdit, Amend as AmendEdit, Withdraw as WithdrawEdit}
use Rattle.registry.specs.declared.command.Command.TheVariants.{Create}
use Rattle.registry.proofs.Numbers.{Numbered}

pub carries-create : (before : History) (day : ℕ) (caller holder : List ℕ) (t : AuthTerms) (x : Auth)
    → is_registered before holder ≡ true → HoldsEntries before holder t.entries
    → x ≡ numbered_terms t (authorizations_made before holder + 1)
    → Carries (Holders (record { holder = holder; edit = CreateEdit x }) None) before
    (record { day = day; caller = caller; command = Create holder t } ∷ before)
carries-create before day caller holder t x registered holds is =
    let e : Entry = record { day = day; caller = caller; command = Create holder t } in
    let number : x.number ≡ authorizations_made before holder + 1 = ap (λ y. y.number) is in
    let entries : x.entries ≡ t.entries = ap (λ y. y.entries) is in
    let since : HeldSinceMade (e ∷ before) holder x = (
      λ made. λ a has. holds a (ap (λ es. entries_have es a) (sym entries) ∙ has),
      not_yet_made before holder x (omega arith),
    ) in
    let terms : authorization_terms before holder ++ x ∷ [] ≡ authorization_terms (e ∷ before) holder =
    ap (λ y. authorization_terms before holder ++ y ∷ []) is ∙ sym (cond-true _ _ _ (same_name-same holder)) in
    carries-edit e before holder (CreateEdit x) (record { named = refl; files = refl }) registered
    (λ rows had. record {
      apart = had.apart;
      holdings = had.holdings;
      grants = had.grants;
      auths = subst (λ (xs : List Auth). Keeps (HeldSinceMade (e ∷ before) holder) xs (rows.auths ++ x ∷ [])) terms
          (Keeps-append (HeldSinceMade (e ∷ before) holder) (authorization_terms before holder) rows.auths x since
          (active-kept e before holder rows.auths (λ a held. held) had.auths));
      granted = had.granted;
      created = number ∙ sym (cond-true _ _ _ (same_name-same holder));
    })
    (λ h other a. refl)

pub carries-withdraw : (before : History) (day : ℕ) (caller holder : List ℕ) (n : ℕ)
    → is_registered before holder ≡ true
    → Carries (Holders (record { holder = holder; edit = WithdrawEdit n }) None) before
    (record { day = day; caller = caller; command = Withdraw holder n } ∷ before)
carries-withdraw before day caller holder n registered =
    let e : Entry = record { day = day; caller = caller; command = Withdraw holder n } in
    let keep = λ (x : Auth). not (eqb x.number n) in
    let terms : filter keep (authorization_terms before holder) ≡ authorization_terms (e ∷ before) holder =
    sym (cond-true _ _ _ (same_name-same holder)) in
    carries-edit e before holder (WithdrawEdit n) (record { named = refl; files = refl }) registered
    (λ rows had. record {
      apart = had.apart;
      holdings = had.holdings;
      grants = had.grants;
      auths = subst (λ (xs : List Auth). Keeps (HeldSinceMade (e ∷ before) holder) xs (filter keep rows.auths)) terms
          (Keeps-filtered (HeldSinceMade (e ∷ before) holder) keep (authorization_terms before holder) rows.auths
          (active-kept e before holder rows.auths (λ a held. held) had.auths));
      granted = had.granted;
      created = had.created;
    })
    (λ h other a. refl)

-- what is found has the number
pub found_number : (n : ℕ) (xs : List Auth) (x : Auth) → auth_of_number n xs ≡ Some x → x.number ≡ n
found_number n [] x found = absurd (none-some _ found)
found_number n (z ∷ zs) x found =
    elim (cases_Bool (eqb z.number n)) [
      | inl t ↦
          let same : z ≡ x = same_Some _ _ (sym (cond-true _ _ _ t) ∙ found) in
          let number : z.number ≡ n = grind (arith, nat_tests) in
          ap (λ a. a.number) (sym same) ∙ number
      | inr f ↦ found_number n zs x (sym (cond-false _ _ _ f) ∙ found)
    ]

-- an authorization of a higher number stays
untouched : (low n : ℕ) (xs : List Auth) (high : ℕ) (maxes : List ℕ) (until : ℕ) (y : Auth) → Numbered low xs high → n ≤ low → y.number ≡ n
    → map (replaced_by y) xs ≡ map (amended n maxes until) xs
untouched low n [] high maxes until y numbers below is = refl
untouched low n (x ∷ xs) high maxes until y numbers below is =
    let first : low < x.number = numbers.0 in
    let not_n : eqb x.number n ≡ false = grind (arith, nat_tests) in
    let not_y : eqb x.number y.number ≡ false = grind (arith, nat_tests) in
    let rest = untouched x.number n xs high maxes until y numbers.1 (omega arith) is in
    let one : replaced_by y x ≡ amended n maxes until x =
    cond-false _ _ _ not_y ∙ sym (cond-false _ _ _ not_n) in
    ap (λ z. z ∷ map (replaced_by y) xs) one ∙ ap (λ zs. amended n maxes until x ∷ zs) rest

-- the amended one put in the place of the one of its number
pub replaced-amended : (low n : ℕ) (xs : List Auth) (high : ℕ) (maxes : List ℕ) (until : ℕ) (x y : Auth) → Numbered low xs high → auth_of_number n xs ≡ Some x
    → y ≡ with_terms maxes until x → map (replaced_by y) xs ≡ map (amended n maxes until) xs
replaced-amended low n [] high maxes until x y numbers found is = refl
replaced-amended low n (z ∷ zs) high maxes until x y numbers found is =
    elim (cases_Bool (eqb z.number n)) [
      | inl t ↦
          let same : z ≡ x = same_Some _ _ (sym (cond-true _ _ _ t) ∙ found) in
          let number : z.number ≡ n = grind (arith, nat_tests) in
          let number_y : y.number ≡ n = ap (λ a. a.number) is ∙ ap (λ a. a.number) (sym same) ∙ number in
          let same_number : eqb z.number y.number ≡ true = grind (arith, nat_tests) in
          let new : with_terms maxes until z ≡ y = ap (with_terms maxes until) same ∙ sym is in
          let one : replaced_by y z ≡ amended n maxes until z =
          cond-true _ _ _ same_number ∙ sym new ∙ sym (cond-true _ _ _ t) in
          let rest = untouched z.number n zs high maxes until y numbers.1 (omega arith) number_y in
          ap (λ a. a ∷ map (replaced_by y) zs) one ∙ ap (λ cs. amended n maxes until z ∷ cs) rest
      | inr f ↦
          let later : auth_of_number n zs ≡ Some x = sym (cond-false _ _ _ f) ∙ found in
          let rest = replaced-amended z.number n zs high maxes until x y numbers.1 later is in
          let number_y : y.number ≡ n = ap (λ a. a.number) is ∙ found_number n zs x later in
          let differ : eqb z.number y.number ≡ false = ap (λ k. eqb z.number k) number_y ∙ f in
          let one : replaced_by y z ≡ amended n maxes until z =
          cond-false _ _ _ differ ∙ sym (cond-false _ _ _ f) in
          ap (λ a. a ∷ map (replaced_by y) zs) one ∙ ap (λ cs. amended n maxes until z ∷ cs) rest
    ]

pub carries-amend : (before : History) (day : ℕ) (caller holder : List ℕ) (n : ℕ) (maxes : Vec ℕ) (until : ℕ) (active : List Auth) (x y : Auth)
    → is_registered before holder ≡ true → AreActive before holder active → auth_of_number n active ≡ Some x → y ≡ with_terms maxes.items until x
    → Carries (Holders (record { holder = holder; edit = AmendEdit y }) None) before
    (record { day = day; caller = caller; command = Amend holder n maxes until } ∷ before)
carries-amend before day caller holder n maxes until active x y registered are_active found is =
    let e : Entry = record { day = day; caller = caller; command = Amend holder n maxes until } in
    let f = amended n maxes.items until in
    let terms : map f (authorization_terms before holder) ≡ authorization_terms (e ∷ before) holder =
    sym (cond-true _ _ _ (same_name-same holder)) in
    let to = λ (z : Auth) (since : HeldSinceMade (e ∷ before) holder z). since_same (e ∷ before) holder z (f z) (amended-number n maxes.items until z) (amended-addresses n maxes.items until z) since in
    let back = λ (z : Auth) (since : HeldSinceMade (e ∷ before) holder (f z)). since_same (e ∷ before) holder (f z) z (sym (amended-number n maxes.items until z)) (λ a. sym (amended-addresses n maxes.items until z a)) since in
    carries-edit e before holder (AmendEdit y) (record { named = refl; files = refl }) registered
    (λ rows had.
    let same_auths : active ≡ rows.auths = Keeps-unique (HeldSinceMade before holder) (authorization_terms before holder) active rows.auths are_active had.auths in
    let mapped : map (replaced_by y) rows.auths ≡ map f rows.auths =
    replaced-amended 0 n rows.auths (authorizations_made before holder) maxes.items until x y (active-numbered before holder rows.auths had.auths)
    (ap (auth_of_number n) (sym same_auths) ∙ found) is in
    record {
      apart = had.apart;
      holdings = had.holdings;
      grants = had.grants;
      auths = subst (λ (ys : List Auth). Keeps (HeldSinceMade (e ∷ before) holder) (authorization_terms (e ∷ before) holder) ys) (sym mapped)
          (subst (λ (xs : List Auth). Keeps (HeldSinceMade (e ∷ before) holder) xs (map f rows.auths)) terms
          (Keeps-map (HeldSinceMade (e ∷ before) holder) f to back (authorization_terms before holder) rows.auths
          (active-kept e before holder rows.auths (λ a held. held) had.auths)));
      granted = had.granted;
      created = had.created;
    })
    (λ h other a. refl)
