-- The rule that amended terms share no AS, prefix and maxLength with another active authorization.
use Rattle.policy.proofs.Vocabulary.{◌≡◌, ℕ, Bool, false, List, Option, Some, None, refl, sym, ◌∙◌, subst, IfSome, IsSomeAnd, Auth, Granted, AnswersNumber, AnswersAmend, SharesWithNone, History, with_maxes, with_terms, authorization_terms, HeldSinceMade, OfActive, IsLegal, auth_of_number, HolderRows, Charter, Rows, RowsOf, RowsIfAny, rows_of, rows_if_any, grants_if_any, auths_if_any, Keeps-unique}
use Rattle.registry.proofs.Amended.{shares_with_other}
use Rattle.policy.proofs.CarryTerms.{found_number}
use Rattle.policy.proofs.RowsLemmas.{active-from, answers-rows, answers-unregistered}

abbrev pub SharesWithNoOther : History → List ℕ → ℕ → List ℕ → ℕ → Type 0
SharesWithNoOther history h n maxes until =
    OfActive history h (λ active. IsSomeAnd (auth_of_number n active) (λ x. shares_with_other n (with_terms maxes until x) active ≡ false))

-- the authorization that was found is that of the number in each list of the active ones
found_in : (history : History) (h : List ℕ) (n : ℕ) (gs : List Granted) (x : Auth) (P : List Auth → Type 0) → AnswersNumber history h n gs (Some x)
    → (of : OfActive history h P) → auth_of_number n of.0 ≡ Some x
found_in history h n gs x P are of =
    subst (λ (active : List Auth). auth_of_number n active ≡ Some x)
    (Keeps-unique (HeldSinceMade history h) (authorization_terms history h) are.auth.0 of.0 are.auth.1 of.1) are.auth.2

pub only-to : (history : History) (h : List ℕ) (n : ℕ) (gs : List Granted) (x : Auth) (maxes : List ℕ) (until : ℕ) → AnswersNumber history h n gs (Some x)
    → SharesWithNone history h n maxes x → SharesWithNoOther history h n maxes until
only-to history h n gs x maxes until are none =
    (none.0, none.1, subst (λ (o : Option Auth). IsSomeAnd o (λ z. shares_with_other n (with_terms maxes until z) none.0 ≡ false)) (sym (found_in history h n gs x _ are none)) none.2)

pub only-from : (history : History) (h : List ℕ) (n : ℕ) (gs : List Granted) (x : Auth) (maxes : List ℕ) (until : ℕ) → AnswersNumber history h n gs (Some x)
    → SharesWithNoOther history h n maxes until → SharesWithNone history h n maxes x
only-from history h n gs x maxes until are only =
    (only.0, only.1, subst (λ (o : Option Auth). IsSomeAnd o (λ z. shares_with_other n (with_terms maxes until z) only.0 ≡ false)) (found_in history h n gs x _ are only) only.2)

abbrev pub IsSharedAmong : List ℕ → List Auth → Bool → Auth → Type 0
IsSharedAmong maxes auths is_shared x = is_shared ≡ shares_with_other x.number (record x { entries = with_maxes maxes x.entries }) auths

-- what is found among the rows, and whether others of them share with it, is that of the history
amend-rows : (history : History) (h : List ℕ) (n : ℕ) (maxes : List ℕ) (rows : Rows) (found : Option Auth) (is_shared : Bool)
    → RowsOf history h rows → found ≡ auth_of_number n rows.auths → IfSome found (IsSharedAmong maxes rows.auths is_shared)
    → AnswersAmend history h n maxes rows.grants found is_shared
amend-rows history h n maxes rows None is_shared are is shared =
    record { number = answers-rows history h n rows rows.grants None are refl is; shared = tt }
amend-rows history h n maxes rows (Some x) is_shared are is shared =
    let z : Auth = record x { entries = with_maxes maxes x.entries } in
    let same : is_shared ≡ shares_with_other n z rows.auths =
    subst (λ (m : ℕ). is_shared ≡ shares_with_other m z rows.auths) (found_number n rows.auths x (sym is)) shared in
    record {
      number = answers-rows history h n rows rows.grants (Some x) are refl is;
      shared = λ fit. (
        λ none. (rows.auths, are.auths, sym same ∙ none),
        λ of. same ∙ active-from history h rows (λ active. shares_with_other n z active ≡ false) are of,
      );
    }

-- without rows nothing is found
pub amend-facts : (charter : Charter) (history : History) (h : List ℕ) (n : ℕ) (maxes : List ℕ) (rows : Option HolderRows) (is_shared : Bool)
    → IsLegal charter history → RowsIfAny history h (rows_if_any rows) → IfSome (auth_of_number n (auths_if_any rows)) (IsSharedAmong maxes (auths_if_any rows) is_shared)
    → AnswersAmend history h n maxes (grants_if_any rows) (auth_of_number n (auths_if_any rows)) is_shared
amend-facts charter history h n maxes None is_shared legal are shared = record { number = answers-unregistered charter history h n legal are; shared = tt }
amend-facts charter history h n maxes (Some r) is_shared legal are shared = amend-rows history h n maxes (rows_of r) (auth_of_number n r.auths.items) is_shared are.1 refl shared
