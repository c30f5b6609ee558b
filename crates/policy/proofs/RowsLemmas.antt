-- What the given rows say of the holder.
use Rattle.policy.proofs.Vocabulary.{◌≡◌, ℕ, ◌||◌, Bool, true, false, List, [], ◌∷◌, Option, Some, None, refl, sym, ap, ◌∙◌, subst, Bor, option_copied, is_some, IsSomeAnd, inl, inr, arith, Vec, list_any, option_map, MatchBool, cases_Bool, false≢true, true≢false, Address, last_of, Prefix, Charter, Auth, AuthTerms, RoaPrefix, Command, Register, Delegate, Transfer, Reclaim, Grant, Revoke, Amend, Withdraw, Import, Slurm, Granted, HolderRows, holder_of, is_transfer, AnswersCreate, AnswersDelegate, AnswersLoss, ListBasis, AnswersNumber, AreFacts, HasRuns, IfRegistered, IsMadeIfAny, ReportsTaken, RowsOfNamed, History, is_registered, is_held_by, IsFree, AreInNumber, Rows, RowsOf, RowsIfAny, rows_of, rows_if_any, grants_if_any, auths_if_any, entries_have, grant_terms, authorization_terms, HeldSinceMade, HoldsEntries, Keeps, OfActive, IsLegal, auth_of_number, OfNumber, Keeps-unique, held_by_itself, has_nothing}
use Rattle.addr.proofs.AddressLemmas.{between_at, first-last}
use Rattle.registry.specs.declared.command.Command.TheVariants.{Create}
use Rattle.registry.specs.declared.rows.Answers.{Answers}

-- the grants of the rows are those of the history: without rows none were made
pub grants-are : (charter : Charter) (history : History) (h : List ℕ) (rows : Option HolderRows) → IsLegal charter history
    → RowsIfAny history h (rows_if_any rows) → grants_if_any rows ≡ grant_terms history h
grants-are charter history h None legal are = sym (has_nothing charter history h legal are).grants
grants-are charter history h (Some r) legal are = are.1.grants

-- the active authorizations of the history are those of the rows
pub active-to : (history : History) (h : List ℕ) (rows : Rows) (P : List Auth → Type 0) → RowsOf history h rows → P rows.auths → OfActive history h P
active-to history h rows P are holds = (rows.auths, are.auths, holds)

pub active-from : (history : History) (h : List ℕ) (rows : Rows) (P : List Auth → Type 0) → RowsOf history h rows → OfActive history h P → P rows.auths
active-from history h rows P are of =
    subst P (Keeps-unique (HeldSinceMade history h) (authorization_terms history h) of.0 rows.auths of.1 are.auths) of.2

-- a fact about the authorization of a number is one about what was found
pub found-to : (history : History) (h : List ℕ) (n : ℕ) (gs : List Granted) (found : Option Auth) (P : Auth → Type 0) → AnswersNumber history h n gs found
    → IsSomeAnd found P → OfNumber history h n P
found-to history h n gs found P are holds = (are.auth.0, are.auth.1, subst (λ (o : Option Auth). IsSomeAnd o P) (sym are.auth.2) holds)

pub found-from : (history : History) (h : List ℕ) (n : ℕ) (gs : List Granted) (found : Option Auth) (P : Auth → Type 0) → AnswersNumber history h n gs found
    → OfNumber history h n P → IsSomeAnd found P
found-from history h n gs found P are of =
    let same = Keeps-unique (HeldSinceMade history h) (authorization_terms history h) of.0 are.auth.0 of.1 are.auth.1 in
    subst (λ (o : Option Auth). IsSomeAnd o P) are.auth.2 (subst (λ (active : List Auth). IsSomeAnd (auth_of_number n active) P) same of.2)

-- what is found among the rows is that of the history; without rows nothing is
pub answers-rows : (history : History) (h : List ℕ) (n : ℕ) (rows : Rows) (gs : List Granted) (found : Option Auth) → RowsOf history h rows → gs ≡ rows.grants → found ≡ auth_of_number n rows.auths → AnswersNumber history h n gs found
answers-rows history h n rows gs found are granted is = record { grants = granted ∙ are.grants; auth = (rows.auths, are.auths, sym is) }

pub answers-unregistered : (charter : Charter) (history : History) (h : List ℕ) (n : ℕ) → IsLegal charter history → is_registered history h ≡ false → AnswersNumber history h n [] None
answers-unregistered charter history h n legal unregistered =
    let nothing = has_nothing charter history h legal unregistered in
    record { grants = sym nothing.grants; auth = ([], subst (λ terms. Keeps (HeldSinceMade history h) terms []) (sym nothing.terms) tt, refl) }

-- a holder with a grant is registered
pub registered-by_grant : (charter : Charter) (history : History) (h : List ℕ) (test : Granted → Bool)
    → IsLegal charter history → list_any test (grant_terms history h) ≡ true → is_registered history h ≡ true
registered-by_grant charter history h test legal has =
    elim (cases_Bool (is_registered history h)) [
      | inl registered ↦ registered
      | inr unregistered ↦ absurd (false≢true (ap (list_any test) (sym (has_nothing charter history h legal unregistered).grants) ∙ has))
    ]

-- ---- what is judged on the rows of a holder

pub some_copied : (rows : Option (Bor HolderRows)) → is_some rows ≡ is_some (option_copied rows)
some_copied None = refl
some_copied (Some r) = refl

registered-with_rows : (history : History) (h : List ℕ) (rows : Option HolderRows) → RowsIfAny history h (rows_if_any rows) → is_some rows ≡ is_registered history h
registered-with_rows history h None are = sym are
registered-with_rows history h (Some r) are = sym are.0

delegation-answers : (history : History) (h : List ℕ) (p : Prefix) (rows : Option HolderRows) (taken : Bool)
    → RowsIfAny history h (rows_if_any rows) → MatchBool taken (IsFree history p → ⊥) (IsFree history p)
    → AnswersDelegate history h p (option_map (λ (r : HolderRows). r.holdings) rows) taken
delegation-answers history h p None taken are free = record { registered = sym are; holdings = tt; free = free }
delegation-answers history h p (Some r) taken are free = record { registered = sym are.0; holdings = are.1.holdings; free = free }

pub loss-answers : (history : History) (h : List ℕ) (p : Prefix) (rows : Option HolderRows) → RowsIfAny history h (rows_if_any rows) → IfRegistered history h rows (AnswersLoss history h p)
loss-answers history h p None are = are
loss-answers history h p (Some r) are = (are.0, record { holdings = are.1.holdings; auths = (r.auths.items, are.1.auths, refl) })

pub runs-answers : (history : History) (h : List ℕ) (rows : Option HolderRows) → RowsIfAny history h (rows_if_any rows) → IfRegistered history h rows (λ r. HasRuns history h r.holdings)
runs-answers history h None are = are
runs-answers history h (Some r) are = (are.0, are.1.holdings)

made-are : (history : History) (h : List ℕ) (rows : Option HolderRows) → RowsIfAny history h (rows_if_any rows) → IsMadeIfAny history h (option_map (λ (r : HolderRows). r.granted) rows)
made-are history h None are = are
made-are history h (Some r) are = (are.0, are.1.granted)

pub numbered-are : (charter : Charter) (history : History) (h : List ℕ) (n : ℕ) (rows : Option HolderRows) → IsLegal charter history → RowsIfAny history h (rows_if_any rows)
    → AnswersNumber history h n (grants_if_any rows) (auth_of_number n (auths_if_any rows))
numbered-are charter history h n None legal are = answers-unregistered charter history h n legal are
numbered-are charter history h n (Some r) legal are = answers-rows history h n (rows_of r) r.grants.items (auth_of_number n r.auths.items) are.1 refl refl

pub listed-are : (charter : Charter) (history : History) (h : List ℕ) (rows : Option HolderRows) → IsLegal charter history → RowsIfAny history h (rows_if_any rows) → ListBasis history h (grants_if_any rows) (auths_if_any rows)
listed-are charter history h None legal are =
    let nothing = has_nothing charter history h legal are in
    record { grants = sym nothing.grants; auths = subst (λ terms. Keeps (HeldSinceMade history h) terms []) (sym nothing.terms) tt }
listed-are charter history h (Some r) legal are = record { grants = are.1.grants; auths = are.1.auths }

-- all that a create of the terms is judged on, at a holder that is not registered
pub create-unregistered : (charter : Charter) (history : History) (h : List ℕ) (terms : AuthTerms) → IsLegal charter history → is_registered history h ≡ false
    → AreInNumber terms.entries → (answers : Answers) → answers.created ≡ 0 → answers.holds ≡ false → AnswersCreate history h terms [] answers
create-unregistered charter history h terms legal unregistered number answers none unheld =
    let nothing = has_nothing charter history h legal unregistered in record {
      grants = sym nothing.grants;
      created = none ∙ sym nothing.created;
      holds = (λ is. absurd (false≢true (sym unheld ∙ is)), λ held. absurd (holds_none terms.entries number held));
      gives = λ is. absurd (false≢true (sym unheld ∙ is));
      is_full = λ is. absurd (false≢true (sym unheld ∙ is));
    }
  where
    holds_none : (es : List RoaPrefix) → AreInNumber es → HoldsEntries history h es → ⊥
    holds_none [] some held = omega (arith, some.0)
    holds_none (e ∷ es) some held =
        let p = e.prefix in
        let first : Address = record { family = p.family; number = p.first } in
        let there = ap (λ b. b || entries_have es first) (between_at p.family p.first (last_of p) p.first (omega arith) (first-last p)) in
        let nothing = has_nothing charter history h legal unregistered in
        false≢true (sym (nothing.holders first) ∙ ap (is_held_by h) (held first there) ∙ held_by_itself h)

-- what the rules of a command read of the rows; of a delegation also whether the prefix is taken
pub facts-of_rows : (charter : Charter) (history : History) (command : Command) (rows : Option HolderRows) (answers : Answers) → is_transfer command ≡ false
    → ((h : List ℕ) (terms : AuthTerms) → ¬ (command ≡ Create h terms)) → ((h : List ℕ) (n : ℕ) (maxes : Vec ℕ) (until : ℕ) → ¬ (command ≡ Amend h n maxes until))
    → IsLegal charter history → RowsOfNamed history (holder_of command) (rows_if_any rows) → ReportsTaken history command answers.taken
    → AreFacts history command rows None answers
facts-of_rows charter history (Register h) rows answers one no_create no_amend legal are taken = registered-with_rows history h rows are
facts-of_rows charter history (Delegate h p) rows answers one no_create no_amend legal are taken = delegation-answers history h p rows answers.taken are taken
facts-of_rows charter history (Transfer p giver taker) rows answers one no_create no_amend legal are taken = absurd (true≢false one)
facts-of_rows charter history (Reclaim h p) rows answers one no_create no_amend legal are taken = loss-answers history h p rows are
facts-of_rows charter history (Grant h terms) rows answers one no_create no_amend legal are taken =
    record { grants = grants-are charter history h rows legal are; counter = made-are history h rows are }
facts-of_rows charter history (Revoke h n) rows answers one no_create no_amend legal are taken = grants-are charter history h rows legal are
facts-of_rows charter history (Create h terms) rows answers one no_create no_amend legal are taken = absurd (no_create h terms refl)
facts-of_rows charter history (Amend h n maxes until) rows answers one no_create no_amend legal are taken = absurd (no_amend h n maxes until refl)
facts-of_rows charter history (Withdraw h n) rows answers one no_create no_amend legal are taken = numbered-are charter history h n rows legal are
facts-of_rows charter history (Import h listed) rows answers one no_create no_amend legal are taken = are
facts-of_rows charter history (Slurm files) rows answers one no_create no_amend legal are taken = tt
