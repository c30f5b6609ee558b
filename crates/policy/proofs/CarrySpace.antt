-- The changes of a registration, a delegation, a transfer and a reclaim carry every holder's rows.
use Rattle.policy.proofs.Vocabulary.{◌≡◌, ℕ, Bool, true, false, not, ◌||◌, ◌&&◌, cond, List, [], ◌∷◌, ◌++◌, inl, inr, Some, None, refl, sym, ap, ◌∙◌, subst, map, filter, cases_Bool, cond-true, cond-false, false≢true, or-true, or-false, and-true, and-false, Vec, list_all, Address, has_address, Prefix, Span, spans_have, is_one_of, without_runs, AddsAddresses, TakesAddresses, AreApart, Auth, Charter, Holders, HolderRows, Register, Delegate, Transfer, Reclaim, PutsNoneBack, Entry, History, same_name, is_registered, resource_holder, is_held_by, HoldsPrefix, IsFree, terms_overlap, grant_terms, grants_made, authorizations_made, authorization_terms, HeldSinceMade, Keeps, AreActive, IsLegal, Rows, RowsOf, RowsIfAny, edited, edited_if_any, Carries, AnswersLoss, HasRuns, same_name-same, held_by_itself, Keeps-unique, active-kept, active-numbered, LosesNothing, LosesPrefix, active-ended, numbers_where, among, filter-numbers, carries-one, carries-edit, carries-two, has_nothing}
use Rattle.addr.proofs.RunLemmas.{runs_exchanged, none_back}
use Rattle.registry.specs.declared.change.Edit.{Edit}
use Rattle.registry.specs.declared.change.Edit.TheVariants.{Register as RegisterEdit}
use Rattle.policy.specs.steps.Exchange.{Exchanges}

-- a registration: a holder that was not registered has nothing yet
pub carries-register : (charter : Charter) (before : History) (day : ℕ) (caller holder : List ℕ) → IsLegal charter before
    → is_registered before holder ≡ false
    → Carries (Holders (record { holder = holder; edit = RegisterEdit }) None) before (record { day = day; caller = caller; command = Register holder } ∷ before)
carries-register charter before day caller holder legal fresh =
    let none = has_nothing charter before holder legal fresh in
    let e : Entry = record { day = day; caller = caller; command = Register holder } in
    let registered : is_registered (e ∷ before) holder ≡ true = ap (λ b. b || is_registered before holder) (same_name-same holder) in
    let no_terms : AreActive (e ∷ before) holder [] =
    subst (λ (xs : List Auth). Keeps (HeldSinceMade (e ∷ before) holder) xs []) (sym none.terms) tt in
    carries-one e before holder RegisterEdit (record { named = refl; files = refl })
    (λ rows are. elim rows as (λ r. RowsIfAny before holder r → RowsIfAny (e ∷ before) holder (edited_if_any RegisterEdit r)) [
      | None ↦ λ _. (
        registered,
        record {
          apart = tt;
          holdings = λ a. sym (none.holders a);
          grants = sym none.grants;
          auths = no_terms;
          granted = sym none.granted;
          created = sym none.created;
        },
      )
      | Some r ↦ λ had. absurd (false≢true (sym fresh ∙ had.0))
    ] are)
    (λ h other a. refl)

-- a holder that gains addresses and loses none
rows-gained : (e : Entry) (before : History) (h : List ℕ) (spans : List Span) (rows : Rows)
    → AreApart spans
    → ((a : Address) → spans_have spans a ≡ is_held_by h (resource_holder (e ∷ before) a))
    → LosesNothing e before h
    → grant_terms (e ∷ before) h ≡ grant_terms before h → grants_made (e ∷ before) h ≡ grants_made before h
    → authorization_terms (e ∷ before) h ≡ authorization_terms before h → authorizations_made (e ∷ before) h ≡ authorizations_made before h
    → RowsOf before h rows → RowsOf (e ∷ before) h (record rows { holdings = spans })
rows-gained e before h spans rows apart holdings keeps grants granted terms created are = record {
  apart = apart;
  holdings = holdings;
  grants = are.grants ∙ sym grants;
  auths = subst (λ (xs : List Auth). Keeps (HeldSinceMade (e ∷ before) h) xs rows.auths) (sym terms) (active-kept e before h rows.auths keeps are.auths);
  granted = are.granted ∙ sym granted;
  created = are.created ∙ sym created;
}

filter_none : (xs : List Auth) → filter (λ x. not (among [] x)) xs ≡ xs
filter_none [] = refl
filter_none (x ∷ xs) = ap (λ ys. x ∷ ys) (filter_none xs)

kept_all : (numbers : List ℕ) (xs : List Auth) → numbers ≡ [] → xs ≡ filter (λ x. not (among numbers x)) xs
kept_all numbers xs none = sym (filter_none xs) ∙ ap (λ ns. filter (λ x. not (among ns x)) xs) (sym none)

-- the edit, at rows of the same addresses in any order
exchanged : (v w runs : List Span) (ended : Vec ℕ) (edit : Edit) (x : Exchanges v w ended edit) → AreApart runs → ((a : Address) → spans_have runs a ≡ spans_have v a)
    → AreApart (without_runs x.removed.items runs ++ x.added.items) × ((a : Address) → spans_have (without_runs x.removed.items runs ++ x.added.items) a ≡ spans_have w a)
exchanged v w runs ended edit x apart same =
    let P : List Span → List Span → Type 0 = λ gone come. AreApart (without_runs gone runs ++ come) × ((a : Address) → spans_have (without_runs gone runs ++ come) a ≡ spans_have w a) in
    subst (λ gone. P gone x.added.items) (sym x.removes) (subst (P (without_runs w v)) (sym x.adds) (runs_exchanged v w runs x.maximal_before x.maximal_after apart same))

pub sparing : (v w : List Span) (ended : Vec ℕ) (edit : Edit) → Exchanges v w ended edit → PutsNoneBack edit
sparing v w ended edit x =
    let P : List Span → List Span → Type 0 = λ gone come. list_all (λ s. not (is_one_of gone s)) come ≡ true in
    subst PutsNoneBack (sym x.is) (subst (λ gone. P gone x.added.items) (sym x.removes) (subst (P (without_runs w v)) (sym x.adds) (none_back v w)))

-- the receiver of a prefix, by a delegation or a transfer
receiver-rows : (e : Entry) (before : History) (h : List ℕ) (p : Prefix) (spans : List Span) (ended : Vec ℕ) (edit : Edit) (v : List Span) (rows : Rows)
    → ((a : Address) → resource_holder (e ∷ before) a ≡ cond (has_address p a) (Some h) (resource_holder before a))
    → Exchanges v spans ended edit → AddsAddresses v spans (has_address p)
    → ended.items ≡ []
    → grant_terms (e ∷ before) h ≡ grant_terms before h → grants_made (e ∷ before) h ≡ grants_made before h
    → authorization_terms (e ∷ before) h ≡ authorization_terms before h → authorizations_made (e ∷ before) h ≡ authorizations_made before h
    → HasRuns before h v → RowsOf before h rows → RowsOf (e ∷ before) h (edited edit rows)
receiver-rows e before h p spans ended edit v rows receives x united none grants granted terms created had are =
    let holdings = λ (a : Address).
    let at : (b : Bool) → (spans_have v a || b) ≡ is_held_by h (cond b (Some h) (resource_holder before a)) =
    λ b. elim b as (λ b. (spans_have v a || b) ≡ is_held_by h (cond b (Some h) (resource_holder before a)))
    [ true ↦ or-true (spans_have v a) ∙ sym (held_by_itself h) | false ↦ or-false (spans_have v a) ∙ had a ] in
    united a ∙ at (has_address p a) ∙ ap (is_held_by h) (sym (receives a)) in
    let keeps : LosesNothing e before h = λ a is.
    receives a ∙ elim (has_address p a) as (λ b. cond b (Some h) (resource_holder before a) ≡ Some h) [ true ↦ refl | false ↦ is ] in
    let runs = without_runs x.removed.items rows.holdings ++ x.added.items in
    let new = exchanged v spans rows.holdings ended edit x are.apart (λ a. are.holdings a ∙ sym (had a)) in
    subst (λ d. RowsOf (e ∷ before) h (edited d rows)) (sym x.is)
    (subst (λ (xs : List Auth). RowsOf (e ∷ before) h (record rows { holdings = runs; auths = xs })) (kept_all ended.items rows.auths none)
    (rows-gained e before h runs rows new.0 (λ a. new.1 a ∙ holdings a) keeps grants granted terms created are))

-- the former holder of a prefix, after a transfer or a reclaim
giver-rows : (e : Entry) (before : History) (h : List ℕ) (p : Prefix) (spans : List Span) (ended : Vec ℕ) (edit : Edit) (v : HolderRows) (rows : Rows)
    → ((a : Address) → is_held_by h (resource_holder (e ∷ before) a) ≡ cond (has_address p a) false (is_held_by h (resource_holder before a)))
    → ((a : Address) → has_address p a ≡ false → resource_holder (e ∷ before) a ≡ resource_holder before a)
    → Exchanges v.holdings spans ended edit → TakesAddresses v.holdings spans (has_address p)
    → ended.items ≡ numbers_where (λ x. terms_overlap x p) v.auths.items
    → grant_terms (e ∷ before) h ≡ grant_terms before h → grants_made (e ∷ before) h ≡ grants_made before h
    → authorization_terms (e ∷ before) h ≡ authorization_terms before h → authorizations_made (e ∷ before) h ≡ authorizations_made before h
    → AnswersLoss before h p v → RowsOf before h rows → RowsOf (e ∷ before) h (edited edit rows)
giver-rows e before h p spans ended edit v rows gives others x without numbers grants granted terms created had are =
    let holdings = λ (a : Address).
    let at : (b : Bool) → (spans_have v.holdings a && not b) ≡ cond b false (is_held_by h (resource_holder before a)) =
    λ b. elim b as (λ b. (spans_have v.holdings a && not b) ≡ cond b false (is_held_by h (resource_holder before a)))
    [ true ↦ and-false (spans_have v.holdings a) | false ↦ and-true (spans_have v.holdings a) ∙ had.holdings a ] in
    without a ∙ at (has_address p a) ∙ sym (gives a) in
    let loses : LosesPrefix e before h p = record {
      lost = λ a has is.
          false≢true (sym (gives a ∙ ap (λ b. cond b false (is_held_by h (resource_holder before a))) has) ∙ ap (is_held_by h) is ∙ held_by_itself h);
      others = others;
    } in
    let active = had.auths in
    let same_auths : active.0 ≡ rows.auths = Keeps-unique (HeldSinceMade before h) (authorization_terms before h) active.0 rows.auths active.1 are.auths in
    let rest : filter (λ x. not (among ended.items x)) rows.auths ≡ filter (λ x. not (terms_overlap x p)) rows.auths =
    ap (λ ns. filter (λ x. not (among ns x)) rows.auths) (numbers ∙ ap (map (λ (x : Auth). x.number)) active.2 ∙ ap (numbers_where (λ x. terms_overlap x p)) same_auths)
    ∙ filter-numbers (λ x. terms_overlap x p) rows.auths (authorizations_made before h) (active-numbered before h rows.auths are.auths) in
    let kept = active-ended e before h p rows.auths loses created are.auths in
    let new = exchanged v.holdings spans rows.holdings ended edit x are.apart (λ a. are.holdings a ∙ sym (had.holdings a)) in
    subst (λ d. RowsOf (e ∷ before) h (edited d rows)) (sym x.is) (record {
      apart = new.0;
      holdings = λ a. new.1 a ∙ holdings a;
      grants = are.grants ∙ sym grants;
      auths =
          subst (λ (ys : List Auth). Keeps (HeldSinceMade (e ∷ before) h) (authorization_terms (e ∷ before) h) ys) (sym rest)
          (subst (λ (xs : List Auth). Keeps (HeldSinceMade (e ∷ before) h) xs (filter (λ x. not (terms_overlap x p)) rows.auths)) (sym terms) kept);
      granted = are.granted ∙ sym granted;
      created = are.created ∙ sym created;
    })

pub carries-delegate : (before : History) (day : ℕ) (caller holder : List ℕ) (p : Prefix) (spans : List Span) (ended : Vec ℕ) (edit : Edit) (v : List Span)
    → is_registered before holder ≡ true → IsFree before p → HasRuns before holder v
    → Exchanges v spans ended edit → AddsAddresses v spans (has_address p) → ended.items ≡ []
    → Carries (Holders (record { holder = holder; edit = edit }) None) before (record { day = day; caller = caller; command = Delegate holder p } ∷ before)
carries-delegate before day caller holder p spans ended edit v registered free had x united none =
    let e : Entry = record { day = day; caller = caller; command = Delegate holder p } in
    carries-edit e before holder edit (record { named = refl; files = refl }) registered
    (λ rows are. receiver-rows e before holder p spans ended edit v rows (λ a. refl) x united none refl refl refl refl had are)
    (λ h other a. elim (cases_Bool (has_address p a)) [
      | inl t ↦ ap (is_held_by h) (cond-true _ _ _ t) ∙ other ∙ ap (is_held_by h) (sym (free a t))
      | inr f ↦ ap (is_held_by h) (cond-false _ _ _ f)
    ])

pub carries-reclaim : (before : History) (day : ℕ) (caller holder : List ℕ) (p : Prefix) (spans : List Span) (ended : Vec ℕ) (edit : Edit) (v : HolderRows)
    → is_registered before holder ≡ true → HoldsPrefix before holder p → AnswersLoss before holder p v
    → Exchanges v.holdings spans ended edit → TakesAddresses v.holdings spans (has_address p)
    → ended.items ≡ numbers_where (λ x. terms_overlap x p) v.auths.items
    → Carries (Holders (record { holder = holder; edit = edit }) None) before (record { day = day; caller = caller; command = Reclaim holder p } ∷ before)
carries-reclaim before day caller holder p spans ended edit v registered holds had x without numbers =
    let e : Entry = record { day = day; caller = caller; command = Reclaim holder p } in
    carries-edit e before holder edit (record { named = refl; files = refl }) registered
    (λ rows are. giver-rows e before holder p spans ended edit v rows
    (λ a. elim (has_address p a) as (λ b. is_held_by holder (cond b None (resource_holder before a)) ≡ cond b false (is_held_by holder (resource_holder before a))) [ true ↦ refl | false ↦ refl ])
    (λ a f. cond-false _ _ _ f)
    x without numbers refl refl refl refl had are)
    (λ h other a. elim (cases_Bool (has_address p a)) [
      | inl t ↦ ap (is_held_by h) (cond-true _ _ _ t) ∙ sym other ∙ ap (is_held_by h) (sym (holds a t))
      | inr f ↦ ap (is_held_by h) (cond-false _ _ _ f)
    ])

pub carries-transfer : (before : History) (day : ℕ) (caller giver taker : List ℕ) (p : Prefix) (less more : List Span) (ended none : Vec ℕ) (edit_giver edit_taker : Edit) (v : HolderRows) (w : List Span)
    → is_registered before giver ≡ true → is_registered before taker ≡ true → same_name taker giver ≡ false → HoldsPrefix before giver p
    → AnswersLoss before giver p v → HasRuns before taker w
    → Exchanges v.holdings less ended edit_giver → TakesAddresses v.holdings less (has_address p)
    → Exchanges w more none edit_taker → AddsAddresses w more (has_address p)
    → ended.items ≡ numbers_where (λ x. terms_overlap x p) v.auths.items → none.items ≡ []
    → Carries (Holders (record { holder = giver; edit = edit_giver }) (Some (record { holder = taker; edit = edit_taker }))) before
    (record { day = day; caller = caller; command = Transfer p giver taker } ∷ before)
carries-transfer before day caller giver taker p less more ended none edit_giver edit_taker v w giver_registered taker_registered differ holds had_v had_w x without y united numbers nothing =
    let e : Entry = record { day = day; caller = caller; command = Transfer p giver taker } in
    carries-two e before giver taker edit_giver edit_taker (record { named = refl; files = refl }) giver_registered taker_registered differ
    (λ rows are. giver-rows e before giver p less ended edit_giver v rows
    (λ a. elim (has_address p a) as (λ b. is_held_by giver (cond b (Some taker) (resource_holder before a)) ≡ cond b false (is_held_by giver (resource_holder before a))) [ true ↦ differ | false ↦ refl ])
    (λ a f. cond-false _ _ _ f)
    x without numbers refl refl refl refl had_v are)
    (λ rows are. receiver-rows e before taker p more none edit_taker w rows (λ a. refl) y united nothing refl refl refl refl had_w are)
    (λ h not_giver not_taker a. elim (cases_Bool (has_address p a)) [
      | inl t ↦ ap (is_held_by h) (cond-true _ _ _ t) ∙ not_taker ∙ sym not_giver ∙ ap (is_held_by h) (sym (holds a t))
      | inr f ↦ ap (is_held_by h) (cond-false _ _ _ f)
    ])
