-- The rows of a history rise by number, so they are loaded as they are; and what is answered of them is of the history.
use Rattle.store.proofs.Vocabulary.{◌≡◌, ◌↔◌, ℕ, ◌+◌, ◌<◌, ◌≤◌, ◌==◌, ◌&&◌, Bool, true, false, cond, not, nat_le, IsTrue, MatchBool, List, [], ◌∷◌, ◌++◌, filter, find, length, Option, Some, None, is_some, inl, inr, ◌⊎◌, Less, refl, sym, ap, subst, ◌∙◌, arith, nat_cmp, IfSome, IsSomeAnd, AllByRecursion, list_any, on, option_map, cond-true, false≢true, true≢false, nat_tests, length-filter_both, has_contained, some_from, IsAscending, ascending_weaker, Address, Prefix, Span, Charter, Auth, Command, Register, Delegate, Transfer, Reclaim, Grant, Revoke, Create, Amend, Withdraw, Import, Slurm, Granted, MOST_AUTHORIZATIONS, HolderRows, History, is_registered, same_name, IsPartIfAny, looked_for, looks_for, with_maxes, Rows, RowsIfAny, rows_if_any, grants_if_any, auths_if_any, AllRows, HasRows, IsTaken, numbered_grant, granted_after, grants_made, grants_after, grant_terms, authorizations_made, authorization_terms, gives_some, terms_overlap, AreActive, HeldSinceMade, Keeps, OfActive, IsLegal, auth_of_number, maxes_fit, held_by_itself, is_held_by-true, items_if_any, AreCounted, AreGrants, AreHoldings, AreInOrder, AreNumbered, AreRunsApart, HasRun, HaveSame, IsForCreate, IsForDelegate, IsForLoss, MeetsSome, auths_held, created_if_any, some_gives, taken_iff, LoadsFactsOfHistories, LoadsListsOfHistories, LoadsNumberOfHistories, LoadsPartsOfHistories, LoadsRowsOfHistories}
use Rattle.std.specs.Cmp.{nat_cmp_is, nat_cmp_total}
use Rattle.std.proofs.lemmas.Cmp.{on_total}
use Rattle.sqlite_keyed.proofs.SliceLemmas.{is_some-map}
use Rattle.sqlite_keyed.proofs.SortLemmas.{sorted_unique}
use Rattle.addr.specs.Spans.{span_has, spans_have}
use Rattle.addr.proofs.RunLemmas.{maximal_apart}
use Rattle.registry.specs.Answer.{AnswersCreate, AnswersDelegate, AnswersLoss, AnswersNumber, HasRuns, IfRegistered, IsMadeIfAny, SharesWithNone}
use Rattle.registry.specs.declared.authorization.AuthTerms.{AuthTerms}
use Rattle.registry.specs.Resources.{resource_holder, is_held_by, IsFree}
use Rattle.registry.proofs.Amended.{shares_with_other}
use Rattle.registry.proofs.Held.{active-numbered}
use Rattle.registry.proofs.Kept.{Keeps-unique}
use Rattle.registry.proofs.Numbers.{Numbered}
use Rattle.registry.proofs.Unregistered.{has_nothing}
use Rattle.registry_laws.proofs.SharedVrps.{share_vrp-flips}
use Rattle.store_read.specs.declared.answers.Loaded.{Loaded}

module _ {X : Type 0} (number : X → ℕ) where
  -- the numbers rise, from above one number up to another
  abbrev pub Rise : ℕ → List X → ℕ → Type 0
  Rise low [] high = low ≤ high
  Rise low (x ∷ xs) high = (low < number x) × Rise (number x) xs high

  rise-lower : (low lower : ℕ) (xs : List X) (high : ℕ) → lower ≤ low → Rise low xs high → Rise lower xs high
  rise-lower low lower [] high below n = omega arith
  rise-lower low lower (x ∷ xs) high below n = (let first : low < number x = n.0 in omega arith, n.1)

  rise-append : (low : ℕ) (xs : List X) (high : ℕ) (y : X) → high < number y → Rise low xs high → Rise low (xs ++ y ∷ []) (number y)
  rise-append low [] high y above n = (omega arith, omega arith)
  rise-append low (x ∷ xs) high y above n = (n.0, rise-append (number x) xs high y above n.1)

  rise-filter : (keep : X → Bool) (low : ℕ) (xs : List X) (high : ℕ) → Rise low xs high → Rise low (filter keep xs) high
  rise-filter keep low [] high n = n
  rise-filter keep low (x ∷ xs) high n =
      let rest = rise-filter keep (number x) xs high n.1 in
      let first : low < number x = n.0 in
      let G : Bool → Type 0 = λ b. Rise low (cond b (x ∷ filter keep xs) (filter keep xs)) high in
      elim (keep x) as G [ true ↦ (n.0, rest) | false ↦ rise-lower (number x) low (filter keep xs) high (omega arith) rest ]

  rise-above : (floor low : ℕ) (xs : List X) (high : ℕ) → floor ≤ low → Rise low xs high → AllByRecursion (λ y. floor < number y) xs
  rise-above floor low [] high below n = tt
  rise-above floor low (x ∷ xs) high below n = let first : low < number x = n.0 in (omega arith, rise-above floor (number x) xs high (omega arith) n.1)

  pub rise-ascending : (low : ℕ) (xs : List X) (high : ℕ) → Rise low xs high → IsAscending (λ x y. number x < number y) xs
  rise-ascending low [] high n = tt
  rise-ascending low (x ∷ xs) high n = (rise-above (number x) (number x) xs high (omega arith) n.1, rise-ascending (number x) xs high n.1)

  -- items that rise have one order alone
  pub in_order_same : (xs ys : List X) → IsAscending (λ x y. number x < number y) xs → AreInOrder number xs ys → ys ≡ xs
  in_order_same xs ys ascending order =
      sorted_unique (on number nat_cmp) (on_total number nat_cmp_total) xs ys
      (ascending_weaker (λ x y. number x < number y) (λ x y. nat_cmp (number x) (number y) ≡ Less) (λ x y less. sym (nat_cmp_is (number x) (number y) Less less)) xs ascending)
      order.0 order.1

auths-rise : (low : ℕ) (xs : List Auth) (high : ℕ) → Numbered low xs high → Rise (λ (x : Auth). x.number) low xs high
auths-rise low [] high n = n
auths-rise low (x ∷ xs) high n = (n.0, auths-rise x.number xs high n.1)

abbrev GrantsRise : ℕ → List Granted → ℕ → Type 0
GrantsRise = Rise (λ (g : Granted). g.number)

-- the numbers of grants rise from 1, up to how many were made
grants_after-rise : (c : Command) (h : List ℕ) (made : ℕ) (grants : List Granted) → GrantsRise 0 grants made → GrantsRise 0 (grants_after c h made grants) (granted_after c h made)
grants_after-rise (Grant holder terms) h made grants n =
    let g = numbered_grant terms (made + 1) in
    elim (same_name holder h) as (λ b. GrantsRise 0 (cond b (grants ++ g ∷ []) grants) (cond b (made + 1) made))
    [ true ↦ rise-append (λ (x : Granted). x.number) 0 grants made g (omega arith) n | false ↦ n ]
grants_after-rise (Revoke holder m) h made grants n =
    elim (same_name holder h) as (λ b. GrantsRise 0 (cond b (filter (λ g. not (g.number == m)) grants) grants) made)
    [ true ↦ rise-filter (λ (x : Granted). x.number) (λ g. not (g.number == m)) 0 grants made n | false ↦ n ]
grants_after-rise _ h made grants n = n

grant_terms-rise : (history : History) (h : List ℕ) → GrantsRise 0 (grant_terms history h) (grants_made history h)
grant_terms-rise [] h = omega arith
grant_terms-rise (e ∷ before) h = grants_after-rise e.command h (grants_made before h) (grant_terms before h) (grant_terms-rise before h)

-- the grants of a history that are loaded in order are its grants
grants_in_order : (history : History) (h : List ℕ) (held loaded : List Granted) → held ≡ grant_terms history h → AreInOrder (λ (g : Granted). g.number) held loaded → loaded ≡ grant_terms history h
grants_in_order history h held loaded are order =
    let ascend = rise-ascending (λ (g : Granted). g.number) 0 (grant_terms history h) (grants_made history h) (grant_terms-rise history h) in
    in_order_same (λ (g : Granted). g.number) (grant_terms history h) loaded ascend (subst (λ l. AreInOrder (λ (g : Granted). g.number) l loaded) are order)

pub loads_rows : LoadsRowsOfHistories
loads_rows history h None None unregistered loaded = unregistered
loads_rows history h None (Some s) unregistered loaded = absurd loaded
loads_rows history h (Some r) None are loaded = absurd loaded
loads_rows history h (Some r) (Some s) are loaded =
    let rows = are.1 in
    let auths_ascend = rise-ascending (λ (x : Auth). x.number) 0 r.auths (authorizations_made history h) (auths-rise 0 r.auths (authorizations_made history h) (active-numbered history h r.auths rows.auths)) in
    let auths = in_order_same (λ (x : Auth). x.number) r.auths s.auths.items auths_ascend loaded.auths in (
      are.0,
      record {
        apart = maximal_apart s.holdings loaded.maximal;
        holdings = λ a. loaded.holdings a ∙ rows.holdings a;
        grants = grants_in_order history h r.grants s.grants.items rows.grants loaded.grants;
        auths = subst (AreActive history h) (sym auths) rows.auths;
        granted = loaded.granted ∙ rows.granted;
        created = loaded.created ∙ rows.created;
      },
    )

-- ---- the runs of all holders

-- an address of a run is held by its holder
run_holder : (history : History) (rows : AllRows) (h : List ℕ) (s : Span) (a : Address) → HasRows rows history → HasRun rows h s → span_has s a ≡ true → resource_holder history a ≡ Some h
run_holder history rows h s a has run there =
    let of = subst (RowsIfAny history h) run.1 (has.holders h) in
    let in_runs = some_from (λ t. span_has t a) run.0.holdings s (has_contained run.0.holdings s run.2) there in
    is_held_by-true h (resource_holder history a) (sym (of.1.holdings a) ∙ in_runs)

-- an address has one holder
runs_apart : (history : History) (rows : AllRows) → HasRows rows history → AreRunsApart rows
runs_apart history rows has = record {
  each = λ h r is. (subst (RowsIfAny history h) is (has.holders h)).1.apart;
  once = λ h k s t a own other in_s in_t.
      let one = run_holder history rows h s a has own in_s in
      let also = run_holder history rows k t a has other in_t in
      cc;
}

-- ---- what is taken

-- what is taken is not free
taken_not_free : (rows : AllRows) (history : History) → HasRows rows history → (p : Prefix) → IsTaken rows p → IsFree history p → ⊥
taken_not_free rows history has p taken free =
    let of = subst (RowsIfAny history taken.0) taken.2 (has.holders taken.0) in
    let a = taken.3.0 in
    false≢true (sym (ap (is_held_by taken.0) (free a taken.3.1)) ∙ sym (of.1.holdings a) ∙ taken.3.2)

-- a holder of an address has rows
holder_has_rows : (charter : Charter) (rows : AllRows) (history : History) → IsLegal charter history → HasRows rows history → (h : List ℕ) (a : Address) → resource_holder history a ≡ Some h → (r : Rows) × (rows.of_holder h ≡ Some r)
holder_has_rows charter rows history legal has h a held = go (rows.of_holder h) refl
  where
    go : (found : Option Rows) → rows.of_holder h ≡ found → (r : Rows) × (rows.of_holder h ≡ Some r)
    go (Some r) is = (r, is)
    go None is =
        let nothing = has_nothing charter history h legal (subst (RowsIfAny history h) is (has.holders h)) in
        absurd (false≢true (sym (nothing.holders a) ∙ ap (is_held_by h) held ∙ held_by_itself h))

-- what is not taken is free
untaken_free : (charter : Charter) (rows : AllRows) (history : History) → IsLegal charter history → HasRows rows history → (p : Prefix) → (IsTaken rows p → ⊥) → IsFree history p
untaken_free charter rows history legal has p untaken a inside = go (resource_holder history a) refl
  where
    go : (held : Option (List ℕ)) → resource_holder history a ≡ held → resource_holder history a ≡ None
    go None is = is
    go (Some h) is =
        let found = holder_has_rows charter rows history legal has h a is in
        let of = subst (RowsIfAny history h) found.1 (has.holders h) in
        absurd (untaken (h, found.0, found.1, (a, inside, of.1.holdings a ∙ ap (is_held_by h) is ∙ held_by_itself h)))

tells_taken : (charter : Charter) (rows : AllRows) (history : History) → IsLegal charter history → HasRows rows history → (p : Prefix) (taken : Bool) → IsTrue taken ↔ MeetsSome rows p → MatchBool taken (IsFree history p → ⊥) (IsFree history p)
tells_taken charter rows history legal has p true tells = taken_not_free rows history has p ((taken_iff rows p).0 (tells.0 refl))
tells_taken charter rows history legal has p false tells = untaken_free charter rows history legal has p (λ taken. false≢true (tells.1 ((taken_iff rows p).1 taken)))

-- ---- what is judged on what is loaded

-- the rows of a holder after a legal history, those of nobody too
record IsHeld (history : History) (h : List ℕ) (rows : Option Rows) : Type 0 where
  pub holdings : (a : Address) → spans_have (items_if_any (λ r. r.holdings) rows) a ≡ is_held_by h (resource_holder history a)
  pub grants : items_if_any (λ r. r.grants) rows ≡ grant_terms history h
  pub auths : AreActive history h (auths_held rows)
  pub created : created_if_any rows ≡ authorizations_made history h

is_held : (charter : Charter) (history : History) (h : List ℕ) (rows : Option Rows) → IsLegal charter history → RowsIfAny history h rows → IsHeld history h rows
is_held charter history h None legal unregistered =
    let nothing = has_nothing charter history h legal unregistered in record {
      holdings = λ a. sym (nothing.holders a);
      grants = sym nothing.grants;
      auths = subst (λ terms. Keeps (HeldSinceMade history h) terms []) (sym nothing.terms) tt;
      created = sym nothing.created;
    }
is_held charter history h (Some r) legal registered = record {
  holdings = registered.1.holdings;
  grants = registered.1.grants;
  auths = registered.1.auths;
  created = registered.1.created;
}

-- a fact of the active authorizations is one of these
of_these : (history : History) (h : List ℕ) (xs : List Auth) → AreActive history h xs → (P : List Auth → Type 0) → OfActive history h P → P xs
of_these history h xs active P of = subst P (Keeps-unique (HeldSinceMade history h) (authorization_terms history h) of.0 xs of.1 active) of.2

granted_loaded : (charter : Charter) (history : History) (h : List ℕ) (rows : Option Rows) (loaded : List Granted) → IsLegal charter history → RowsIfAny history h rows → AreGrants rows loaded → loaded ≡ grant_terms history h
granted_loaded charter history h rows loaded legal of are =
    grants_in_order history h (items_if_any (λ r. r.grants) rows) loaded (is_held charter history h rows legal of).grants are

-- those that a test keeps are these where they are loaded in order
kept_in_order : (history : History) (h : List ℕ) (keep : Auth → Bool) (xs loaded : List Auth) → AreActive history h xs → AreInOrder (λ (x : Auth). x.number) (filter keep xs) loaded → loaded ≡ filter keep xs
kept_in_order history h keep xs loaded active order =
    let made = authorizations_made history h in
    let rise = auths-rise 0 xs made (active-numbered history h xs active) in
    let kept = rise-filter (λ (x : Auth). x.number) keep 0 xs made rise in
    in_order_same (λ (x : Auth). x.number) (filter keep xs) loaded (rise-ascending (λ (x : Auth). x.number) 0 (filter keep xs) made kept) order

-- the first that passes is that of all that pass
find_kept : {X : Type 0} (p : X → Bool) (xs : List X) → find p (filter p xs) ≡ find p xs
find_kept p [] = refl
find_kept p (x ∷ xs) = go (find_kept p xs) (p x) refl
  where
    go : find p (filter p xs) ≡ find p xs → (b : Bool) → p x ≡ b → find p (cond b (x ∷ filter p xs) (filter p xs)) ≡ cond b (Some x) (find p xs)
    go rest true is = cond-true _ _ _ is
    go rest false is = rest

pub loads_list : LoadsListsOfHistories
loads_list charter history h rows part legal of are =
    let xs = auths_held rows in
    let active = (is_held charter history h rows legal of).auths in
    let rise = auths-rise 0 xs (authorizations_made history h) (active-numbered history h xs active) in
    let same = in_order_same (λ (x : Auth). x.number) xs part.auths.items (rise-ascending (λ (x : Auth). x.number) 0 xs (authorizations_made history h) rise) are.auths in
    record {
      grants = granted_loaded charter history h rows part.grants.items legal of are.grants;
      auths = subst (AreActive history h) (sym same) active;
    }

pub loads_number : LoadsNumberOfHistories
loads_number charter history h n rows part legal of are =
    let xs = auths_held rows in
    let active = (is_held charter history h rows legal of).auths in record {
      grants = granted_loaded charter history h rows part.grants.items legal of are.grants;
      auth = (xs, active, sym (find_kept (λ (x : Auth). x.number == n) xs) ∙ ap (auth_of_number n) (sym (kept_in_order history h (λ (x : Auth). x.number == n) xs part.auths.items active are.auths)));
    }

number_facts : (charter : Charter) (history : History) (h : List ℕ) (n : ℕ) (rows : Option Rows) (part : Option HolderRows) → IsLegal charter history → RowsIfAny history h rows → IsSomeAnd part (AreNumbered n rows)
    → AnswersNumber history h n (grants_if_any part) (auth_of_number n (auths_if_any part))
number_facts charter history h n rows None legal of none = absurd none
number_facts charter history h n rows (Some part) legal of are = loads_number charter history h n rows part legal of are

rows_registered : (history : History) (h : List ℕ) (rows : Option Rows) → RowsIfAny history h rows → is_some rows ≡ is_registered history h
rows_registered history h None unregistered = sym unregistered
rows_registered history h (Some r) registered = sym registered.0

register_facts : (history : History) (h : List ℕ) (rows : Option Rows) (part : Option HolderRows) → RowsIfAny history h rows → AreCounted rows part → is_some part ≡ is_registered history h
register_facts history h rows part of are =
    sym (is_some-map (λ (p : HolderRows). p.granted) part) ∙ ap is_some are.granted ∙ is_some-map (λ (r : Rows). r.granted) rows ∙ rows_registered history h rows of

made_loaded : (history : History) (h : List ℕ) (rows : Option Rows) (made : Option ℕ) → RowsIfAny history h rows → made ≡ option_map (λ (r : Rows). r.granted) rows → IsMadeIfAny history h made
made_loaded history h None made unregistered is = subst (IsMadeIfAny history h) (sym is) unregistered
made_loaded history h (Some r) made registered is = subst (IsMadeIfAny history h) (sym is) (registered.0, registered.1.granted)

delegate_facts : (charter : Charter) (history : History) (h : List ℕ) (p : Prefix) (all : AllRows) (loaded : Loaded) → IsLegal charter history → HasRows all history → IsForDelegate h p all loaded
    → AnswersDelegate history h p (option_map (λ (r : HolderRows). r.holdings) loaded.rows) loaded.answers.taken
delegate_facts charter history h p all loaded legal has are =
    let rows = all.of_holder h in record {
      registered = is_some-map (λ (r : HolderRows). r.holdings) loaded.rows ∙ are.holdings.registered ∙ rows_registered history h rows (has.holders h);
      holdings = each loaded.rows are.holdings.runs (is_held charter history h rows legal (has.holders h)).holdings;
      free = tells_taken charter all history legal has p loaded.answers.taken (are.taken (runs_apart history all has));
    }
  where
    each : (part : Option HolderRows) → IfSome part (λ r. HaveSame (items_if_any (λ (r : Rows). r.holdings) (all.of_holder h)) r.holdings)
        → ((a : Address) → spans_have (items_if_any (λ (r : Rows). r.holdings) (all.of_holder h)) a ≡ is_held_by h (resource_holder history a))
        → IfSome (option_map (λ (r : HolderRows). r.holdings) part) (HasRuns history h)
    each None same holdings = tt
    each (Some part) same holdings = λ a. same a ∙ holdings a

-- those that pass pass again
filter_again : {X : Type 0} (p : X → Bool) (xs : List X) → filter p (filter p xs) ≡ filter p xs
filter_again p [] = refl
filter_again p (x ∷ xs) = go (filter_again p xs) (p x) refl
  where
    go : filter p (filter p xs) ≡ filter p xs → (b : Bool) → p x ≡ b → filter p (cond b (x ∷ filter p xs) (filter p xs)) ≡ cond b (x ∷ filter p xs) (filter p xs)
    go rest true is = cond-true _ _ _ is ∙ ap (λ ys. x ∷ ys) rest
    go rest false is = rest

runs_facts : (history : History) (h : List ℕ) (rows : Option Rows) (part : Option HolderRows) → RowsIfAny history h rows → AreHoldings rows part
    → IfRegistered history h part (λ r. HasRuns history h r.holdings)
runs_facts history h None None of are = of
runs_facts history h None (Some part) of are = absurd (true≢false are.registered)
runs_facts history h (Some r) None of are = absurd (false≢true are.registered)
runs_facts history h (Some r) (Some part) of are = (of.0, λ a. are.runs a ∙ of.1.holdings a)

loss_facts : (history : History) (h : List ℕ) (p : Prefix) (rows : Option Rows) (part : Option HolderRows) → RowsIfAny history h rows → IsForLoss p rows part
    → IfRegistered history h part (AnswersLoss history h p)
loss_facts history h p None None of are = of
loss_facts history h p None (Some part) of are = absurd (true≢false are.holdings.registered)
loss_facts history h p (Some r) None of are = absurd (false≢true are.holdings.registered)
loss_facts history h p (Some r) (Some part) of are =
    let passes = λ (x : Auth). terms_overlap x p in
    let kept = kept_in_order history h passes r.auths part.auths.items of.1.auths are.auths.order in (
      of.0,
      record {
        holdings = λ a. are.holdings.runs a ∙ of.1.holdings a;
        auths = (r.auths, of.1.auths, ap (filter passes) kept ∙ filter_again passes r.auths);
      },
    )

-- no more are active than were made
no_more : (low : ℕ) (xs : List Auth) (high : ℕ) → Numbered low xs high → low + length xs ≤ high
no_more low [] high n = omega (arith, n)
no_more low (x ∷ xs) high n = let rest = no_more x.number xs high n.1 in let first : low < x.number = n.0 in omega (arith, rest, first)

full_alike : (made many : ℕ) → many ≤ made → (nat_le MOST_AUTHORIZATIONS made && nat_le MOST_AUTHORIZATIONS many) ≡ nat_le MOST_AUTHORIZATIONS many
full_alike made many no_more = grind (arith, nat_tests, no_more)

room_to : (many : ℕ) → nat_le MOST_AUTHORIZATIONS many ≡ false → many < MOST_AUTHORIZATIONS
room_to many few = grind (arith, nat_tests, few)

room_from : (many : ℕ) → many < MOST_AUTHORIZATIONS → nat_le MOST_AUTHORIZATIONS many ≡ false
room_from many few = grind (arith, nat_tests, few)

create_facts : (charter : Charter) (history : History) (h : List ℕ) (terms : AuthTerms) (all : AllRows) (loaded : Loaded) → IsLegal charter history → HasRows all history → IsForCreate h terms all loaded
    → AnswersCreate history h terms (grants_if_any loaded.rows) loaded.answers
create_facts charter history h terms all loaded legal has are =
    let rows = all.of_holder h in
    let held = is_held charter history h rows legal (has.holders h) in
    let answers = are.answers in
    let xs = auths_held rows in
    let most : length xs ≤ created_if_any rows = omega (arith, held.created, no_more 0 xs (authorizations_made history h) (active-numbered history h xs held.auths)) in
    let full : IsTrue loaded.answers.holds → loaded.answers.gives ≡ false → loaded.answers.is_full ≡ nat_le MOST_AUTHORIZATIONS (length xs) =
    λ is none. answers.is_full is none ∙ full_alike (created_if_any rows) (length xs) most in
    record {
      grants = granted_loaded charter history h rows (grants_if_any loaded.rows) legal (has.holders h) are.counted.grants;
      created = answers.created ∙ held.created;
      holds = (
        λ is a there. is_held_by-true h (resource_holder history a) (sym (held.holdings a) ∙ answers.holds.0 is a there),
        λ every. answers.holds.1 (runs_apart history all has) (λ a there. held.holdings a ∙ ap (is_held_by h) (every a there) ∙ held_by_itself h),
      );
      gives = λ is. (
        λ none. (xs, held.auths, sym (answers.gives is) ∙ none),
        λ none. answers.gives is ∙ of_these history h xs held.auths (λ active. list_any (λ y. gives_some y terms.asn terms.entries) active ≡ false) none,
      );
      is_full = λ is none. (
        λ room. (xs, held.auths, room_to (length xs) (sym (full is none) ∙ room)),
        λ room. full is none ∙ room_from (length xs) (of_these history h xs held.auths (λ active. length active < MOST_AUTHORIZATIONS) room),
      );
    }

-- an authorization gives what the amended one gives where both share something
gives_shared : (n : ℕ) (z : Auth) (xs : List Auth) → some_gives (Some n) z.asn z.entries xs ≡ shares_with_other n z xs
gives_shared n z xs = λ i. list_any (λ y. not (y.number == n) && share_vrp-flips y z i) xs

shared_by : (history : History) (h : List ℕ) (n : ℕ) (maxes : List ℕ) (xs : List Auth) (is_shared : Bool) (found : Option Auth) → AreActive history h xs
    → IfSome found (λ x. maxes_fit maxes x.entries ≡ true → is_shared ≡ some_gives (Some n) x.asn (with_maxes maxes x.entries) xs)
    → IfSome found (λ x. maxes_fit maxes x.entries ≡ true → ((is_shared ≡ false) ↔ SharesWithNone history h n maxes x))
shared_by history h n maxes xs is_shared None active shared = tt
shared_by history h n maxes xs is_shared (Some x) active shared = λ fit.
    let z : Auth = record x { entries = with_maxes maxes x.entries } in
    let same = shared fit ∙ gives_shared n z xs in
    (λ none. (xs, active, sym same ∙ none), λ none. same ∙ of_these history h xs active (λ ys. shares_with_other n z ys ≡ false) none)

-- ---- for hypothetical changes

pub loads_parts : LoadsPartsOfHistories
loads_parts charter history h changes rows part legal of are = go rows part.rows of are.counted are.holdings.runs are.auths are.left
  where
    keep : Auth → Bool
    keep = looked_for changes

    go : (rows : Option Rows) (loaded : Option HolderRows) → RowsIfAny history h rows → AreCounted rows loaded → IfSome loaded (λ p. HaveSame (items_if_any (λ (r : Rows). r.holdings) rows) p.holdings)
        → AreInOrder (λ (x : Auth). x.number) (filter keep (auths_held rows)) (auths_if_any loaded)
        → (part.left_out + length (auths_if_any loaded) ≡ length (auths_held rows)) ⊎ ((part.left_out ≡ 0) × (created_if_any rows + length changes < MOST_AUTHORIZATIONS))
        → IsPartIfAny changes part.left_out keep rows (rows_if_any loaded)
    go None None of counted runs auths left = tt
    go None (Some p) of counted runs auths left = absurd (let c = counted.created in cc)
    go (Some r) None of counted runs auths left = absurd (let c = counted.created in cc)
    go (Some r) (Some p) of counted runs auths left =
        let held = is_held charter history h (Some r) legal of in
        let kept = kept_in_order history h keep r.auths p.auths.items held.auths auths in
        let most = no_more 0 r.auths (authorizations_made history h) (active-numbered history h r.auths held.auths) in
        record {
          grants = granted_loaded charter history h (Some r) p.grants.items legal of counted.grants ∙ sym held.grants;
          created = let c = counted.created in cc;
          auths = kept;
          kept = λ change x there looks. some_from (λ c. looks_for c x) changes change (has_contained changes change there) looks;
          left = elim left [
            | inl all ↦ inl (omega (arith, all, ap length kept, length-filter_both keep (λ x. not (keep x)) (λ x. refl) r.auths))
            | inr few ↦ inr (few.0, omega (arith, few.1, held.created, most))
          ];
          held = λ a is. sym (runs a) ∙ is;
          holds = λ terms there all a is. runs a ∙ all a is;
        }

-- ---- for each command

pub loads_facts : LoadsFactsOfHistories
loads_facts charter history (Register h) rows loaded legal has are = register_facts history h (rows.of_holder h) loaded.rows (has.holders h) are
loads_facts charter history (Delegate h p) rows loaded legal has are = delegate_facts charter history h p rows loaded legal has are
loads_facts charter history (Transfer p giver taker) rows loaded legal has are = (
  loss_facts history giver p (rows.of_holder giver) loaded.rows (has.holders giver) are.0,
  runs_facts history taker (rows.of_holder taker) loaded.taker (has.holders taker) are.1,
)
loads_facts charter history (Reclaim h p) rows loaded legal has are = loss_facts history h p (rows.of_holder h) loaded.rows (has.holders h) are
loads_facts charter history (Grant h terms) rows loaded legal has are = record {
  grants = granted_loaded charter history h (rows.of_holder h) (grants_if_any loaded.rows) legal (has.holders h) are.grants;
  counter = made_loaded history h (rows.of_holder h) _ (has.holders h) are.granted;
}
loads_facts charter history (Revoke h n) rows loaded legal has are = granted_loaded charter history h (rows.of_holder h) (grants_if_any loaded.rows) legal (has.holders h) are.grants
loads_facts charter history (Create h terms) rows loaded legal has are = create_facts charter history h terms rows loaded legal has are
loads_facts charter history (Amend h n maxes until) rows loaded legal has are = record {
  number = number_facts charter history h n (rows.of_holder h) loaded.rows legal (has.holders h) are.numbered;
  shared = shared_by history h n maxes.items (auths_held (rows.of_holder h)) loaded.answers.gives (auth_of_number n (auths_if_any loaded.rows)) (is_held charter history h (rows.of_holder h) legal (has.holders h)).auths are.shared;
}
loads_facts charter history (Withdraw h n) rows loaded legal has are = number_facts charter history h n (rows.of_holder h) loaded.rows legal (has.holders h) are
loads_facts charter history (Import h listed) rows loaded legal has are = loads_rows history h (rows.of_holder h) loaded.rows (has.holders h) are
loads_facts charter history (Slurm files) rows loaded legal has are = tt
