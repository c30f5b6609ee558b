-- What is loaded from the rows that queries found.
use Rattle.store_read.proofs.Vocabulary.{◌≡◌, ℕ, ◌+◌, ◌<◌, ◌||◌, true, List, [], ◌∷◌, map, flat_map, take, length, get_or, slice_get, All, Option, Some, None, IsTrue, Result, Ok, Err, IfOk, refl, sym, ap, subst, ◌∙◌, arith, IsPermutation, ⊤, IsSorted, is_some, Vec, AllByRecursion, or-false, nat_tests, All-nil, All-cons, All-from_recursion, recursion_from_All, nil_from_length, list_any-append, list_any-IsPermutation, length_permutation, IsPermutation-refl, Database, State, all_from, test_has, all-flat_map, all-map, all_weaker, Address, FitsMaxLength, fits_max_length, span_has, spans_have, AreMaximal, Span, Auth, RoaPrefix, CharterSets, HolderRows, Rows, claim_of, entry_rows_of, grant_cells, ClaimFits, EntryRowFits, claim_entry, items_if_any, TablesHold, EachRowsOf, OpenEachRows, AreCounted, AreGrants, AreInOrder, HaveSame, AreLoaded, by_column, counters_if_any, IsCount, GrantFits, AuthFits, FitIfAny, AllRows, counters_of_rows}
use Rattle.sqlite.proofs.Callers.{one_permutation}
use Rattle.registry.specs.declared.grant.Granted.{Granted}
use Rattle.store_tables.specs.declared.holder.Counters.{Counters}
use Rattle.store_read.proofs.AuthsFound.{by_number}
use Rattle.store_transactions.proofs.StatementLemmas.{taken_more}

-- one more run in a loop
pub one_run_more : (spans : List Span) (i : ℕ) (s : Span) (before after : List Span) → i < length spans → s ≡ get_or spans i s → HaveSame (take i spans) before
    → ((a : Address) → spans_have after a ≡ (spans_have before a || span_has s a)) → HaveSame (take (i + 1) spans) after
one_run_more spans i s before after low is same added a =
    added a ∙ ap (λ b. b || span_has s a) (same a)
    ∙ sym (ap (λ l. spans_have l a) (taken_more spans i s low is) ∙ list_any-append (λ t. span_has t a) (take i spans) (s ∷ []) ∙ ap (λ b. spans_have (take i spans) a || b) (or-false (span_has s a)))

-- ---- the runs in another order have the same addresses

pub same-permuted : (xs ys : List Span) → IsPermutation xs ys → HaveSame xs ys
same-permuted xs ys same a = sym (list_any-IsPermutation (λ s. span_has s a) xs ys same)

-- ---- rows that fit

pub grants_fit : (o : Option Rows) → FitIfAny o → All GrantFits (items_if_any (λ r. r.grants) o)
grants_fit None fit = All-nil GrantFits
grants_fit (Some r) fit = fit.grants

-- rows of grants in the order of their query are the grants by rising number
pub grants_by_number :
    {E : Type 0} (h : List ℕ) (s : State) (r : Result (Vec Granted) E)
    → IfOk r (λ grants. EachRowsOf (λ rows. IsPermutation (items_if_any (λ r. r.grants) rows) grants.items) h s)
    → IfOk r (λ grants. IsSorted (by_column 0) (map grant_cells grants.items))
    → IfOk r (λ grants. EachRowsOf (λ rows. AreGrants rows grants.items) h s)
grants_by_number h s (Ok grants) found rising = λ charter all holds. (found charter all holds, by_number grant_cells (λ g. g.number) (λ g. refl) grants.items rising)
grants_by_number h s (Err e) found rising = tt

pub claim_fits : (x : Auth) → AuthFits x → ClaimFits (claim_of x)
claim_fits x fits = record { number = fits.number; asn = fits.asn; from = fits.from; until = fits.until }

max_fits : (e : RoaPrefix) → fits_max_length e.prefix e.max ≡ true → FitsMaxLength e.prefix e.max
max_fits e fits = (grind (arith, nat_tests), grind (arith, nat_tests))

pub entries_of_fit : (x : Auth) → AuthFits x → AllByRecursion EntryRowFits (entry_rows_of x)
entries_of_fit x fits =
    all-map EntryRowFits (claim_entry (claim_of x)) x.entries
    (all_from _ x.entries (λ e has. record {
      number = fits.number;
      asn = fits.asn;
      max = max_fits e (test_has (λ (d : RoaPrefix). fits_max_length d.prefix d.max) x.entries e fits.lengths has);
    }))

pub claims_fit : (o : Option Rows) → FitIfAny o → All ClaimFits (items_if_any (λ r. map claim_of r.auths) o)
claims_fit None fit = All-nil ClaimFits
claims_fit (Some r) fit =
    All-from_recursion ClaimFits (map claim_of r.auths)
    (all-map ClaimFits claim_of r.auths (all_weaker AuthFits (λ x. ClaimFits (claim_of x)) claim_fits r.auths (recursion_from_All AuthFits r.auths fit.auths)))

pub entries_fit : (o : Option Rows) → FitIfAny o → All EntryRowFits (items_if_any (λ r. flat_map entry_rows_of r.auths) o)
entries_fit None fit = All-nil EntryRowFits
entries_fit (Some r) fit =
    All-from_recursion EntryRowFits (flat_map entry_rows_of r.auths)
    (all-flat_map EntryRowFits entry_rows_of r.auths (all_weaker AuthFits (λ x. AllByRecursion EntryRowFits (entry_rows_of x)) entries_of_fit r.auths (recursion_from_All AuthFits r.auths fit.auths)))

-- every span is one
pub all_spans_fit : (spans : List Span) → All (λ _. ⊤) spans
all_spans_fit spans k d low = tt

-- ---- counters

pub first_counters : (o : Option Rows) (xs : List Counters) → IsPermutation (items_if_any counters_of_rows o) xs → slice_get xs 0 ≡ counters_if_any o
first_counters None xs same = rw (nil_from_length xs (length_permutation _ _ same)) refl
first_counters (Some r) xs same = rw (one_permutation (record { granted = r.granted; created = r.created }) xs same) refl

-- there are counters where the holder is registered
pub counted : (o : Option Rows) → is_some (counters_if_any o) ≡ is_some o
counted None = refl
counted (Some r) = refl

abbrev pub CountersFit : Counters → Type 0
CountersFit c = IsCount c.granted × IsCount c.created

pub counters_fit : (o : Option Rows) → FitIfAny o → All CountersFit (items_if_any counters_of_rows o)
counters_fit None fit = All-nil CountersFit
counters_fit (Some r) fit = All-cons CountersFit (record { granted = r.granted; created = r.created }) [] (fit.granted, fit.created) (All-nil CountersFit)

-- ---- the rows of a holder

-- what the tables held before calls that changed nothing they hold after them
pub held_before :
    (old mid : State) → mid.now ≡ old.now → (charter : CharterSets) (rows : AllRows)
    → TablesHold charter rows old.now.trees → TablesHold charter rows mid.now.trees
held_before old mid same charter rows holds = subst (λ (d : Database). TablesHold charter rows d.trees) (sym same) holds

-- what is refused after such calls was to be refused before
pub refused_before :
    (so : AllRows → Type 0) (old mid : State) → IsTrue old.is_open → mid.now ≡ old.now → OpenEachRows so mid → OpenEachRows so old
refused_before so old mid opened same refusal = (opened, λ charter rows holds. refusal.1 charter rows (held_before old mid same charter rows holds))

-- rows of which some do not fit are refused
pub never_fit : {X : Type 0} (fits : X → Type 0) {items : Rows → List X} {h : List ℕ} (s : State) → ((o : Option Rows) → FitIfAny o → All fits (items_if_any items o)) → OpenEachRows (λ all. ¬ All fits (items_if_any items (all.of_holder h))) s → OpenEachRows (λ all. ¬ FitIfAny (all.of_holder h)) s
never_fit fits s each refusal = (refusal.0, λ charter rows holds fit. refusal.1 charter rows holds (each (rows.of_holder _) fit))

pub none_counted : (o : Option Rows) → None ≡ counters_if_any o → AreCounted o None
none_counted None none = record { grants = (IsPermutation-refl [], λ k d low high. absurd (omega (arith, high))); granted = refl; created = refl }
none_counted (Some r) none = cc

pub some_counted : (o : Option Rows) (c : Counters) (part : HolderRows) → Some c ≡ counters_if_any o → part.granted ≡ c.granted → part.created ≡ c.created → AreGrants o part.grants.items → AreCounted o (Some part)
some_counted None c part none granted created grants = cc
some_counted (Some r) c part counters granted created grants = record { grants = grants; granted = cc; created = cc }

pub none_loaded : (o : Option Rows) → None ≡ counters_if_any o → AreLoaded o None
none_loaded None none = tt
none_loaded (Some r) none = cc

pub all_loaded : (o : Option Rows) (c : Counters) (loaded : HolderRows) → Some c ≡ counters_if_any o → loaded.granted ≡ c.granted → loaded.created ≡ c.created → AreMaximal loaded.holdings → HaveSame (items_if_any (λ r. r.holdings) o) loaded.holdings
    → AreGrants o loaded.grants.items → AreInOrder (λ (x : Auth). x.number) (items_if_any (λ r. r.auths) o) loaded.auths.items → AreLoaded o (Some loaded)
all_loaded None c loaded none granted created maximal holdings grants auths = cc
all_loaded (Some r) c loaded counters granted created maximal holdings grants auths = record {
  maximal = maximal;
  holdings = holdings;
  grants = grants;
  auths = auths;
  granted = cc;
  created = cc;
}
