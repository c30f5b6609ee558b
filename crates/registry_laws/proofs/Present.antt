-- What an import or a create made is present from then on, so that neither is made again.
use Rattle.registry_laws.proofs.Vocabulary.{◌≡◌, ℕ, ◌+◌, ◌<◌, true, ◌||◌, ◌&&◌, eqb, List, [], ◌∷◌, ◌++◌, length, Option, Some, None, Ok, inl, inr, refl, sym, ap, ◌∙◌, subst, arith, list_any, All, cases_Bool, cond-true, false≢true, and_from, and_parts, or_left, nat_tests, All-nil, All-cons, All-head, All-tail, All-weaker, or-true, Auth, ImportRow, RoaPrefix, Charter, Command, Create, grown_by, Entry, History, IsPresent, JudgesRow, ImportGrows, has_terms, are_same, is_entry, HoldsEntries, numbered_terms, row_terms, gives_some, authorizations_made, authorization_terms, HeldSinceMade, Keeps, AreActive, OfActive, are_shared, Verdict, row-are, same_name-same, active-kept, not_yet_made, Keeps-append, Keeps-unique, ImportsRepeat}
use Rattle.std.proofs.lemmas.List.Folds.{list_any-append}
use Rattle.addr.proofs.Equality.{prefix_itself}
use Rattle.registry.specs.declared.authorization.AuthTerms.{AuthTerms}
use Rattle.registry.specs.RoaPrefixes.{AreEntries}
use Rattle.registry_laws.proofs.Growth.{All-every, EntriesKeep, grown-keeps}
use Rattle.registry_laws.proofs.OneOutcome.{import_once, growth_or_denial}
use Rattle.registry_laws.proofs.Agree.{agree-sym}
use Rattle.registry_laws.proofs.Parts.{agree-later}
use Rattle.registry_laws.proofs.GrownAlike.{present_alike}

-- an active authorization has the terms
abbrev pub HasTerms : History → List ℕ → AuthTerms → Type 0
HasTerms history holder t = OfActive history holder (λ active. list_any (has_terms t) active ≡ true)

-- a list of entries is the same as itself
same_itself : (es : List RoaPrefix) → are_same es es ≡ true
same_itself [] = refl
same_itself (e ∷ es) =
    let max : eqb e.max e.max ≡ true = grind (arith, nat_tests) in
    and_from _ _ (and_from _ _ (prefix_itself e.prefix) max) (same_itself es)

-- a list that is the same as one with some entry shares its first with it
same_shares : (ds es : List RoaPrefix) → 0 < length ds → are_same ds es ≡ true → are_shared es ds ≡ true
same_shares [] es some same = absurd (omega (arith, some))
same_shares (d ∷ ds) [] some same = absurd (false≢true same)
same_shares (d ∷ ds) (e ∷ es) some same =
    let here = (and_parts (is_entry d.prefix d.max e) (are_same ds es) same).0 in
    or_left _ _ (or_left _ _ here)

has_its_terms : (n : ℕ) (t : AuthTerms) → has_terms t (numbered_terms t n) ≡ true
has_its_terms n t =
    let asn : eqb t.asn.0 t.asn.0 ≡ true = grind (arith, nat_tests) in
    let from : eqb t.from t.from ≡ true = grind (arith, nat_tests) in
    let until : eqb t.until t.until ≡ true = grind (arith, nat_tests) in
    and_from _ _ (and_from _ _ asn (same_itself t.entries)) (and_from _ _ from until)

-- what has the terms gives some of their entries, where there are any
gives_of_terms : (t : AuthTerms) (x : Auth) → 0 < length t.entries → has_terms t x ≡ true → gives_some x t.asn t.entries ≡ true
gives_of_terms t x some has =
    let asn = eqb x.asn.0 t.asn.0 in
    let same = are_same t.entries x.entries in
    let parts = and_parts asn same (and_parts (asn && same) (eqb x.from t.from && eqb x.until t.until) has).0 in
    and_from _ _ parts.0 (same_shares t.entries x.entries some parts.1)

any_gives : (t : AuthTerms) (xs : List Auth) → 0 < length t.entries → list_any (has_terms t) xs ≡ true → list_any (λ y. gives_some y t.asn t.entries) xs ≡ true
any_gives t [] some any = any
any_gives t (x ∷ xs) some any = elim (cases_Bool (has_terms t x)) [
  | inl has ↦ ap (λ b. b || list_any (λ y. gives_some y t.asn t.entries) xs) (gives_of_terms t x some has)
  | inr lacks ↦
      let rest = any_gives t xs some (sym (ap (λ b. b || list_any (has_terms t) xs) lacks) ∙ any) in
      ap (λ b. gives_some x t.asn t.entries || b) rest ∙ or-true (gives_some x t.asn t.entries)
]

-- the active authorizations with the new one
active-created : (history : History) (day : ℕ) (caller holder : List ℕ) (t : AuthTerms) → HoldsEntries history holder t.entries
    → (active : List Auth) → AreActive history holder active
    → AreActive (record { day = day; caller = caller; command = Create holder t } ∷ history) holder
    (active ++ numbered_terms t (authorizations_made history holder + 1) ∷ [])
active-created history day caller holder t holds active are =
    let e : Entry = record { day = day; caller = caller; command = Create holder t } in
    let x = numbered_terms t (authorizations_made history holder + 1) in
    let since : HeldSinceMade (e ∷ history) holder x = (
      λ _. holds,
      not_yet_made history holder x (omega arith),
    ) in
    subst (λ (xs : List Auth). Keeps (HeldSinceMade (e ∷ history) holder) xs (active ++ x ∷ [])) (sym (cond-true _ _ _ (same_name-same holder)))
    (Keeps-append (HeldSinceMade (e ∷ history) holder) (authorization_terms history holder) active x since
    (active-kept e history holder active (λ a held. held) are))

-- an accepted create makes one with its terms
pub created_has : (charter : Charter) (history : History) (day : ℕ) (caller holder : List ℕ) (t : AuthTerms)
    → Verdict charter history day caller (Create holder t) None
    → HasTerms (record { day = day; caller = caller; command = Create holder t } ∷ history) holder t
created_has charter history day caller holder t accepted =
    let new = accepted.1.1.1.1.1.0 in
    let x = numbered_terms t (authorizations_made history holder + 1) in (
      new.0 ++ x ∷ [],
      active-created history day caller holder t accepted.1.1.1.1.0 new.0 new.1,
      list_any-append (has_terms t) new.0 (x ∷ [])
          ∙ ap (λ b. list_any (has_terms t) new.0 || (b || list_any (has_terms t) [])) (has_its_terms (authorizations_made history holder + 1) t)
          ∙ or-true (list_any (has_terms t) new.0),
    )

-- and keeps the terms that one had
create_keeps : (charter : Charter) (history : History) (day : ℕ) (caller holder : List ℕ) (t u : AuthTerms)
    → Verdict charter history day caller (Create holder u) None → HasTerms history holder t
    → HasTerms (record { day = day; caller = caller; command = Create holder u } ∷ history) holder t
create_keeps charter history day caller holder t u accepted has =
    let x = numbered_terms u (authorizations_made history holder + 1) in (
      has.0 ++ x ∷ [],
      active-created history day caller holder u accepted.1.1.1.1.0 has.0 has.1,
      list_any-append (has_terms t) has.0 (x ∷ []) ∙ ap (λ b. b || list_any (has_terms t) (x ∷ [])) has.2,
    )

-- terms that one has are not made again where they have any entry, by rule `same`
pub not_made_again : (charter : Charter) (history : History) (day : ℕ) (caller holder : List ℕ) (t : AuthTerms)
    → AreEntries t.entries → HasTerms history holder t → Verdict charter history day caller (Create holder t) None → ⊥
not_made_again charter history day caller holder t are has accepted =
    let new = accepted.1.1.1.1.1.0 in
    let one = Keeps-unique (HeldSinceMade history holder) (authorization_terms history holder) has.0 new.0 has.1 new.1 in
    let test = list_any (λ (y : Auth). gives_some y t.asn t.entries) in
    false≢true (sym new.2 ∙ ap test (sym one) ∙ any_gives t has.0 (omega (arith, are.number.0)) has.2)

-- a row of an import is present once it was judged
row_present : (charter : Charter) (day : ℕ) (caller holder : List ℕ) (history : History) (t : ImportRow) (made : Option Command)
    → JudgesRow charter day caller holder history t (Ok made) → IsPresent day caller holder (grown_by day caller made history) t
row_present charter day caller holder history t None is = is
row_present charter day caller holder history t (Some c) is =
    let accepted = subst (λ (d : Command). Verdict charter history day caller d None) is.1 is.2 in
    subst (λ (d : Command). IsPresent day caller holder (record { day = day; caller = caller; command = d } ∷ history) t) (sym is.1)
    (accepted.1.0, created_has charter history day caller holder (row_terms t) accepted)

-- and stays so
rows_keep : (charter : Charter) (day : ℕ) (caller holder : List ℕ) (t : ImportRow)
    → EntriesKeep (JudgesRow charter day caller holder) day caller (λ u. Unit {0}) (λ history. IsPresent day caller holder history t)
rows_keep charter day caller holder t history u c some is present =
    let accepted = subst (λ (d : Command). Verdict charter history day caller d None) is.1 is.2 in
    subst (λ (d : Command). IsPresent day caller holder (record { day = day; caller = caller; command = d } ∷ history) t) (sym is.1)
    (present.0, create_keeps charter history day caller holder (row_terms t) (row_terms u) accepted present.1)

all_present : (charter : Charter) (day : ℕ) (caller holder : List ℕ) (before : History) (rows : List ImportRow) (left : History)
    → ImportGrows charter day caller holder before rows left → All (IsPresent day caller holder left) rows
all_present charter day caller holder before [] left grows = All-nil (IsPresent day caller holder left)
all_present charter day caller holder before (t ∷ rows) left grows =
    let next = grown_by day caller grows.0 before in
    let present = row_present charter day caller holder before t grows.0 grows.1 in
    All-cons (IsPresent day caller holder left) t rows
    (grown-keeps (JudgesRow charter day caller holder) day caller (λ u. Unit {0}) (λ history. IsPresent day caller holder history t)
    (rows_keep charter day caller holder t) next rows left (All-every (λ (u : ImportRow). Unit {0}) (λ u. tt) rows) present grows.2)
    (all_present charter day caller holder next rows left grows.2)

-- rows that are all present make nothing
present_grows : (charter : Charter) (day : ℕ) (caller holder : List ℕ) (history : History) (rows : List ImportRow)
    → All (IsPresent day caller holder history) rows → ImportGrows charter day caller holder history rows history
present_grows charter day caller holder history [] all = refl
present_grows charter day caller holder history (t ∷ rows) all = (
  None,
  All-head (IsPresent day caller holder history) t rows all,
  present_grows charter day caller holder history rows (All-tail (IsPresent day caller holder history) t rows all),
)

-- an active authorization has the terms of the row
abbrev HasRow : History → List ℕ → ImportRow → Type 0
HasRow history holder row = HasTerms history holder (row_terms row)

-- nor does a row whose terms one has, where it is not denied
had_makes_none : (charter : Charter) (day : ℕ) (caller holder : List ℕ) (history : History) (t : ImportRow) (made : Option Command)
    → HasTerms history holder (row_terms t) → JudgesRow charter day caller holder history t (Ok made) → grown_by day caller made history ≡ history
had_makes_none charter day caller holder history t None has is = refl
had_makes_none charter day caller holder history t (Some c) has is =
    absurd (not_made_again charter history day caller holder (row_terms t) (row-are t) has (subst (λ (d : Command). Verdict charter history day caller d None) is.1 is.2))

had_grows : (charter : Charter) (day : ℕ) (caller holder : List ℕ) (history : History) (rows : List ImportRow) (again : History)
    → All (HasRow history holder) rows → ImportGrows charter day caller holder history rows again → again ≡ history
had_grows charter day caller holder history [] again all grows = grows
had_grows charter day caller holder history (t ∷ rows) again all grows =
    let same = had_makes_none charter day caller holder history t grows.0 (All-head (HasRow history holder) t rows all) grows.1 in
    had_grows charter day caller holder history rows again (All-tail (HasRow history holder) t rows all)
    (subst (λ (next : History). ImportGrows charter day caller holder next rows again) same grows.2)

pub imports_repeat : ImportsRepeat
imports_repeat charter before day caller holder rows left later grows legal unnamed =
    let history = later ++ left in
    let same = agree-sym (agree-later charter holder later left legal unnamed) in
    let present : All (IsPresent day caller holder history) rows =
    All-weaker (IsPresent day caller holder left) (IsPresent day caller holder history) (λ t is. present_alike day caller t same is) rows
    (all_present charter day caller holder before rows left grows) in
    let had : All (HasRow history holder) rows =
    All-weaker (IsPresent day caller holder history) (HasRow history holder) (λ t is. is.1) rows present in
    let accepted = present_grows charter day caller holder history rows present in
    record {
      accepted = accepted;
      denied = λ rule place. growth_or_denial (import_once charter day caller holder) day caller history rows history rule place accepted;
      nothing = λ again_day again_caller again more. had_grows charter again_day again_caller holder history rows again had more;
    }
