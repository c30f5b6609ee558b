-- The walk over claims and the rows of entries: what it takes for the entries of a claim are those of any groups of the
-- two lists.
use Rattle.store_tables.proofs.Vocabulary.{◌≡◌, ◌≢◌, ℕ, ◌≤◌, List, [], ◌∷◌, ◌++◌, map, flat_map, drop, length, get_or, ◌+◌, ◌<◌, append_assoc, append-nil, Option, Some, None, MatchOption, Bool, true, false, ◌==◌, refl, sym, ap, ap₂, subst, ◌∙◌, arith, AllByRecursion, eq-eqb, eqb-true, false≢true, at_drop_more, drop_more, AreEntries, RoaPrefix, Group, AllApart, ShareNoRow, AreGroups, HasNoGroups, group_rows, first_entries, with_entry}
use Rattle.std.specs.Bool.{then_some}
use Rattle.std.specs.Global.{Vec}
use Rattle.std.proofs.Math.ListN.{drop_of_length-le}

module _ {R : Type 0} (row : RoaPrefix → R) (read : R → Option RoaPrefix) where
  -- the first entries are those of the rows that they are taken from
  rows_of_first : ((r : R) (e : RoaPrefix) → read r ≡ Some e → r ≡ row e) → (rows : List R) → map row (first_entries read rows) ++ drop (length (first_entries read rows)) rows ≡ rows
  rows_of_first only [] = refl
  rows_of_first only (r ∷ rows) = go (read r) refl (rows_of_first only rows)
    where
      go : (o : Option RoaPrefix) → read r ≡ o → map row (first_entries read rows) ++ drop (length (first_entries read rows)) rows ≡ rows → map row (with_entry o (first_entries read rows)) ++ drop (length (with_entry o (first_entries read rows))) (r ∷ rows) ≡ r ∷ rows
      go None told same = refl
      go (Some e) told same = ap₂ ◌∷◌ (sym (only r e told)) same

  pub first_of : ((e : RoaPrefix) → read (row e) ≡ Some e) → (es : List RoaPrefix) (others : List R) → first_entries read others ≡ [] → first_entries read (map row es ++ others) ≡ es
  first_of found [] others none = none
  first_of found (e ∷ es) others none = ap (λ o. with_entry o (first_entries read (map row es ++ others))) (found e) ∙ ap (λ l. e ∷ l) (first_of found es others none)

pub no_more_than : {R : Type 0} (read : R → Option RoaPrefix) (rows : List R) → length (first_entries read rows) ≤ length rows
no_more_than read [] = omega arith
no_more_than read (r ∷ rows) = go (read r) (no_more_than read rows)
  where
    go : (o : Option RoaPrefix) → length (first_entries read rows) ≤ length rows → length (with_entry o (first_entries read rows)) ≤ length (r ∷ rows)
    go None less = omega arith
    go (Some e) less = omega (arith, less)

-- one row after another
module _ {R : Type 0} (read : R → Option RoaPrefix) (rows : List R) (i : ℕ) (done : List RoaPrefix) (so_far : first_entries read rows ≡ done ++ first_entries read (drop i rows)) where
  at_row : (r : R) → i < length rows → r ≡ get_or rows i r → first_entries read (drop i rows) ≡ with_entry (read r) (first_entries read (drop (i + 1) rows))
  at_row r low is = at_drop_more (first_entries read) rows i r low ∙ ap (λ x. with_entry (read x) (first_entries read (drop (i + 1) rows))) (sym is)

  pub one_entry_more : (r : R) (e : RoaPrefix) (now : List RoaPrefix) → i < length rows → r ≡ get_or rows i r → read r ≡ Some e → now ≡ done ++ e ∷ [] → first_entries read rows ≡ now ++ first_entries read (drop (i + 1) rows)
  one_entry_more r e now low is told added =
      so_far ∙ ap (λ l. done ++ l) (at_row r low is ∙ ap (λ o. with_entry o (first_entries read (drop (i + 1) rows))) told)
      ∙ sym (append_assoc done (e ∷ []) _) ∙ ap (λ l. l ++ first_entries read (drop (i + 1) rows)) (sym added)

  pub no_more_entries : (r : R) → i < length rows → r ≡ get_or rows i r → read r ≡ None → done ≡ first_entries read rows
  no_more_entries r low is told = sym (so_far ∙ ap (λ l. done ++ l) (at_row r low is ∙ ap (λ o. with_entry o (first_entries read (drop (i + 1) rows))) told) ∙ append-nil done)

  pub no_more_rows : length rows ≤ i → done ≡ first_entries read rows
  no_more_rows high = sym (so_far ∙ ap (λ l. done ++ first_entries read l) (drop_of_length-le rows high) ∙ append-nil done)

pub after_all : {R : Type 0} (row : RoaPrefix → R) (es : List RoaPrefix) (others : List R) → drop (length es) (map row es ++ others) ≡ others
after_all row [] others = refl
after_all row (e ∷ es) others = after_all row es others

-- The groups so far are those of the beginnings of two lists, of which these are left.
pub record Walked {C R : Type 0} (row : C → RoaPrefix → R) (of_claims : List C) (of_rows : List R) (groups : List (Group C)) (later : List C) (rest : List R) : Type 0 where
  pub leads : (more : List (Group C)) → AreGroups row later rest more → AreGroups row of_claims of_rows (groups ++ more)
  pub left : AllApart row of_claims → (all : List (Group C)) → AreGroups row of_claims of_rows all → AllApart row later × (more : List (Group C)) × AreGroups row later rest more

module _ {C R : Type 0} (row : C → RoaPrefix → R) (read : C → R → Option RoaPrefix) (found : (c : C) (e : RoaPrefix) → read c (row c e) ≡ Some e) (only : (c : C) (r : R) (e : RoaPrefix) → read c r ≡ Some e → r ≡ row c e) where
  none_of_other : (c d : C) (es : List RoaPrefix) (others : List R) → AreEntries es → ShareNoRow row c d → first_entries (read c) (map (row d) es ++ others) ≡ []
  none_of_other c d [] others fit apart = let some = fit.number.0 in absurd (omega (arith, some))
  none_of_other c d (e ∷ es) others fit apart = go (read c (row d e)) refl
    where
      go : (o : Option RoaPrefix) → read c (row d e) ≡ o → with_entry o (first_entries (read c) (map (row d) es ++ others)) ≡ []
      go None told = refl
      go (Some f) told = absurd (apart f e (sym (only c (row d e) f told)))

  -- no row of claims that are apart from one is an entry of that
  none_of_others : (c : C) (groups : List (Group C)) → AllByRecursion (ShareNoRow row c) (map (λ (g : Group C). g.claim) groups) → AllByRecursion (λ (g : Group C). AreEntries g.entries) groups
      → first_entries (read c) (flat_map (group_rows row) groups) ≡ []
  none_of_others c [] apart fit = refl
  none_of_others c (g ∷ groups) apart fit = none_of_other c g.claim g.entries (flat_map (group_rows row) groups) fit.0 apart.0

  -- the first group of two lists, and the groups of what is left of them
  record Parted (c : C) (cs : List C) (rows : List R) (g : Group C) (groups : List (Group C)) : Type 0 where
    claim : g.claim ≡ c
    entries : first_entries (read c) rows ≡ g.entries
    fit : AreEntries g.entries
    later : AreGroups row cs (drop (length (first_entries (read c) rows)) rows) groups

  parted : (c : C) (cs : List C) (rows : List R) (g : Group C) (groups : List (Group C)) → AllApart row (c ∷ cs) → AreGroups row (c ∷ cs) rows (g ∷ groups) → Parted c cs rows g groups
  parted c cs rows g groups apart are =
      let claim : g.claim ≡ c = let same = are.same_claims in cc in
      let claims : map (λ (h : Group C). h.claim) groups ≡ cs = let same = are.same_claims in cc in
      let rows_are : map (row c) g.entries ++ flat_map (group_rows row) groups ≡ rows = (λ i. map (row (sym claim i)) g.entries ++ flat_map (group_rows row) groups) ∙ are.same_rows in
      let none = none_of_others c groups (subst (AllByRecursion (ShareNoRow row c)) (sym claims) apart.0) are.are_entries.1 in
      let first = ap (first_entries (read c)) (sym rows_are) ∙ first_of (row c) (read c) (found c) g.entries (flat_map (group_rows row) groups) none in
      let left = sym (after_all (row c) g.entries (flat_map (group_rows row) groups)) ∙ (λ i. drop (length (sym first i)) (rows_are i)) in
      record {
        claim = claim;
        entries = first;
        fit = are.are_entries.0;
        later = record { same_claims = claims; same_rows = left; are_entries = are.are_entries.1 };
      }

  -- over claims that are apart the groups of two lists are unique
  pub groups_once : (claims : List C) (rows : List R) (one other : List (Group C)) → AllApart row claims → AreGroups row claims rows one → AreGroups row claims rows other → one ≡ other
  groups_once [] rows [] [] apart are also = refl
  groups_once [] rows (g ∷ one) other apart are also = let same = are.same_claims in absurd cc
  groups_once [] rows [] (h ∷ other) apart are also = let same = also.same_claims in absurd cc
  groups_once (c ∷ cs) rows [] other apart are also = let same = are.same_claims in absurd cc
  groups_once (c ∷ cs) rows (g ∷ one) [] apart are also = let same = also.same_claims in absurd cc
  groups_once (c ∷ cs) rows (g ∷ one) (h ∷ other) apart are also =
      let left = parted c cs rows g one apart are in
      let right = parted c cs rows h other apart also in
      let claim = left.claim ∙ sym right.claim in
      let entries = sym left.entries ∙ right.entries in
      ap₂ ◌∷◌ (λ i. record { claim = claim i; entries = entries i }) (groups_once cs _ one other apart.1 left.later right.later)

  pub walked_none : (claims : List C) (rows : List R) → Walked row claims rows [] claims rows
  walked_none claims rows = record { leads = λ more are. are; left = λ apart all are. (apart, all, are) }

  first_left : (c : C) (cs : List C) (rest : List R) (all : List (Group C)) → AllApart row (c ∷ cs) → AreGroups row (c ∷ cs) rest all
      → AreEntries (first_entries (read c) rest) × (more : List (Group C)) × AreGroups row cs (drop (length (first_entries (read c) rest)) rest) more
  first_left c cs rest [] apart are = let same = are.same_claims in absurd cc
  first_left c cs rest (g ∷ more) apart are = let part = parted c cs rest g more apart are in (subst AreEntries (sym part.entries) part.fit, more, part.later)

  pub walked_more : (claims : List C) (rows : List R) (groups : List (Group C)) (c : C) (cs : List C) (rest : List R) → AreEntries (first_entries (read c) rest) → Walked row claims rows groups (c ∷ cs) rest
      → Walked row claims rows (groups ++ record { claim = c; entries = first_entries (read c) rest } ∷ []) cs (drop (length (first_entries (read c) rest)) rest)
  walked_more claims rows groups c cs rest fit walked =
      let g : Group C = record { claim = c; entries = first_entries (read c) rest } in
      record {
        leads = λ more are. subst (AreGroups row claims rows) (sym (append_assoc groups (g ∷ []) more)) (walked.leads (g ∷ more) (record {
          same_claims = ap (λ l. c ∷ l) are.same_claims;
          same_rows = ap (λ l. map (row c) g.entries ++ l) are.same_rows ∙ rows_of_first (row c) (read c) (only c) rest;
          are_entries = (fit, are.are_entries);
        }));
        left = λ apart all are.
            let now = walked.left apart all are in
            let next = first_left c cs rest now.1 now.0 now.2 in
            (now.0.1, next.1, next.2);
      }

  -- the first rows are not the entries of an authorization
  pub unfit_entries : (claims : List C) (rows : List R) (groups : List (Group C)) (c : C) (cs : List C) (rest : List R) → ¬ AreEntries (first_entries (read c) rest) → Walked row claims rows groups (c ∷ cs) rest
      → AllApart row claims → HasNoGroups row claims rows
  unfit_entries claims rows groups c cs rest unfit walked apart all are = let now = walked.left apart all are in unfit (first_left c cs rest now.1 now.0 now.2).0

  pub walked_all : (claims : List C) (rows : List R) (groups : List (Group C)) → Walked row claims rows groups [] [] → AreGroups row claims rows groups
  walked_all claims rows groups walked = subst (AreGroups row claims rows) (append-nil groups) (walked.leads [] (record { same_claims = refl; same_rows = refl; are_entries = tt }))

  no_rows : (rest : List R) (more : List (Group C)) → AreGroups row [] rest more → rest ≡ []
  no_rows rest [] are = sym are.same_rows
  no_rows rest (g ∷ more) are = let same = are.same_claims in absurd cc

  -- rows are left where no claims are
  pub rows_left : (claims : List C) (rows : List R) (groups : List (Group C)) (rest : List R) → rest ≢ [] → Walked row claims rows groups [] rest → AllApart row claims → HasNoGroups row claims rows
  rows_left claims rows groups rest some walked apart all are = let now = walked.left apart all are in some (no_rows rest now.1 now.2)

  -- one more claim, or the first rows are not its entries
  module _ (claims : List C) (rows : List R) (groups : List (Group C)) (i : ℕ) (rest : List R) (walked : Walked row claims rows groups (drop i claims) rest) (c : C) (low : i < length claims) (is : c ≡ get_or claims i c)
      (entries : List RoaPrefix) (first : entries ≡ first_entries (read c) rest) where
    at_claim : Walked row claims rows groups (c ∷ drop (i + 1) claims) rest
    at_claim = subst (λ l. Walked row claims rows groups l rest) (drop_more claims i c low ∙ ap (λ x. x ∷ drop (i + 1) claims) (sym is)) walked

    pub one_claim_more : (made : List RoaPrefix) (now : List (Group C)) (count : ℕ) (back : List R) → AreEntries made → made ≡ entries → count ≡ length entries → back ≡ drop count rest → now ≡ groups ++ record { claim = c; entries = made } ∷ []
        → Walked row claims rows now (drop (i + 1) claims) back
    one_claim_more made now count back fit same long left added =
        let whole = same ∙ first in
        let next = walked_more claims rows groups c (drop (i + 1) claims) rest (subst AreEntries whole fit) at_claim in
        let then = groups ++ record { claim = c; entries = first_entries (read c) rest } ∷ [] in
        let now_is : now ≡ then = added ∙ (λ k. groups ++ record { claim = c; entries = whole k } ∷ []) in
        let back_is = left ∙ ap (λ n. drop n rest) (long ∙ ap length first) in
        subst (λ l. Walked row claims rows l (drop (i + 1) claims) back) (sym now_is) (subst (Walked row claims rows then (drop (i + 1) claims)) (sym back_is) next)

    pub claim_unfit : ¬ AreEntries entries → AllApart row claims → HasNoGroups row claims rows
    claim_unfit unfit = unfit_entries claims rows groups c (drop (i + 1) claims) rest (λ fit. unfit (subst AreEntries (sym first) fit)) at_claim

  -- no claim is left
  pub no_claim_left : (claims : List C) (rows : List R) (groups : Vec (Group C)) (i : ℕ) (rest : List R) → length claims ≤ i → Walked row claims rows groups.items (drop i claims) rest
      → (is_empty : Bool) → is_empty ≡ (length rest == 0) → MatchOption (then_some is_empty groups) (AllApart row claims → HasNoGroups row claims rows) (λ found. AreGroups row claims rows found.items)
  no_claim_left claims rows groups i rest high walked = go
    where
      ended : Walked row claims rows groups.items [] rest
      ended = subst (λ l. Walked row claims rows groups.items l rest) (drop_of_length-le claims high) walked

      empty : (l : List R) → length l ≡ 0 → l ≡ []
      empty [] none = refl
      empty (r ∷ l) none = absurd (omega (arith, none))

      go : (is_empty : Bool) → is_empty ≡ (length rest == 0) → MatchOption (then_some is_empty groups) (AllApart row claims → HasNoGroups row claims rows) (λ found. AreGroups row claims rows found.items)
      go true told = walked_all claims rows groups.items (subst (Walked row claims rows groups.items []) (empty rest (eqb-true _ 0 (sym told))) ended)
      go false told = rows_left claims rows groups.items rest (λ none. false≢true (told ∙ eq-eqb (length rest) 0 (ap length none))) ended
