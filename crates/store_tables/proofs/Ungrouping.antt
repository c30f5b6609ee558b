-- Authorizations are those of claims with their entries.
use Rattle.store_tables.proofs.Vocabulary.{◌≡◌, List, [], ◌∷◌, map, refl, sym, ap, ◌∙◌, all-map, map-map, AreEntries, Auth, Claim, EntryRow, Group, AreAuths, HasNoAuths, NumbersRise, claim_of, entry_rows_of, AllApart, AreGroups, HasNoGroups, claim_entry, group_rows}
use Rattle.sqlite_keyed.proofs.ListLemmas.{flat_map-map}
use Rattle.store_tables.specs.steps.Ungrouping.{auth_of, group_of}
use Rattle.store_tables.proofs.GroupNeeds.{claims_grouped_once, numbers_apart}

auths_of_groups : (auths : List Auth) → map auth_of (map group_of auths) ≡ auths
auths_of_groups [] = refl
auths_of_groups (x ∷ auths) = ap (λ l. x ∷ l) (auths_of_groups auths)

module _ (claims : List Claim) (rows : List EntryRow) where
  pub grouped : (auths : List Auth) → AreAuths claims rows auths → AreGroups claim_entry claims rows (map group_of auths)
  grouped auths are = record {
    same_claims = map-map (λ (g : Group Claim). g.claim) group_of auths ∙ are.same_claims;
    same_rows = flat_map-map (group_rows claim_entry) group_of auths ∙ are.same_rows;
    are_entries = all-map (λ (g : Group Claim). AreEntries g.entries) group_of auths are.have_entries;
  }

  pub ungrouped : (groups : List (Group Claim)) → AreGroups claim_entry claims rows groups → AreAuths claims rows (map auth_of groups)
  ungrouped groups are = record {
    same_claims = map-map claim_of auth_of groups ∙ are.same_claims;
    same_rows = flat_map-map entry_rows_of auth_of groups ∙ are.same_rows;
    have_entries = all-map (λ (x : Auth). AreEntries x.entries) auth_of groups are.are_entries;
  }

  pub no_auths : (AllApart claim_entry claims → HasNoGroups claim_entry claims rows) → NumbersRise claims → HasNoAuths claims rows
  no_auths none rise auths are = none (numbers_apart claims rise) (map group_of auths) (grouped auths are)

  -- two lists are those of no other authorizations
  pub auths_once : (one other : List Auth) → NumbersRise claims → AreAuths claims rows one → AreAuths claims rows other → one ≡ other
  auths_once one other rise first second =
      let same = claims_grouped_once claims rows (map group_of one) (map group_of other) rise (grouped one first) (grouped other second) in
      sym (auths_of_groups one) ∙ ap (map auth_of) same ∙ auths_of_groups other
