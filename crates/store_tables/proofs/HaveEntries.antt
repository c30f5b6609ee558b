-- That authorizations have entries stays so where the rows of a holder change.
use Rattle.store_tables.proofs.Vocabulary.{◌≡◌, ℕ, Bool, true, false, cond, ◌==◌, List, [], ◌∷◌, map, Option, Some, None, option_map, refl, sym, subst, same_name, same_name-true, AreEntries, Rows, replaced_by, Auth, EachHasEntries, HaveEntries}
use Rattle.store_tables.proofs.PartLemmas.{turned_at}

-- where there is no holder there is none without entries
pub none_have_entries : HaveEntries (λ h. None)
none_have_entries h r of = absurd cc

-- the rows of one holder were turned to rows whose authorizations have entries
pub turned_have_entries : (h : List ℕ) (to : Option Rows → Option Rows) (rows : List ℕ → Option Rows) → HaveEntries rows
    → ((r : Rows) → to (rows h) ≡ Some r → EachHasEntries r.auths) → HaveEntries (turned_at h to rows)
turned_have_entries h to rows have turned k r = go (same_name h k) refl
  where
    go : (b : Bool) → same_name h k ≡ b → cond b (to (rows k)) (rows k) ≡ Some r → EachHasEntries r.auths
    go true is of = turned r (subst (λ n. to (rows n) ≡ Some r) (sym (same_name-true h k is)) of)
    go false differ of = have k r of

-- they were edited so that it stays
pub edited_have_entries : (h : List ℕ) (edit : Rows → Rows) (rows : List ℕ → Option Rows) → ((r : Rows) → EachHasEntries r.auths → EachHasEntries (edit r).auths)
    → HaveEntries rows → HaveEntries (turned_at h (option_map edit) rows)
edited_have_entries h edit rows keeps have = turned_have_entries h (option_map edit) rows have (λ r. go (rows h) refl r)
  where
    go : (o : Option Rows) → rows h ≡ o → (r : Rows) → option_map edit o ≡ Some r → EachHasEntries r.auths
    go None is r of = absurd cc
    go (Some q) is r of = let same : edit q ≡ r = cc in subst (λ (s : Rows). EachHasEntries s.auths) same (keeps q (have h q is))

-- one of its authorizations was replaced by one that has entries; of some taken away and of others put `all-filter` and `all-append` say it
pub replaced_have_entries : (x : Auth) → AreEntries x.entries → (auths : List Auth) → EachHasEntries auths → EachHasEntries (map (replaced_by x) auths)
replaced_have_entries x are [] all = tt
replaced_have_entries x are (y ∷ auths) all = (go (y.number == x.number), replaced_have_entries x are auths all.1)
  where
    go : (b : Bool) → AreEntries (cond b x y).entries
    go true = are
    go false = all.0
