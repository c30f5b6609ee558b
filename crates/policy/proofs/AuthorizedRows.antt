-- The rows of an import that some authorization has the terms of.
use Rattle.policy.proofs.Vocabulary.{◌≡◌, ◌<◌, ◌+◌, ℕ, Bool, true, false, cond, ◌&&◌, ◌||◌, ◌==◌, List, [], ◌∷◌, ◌++◌, get_or, length, take, Option, Some, None, refl, ap, sym, ◌∙◌, or-false, list_any, BTreeSet, contains, prefix_eq, Auth, ImportRow, RoaPrefix, IsOfTerms, are_same, has_terms, is_entry, row_terms, AreAuthorized, row_of_auth, row_of_entries}
use Rattle.std.proofs.lemmas.List.Folds.{list_any-append, list_any_more}
use Rattle.std.specs.Ordering.{is_eq}
use Rattle.std.specs.BTreeMap.{is_at}
use Rattle.registry.specs.contracts.authorization.ImportRowOrd.TheImpl as ImportRowOrd
use Rattle.registry.proofs.RowOrder.{row_ties}

bracketed : (a b c d e : Bool) → ((a && ((b && c) && true)) && (d && e)) ≡ (a && (b && (c && (d && e))))
bracketed false b c d e = refl
bracketed true false c d e = refl
bracketed true true false d e = refl
bracketed true true true d e = refl

none : (a b c : Bool) → ((a && (b && false)) && c) ≡ false
none false b c = refl
none true false c = refl
none true true c = refl

or_last : (a b : Bool) → cond a true b ≡ (b || a)
or_last false false = refl
or_last false true = refl
or_last true false = refl
or_last true true = refl

-- the row ties with this one
abbrev ties_with : ImportRow → Option ImportRow → Bool
ties_with row None = false
ties_with row (Some own) = is_eq (ImportRowOrd.ghosts.cmp own row)

-- an authorization has the terms of a row exactly if it has one entry, and its own row ties with that
has_row : (row : ImportRow) (x : Auth) → has_terms (row_terms row) x ≡ ties_with row (row_of_auth x)
has_row row x = go x.entries
  where
    go : (es : List RoaPrefix) → (((x.asn.0 == row.asn.0) && are_same (row_terms row).entries es) && ((x.from == row.from) && (x.until == row.until))) ≡ ties_with row (row_of_entries x es)
    go [] = none (x.asn.0 == row.asn.0) true ((x.from == row.from) && (x.until == row.until))
    go (e ∷ []) =
        bracketed (x.asn.0 == row.asn.0) (prefix_eq e.prefix row.prefix) (e.max == row.max) (x.from == row.from) (x.until == row.until)
        ∙ row_ties (record { asn = x.asn; prefix = e.prefix; max = e.max; from = x.from; until = x.until }) row
    go (e ∷ d ∷ es) = none (x.asn.0 == row.asn.0) (is_entry row.prefix row.max e) ((x.from == row.from) && (x.until == row.until))

-- the rows of these authorizations and of one more
abbrev AreAuthorizedWith : BTreeSet ImportRow → List Auth → Auth → Type 0
AreAuthorizedWith rows auths x = (row : ImportRow) → contains ImportRowOrd.ghosts.cmp rows row ≡ (list_any (has_terms (row_terms row)) auths || has_terms (row_terms row) x)

row_put : (old new : BTreeSet ImportRow) (auths : List Auth) (x : Auth) (own : ImportRow) → row_of_auth x ≡ Some own
    → ((row : ImportRow) → contains ImportRowOrd.ghosts.cmp new row ≡ cond (is_at (ImportRowOrd.ghosts.cmp own) row) true (contains ImportRowOrd.ghosts.cmp old row))
    → AreAuthorized old auths → AreAuthorizedWith new auths x
row_put old new auths x own is updates are row =
    updates row ∙ ap (cond (is_at (ImportRowOrd.ghosts.cmp own) row) true) (are row) ∙ or_last (is_at (ImportRowOrd.ghosts.cmp own) row) (list_any (has_terms (row_terms row)) auths)
    ∙ ap (λ b. list_any (has_terms (row_terms row)) auths || b) (sym (has_row row x ∙ ap (ties_with row) is))

no_row_put : (rows : BTreeSet ImportRow) (auths : List Auth) (x : Auth) → row_of_auth x ≡ None → AreAuthorized rows auths → AreAuthorizedWith rows auths x
no_row_put rows auths x is are row =
    are row ∙ sym (or-false (list_any (has_terms (row_terms row)) auths)) ∙ ap (λ b. list_any (has_terms (row_terms row)) auths || b) (sym (has_row row x ∙ ap (ties_with row) is))

-- the first authorizations and the next one
module _ (auths : List Auth) (i : ℕ) (x : Auth) (low : i < length auths) (is : x ≡ get_or auths i x) where
  with_next : (rows : BTreeSet ImportRow) → AreAuthorizedWith rows (take i auths) x → AreAuthorized rows (take (i + 1) auths)
  with_next rows are row =
      let test = has_terms (row_terms row) in
      are row ∙ ap (λ y. list_any test (take i auths) || test y) is ∙ sym (list_any_more test auths i x low)

  pub one_row_more : (old new : BTreeSet ImportRow) (own : ImportRow) → row_of_auth x ≡ Some own
      → ((row : ImportRow) → contains ImportRowOrd.ghosts.cmp new row ≡ cond (is_at (ImportRowOrd.ghosts.cmp own) row) true (contains ImportRowOrd.ghosts.cmp old row))
      → AreAuthorized old (take i auths) → AreAuthorized new (take (i + 1) auths)
  one_row_more old new own told updates are = with_next new (row_put old new (take i auths) x own told updates are)

  pub no_row_more : (rows : BTreeSet ImportRow) → row_of_auth x ≡ None → AreAuthorized rows (take i auths) → AreAuthorized rows (take (i + 1) auths)
  no_row_more rows told are = with_next rows (no_row_put rows (take i auths) x told are)

pub row_authorized : (old new : BTreeSet ImportRow) (auths : List Auth) (x : Auth) (own : ImportRow) → IsOfTerms (row_terms own) x
    → ((row : ImportRow) → contains ImportRowOrd.ghosts.cmp new row ≡ cond (is_at (ImportRowOrd.ghosts.cmp own) row) true (contains ImportRowOrd.ghosts.cmp old row))
    → AreAuthorized old auths → AreAuthorized new (auths ++ x ∷ [])
row_authorized old new auths x own of_terms updates are row =
    let test = has_terms (row_terms row) in
    row_put old new auths x own (ap row_of_auth of_terms) updates are row
    ∙ ap (λ b. list_any test auths || b) (sym (or-false (test x))) ∙ sym (list_any-append test auths (x ∷ []))
