-- The columns that a query shows of a row.
use Rattle.store_tables.proofs.Vocabulary.{◌≡◌, ℕ, suc, List, [], ◌∷◌, map, drop, refl, ◌∙◌, Row, column, map-map, Term, col, eval, eval_all, Granted, Scope, All, Only, grant_cells, granted_row, columns}

-- a column of a row with its rowid is the one before it without
pub column_after : (r : Row) (at : ℕ) → column r (suc at) ≡ column (drop 1 r) at
column_after [] at = refl
column_after (v ∷ r) at = refl

abbrev pub shown_at : List ℕ → List Term
shown_at places = map (λ p. col 1 (suc p)) places

pub shown_columns : (places : List ℕ) (params r : Row) → eval_all (shown_at places) (params ∷ r ∷ []) ≡ columns places (drop 1 r)
shown_columns places params r = map-map (λ t. eval t (params ∷ r ∷ [])) (λ p. col 1 (suc p)) places ∙ (λ i. map (λ p. column_after r p i) places)

abbrev pub grant_places : List ℕ
grant_places = 1 ∷ 2 ∷ 3 ∷ 4 ∷ 5 ∷ 6 ∷ 7 ∷ []

pub grant_shown : (h : List ℕ) (g : Granted) → columns grant_places (granted_row h g) ≡ grant_cells g
grant_shown h g = go g.scope
  where
    go : (scope : Scope) → columns grant_places (granted_row h (record g { scope = scope })) ≡ grant_cells (record g { scope = scope })
    go All = refl
    go (Only p) = refl

abbrev pub exception_places : List ℕ
exception_places = 0 ∷ 1 ∷ 2 ∷ 3 ∷ 4 ∷ 5 ∷ 6 ∷ 7 ∷ []
