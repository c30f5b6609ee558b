-- What the tests of a WHERE are, at a row that begins with its rowid.
use Rattle.store_tables.proofs.Vocabulary.{◌≡◌, ℕ, suc, Bool, true, false, List, [], ◌∷◌, drop, Some, ℤ, refl, sym, ap, ◌∙◌, is_eq, Binary, Value, Null, Int, Real, Text, Blob, Row, column, value_cmp, value_cmp-apart, Eq, Compare, last_term, is_name_of}
use Rattle.sqlite_sql.specs.Ops.{binary, is_true, from_truth}
use Rattle.store_tables.proofs.Columns.{column_after}
use Rattle.store_tables.proofs.PartLemmas.{names}
use Rattle.store_tables.proofs.Selecting.{picks}
use Rattle.store_tables.proofs.Texts.{equals}

true_back : (b : Bool) → is_true (from_truth (Some b)) ≡ b
true_back true = refl
true_back false = refl

-- a comparison with a text, with a number and with bytes
pub equals_text : (v : Value) (t : List ℕ) → is_true (binary (Compare Eq Binary) v (Text t)) ≡ is_eq (value_cmp v (Text t))
unfolding binary
equals_text Null t = sym (ap is_eq (value_cmp-apart Null (Text t) (λ e. cc)))
equals_text (Int n) t = true_back _
equals_text (Real x) t = true_back _
equals_text (Text u) t = true_back _
equals_text (Blob b) t = true_back _

pub equals_int : (v : Value) (z : ℤ) → is_true (binary (Compare Eq Binary) v (Int z)) ≡ is_eq (value_cmp v (Int z))
unfolding binary
equals_int Null z = sym (ap is_eq (value_cmp-apart Null (Int z) (λ e. cc)))
equals_int (Int n) z = true_back _
equals_int (Real x) z = true_back _
equals_int (Text u) z = true_back _
equals_int (Blob b) z = true_back _

pub equals_blob : (v : Value) (b : List ℕ) → is_true (binary (Compare Eq Binary) v (Blob b)) ≡ is_eq (value_cmp v (Blob b))
unfolding binary
equals_blob Null b = sym (ap is_eq (value_cmp-apart Null (Blob b) (λ e. cc)))
equals_blob (Int n) b = true_back _
equals_blob (Real x) b = true_back _
equals_blob (Text u) b = true_back _
equals_blob (Blob c) b = true_back _

-- the test of a statement on the rows of a holder
pub holder_test : (place : ℕ) (h : List ℕ) (more r : Row) → picks (Text h ∷ more) (equals (suc place) 0 ∷ []) r ≡ names place h (drop 1 r)
holder_test place h more r = last_term (equals_text (column r (suc place)) h ∙ ap (is_name_of h) (column_after r place))
