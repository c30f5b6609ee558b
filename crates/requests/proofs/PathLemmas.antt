-- The path of a target without a query.
use Rattle.requests.proofs.Vocabulary.{◌≡◌, ℕ, false, List, None, sym, refl, IsUtf8, is_utf8, false_from_ne_true, has_query, path_at, path_of}
use Rattle.std.proofs.lemmas.Str.{is_utf8-from_IsUtf8, IsUtf8-from_is_utf8}

pub path_of-bytes : (target : List ℕ) → false ≡ has_query target → ¬ (IsUtf8 target) → None ≡ path_of target
path_of-bytes target no_query no_text =
    rw (sym no_query, false_from_ne_true (is_utf8 target) (λ text. no_text (IsUtf8-from_is_utf8 target text))) refl

pub path_of-text : (target : List ℕ) → false ≡ has_query target → IsUtf8 target → path_of target ≡ path_at target
path_of-text target no_query text = rw (sym no_query, is_utf8-from_IsUtf8 target text) refl
