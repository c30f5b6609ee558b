-- Reading the members and the items of a JSON value, and the tree of a text.
use Rattle.std.proofs.Common.{◌≡◌, ℕ, ◌+◌, ◌<◌, inl, inr, length, take, get_or, List, [], ◌∷◌, ◌++◌, map, Bool, ◌||◌, String, string_bytes, Bor, refl, ap, sym, ◌∙◌, Some, None, Result, Ok, Err, if◌then◌else◌}
use Rattle.std.proofs.lemmas.Bool.{cases_Bool}
use Rattle.std.proofs.lemmas.List.{map-append, take_more}
use Rattle.std.proofs.lemmas.Str.{is_utf8-from_IsUtf8, IsUtf8-from_is_utf8}
use Rattle.std.specs.List.{list_any, list_all}
use Rattle.std.specs.Map.{keys_of}
use Rattle.std.specs.Str.{bytes_eq, IsUtf8, is_utf8}
use Rattle.std.specs.declared.alloc.Global.{Global}
use Rattle.serde_json.specs.Data.{Data}
use Rattle.serde_json.specs.Find.{as_object}
use Rattle.serde_json.specs.Read.{read}
use Rattle.serde_json.specs.View.{view, items_of, items_view, members_view}
use Rattle.serde_json.specs.declared.value.Value.{Value}
use Rattle.json_values.specs.Parts.{each, with_last}
use Rattle.json_values.specs.Tree.{has_only, is_among, list_of, only, tree_of}
use Rattle.json_values.proofs.PartsLemmas.{each-append}

-- ---- objects

is_among-now : (names : List (Bor (List ℕ))) (name : List ℕ) → is_among (map (λ n. n.now) names) name ≡ list_any (λ n. bytes_eq n.now name) names
is_among-now [] name = refl
is_among-now (n ∷ names) name = ap (λ b. bytes_eq n.now name || b) (is_among-now names name)

has_only-keys : (names : List (Bor (List ℕ))) (entries : List (String Global × Value)) →
    has_only (map (λ n. n.now) names) (members_view entries) ≡ list_all (λ key. list_any (λ n. bytes_eq n.now (string_bytes key)) names) (keys_of entries)
has_only-keys names [] = refl
has_only-keys names (e ∷ entries) = rw (is_among-now names (string_bytes e.0), has_only-keys names entries) refl

-- `only` from the test of an object's names
pub only-tested : {F : Type 0} (fault : F) (names : List (Bor (List ℕ))) (d : Data) (entries : List (String Global × Value)) (b : Bool) →
    Some (members_view entries) ≡ as_object d →
    b ≡ list_all (λ key. list_any (λ n. bytes_eq n.now (string_bytes key)) names) (keys_of entries) →
    (if b then Ok tt else Err fault) ≡ only fault (map (λ n. n.now) names) d
only-tested fault names d entries b seen tested = rw (← seen, has_only-keys names entries, ← tested) refl

-- ---- arrays

list_of-items_of : (ds : List Data) → list_of (items_of ds) ≡ ds
list_of-items_of [] = refl
list_of-items_of (d ∷ ds) = ap (λ rest. d ∷ rest) (list_of-items_of ds)

-- the items of an array, as a list
pub list_of-items_view : (values : List Value) → list_of (items_view values) ≡ map view values
list_of-items_view values = list_of-items_of (map view values)

-- one more item is read
pub each-more : {A F : Type 0} (number : F → ℕ) (reading : Data → Result A F) (values : List Value) (i : ℕ) (value : Value) (before after : Result (List A) F) (entry : Result A F) →
    i < length values → value ≡ get_or values i value → before ≡ each number reading (map view (take i values)) → entry ≡ reading (view value) →
    after ≡ with_last number before entry → after ≡ each number reading (map view (take (i + 1) values))
each-more number reading values i value before after entry below here so_far read added =
    let grown : take (i + 1) values ≡ take i values ++ value ∷ [] =
    take_more values i value below ∙ ap (λ v. take i values ++ v ∷ []) (sym here) in
    rw (added, so_far, read, grown, map-append view (take i values) (value ∷ []), each-append number reading (map view (take i values)) (view value)) refl

-- ---- texts

pub tree_of-text : (bytes : List ℕ) → IsUtf8 bytes → tree_of bytes ≡ read bytes
tree_of-text bytes text = rw (is_utf8-from_IsUtf8 bytes text) refl

pub tree_of-none : (bytes : List ℕ) → (IsUtf8 bytes → read bytes ≡ None) → tree_of bytes ≡ None
tree_of-none bytes refused =
    elim (cases_Bool (is_utf8 bytes)) [
      | inl text ↦ rw text (refused (IsUtf8-from_is_utf8 bytes text))
      | inr other ↦ rw other refl
    ]
