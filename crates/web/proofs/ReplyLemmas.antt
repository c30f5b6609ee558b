-- Lemmas on texts that are written piece by piece.
use Rattle.web.proofs.Vocabulary.{◌≡◌, ℕ, ◌+◌, ◌<◌, Bool, true, false, List, [], ◌∷◌, ◌++◌, length, map, drop, get_or, refl, sym, ap, ◌∙◌, append_assoc, add-one, drop-cons, append-nil, after_commas, item_after, items_left, comma_joined, entries_list, entries_text, AppendsBeginning}
use Rattle.addr.specs.declared.roa_prefix.RoaPrefix.{RoaPrefix}

-- a beginning of a text is one of a longer text
pub AppendsBeginning-longer : (old new first rest : List ℕ) → AppendsBeginning old new first → AppendsBeginning old new (first ++ rest)
AppendsBeginning-longer old new first rest begins =
    (begins.0, begins.1 ++ rest, begins.2, ap (λ u. u ++ rest) begins.3 ∙ append_assoc begins.0 begins.1 rest)

-- what comes before was written whole
pub AppendsBeginning-after : (old middle new first rest : List ℕ) → middle ≡ old ++ first → AppendsBeginning middle new rest → AppendsBeginning old new (first ++ rest)
AppendsBeginning-after old middle new first rest whole begins = (
  first ++ begins.0,
  begins.1,
  begins.2 ∙ ap (λ u. u ++ begins.0) whole ∙ append_assoc old first begins.0,
  ap (λ u. first ++ u) begins.3 ∙ sym (append_assoc first begins.0 begins.1),
)

comma_joined-cons : (text : List ℕ) (texts : List (List ℕ)) → comma_joined (text ∷ texts) ≡ text ++ after_commas texts
comma_joined-cons text [] = sym (append-nil text)
comma_joined-cons text (next ∷ texts) = ap (λ u. text ++ (44 ∷ u)) (comma_joined-cons next texts)

pub items_left-cons : (is_first : Bool) (text : List ℕ) (texts : List (List ℕ))
    → items_left is_first (text ∷ texts) ≡ item_after is_first text ++ items_left false texts
items_left-cons true text texts = comma_joined-cons text texts
items_left-cons false text texts = refl

drop-next : {T : Type 0} (items : List T) (index : ℕ) (item : T) → index < length items
    → drop index items ≡ get_or items index item ∷ drop (index + 1) items
drop-next items index item below = rw add-one (drop-cons items index item below)

-- the item at an index, and those after it
pub items_left-at : {T : Type 0} (text_of : T → List ℕ) (items : List T) (index : ℕ) (item : T) (is_first : Bool)
    → index < length items → item ≡ get_or items index item
    → items_left is_first (map text_of (drop index items))
    ≡ item_after is_first (text_of item) ++ items_left false (map text_of (drop (index + 1) items))
items_left-at text_of items index item is_first below here =
    ap (λ rest. items_left is_first (map text_of rest)) (drop-next items index item below)
    ∙ ap (λ i. items_left is_first (map text_of (i ∷ drop (index + 1) items))) (sym here)
    ∙ items_left-cons is_first (text_of item) (map text_of (drop (index + 1) items))

-- ---- authorizations

-- the parts of an authorization with a list of its entries
pub auth-parts : (separator start opening items closing end : List ℕ)
    → separator ++ ((start ++ ((opening ++ items) ++ closing)) ++ end) ≡ ((separator ++ start) ++ opening) ++ (items ++ (closing ++ end))
auth-parts separator start opening items closing end = simp (append_assoc)

-- the text of entries that are not one entry
pub several_entries : (es : List RoaPrefix) → (length es ≡ 1 → ⊥) → entries_text es ≡ entries_list es
several_entries [] other = refl
several_entries (e ∷ []) other = absurd (other refl)
several_entries (d ∷ e ∷ es) other = refl
