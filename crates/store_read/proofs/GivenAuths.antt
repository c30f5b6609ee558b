-- What a grant, a create and an amendment ask: whether an authorization of a holder gives a VRP, out of the entries that
-- give it, and how many authorizations were made.
use Rattle.store_read.proofs.Vocabulary.{◌≡◌, ℕ, ◌+◌, ◌<◌, ◌≤◌, nat_le, arith, ◌&&◌, ◌||◌, ◌==◌, Bool, true, false, cond, List, [], ◌∷◌, flat_map, filter, drop, length, get_or, Option, Some, None, refl, sym, ap, ap₂, ◌∙◌, IsPermutation, All, list_any, and-false, and-true, or-false, nat_tests, drop_more, All-nil, All-from_recursion, recursion_from_All, list_any-append, list_any-IsPermutation, all-filter, Asn, Auth, RoaPrefix, MOST_AUTHORIZATIONS, HolderRows, Rows, is_entry, are_shared, gives_some, FitIfAny, claim_of, entry_rows_of, EntryRowFits, claim_entry, items_if_any, EntryRow, list_any-map, auths_held, created_if_any, entries_given, gives_entry, AreCounted}
use Rattle.store_read.proofs.Loading.{entries_fit}

-- ---- tests of lists

pub any_kept : {X : Type 0} (p q : X → Bool) (xs : List X) → list_any p (filter q xs) ≡ list_any (λ x. p x && q x) xs
any_kept p q [] = refl
any_kept p q (x ∷ xs) =
    elim (q x) as (λ b. list_any p (cond b (x ∷ filter q xs) (filter q xs)) ≡ ((p x && b) || list_any (λ y. p y && q y) xs))
    [ true ↦ ap₂ ◌||◌ (sym (and-true (p x))) (any_kept p q xs) | false ↦ any_kept p q xs ∙ ap (λ b. b || list_any (λ y. p y && q y) xs) (sym (and-false (p x))) ]

pub any_each : {X Y : Type 0} (p : Y → Bool) (f : X → List Y) (xs : List X) → list_any p (flat_map f xs) ≡ list_any (λ x. list_any p (f x)) xs
any_each p f [] = refl
any_each p f (x ∷ xs) = list_any-append p (f x) (flat_map f xs) ∙ ap (λ b. list_any p (f x) || b) (any_each p f xs)

any_never : {X : Type 0} (xs : List X) → list_any (λ _. false) xs ≡ false
any_never [] = refl
any_never (x ∷ xs) = any_never xs

pub any_and : {X : Type 0} (b : Bool) (p : X → Bool) (xs : List X) → list_any (λ x. b && p x) xs ≡ (b && list_any p xs)
any_and true p xs = refl
any_and false p xs = any_never xs

or_swap : (p q r s : Bool) → ((p || q) || (r || s)) ≡ ((p || r) || (q || s))
or_swap true q r s = refl
or_swap false true true s = refl
or_swap false true false s = refl
or_swap false false r s = refl

any_or : {X : Type 0} (p q : X → Bool) (xs : List X) → list_any (λ x. p x || q x) xs ≡ (list_any p xs || list_any q xs)
any_or p q [] = refl
any_or p q (x ∷ xs) = ap (λ b. (p x || q x) || b) (any_or p q xs) ∙ or_swap (p x) (q x) (list_any p xs) (list_any q xs)

-- ---- out of the entries that give it

-- some authorization whose number passes a test gives the AS with an entry of the list
abbrev pub some_such_gives : (ℕ → Bool) → Asn → List RoaPrefix → List Auth → Bool
some_such_gives such asn es ys = list_any (λ y. such y.number && gives_some y asn es) ys

-- an authorization gives an entry where one of its rows does
row_gives : (such : ℕ → Bool) (asn : Asn) (e : RoaPrefix) (y : Auth) → list_any (λ r. such r.number && gives_entry asn e r) (entry_rows_of y) ≡ (such y.number && gives_some y asn (e ∷ []))
row_gives such asn e y =
    let passes = such y.number in
    let same = y.asn.0 == asn.0 in
    list_any-map (λ (r : EntryRow). such r.number && gives_entry asn e r) (claim_entry (claim_of y)) y.entries
    ∙ any_and passes (λ d. same && is_entry e.prefix e.max d) y.entries
    ∙ ap (λ b. passes && b) (any_and same (is_entry e.prefix e.max) y.entries ∙ ap (λ b. same && b) (sym (or-false (list_any (is_entry e.prefix e.max) y.entries))))

pub gives_out_of : (such : ℕ → Bool) (asn : Asn) (e : RoaPrefix) (o : Option Rows) (given : List EntryRow) → IsPermutation (items_if_any (entries_given asn e) o) given → list_any (λ r. such r.number) given ≡ some_such_gives such asn (e ∷ []) (auths_held o)
gives_out_of such asn e o given same = sym (list_any-IsPermutation (λ (r : EntryRow). such r.number) (items_if_any (entries_given asn e) o) given same) ∙ go o
  where
    go : (o : Option Rows) → list_any (λ (r : EntryRow). such r.number) (items_if_any (entries_given asn e) o) ≡ some_such_gives such asn (e ∷ []) (auths_held o)
    go None = refl
    go (Some r) =
        any_kept (λ (x : EntryRow). such x.number) (gives_entry asn e) (flat_map entry_rows_of r.auths)
        ∙ any_each (λ (x : EntryRow). such x.number && gives_entry asn e x) entry_rows_of r.auths
        ∙ (λ i. list_any (λ y. row_gives such asn e y i) r.auths)

-- entries that pass a test fit
pub tested_fit : (passes : EntryRow → Bool) (o : Option Rows) → FitIfAny o → All EntryRowFits (items_if_any (λ (r : Rows). filter passes (flat_map entry_rows_of r.auths)) o)
tested_fit passes None fit = All-nil EntryRowFits
tested_fit passes (Some r) fit = All-from_recursion EntryRowFits (filter passes (flat_map entry_rows_of r.auths)) (all-filter EntryRowFits passes _ (recursion_from_All EntryRowFits (flat_map entry_rows_of r.auths) (entries_fit (Some r) fit)))

-- ---- entry by entry

one_or_more : (passes same f g : Bool) → (passes && (same && (f || g))) ≡ ((passes && (same && (f || false))) || (passes && (same && g)))
one_or_more true true f g = ap (λ b. b || g) (sym (or-false f))
one_or_more true false f g = refl
one_or_more false same f g = refl

pub gives_none : (such : ℕ → Bool) (asn : Asn) (ys : List Auth) → some_such_gives such asn [] ys ≡ false
gives_none such asn ys = (λ i. list_any (λ (y : Auth). none (such y.number) (y.asn.0 == asn.0) i) ys) ∙ any_never ys
  where
    none : (passes same : Bool) → (passes && (same && false)) ≡ false
    none passes same = ap (λ b. passes && b) (and-false same) ∙ and-false passes

gives_more : (such : ℕ → Bool) (asn : Asn) (e : RoaPrefix) (es : List RoaPrefix) (ys : List Auth) → some_such_gives such asn (e ∷ es) ys ≡ (some_such_gives such asn (e ∷ []) ys || some_such_gives such asn es ys)
gives_more such asn e es ys =
    (λ i. list_any (λ (y : Auth). one_or_more (such y.number) (y.asn.0 == asn.0) (list_any (is_entry e.prefix e.max) y.entries) (are_shared y.entries es) i) ys)
    ∙ any_or (λ (y : Auth). such y.number && gives_some y asn (e ∷ [])) (λ y. such y.number && gives_some y asn es) ys

-- the entries from one on
pub gives_from : (such : ℕ → Bool) (asn : Asn) (es : List RoaPrefix) (i : ℕ) (e : RoaPrefix) (ys : List Auth) → i < length es → e ≡ get_or es i e → some_such_gives such asn (drop i es) ys ≡ (some_such_gives such asn (e ∷ []) ys || some_such_gives such asn (drop (i + 1) es) ys)
gives_from such asn es i e ys low is =
    ap (λ l. some_such_gives such asn l ys) (drop_more es i e low ∙ ap (λ d. d ∷ drop (i + 1) es) (sym is))
    ∙ gives_more such asn e (drop (i + 1) es) ys

-- ---- how many were made

pub created_shown : (o : Option Rows) (part : HolderRows) → AreCounted o (Some part) → part.created ≡ created_if_any o
created_shown None part are = absurd (let c = are.created in cc)
created_shown (Some r) part are = let c = are.created in cc

pub none_created : (o : Option Rows) → AreCounted o None → 0 ≡ created_if_any o
none_created None are = refl
none_created (Some r) are = absurd (let c = are.created in cc)

not_as_many : (m n : ℕ) → n < m → nat_le m n ≡ false
not_as_many m n less = grind (arith, nat_tests, less)

as_many : (m n : ℕ) → m ≤ n → nat_le m n ≡ true
as_many m n less = grind (arith, nat_tests, less)

-- nobody has too many where too few were made
pub few_made : (made many : ℕ) → made < MOST_AUTHORIZATIONS → false ≡ (nat_le MOST_AUTHORIZATIONS made && nat_le MOST_AUTHORIZATIONS many)
few_made made many few = ap (λ b. b && nat_le MOST_AUTHORIZATIONS many) (sym (not_as_many MOST_AUTHORIZATIONS made few))

pub enough_made : (made many : ℕ) → MOST_AUTHORIZATIONS ≤ made → nat_le MOST_AUTHORIZATIONS many ≡ (nat_le MOST_AUTHORIZATIONS made && nat_le MOST_AUTHORIZATIONS many)
enough_made made many enough = ap (λ b. b && nat_le MOST_AUTHORIZATIONS many) (sym (as_many MOST_AUTHORIZATIONS made enough))
