-- A loop over the entries that writes those of a family.
use Rattle.roa.proofs.Vocabulary.{◌≡◌, ℕ, ◌+◌, ◌<◌, Bool, true, false, cond, List, [], ◌∷◌, ◌++◌, length, get_or, take, sym, ap, ◌∙◌, append_assoc, flat_map, append-nil, flat_map-cons, filter_more, family_eq, Family, of_family, entry_octets}
use Rattle.std.proofs.lemmas.Grind.{flat_map-append}
use Rattle.addr.specs.declared.roa_prefix.RoaPrefix.{RoaPrefix as Entry}

abbrev written : Family → List Entry → List ℕ
written family es = flat_map entry_octets (of_family family es)

more : (family : Family) (es : List Entry) (i : ℕ) (e : Entry) (b : Bool) → i < length es → e ≡ get_or es i e → family_eq family e.prefix.family ≡ b
    → of_family family (take (i + 1) es) ≡ of_family family (take i es) ++ cond b (e ∷ []) []
more family es i e b lt is same =
    filter_more (λ (x : Entry). family_eq family x.prefix.family) es i e lt
    ∙ ap (λ (x : Entry). of_family family (take i es) ++ cond (family_eq family x.prefix.family) (x ∷ []) []) (sym is)
    ∙ ap (λ (t : Bool). of_family family (take i es) ++ cond t (e ∷ []) []) same

pub written_more : (old out : List ℕ) (family : Family) (es : List Entry) (i : ℕ) (e : Entry) → i < length es → e ≡ get_or es i e → family_eq family e.prefix.family ≡ true
    → out ≡ old ++ written family (take i es) → out ++ entry_octets e ≡ old ++ written family (take (i + 1) es)
written_more old out family es i e lt is same so_far =
    let one : written family (take (i + 1) es) ≡ written family (take i es) ++ entry_octets e =
    ap (flat_map entry_octets) (more family es i e true lt is same)
    ∙ flat_map-append entry_octets (of_family family (take i es)) (e ∷ [])
    ∙ ap (λ (x : List ℕ). written family (take i es) ++ x) (flat_map-cons entry_octets e [] ∙ append-nil (entry_octets e)) in
    ap (λ (x : List ℕ). x ++ entry_octets e) so_far ∙ append_assoc old (written family (take i es)) (entry_octets e) ∙ ap (λ (x : List ℕ). old ++ x) (sym one)

pub written_same : (old out : List ℕ) (family : Family) (es : List Entry) (i : ℕ) (e : Entry) → i < length es → e ≡ get_or es i e → family_eq family e.prefix.family ≡ false
    → out ≡ old ++ written family (take i es) → out ≡ old ++ written family (take (i + 1) es)
written_same old out family es i e lt is other so_far =
    so_far ∙ ap (λ (x : List Entry). old ++ flat_map entry_octets x) (sym (more family es i e false lt is other ∙ append-nil (of_family family (take i es))))
