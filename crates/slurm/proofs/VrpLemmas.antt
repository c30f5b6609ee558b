-- A VRP is given by its parts, and `vrp_with` is the one of given parts.
use Rattle.slurm.proofs.Vocabulary.{◌≡◌, ℕ, ◌≤◌, ◌↔◌, true, false, IsSome, IfSome, Option, Some, None, refl, ap, ◌∙◌, subst, FitsMaxLength, width, Prefix, Asn, Vrp, vrp_if, vrp_with}
use Rattle.std.proofs.Math.Bridge.{le_prop}

abbrev vrp_at : (p : Prefix) (max : ℕ) (asn : Asn) → p.length ≤ max → max ≤ width p.family → Vrp
vrp_at p max asn low high = record { prefix = p; max = max; asn = asn; at_least_length = low; at_most_width = high }

same_facts : (v : Vrp) (low : v.prefix.length ≤ v.max) (high : v.max ≤ width v.prefix.family) → v ≡ vrp_at v.prefix v.max v.asn low high
same_facts v low high =
    ap (λ (l : v.prefix.length ≤ v.max). vrp_at v.prefix v.max v.asn l v.at_most_width) (le_prop v.at_least_length low)
    ∙ ap (λ (h : v.max ≤ width v.prefix.family). vrp_at v.prefix v.max v.asn low h) (le_prop v.at_most_width high)

same_parts : (v : Vrp) (p : Prefix) (max : ℕ) (asn : Asn) → v.prefix ≡ p → v.max ≡ max → v.asn ≡ asn → (low : p.length ≤ max) (high : max ≤ width p.family) → v ≡ vrp_at p max asn low high
same_parts v p max asn same_prefix same_max same_asn =
    let OfPrefix : Prefix → Type 0 = λ q. (low : q.length ≤ v.max) (high : v.max ≤ width q.family) → v ≡ vrp_at q v.max v.asn low high in
    let OfMax : ℕ → Type 0 = λ m. (low : p.length ≤ m) (high : m ≤ width p.family) → v ≡ vrp_at p m v.asn low high in
    let OfAsn : Asn → Type 0 = λ a. (low : p.length ≤ max) (high : max ≤ width p.family) → v ≡ vrp_at p max a low high in
    subst OfAsn same_asn (subst OfMax same_max (subst OfPrefix same_prefix (same_facts v)))

vrp_if-parts : (p : Prefix) (max : ℕ) (asn : Asn) (low : Dec (p.length ≤ max)) (high : Dec (max ≤ width p.family)) (found : Option Vrp) → IsSome found ↔ FitsMaxLength p max → IfSome found (λ v. (v.prefix ≡ p) × (v.max ≡ max) × (v.asn ≡ asn)) → found ≡ vrp_if p max asn low high
vrp_if-parts p max asn (yes low) (yes high) (Some v) there parts = ap Some (same_parts v p max asn parts.0 parts.1 parts.2 low high)
vrp_if-parts p max asn (yes low) (yes high) None there parts = let none : false ≡ true = there.1 (low, high) in cc
vrp_if-parts p max asn (yes low) (no high) (Some v) there parts = absurd (high (there.0 refl).1)
vrp_if-parts p max asn (yes low) (no high) None there parts = refl
vrp_if-parts p max asn (no low) high (Some v) there parts = absurd (low (there.0 refl).0)
vrp_if-parts p max asn (no low) high None there parts = refl

pub vrp_with-parts : (p : Prefix) (max : ℕ) (asn : Asn) (found : Option Vrp) → IsSome found ↔ FitsMaxLength p max → IfSome found (λ v. (v.prefix ≡ p) × (v.max ≡ max) × (v.asn ≡ asn)) → found ≡ vrp_with p max asn
vrp_with-parts p max asn found there parts = vrp_if-parts p max asn _ _ found there parts
