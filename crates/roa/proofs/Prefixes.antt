-- Two entries with the same numbers are equal.
use Rattle.roa.proofs.Vocabulary.{◌≡◌, ℕ, ap, ◌∙◌, same_prefix, Prefix, Numbers, numbers}
use Rattle.addr.specs.declared.roa_prefix.RoaPrefix.{RoaPrefix as Entry}

abbrev entry_made : Prefix → ℕ → Entry
entry_made p m = record { prefix = p; max = m }

pub same_entry : (a b : Entry) → numbers a ≡ numbers b → a ≡ b
same_entry a b e =
    let prefix : a.prefix ≡ b.prefix = same_prefix a.prefix b.prefix (ap (λ (n : Numbers). n.family) e) (ap (λ (n : Numbers). n.first) e) (ap (λ (n : Numbers). n.length) e) in
    let max : a.max ≡ b.max = ap (λ (n : Numbers). n.max) e in
    ap (λ (p : Prefix). entry_made p a.max) prefix ∙ ap (λ (m : ℕ). entry_made b.prefix m) max
