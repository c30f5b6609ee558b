-- Tests of equality that pass, and what they say.
use Rattle.addr.proofs.Vocabulary.{◌≡◌, ◌≢◌, ◌⊎◌, inl, inr, true, false, refl, subst, arith, ◌&&◌, ◌==◌, and_parts, and_from, eqb-true, eq-eqb, prefix_eq, same_prefix, family_eq, Family, V4, V6, span_eq, same_span, Prefix, Span}

-- what the test means, for `grind`
pub family_tells : (f g : Family) → ((family_eq f g ≡ true) × (f ≡ g)) ⊎ ((family_eq f g ≡ false) × (f ≢ g))
family_tells V4 V4 = inl (refl, refl)
family_tells V4 V6 = inr (refl, λ e. cc)
family_tells V6 V4 = inr (refl, λ e. cc)
family_tells V6 V6 = inl (refl, refl)

pub same_family : (f g : Family) → family_eq f g ≡ true → f ≡ g
same_family f g is = grind (arith, family_tells)

pub family_itself : (f : Family) → family_eq f f ≡ true
family_itself f = grind (arith, family_tells)

pub equal_family : (f g : Family) → f ≡ g → family_eq f g ≡ true
equal_family f g same = subst (λ (h : Family). family_eq f h ≡ true) same (family_itself f)

pub equal_prefix : (p q : Prefix) → prefix_eq p q ≡ true → p ≡ q
equal_prefix p q is =
    let both = and_parts (family_eq p.family q.family) ((p.first == q.first) && (p.length == q.length)) is in
    let ends = and_parts (p.first == q.first) (p.length == q.length) both.1 in
    same_prefix p q (same_family p.family q.family both.0) (eqb-true p.first q.first ends.0) (eqb-true p.length q.length ends.1)

pub prefix_itself : (p : Prefix) → prefix_eq p p ≡ true
prefix_itself p = and_from _ _ (family_itself p.family) (and_from _ _ (eq-eqb p.first p.first refl) (eq-eqb p.length p.length refl))

pub equal_span : (s t : Span) → span_eq s t ≡ true → s ≡ t
equal_span s t is =
    let both = and_parts (family_eq s.family t.family) ((s.lo == t.lo) && (s.hi == t.hi)) is in
    let ends = and_parts (s.lo == t.lo) (s.hi == t.hi) both.1 in
    same_span s t (same_family s.family t.family both.0) (eqb-true s.lo t.lo ends.0) (eqb-true s.hi t.hi ends.1)

pub span_itself : (s : Span) → span_eq s s ≡ true
span_itself s = and_from _ _ (family_itself s.family) (and_from _ _ (eq-eqb s.lo s.lo refl) (eq-eqb s.hi s.hi refl))
