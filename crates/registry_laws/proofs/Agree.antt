-- Histories that agree on all that a holder has.
use Rattle.registry_laws.proofs.Vocabulary.{◌≡◌, ℕ, ◌<◌, ◌≤◌, true, false, ◌||◌, cond, List, ◌∷◌, ◌↔◌, Option, Some, None, refl, sym, ap, ◌∙◌, subst, IfSome_then, Address, has_address, Prefix, RoaPrefix, Auth, Command, Delegate, Transfer, Reclaim, Entry, History, registers, is_registered, holder_after, resource_holder, is_held_by, HoldsPrefix, HoldsEntries, granted_after, grants_after, grants_made, grant_terms, created_after, terms_after, authorizations_made, authorization_terms, HeldSinceMade, Keeps, AreActive, Rows, RowsIfAny, held_by_same, Keeps-same, authorization_terms-numbered}
use Rattle.std.specs.Option.{IfSome}

-- numbers are from 1, so the last fact leaves out the number 0
pub record Agree (one other : History) (h : List ℕ) : Type 0 where
  pub registered : is_registered one h ≡ is_registered other h
  pub holders : (a : Address) → is_held_by h (resource_holder one a) ≡ is_held_by h (resource_holder other a)
  pub grants : grant_terms one h ≡ grant_terms other h
  pub granted : grants_made one h ≡ grants_made other h
  pub terms : authorization_terms one h ≡ authorization_terms other h
  pub created : authorizations_made one h ≡ authorizations_made other h
  pub since : (x : Auth) → 0 < x.number → HeldSinceMade one h x ↔ HeldSinceMade other h x

pub agree-same : (history : History) (h : List ℕ) → Agree history history h
agree-same history h = record {
  registered = refl;
  holders = λ a. refl;
  grants = refl;
  granted = refl;
  terms = refl;
  created = refl;
  since = λ x positive. (λ s. s, λ s. s);
}

pub agree-sym : {one other : History} {h : List ℕ} → Agree one other h → Agree other one h
agree-sym same = record {
  registered = sym same.registered;
  holders = λ a. sym (same.holders a);
  grants = sym same.grants;
  granted = sym same.granted;
  terms = sym same.terms;
  created = sym same.created;
  since = λ x positive. ((same.since x positive).1, (same.since x positive).0);
}

pub agree-trans : {one other third : History} {h : List ℕ} → Agree one other h → Agree other third h → Agree one third h
agree-trans same next = record {
  registered = same.registered ∙ next.registered;
  holders = λ a. same.holders a ∙ next.holders a;
  grants = same.grants ∙ next.grants;
  granted = same.granted ∙ next.granted;
  terms = same.terms ∙ next.terms;
  created = same.created ∙ next.created;
  since = λ x positive. (λ s. (next.since x positive).0 ((same.since x positive).0 s), λ s. (same.since x positive).1 ((next.since x positive).1 s));
}

-- they agree on what the holder has that a command names, where it names one
abbrev pub AgreeIfNamed : History → History → Option (List ℕ) → Type 0
AgreeIfNamed one other named = IfSome named (λ h. Agree one other h)

pub agree-sym-named : (one other : History) (named : Option (List ℕ)) → AgreeIfNamed one other named → AgreeIfNamed other one named
agree-sym-named one other named same = IfSome_then named same (λ h is. agree-sym is)

-- what is held on the one is held on the other
pub agree-holds : {one other : History} {h : List ℕ} → Agree one other h → (p : Prefix) → HoldsPrefix one h p → HoldsPrefix other h p
agree-holds {one} {other} {h} same p holds a has = held_by_same h (resource_holder one a) (resource_holder other a) (sym (same.holders a)) (holds a has)

pub agree-holds_entries : {one other : History} {h : List ℕ} → Agree one other h → (es : List RoaPrefix) → HoldsEntries one h es → HoldsEntries other h es
agree-holds_entries {one} {other} {h} same es holds a has = held_by_same h (resource_holder one a) (resource_holder other a) (sym (same.holders a)) (holds a has)

pub agree-active : {one other : History} {h : List ℕ} → Agree one other h → (active : List Auth) → AreActive one h active → AreActive other h active
agree-active {one} {other} {h} same active are =
    subst (λ (xs : List Auth). Keeps (HeldSinceMade other h) xs active) same.terms
    (Keeps-same (HeldSinceMade one h) (HeldSinceMade other h) 0 (authorization_terms one h) active (authorizations_made one h)
    (authorization_terms-numbered one h) (λ x positive below. same.since x positive) are)

pub agree-rows : {one other : History} {h : List ℕ} → Agree one other h → (rows : Option Rows) → RowsIfAny one h rows → RowsIfAny other h rows
agree-rows same None missing = sym same.registered ∙ missing
agree-rows same (Some rows) had = (
  sym same.registered ∙ had.0,
  record {
    apart = had.1.apart;
    holdings = λ a. had.1.holdings a ∙ same.holders a;
    grants = had.1.grants ∙ same.grants;
    auths = agree-active same rows.auths had.1.auths;
    granted = had.1.granted ∙ same.granted;
    created = had.1.created ∙ same.created;
  },
)

-- who holds an address after a command, as far as the holder goes
held_after : (c : Command) (h : List ℕ) (a : Address) (o p : Option (List ℕ)) → is_held_by h o ≡ is_held_by h p
    → is_held_by h (holder_after c a o) ≡ is_held_by h (holder_after c a p)
held_after (Delegate holder q) h a o p same =
    elim (has_address q a) as (λ b. is_held_by h (cond b (Some holder) o) ≡ is_held_by h (cond b (Some holder) p)) [ true ↦ refl | false ↦ same ]
held_after (Transfer q giver taker) h a o p same =
    elim (has_address q a) as (λ b. is_held_by h (cond b (Some taker) o) ≡ is_held_by h (cond b (Some taker) p)) [ true ↦ refl | false ↦ same ]
held_after (Reclaim holder q) h a o p same =
    elim (has_address q a) as (λ b. is_held_by h (cond b None o) ≡ is_held_by h (cond b None p)) [ true ↦ refl | false ↦ same ]
held_after _ h a o p same = same

-- an authorization held since its making on the one, where what is held and made after the entry is the same
since_after : (e : Entry) (one other : History) (h : List ℕ) (x : Auth)
    → ((a : Address) → is_held_by h (resource_holder (e ∷ other) a) ≡ is_held_by h (resource_holder (e ∷ one) a))
    → authorizations_made (e ∷ other) h ≡ authorizations_made (e ∷ one) h
    → (HeldSinceMade one h x → HeldSinceMade other h x) → HeldSinceMade (e ∷ one) h x → HeldSinceMade (e ∷ other) h x
since_after e one other h x holders created since had = (
  λ made. λ a has. held_by_same h (resource_holder (e ∷ one) a) (resource_holder (e ∷ other) a) (holders a)
      (had.0 (subst (λ (k : ℕ). x.number ≤ k) created made) a has),
  since had.1,
)

-- one more entry on both
pub agree-after : {one other : History} {h : List ℕ} (e : Entry) → Agree one other h → Agree (e ∷ one) (e ∷ other) h
agree-after {one} {other} {h} e same =
    let c = e.command in
    let holders : (a : Address) → is_held_by h (resource_holder (e ∷ one) a) ≡ is_held_by h (resource_holder (e ∷ other) a) =
    λ a. held_after c h a (resource_holder one a) (resource_holder other a) (same.holders a) in
    let created : authorizations_made (e ∷ one) h ≡ authorizations_made (e ∷ other) h = ap (created_after c h) same.created in
    record {
      registered = ap (λ b. registers c h || b) same.registered;
      holders = holders;
      grants = ap (λ n. grants_after c h n (grant_terms one h)) same.granted ∙ ap (grants_after c h (grants_made other h)) same.grants;
      granted = ap (granted_after c h) same.granted;
      terms = ap (λ n. terms_after c h n (authorization_terms one h)) same.created ∙ ap (terms_after c h (authorizations_made other h)) same.terms;
      created = created;
      since = λ x positive. (
        since_after e one other h x (λ a. sym (holders a)) (sym created) (same.since x positive).0,
        since_after e other one h x holders created (same.since x positive).1,
      );
    }
