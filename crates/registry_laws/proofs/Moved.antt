-- A transfer or a reclaim ends just the authorizations of the former holder that share an address with
-- the prefix.
use Rattle.registry_laws.proofs.Vocabulary.{◌≡◌, ℕ, true, false, cond, List, ◌∷◌, Option, inl, inr, Some, None, refl, sym, ap, ◌∙◌, subst, Contains, cases_Bool, cond-true, cond-false, false≢true, Address, has_address, Prefix, Auth, Charter, Command, Transfer, Reclaim, Entry, History, same_name, resource_holder, is_held_by, HoldsPrefix, authorizations_made, authorization_terms, Verdict, same_name-same, same_name-true, same_name-false, held_by_itself, LosesNothing, since_more, within}
use Rattle.registry_laws.specs.Ended.{TakesFrom, EndsJustOverlapping}
use Rattle.registry.proofs.Ended.{LosesPrefix, since_ended}

-- a command that leaves the terms of every holder, and what it changes of who holds what
record Takes (e : Entry) (before : History) (former : List ℕ) (p : Prefix) : Type 0 where
  terms : (h : List ℕ) → authorization_terms (e ∷ before) h ≡ authorization_terms before h
  created : (h : List ℕ) → authorizations_made (e ∷ before) h ≡ authorizations_made before h
  loses : LosesPrefix e before former p
  others : (h : List ℕ) → same_name former h ≡ false → LosesNothing e before h

-- the holder of an address of a prefix that another gets, or nobody
lost_to : (former : List ℕ) (to : Option (List ℕ)) (p : Prefix) (a : Address) (held : Option (List ℕ)) → is_held_by former to ≡ false
    → has_address p a ≡ true → cond (has_address p a) to held ≡ Some former → ⊥
lost_to former to p a held other has is =
    false≢true (sym other ∙ ap (is_held_by former) (sym (cond-true _ _ _ has) ∙ is) ∙ held_by_itself former)

-- another holder keeps what it has
kept_by : (before : History) (former h : List ℕ) (to : Option (List ℕ)) (p : Prefix) (a : Address) → HoldsPrefix before former p
    → same_name former h ≡ false → resource_holder before a ≡ Some h → cond (has_address p a) to (resource_holder before a) ≡ Some h
kept_by before former h to p a holds other is =
    elim (cases_Bool (has_address p a)) [
      | inl t ↦ absurd (false≢true (sym other ∙ ap (is_held_by h) (sym (holds a t) ∙ is) ∙ held_by_itself h))
      | inr f ↦ cond-false _ _ _ f ∙ is
    ]

taken : (charter : Charter) (before : History) (day : ℕ) (caller : List ℕ) (c : Command) (former : List ℕ) (p : Prefix)
    → Verdict charter before day caller c None → TakesFrom c former p → Takes (record { day = day; caller = caller; command = c }) before former p
taken charter before day caller (Transfer q giver taker) former p accepted takes =
    let other : same_name taker former ≡ false = subst (λ (g : List ℕ). same_name taker g ≡ false) (sym takes.0) (same_name-false giver taker accepted.1.1.0) in
    let holds : HoldsPrefix before former q = subst (λ (g : List ℕ). HoldsPrefix before g q) (sym takes.0) accepted.1.1.1.0 in
    record {
      terms = λ h. refl;
      created = λ h. refl;
      loses = record {
        lost = λ a has. lost_to former (Some taker) q a (resource_holder before a) other (subst (λ (r : Prefix). has_address r a ≡ true) takes.1 has);
        others = λ a apart_from. cond-false _ _ _ (subst (λ (r : Prefix). has_address r a ≡ false) takes.1 apart_from);
      };
      others = λ h differ a is. kept_by before former h (Some taker) q a holds differ is;
    }
taken charter before day caller (Reclaim holder q) former p accepted takes =
    let holds : HoldsPrefix before former q = subst (λ (g : List ℕ). HoldsPrefix before g q) (sym takes.0) accepted.1.1.0 in
    record {
      terms = λ h. refl;
      created = λ h. refl;
      loses = record {
        lost = λ a has. lost_to former None q a (resource_holder before a) refl (subst (λ (r : Prefix). has_address r a ≡ true) takes.1 has);
        others = λ a apart_from. cond-false _ _ _ (subst (λ (r : Prefix). has_address r a ≡ false) takes.1 apart_from);
      };
      others = λ h differ a is. kept_by before former h None q a holds differ is;
    }
taken charter before day caller _ former p accepted takes = absurd takes

pub ends_just_overlapping : EndsJustOverlapping
ends_just_overlapping charter e before former p legal takes h x =
    let taking = taken charter before e.day e.caller e.command former p legal.0 takes in
    let terms = taking.terms h in
    let after = authorization_terms (e ∷ before) h in
    elim (cases_Bool (same_name former h)) [
      | inl one ↦
          let same = same_name-true former h one in
          let loses : LosesPrefix e before h p = subst (λ (g : List ℕ). LosesPrefix e before g p) same taking.loses in
          let since = λ (there : Contains (authorization_terms before h) x).
          let number = within before h x there in
          since_ended e before h p x loses (taking.created h) number.0 number.1 in (
            λ active.
                let there = subst (λ (xs : List Auth). Contains xs x) terms active.0 in
                let kept = (since there).0 active.1 in
                ((there, kept.0), λ _. kept.1),
            λ kept. (subst (λ (xs : List Auth). Contains xs x) (sym terms) kept.0.0, (since kept.0.0).1 (kept.0.1, kept.1 (sym same))),
          )
      | inr other ↦ (
        λ active. ((subst (λ (xs : List Auth). Contains xs x) terms active.0, active.1.1), λ is. absurd (false≢true (sym other ∙ ap (same_name former) is ∙ same_name-same former))),
        λ kept.
            let number = within before h x kept.0.0 in
            (subst (λ (xs : List Auth). Contains xs x) (sym terms) kept.0.0, since_more e before h (taking.others h other) x number.0 number.1 kept.0.1),
      )
    ]
