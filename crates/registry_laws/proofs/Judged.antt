-- Where histories agree on what the holders of a request have, it is judged and answered the same.
use Rattle.registry_laws.proofs.Vocabulary.{◌≡◌, ℕ, ◌+◌, ◌<◌, Bool, true, false, ◌||◌, eqb, List, length, ◌↔◌, inl, inr, Option, Some, None, refl, sym, ap, subst, filter, IsSomeAnd, list_any, Auth, RoaPrefix, Charter, Command, Register, Delegate, Transfer, Reclaim, Grant, Revoke, Create, Amend, Withdraw, Import, Slurm, Manage, Alter, Look, Granted, Rule, holder_of, taker_of, number_given, History, is_registered, has_access, are_permitted, is_permitted_terms, HoldsPrefix, HoldsEntries, grant_terms, OfActive, check, accept, auth_of_number, HasAccessTo, Verdict, ShowVerdict, ListVerdict, Prefix, concerns_all_holders, AreJudgedAlike, AreSeenAlike}
use Rattle.registry.specs.declared.grant.Access.{Access}
use Rattle.registry.specs.Charter.{is_operator}
use Rattle.registry_laws.proofs.Agree.{Agree, AgreeIfNamed, agree-sym, agree-sym-named, agree-holds, agree-holds_entries, agree-active}

-- equal values have equal facts
by_value : {A : Type 0} {x y : A} (P : A → Type 0) → x ≡ y → P x ↔ P y
by_value P same = (subst P same, subst P (sym same))

fewer : {m n most : ℕ} → m ≡ n → (m < most) ↔ (n < most)
fewer {m} {n} {most} same = by_value (λ k. k < most) same

both : {P Q R S : Type 0} → P ↔ Q → R ↔ S → (P × R) ↔ (Q × S)
both one two = (λ has. (one.0 has.0, two.0 has.1), λ has. (one.1 has.0, two.1 has.1))

-- each verdict of the one is one of the other
record Leads (one other : Option Rule → Type 0) : Type 0 where
  to : (verdict : Option Rule) → one verdict → other verdict

checked : {rule : Rule} {P Q : Type 0} {rest other : Option Rule → Type 0} → P ↔ Q → Leads rest other → Leads (check rule P rest) (check rule Q other)
checked {rule} {P} {Q} {rest} {other} same next = record { to = step }
  where
    step : (verdict : Option Rule) → check rule P rest verdict → check rule Q other verdict
    step None holds = (same.0 holds.0, next.to None holds.1)
    step (Some first) (inl fails) = inl (λ holds. fails.0 (same.1 holds), fails.1)
    step (Some first) (inr holds) = inr (same.0 holds.0, next.to (Some first) holds.1)

-- what does not look at the history
itself : {P : Type 0} → P ↔ P
itself = (λ p. p, λ p. p)

accepted : Leads accept accept
accepted = record { to = λ verdict is. is }

of_registered : {one other : History} {h : List ℕ} → Agree one other h → (is_registered one h ≡ true) ↔ (is_registered other h ≡ true)
of_registered same = by_value (λ b. b ≡ true) same.registered

of_grants : {one other : History} {h : List ℕ} → Agree one other h → (test : List Granted → Bool) → (test (grant_terms one h) ≡ true) ↔ (test (grant_terms other h) ≡ true)
of_grants same test = by_value (λ grants. test grants ≡ true) same.grants

of_holds : {one other : History} {h : List ℕ} → Agree one other h → (p : Prefix) → HoldsPrefix one h p ↔ HoldsPrefix other h p
of_holds same p = (agree-holds same p, agree-holds (agree-sym same) p)

of_holds_entries : {one other : History} {h : List ℕ} → Agree one other h → (es : List RoaPrefix) → HoldsEntries one h es ↔ HoldsEntries other h es
of_holds_entries same es = (agree-holds_entries same es, agree-holds_entries (agree-sym same) es)

-- of the active authorizations, where a fact about them does too
of_active : {one other : History} {h : List ℕ} → Agree one other h → (P Q : List Auth → Type 0) → ((active : List Auth) → P active ↔ Q active)
    → OfActive one h P ↔ OfActive other h Q
of_active same P Q facts = (
  λ of. (of.0, agree-active same of.0 of.1, (facts of.0).0 of.2),
  λ of. (of.0, agree-active (agree-sym same) of.0 of.1, (facts of.0).1 of.2),
)

pub active_alike : {one other : History} {h : List ℕ} → Agree one other h → (P : List Auth → Type 0) → OfActive one h P ↔ OfActive other h P
active_alike same P = of_active same P P (λ active. itself)

access_alike : {one other : History} {h : List ℕ} → Agree one other h → (day : ℕ) (caller : List ℕ) (access : Access) (n : ℕ)
    → HasAccessTo one h day caller access n ↔ HasAccessTo other h day caller access n
access_alike {one} {other} {h} same day caller access n =
    let Has : List Granted → List Auth → Type 0 = λ grants active. IsSomeAnd (auth_of_number n active) (λ x. is_permitted_terms grants day caller access x ≡ true) in
    of_active same (Has (grant_terms one h)) (Has (grant_terms other h)) (λ active. by_value (λ grants. Has grants active) same.grants)

judged : (charter : Charter) (one other : History) (day : ℕ) (caller : List ℕ) (c : Command)
    → AgreeIfNamed one other (holder_of c) → AgreeIfNamed one other (taker_of c) → concerns_all_holders c ≡ false
    → Leads (Verdict charter one day caller c) (Verdict charter other day caller c)
judged charter one other day caller (Register holder) same taker own =
    checked itself (checked (by_value (λ b. b ≡ false) same.registered) accepted)
judged charter one other day caller (Delegate holder p) same taker own = cc
judged charter one other day caller (Transfer p giver taken) same taker own =
    checked itself (checked (both (of_registered same) (of_registered taker)) (checked itself (checked (of_holds same p) accepted)))
judged charter one other day caller (Reclaim holder p) same taker own =
    checked itself (checked (of_registered same) (checked (of_holds same p) accepted))
judged charter one other day caller (Grant holder terms) same taker own =
    checked (of_grants same (λ grants. is_operator charter caller || has_access grants day caller Manage)) (
    checked (of_registered same) (
    checked itself (
    checked (both (fewer (ap length same.grants)) (fewer same.granted))
    accepted)))
judged charter one other day caller (Revoke holder n) same taker own =
    checked (of_grants same (λ grants. is_operator charter caller || has_access grants day caller Manage)) (
    checked (of_grants same (list_any (λ g. eqb g.number n))) accepted)
judged charter one other day caller (Create holder terms) same taker own =
    checked (of_grants same (λ grants. has_access grants day caller Alter)) (
    checked (of_grants same (λ grants. are_permitted grants day caller Alter terms.entries)) (
    checked itself (
    checked itself (
    checked (of_holds_entries same terms.entries) (
    checked (active_alike same _) (
    checked (both (active_alike same _) (fewer same.created))
    accepted))))))
judged charter one other day caller (Amend holder n maxes until) same taker own =
    checked (of_grants same (λ grants. has_access grants day caller Alter)) (
    checked (access_alike same day caller Alter n) (
    checked (active_alike same _) (
    checked (active_alike same _) (
    checked (active_alike same _)
    accepted))))
judged charter one other day caller (Withdraw holder n) same taker own =
    checked (of_grants same (λ grants. has_access grants day caller Alter)) (
    checked (access_alike same day caller Alter n) accepted)
judged charter one other day caller (Import holder rows) same taker own = record { to = λ verdict is. is }
judged charter one other day caller (Slurm files) same taker own = checked itself (checked itself accepted)

number_alike : (one other : History) (c : Command) → AgreeIfNamed one other (holder_of c) → number_given one c ≡ number_given other c
number_alike one other (Grant holder terms) same = ap (λ made. Some (made + 1)) same.granted
number_alike one other (Create holder terms) same = ap (λ made. Some (made + 1)) same.created
number_alike one other _ same = refl

pub judged_alike : (charter : Charter) (one other : History) (day : ℕ) (caller : List ℕ) (c : Command)
    → AgreeIfNamed one other (holder_of c) → AgreeIfNamed one other (taker_of c) → concerns_all_holders c ≡ false
    → AreJudgedAlike charter one other day caller c
judged_alike charter one other day caller c same taker own = record {
  verdict = λ rule. (
    (judged charter one other day caller c same taker own).to rule,
    (judged charter other one day caller c (agree-sym-named one other (holder_of c) same) (agree-sym-named one other (taker_of c) taker) own).to rule,
  );
  number = number_alike one other c same;
}

seen : {one other : History} {h : List ℕ} → Agree one other h → (day : ℕ) (caller : List ℕ) (n : ℕ) → Leads (ShowVerdict one h day caller n) (ShowVerdict other h day caller n)
seen same day caller n =
    checked (of_grants same (λ grants. has_access grants day caller Look)) (
    checked (access_alike same day caller Look n) accepted)

show_alike : {one other : History} {h : List ℕ} → Agree one other h → (day : ℕ) (caller : List ℕ) (n : ℕ) (rule : Option Rule)
    → ShowVerdict one h day caller n rule ↔ ShowVerdict other h day caller n rule
show_alike same day caller n rule = ((seen same day caller n).to rule, (seen (agree-sym same) day caller n).to rule)

seen_all : {one other : History} {h : List ℕ} → Agree one other h → (day : ℕ) (caller : List ℕ) → Leads (ListVerdict one h day caller) (ListVerdict other h day caller)
seen_all same day caller = checked (of_grants same (λ grants. has_access grants day caller Look)) accepted

list_alike : {one other : History} {h : List ℕ} → Agree one other h → (day : ℕ) (caller : List ℕ) (rule : Option Rule)
    → ListVerdict one h day caller rule ↔ ListVerdict other h day caller rule
list_alike same day caller rule = ((seen_all same day caller).to rule, (seen_all (agree-sym same) day caller).to rule)

pub seen_alike : {one other : History} {h : List ℕ} → Agree one other h → (day : ℕ) (caller : List ℕ) → AreSeenAlike one other h day caller
seen_alike {one} {other} {h} same day caller =
    let Listed : List Auth → List Granted → List Auth → Type 0 = λ xs grants active. xs ≡ filter (λ x. is_permitted_terms grants day caller Look x) active in
    record {
      show = show_alike same day caller;
      shown = λ n x. both (show_alike same day caller n None) (active_alike same (λ active. auth_of_number n active ≡ Some x));
      list = list_alike same day caller;
      listed = λ xs. both (list_alike same day caller None)
          (of_active same (Listed xs (grant_terms one h)) (Listed xs (grant_terms other h)) (λ active. by_value (λ grants. Listed xs grants active) same.grants));
    }
