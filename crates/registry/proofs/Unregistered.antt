-- In a legal history a holder that is not registered has nothing.
use Rattle.registry.proofs.Vocabulary.{◌≡◌, ℕ, Bool, true, false, cond, eqb, List, [], ◌∷◌, inl, inr, Some, None, refl, sym, ap, ◌∙◌, cases_Bool, false≢true, or_parts, list_any, Address, has_address, Granted, Command, Register, Delegate, Transfer, Reclaim, Grant, Revoke, Create, Amend, Withdraw, Import, Slurm, Entry, History, same_name, registers, is_registered, resource_holder, is_held_by, grant_terms, grants_made, authorizations_made, authorization_terms, holder_of, is_this, Verdict}
use Rattle.registry.specs.declared.charter.Charter.{Charter}
use Rattle.registry.specs.declared.grant.Access.TheVariants.{Alter}
use Rattle.registry.specs.Permission.{has_access}
use Rattle.registry.specs.Unregistered.{HasNothing, UnregisteredHaveNothing}
use Rattle.registry.proofs.Names.{same_name-true}
use Rattle.registry.proofs.Carry.{keeps_unnamed}

-- two names of which a test answers differently are two
pub differ_by : (f : List ℕ → Bool) (g h : List ℕ) → f g ≡ true → f h ≡ false → same_name g h ≡ false
differ_by f g h yes_g no_h =
    elim (cases_Bool (same_name g h)) [
      | inl t ↦ absurd (false≢true (sym no_h ∙ ap f (sym (same_name-true g h t)) ∙ yes_g))
      | inr n ↦ n
    ]

-- a holder at which a caller may alter authorizations is none that has nothing
without_access : (before : History) (day : ℕ) (caller holder h : List ℕ) → has_access (grant_terms before holder) day caller Alter ≡ true
    → HasNothing before h → same_name holder h ≡ false
without_access before day caller holder h has none =
    differ_by (λ g. has_access (grant_terms before g) day caller Alter) holder h has (ap (λ gs. has_access gs day caller Alter) none.grants)

-- a command that does not name the holder, and gives it no address
nothing_stays : (e : Entry) (before : History) (h : List ℕ) → is_this h (holder_of e.command) ≡ false
    → ((a : Address) → is_held_by h (resource_holder (e ∷ before) a) ≡ false) → HasNothing before h → HasNothing (e ∷ before) h
nothing_stays e before h other holders none =
    let same = keeps_unnamed e.command h (grants_made before h) (authorizations_made before h) (grant_terms before h) (authorization_terms before h) other in
    record {
      holders = holders;
      grants = same.1 ∙ none.grants;
      granted = same.2 ∙ none.granted;
      terms = same.3 ∙ none.terms;
      created = same.4 ∙ none.created;
    }

pub nothing_after : (charter : Charter) (before : History) (day : ℕ) (caller : List ℕ) (c : Command) (h : List ℕ)
    → Verdict charter before day caller c None → is_registered before h ≡ false → HasNothing before h
    → HasNothing (record { day = day; caller = caller; command = c } ∷ before) h
nothing_after charter before day caller (Register holder) h accepted unregistered none = record {
  holders = none.holders;
  grants = none.grants;
  granted = none.granted;
  terms = none.terms;
  created = none.created;
}
nothing_after charter before day caller (Delegate holder p) h accepted unregistered none =
    let other = differ_by (is_registered before) holder h accepted.1.0 unregistered in
    nothing_stays _ before h other
    (λ a. elim (has_address p a) as (λ b. is_held_by h (cond b (Some holder) (resource_holder before a)) ≡ false)
    [ true ↦ other | false ↦ none.holders a ]) none
nothing_after charter before day caller (Transfer p giver taker) h accepted unregistered none =
    let taken = differ_by (is_registered before) taker h accepted.1.0.1 unregistered in
    nothing_stays _ before h (differ_by (is_registered before) giver h accepted.1.0.0 unregistered)
    (λ a. elim (has_address p a) as (λ b. is_held_by h (cond b (Some taker) (resource_holder before a)) ≡ false)
    [ true ↦ taken | false ↦ none.holders a ]) none
nothing_after charter before day caller (Reclaim holder p) h accepted unregistered none =
    nothing_stays _ before h (differ_by (is_registered before) holder h accepted.1.0 unregistered)
    (λ a. elim (has_address p a) as (λ b. is_held_by h (cond b None (resource_holder before a)) ≡ false)
    [ true ↦ refl | false ↦ none.holders a ]) none
nothing_after charter before day caller (Grant holder terms) h accepted unregistered none =
    nothing_stays _ before h (differ_by (is_registered before) holder h accepted.1.0 unregistered) none.holders none
nothing_after charter before day caller (Revoke holder n) h accepted unregistered none =
    let test = list_any (λ (g : Granted). eqb g.number n) in
    nothing_stays _ before h (differ_by (λ g. test (grant_terms before g)) holder h accepted.1.0 (ap test none.grants)) none.holders none
nothing_after charter before day caller (Create holder terms) h accepted unregistered none =
    nothing_stays _ before h (without_access before day caller holder h accepted.0 none) none.holders none
nothing_after charter before day caller (Amend holder n maxes until) h accepted unregistered none =
    nothing_stays _ before h (without_access before day caller holder h accepted.0 none) none.holders none
nothing_after charter before day caller (Withdraw holder n) h accepted unregistered none =
    nothing_stays _ before h (without_access before day caller holder h accepted.0 none) none.holders none
nothing_after charter before day caller (Import holder rows) h accepted unregistered none = absurd accepted
nothing_after charter before day caller (Slurm files) h accepted unregistered none =
    nothing_stays _ before h refl none.holders none

pub has_nothing : UnregisteredHaveNothing
has_nothing charter [] h legal unregistered = record { holders = λ a. refl; grants = refl; granted = refl; terms = refl; created = refl }
has_nothing charter (e ∷ before) h legal unregistered =
    let earlier = (or_parts (registers e.command h) (is_registered before h) unregistered).1 in
    nothing_after charter before e.day e.caller e.command h legal.0 earlier (has_nothing charter before h legal.1 earlier)
