-- The state of a route over a set of VRPs.
use Rattle.daily_vrps.proofs.Vocabulary.{◌≡◌, Bool, true, false, ◌↔◌, inl, inr, List, refl, sym, ◌∙◌, Contains, if◌then◌else◌, list_any, cases_Bool, true≢false, covers, matches, Valid, Invalid, NotFound, HasState, validation_state, Route, Vrp}
use Rattle.daily_vrps.proofs.Members.{any_among, among_any}

-- the state over a list is the state over any set with the same VRPs
pub state_has : (S : Vrp → Type 0) (items : List Vrp) → ((v : Vrp) → Contains items v ↔ S v) → (r : Route) → HasState S r (validation_state items r)
state_has S items same r =
    go (list_any (λ v. matches v r) items) (list_any (λ v. covers v r) items) refl refl
  where
    none : (p : Vrp → Bool) → list_any p items ≡ false → (v : Vrp) → S v → p v ≡ false
    none p never v in_set =
        elim (cases_Bool (p v)) [
          | inl passes ↦ absurd (true≢false (sym (any_among p items v ((same v).1 in_set) passes) ∙ never))
          | inr fails ↦ fails
        ]

    some : (p : Vrp → Bool) → list_any p items ≡ true → (v : Vrp) × S v × (p v ≡ true)
    some p any =
        let found = among_any p items any in
        (found.0, (same found.0).0 found.1, found.2)

    go : (m c : Bool) → list_any (λ v. matches v r) items ≡ m → list_any (λ v. covers v r) items ≡ c → HasState S r (if m then Valid else if c then Invalid else NotFound)
    go true c matched covered = some (λ v. matches v r) matched
    go false true matched covered = (some (λ v. covers v r) covered, none (λ v. matches v r) matched)
    go false false matched covered = none (λ v. covers v r) covered
