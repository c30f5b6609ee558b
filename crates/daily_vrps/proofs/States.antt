-- States of routes, in pairs and after an exchange.
use Rattle.daily_vrps.proofs.Vocabulary.{◌≡◌, false, ◌↔◌, ◌⊎◌, inl, inr, List, [], ◌∷◌, ◌++◌, map, length, refl, sym, ap, ◌∙◌, suc, zip, length-map, covers, matches, HasState, ValidationState, Valid, Invalid, NotFound, Route, Vrp, state_of, states_after, states_now, HaveStates, over_both}
use Rattle.std.proofs.lemmas.Slice.Zip.{firsts-zip, seconds-zip}
use Rattle.payload.specs.declared.validity.Validity.{Validity}

-- ---- the state of one route

-- a VRP that does not cover a route does not match it
not_matching : (v : Vrp) (r : Route) → covers v r ≡ false → matches v r ≡ false
not_matching v r uncovered = rw uncovered refl

-- over sets of the same VRPs
pub state_such : (S T : Vrp → Type 0) → ((v : Vrp) → S v ↔ T v) → (r : Route) (state : ValidationState) → HasState S r state → HasState T r state
state_such S T same r Valid has = (has.0, (same has.0).0 has.1, has.2)
state_such S T same r Invalid has = ((has.0.0, (same has.0.0).0 has.0.1, has.0.2), λ v in_t. has.1 v ((same v).1 in_t))
state_such S T same r NotFound has = λ v in_t. has v ((same v).1 in_t)

-- the state over two sets together
pub state_over_both : (S T : Vrp → Type 0) (r : Route) (one other : ValidationState) → HasState S r one → HasState T r other
    → HasState (λ v. S v ⊎ T v) r (over_both one other)
state_over_both S T r Valid other is also = (is.0, inl is.1, is.2)
state_over_both S T r Invalid Valid is also = (also.0, inr also.1, also.2)
state_over_both S T r Invalid Invalid is also = (
  (is.0.0, inl is.0.1, is.0.2),
  λ v either. elim either [ inl in_s ↦ is.1 v in_s | inr in_t ↦ also.1 v in_t ],
)
state_over_both S T r Invalid NotFound is also = (
  (is.0.0, inl is.0.1, is.0.2),
  λ v either. elim either [ inl in_s ↦ is.1 v in_s | inr in_t ↦ not_matching v r (also v in_t) ],
)
state_over_both S T r NotFound Valid is also = (also.0, inr also.1, also.2)
state_over_both S T r NotFound Invalid is also = (
  (also.0.0, inr also.0.1, also.0.2),
  λ v either. elim either [ inl in_s ↦ not_matching v r (is v in_s) | inr in_t ↦ also.1 v in_t ],
)
state_over_both S T r NotFound NotFound is also = λ v either. elim either [ inl in_s ↦ is v in_s | inr in_t ↦ also v in_t ]

-- ---- the states of routes

-- over sets of the same VRPs
pub states_such : (S T : Vrp → Type 0) → ((v : Vrp) → S v ↔ T v) → (routes : List Route) (states : List Validity) → HaveStates S routes states → HaveStates T routes states
states_such S T same [] [] have = have
states_such S T same [] (s ∷ states) have = have
states_such S T same (r ∷ routes) [] have = have
states_such S T same (r ∷ routes) (s ∷ states) have =
    (state_such S T same r (state_of s) have.0, states_such S T same routes states have.1)

-- with one more route
pub one_more_state : (S : Vrp → Type 0) (routes : List Route) (states : List Validity) (r : Route) (s : Validity)
    → HaveStates S routes states → HasState S r (state_of s) → HaveStates S (routes ++ r ∷ []) (states ++ s ∷ [])
one_more_state S [] [] r s have has = (has, tt)
one_more_state S [] (t ∷ states) r s have has = absurd have
one_more_state S (q ∷ routes) [] r s have has = absurd have
one_more_state S (q ∷ routes) (t ∷ states) r s have has = (have.0, one_more_state S routes states r s have.1 has)

-- ---- pairs of states

same_long : {P : Type 0} (states : List Validity) (so : Route → P) (state : Validity → P) (routes : List Route)
    → map state states ≡ map so routes → length states ≡ length routes
same_long states so state routes same = sym (length-map states state) ∙ ap length same ∙ length-map routes so

as_long : (S : Vrp → Type 0) (routes : List Route) (states : List Validity) → HaveStates S routes states → length states ≡ length routes
as_long S [] [] have = refl
as_long S [] (s ∷ states) have = absurd have
as_long S (r ∷ routes) [] have = absurd have
as_long S (r ∷ routes) (s ∷ states) have = ap suc (as_long S routes states have.1)

-- in pairs they are those of before and those of after
pub paired : {P : Type 0} (ones others : List Validity) (state : Validity → P) (so : Route → P) (S : Vrp → Type 0) (routes : List Route)
    → map state ones ≡ map so routes → HaveStates S routes others → (pairs : List (Validity × Validity)) → pairs ≡ zip ones others
    → (map state (states_now pairs) ≡ map so routes) × HaveStates S routes (states_after pairs)
paired ones others state so S routes one other pairs are =
    let long = as_long S routes others other ∙ sym (same_long ones so state routes one) in (
      ap (map state) (ap states_now are ∙ firsts-zip ones others long) ∙ one,
      rw (ap states_after are ∙ seconds-zip ones others long) other,
    )
