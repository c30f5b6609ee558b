-- What local exceptions leave of VRPs.
use Rattle.daily_vrps.proofs.Vocabulary.{◌≡◌, Bool, true, false, not, ◌↔◌, inl, inr, List, ◌++◌, refl, sym, ◌∙◌, Contains, filter, Any, list_any, true≢false, not-true, Vrp, Exceptions, FilterMatches, filter_matches, Filter, IsAfterExceptions}
use Rattle.slurm.proofs.FilterLemmas.{some_filter}
use Rattle.daily_vrps.proofs.Members.{in_both, in_filter}

-- none of the filters matches the VRP
abbrev pub passes : List Filter → Vrp → Bool
passes filters v = not (list_any (λ f. filter_matches f v) filters)

passes-none : (filters : List Filter) (v : Vrp) → passes filters v ≡ true → ¬ Any (λ f. FilterMatches f v) filters
passes-none filters v is some = true≢false (sym ((some_filter filters v).1 some) ∙ not-true _ is)

none-passes : (filters : List Filter) (v : Vrp) → ¬ Any (λ f. FilterMatches f v) filters → passes filters v ≡ true
none-passes filters v none = go (list_any (λ f. filter_matches f v) filters) refl
  where
    go : (some : Bool) → list_any (λ f. filter_matches f v) filters ≡ some → not some ≡ true
    go true is = absurd (none ((some_filter filters v).0 is))
    go false is = refl

-- what passes is what was there and is matched by no filter
pub unfiltered : (filters : List Filter) (xs : List Vrp) (v : Vrp)
    → Contains (filter (passes filters) xs) v ↔ (Contains xs v × ¬ Any (λ f. FilterMatches f v) filters)
unfiltered filters xs v =
    let is = in_filter (passes filters) xs v in
    (λ there. let kept = is.0 there in (kept.0, passes-none filters v kept.1), λ kept. is.1 (kept.0, none-passes filters v kept.1))

-- the VRPs that are matched by no filter, with the assertions after them, are those after the exceptions
pub after_exceptions : (exceptions : Exceptions) (given left : List Vrp)
    → ((v : Vrp) → Contains left v ↔ (Contains given v × ¬ Any (λ f. FilterMatches f v) exceptions.filters))
    → (v : Vrp) → Contains (left ++ exceptions.assertions) v ↔ IsAfterExceptions exceptions (Contains given v) v
after_exceptions exceptions given left are v =
    let is = in_both left exceptions.assertions v in (
      λ there. elim (is.0 there) [ inl kept ↦ inl ((are v).0 kept) | inr asserted ↦ inr asserted ],
      λ after. elim after [ inl kept ↦ is.1 (inl ((are v).1 kept)) | inr asserted ↦ is.1 (inr asserted) ],
    )

-- what is after the exceptions comes from what was given
pub after_alike : {P Q : Type 0} (exceptions : Exceptions) (v : Vrp) → (P → Q) → (Q → P) → IsAfterExceptions exceptions P v ↔ IsAfterExceptions exceptions Q v
after_alike exceptions v to from = (
  λ is. elim is [ inl given ↦ inl (to given.0, given.1) | inr asserted ↦ inr asserted ],
  λ is. elim is [ inl given ↦ inl (from given.0, given.1) | inr asserted ↦ inr asserted ],
)
