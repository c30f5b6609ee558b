-- A response written in two pieces.
use Rattle.std.proofs.Common.{◌≡◌, ℕ, List, ◌++◌, sym, ap, ◌∙◌, append_assoc, Result, Ok, Err}
use Rattle.std.specs.Result.{OnErr, OnOk}
use Rattle.streams.specs.Streams.{AppendsBeginning}

-- a beginning of the first piece is one of both
pub first-broken : {T E : Type 0} (r : Result T E) (old new shown head body : List ℕ) → shown ≡ head
    → AppendsBeginning old new shown → OnErr r (AppendsBeginning old new (head ++ body))
first-broken (Ok x) old new shown head body is broken = tt
first-broken (Err e) old new shown head body is (out, more, appended, begun) = (
  out,
  more ++ body,
  appended,
  ap (λ u. u ++ body) (sym is ∙ begun) ∙ append_assoc out more body,
)

-- both pieces
pub both-written : {T E : Type 0} (r : Result T E) (old middle new shown head body : List ℕ) → shown ≡ head
    → middle ≡ old ++ shown → OnOk r (new ≡ middle ++ body) → OnOk r (new ≡ old ++ (head ++ body))
both-written (Ok x) old middle new shown head body is first second =
    second ∙ ap (λ u. u ++ body) (first ∙ ap (λ u. old ++ u) is) ∙ append_assoc old head body
both-written (Err e) old middle new shown head body is first second = tt

-- the first piece, and a beginning of the second
pub second-broken : {T E : Type 0} (r : Result T E) (old middle new shown head body : List ℕ) → shown ≡ head
    → middle ≡ old ++ shown → OnErr r (AppendsBeginning middle new body)
    → OnErr r (AppendsBeginning old new (head ++ body))
second-broken (Ok x) old middle new shown head body is first broken = tt
second-broken (Err e) old middle new shown head body is first (out, more, appended, begun) = (
  head ++ out,
  more,
  appended ∙ ap (λ u. u ++ out) (first ∙ ap (λ u. old ++ u) is) ∙ append_assoc old head out,
  ap (λ u. head ++ u) begun ∙ sym (append_assoc head out more),
)
