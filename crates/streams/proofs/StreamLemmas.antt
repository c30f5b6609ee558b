-- Lemmas on what has passed a stream.
use Rattle.streams.proofs.Vocabulary.{◌≡◌, ℕ, List, ◌++◌, length, take, drop, sym, ◌∙◌, ap, subst, append_assoc, Option, Result, Ok, Err, Appends}
use Rattle.std.specs.Result.{OnErr}
use Rattle.std.proofs.lemmas.List.{append-nil, take-append-drop}
use Rattle.std.proofs.Math.Seq.{drop-append_seam}
use Rattle.std.specs.Io.{appended_bytes}
use Rattle.std.proofs.KnownBytes.{Appends-trans}
use Rattle.streams.specs.Streams.{AppendsBeginning}

-- what holds in any case holds where there is an error
pub on-err : {T E : Type 0} (r : Result T E) (P : Type 0) → P → OnErr r P
on-err (Ok x) P p = tt
on-err (Err e) P p = p

-- the first n bytes of a text are a beginning of it
pub AppendsBeginning-take : (old new text : List ℕ) (n : ℕ) → new ≡ old ++ take n text → AppendsBeginning old new text
AppendsBeginning-take old new text n is_out = (take n text, drop n text, is_out, sym (take-append-drop n text))

-- two calls pass one list of bytes
pub passes-more : (old xs middle ys new : List ℕ) → middle ≡ old ++ xs → new ≡ middle ++ ys → new ≡ old ++ (xs ++ ys)
passes-more old xs middle ys new first second = second ∙ ap (λ u. u ++ ys) first ∙ append_assoc old xs ys

-- a call that passes no byte
pub passes-nothing : (old xs middle buffer : List ℕ) (n : ℕ) (new : List ℕ)
    → middle ≡ old ++ xs → n ≡ 0 → new ≡ middle ++ take n buffer → new ≡ old ++ xs
passes-nothing old xs middle buffer n new first is_none second =
    second ∙ ap (λ k. middle ++ take k buffer) is_none ∙ append-nil middle ∙ first

-- what has passed since the old bytes
pub appended_bytes-append : (old more new : List ℕ) → new ≡ old ++ more → appended_bytes old new ≡ more
appended_bytes-append old more new is = ap (drop (length old)) is ∙ drop-append_seam old more

-- known bytes grow by one more call
pub appends_more : (a b c : Option (List ℕ)) (done old new more : List ℕ) → Appends a b done → Appends b c (appended_bytes old new) → new ≡ old ++ more
    → Appends a c (done ++ more)
appends_more a b c done old new more first second is =
    Appends-trans a b c done more first (subst (Appends b c) (appended_bytes-append old more new is) second)
