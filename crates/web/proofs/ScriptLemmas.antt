-- Replies to lines that come one after the other.
use Rattle.web.proofs.Vocabulary.{◌≡◌, ℕ, List, [], ◌∷◌, ◌++◌, Option, refl, sym, ◌∙◌, ap, append_assoc, append-nil, AppendsBeginning, within_limit, Replies, AnswersEach, BreaksOff}

module _ {State : Type 0} (answers : State → Option (List ℕ) → List ℕ → State → Type 0) where
  pub Replies-append : (old middle new : State) (xs ys : List (List ℕ)) (s t : List ℕ)
      → Replies answers old xs s middle → Replies answers middle ys t new
      → Replies answers old (xs ++ ys) (s ++ t) new
  Replies-append old middle new [] ys s t first second = rw (first.0, ← first.1) second
  Replies-append old middle new (line ∷ xs) ys s t first second =
      let (reply, replies, next, is_text, acted, rest) = first in (
        reply,
        replies ++ t,
        next,
        ap (λ u. u ++ t) is_text ∙ append_assoc reply replies t,
        acted,
        Replies-append next middle new xs ys replies t rest second,
      )

  pub AnswersEach-append : (old middle new : State) (xs ys : List (List ℕ)) (w w' w'' : List ℕ)
      → AnswersEach answers old middle xs w w' → AnswersEach answers middle new ys w' w''
      → AnswersEach answers old new (xs ++ ys) w w''
  AnswersEach-append old middle new xs ys w w' w'' first second = (
    first.0 ++ second.0,
    Replies-append old middle new xs ys first.0 second.0 first.1 second.1,
    second.2 ∙ ap (λ u. u ++ second.0) first.2 ∙ append_assoc w first.0 second.0,
  )

  -- no line was asked
  pub AnswersEach-nil : (old : State) (w : List ℕ) → AnswersEach answers old old [] w w
  AnswersEach-nil old w = ([], (refl, refl), sym (append-nil w))

  pub AnswersEach-one : (old new : State) (line reply w w' : List ℕ)
      → answers old (within_limit line) reply new → w' ≡ w ++ reply
      → AnswersEach answers old new (line ∷ []) w w'
  AnswersEach-one old new line reply w w' acted written =
      (reply, (reply, [], new, sym (append-nil reply), acted, (refl, refl)), written)

  pub BreaksOff-one : (old new : State) (line reply w w' : List ℕ)
      → answers old (within_limit line) reply new → AppendsBeginning w w' reply
      → BreaksOff answers old new (line ∷ []) w w'
  BreaksOff-one old new line reply w w' acted written =
      ([], [], line, [], reply, old, refl, (refl, refl), acted, rw (append-nil w) written)

  -- after lines that were answered
  pub BreaksOff-after : (old middle new : State) (xs ys : List (List ℕ)) (w w' w'' : List ℕ)
      → AnswersEach answers old middle xs w w' → BreaksOff answers middle new ys w' w''
      → BreaksOff answers old new (xs ++ ys) w w''
  BreaksOff-after old middle new xs ys w w' w'' first second =
      let (before, later, line, text, reply, next, are, replied, acted, written) = second in (
        xs ++ before,
        later,
        line,
        first.0 ++ text,
        reply,
        next,
        ap (λ ls. xs ++ ls) are ∙ sym (append_assoc xs before (line ∷ later)),
        Replies-append old middle next xs before first.0 text first.1 replied,
        acted,
        rw (← append_assoc w first.0 text, ← first.2) written,
      )

  -- before lines that were not asked
  pub BreaksOff-before : (old new : State) (xs ys : List (List ℕ)) (w w' : List ℕ)
      → BreaksOff answers old new xs w w' → BreaksOff answers old new (xs ++ ys) w w'
  BreaksOff-before old new xs ys w w' first =
      let (before, later, line, text, reply, next, are, replied, acted, written) = first in (
        before,
        later ++ ys,
        line,
        text,
        reply,
        next,
        ap (λ ls. ls ++ ys) are ∙ append_assoc before (line ∷ later) ys,
        replied,
        acted,
        written,
      )
