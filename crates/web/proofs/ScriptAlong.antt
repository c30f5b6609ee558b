-- A script over states is a script over what the states represent, as histories: where each answer is
-- one there, so are the replies to all lines. Of an answer something is known only where the state after it
-- is sound, and then the state before it was so too.
use Rattle.web.proofs.Vocabulary.{ℕ, List, [], ◌∷◌, Option, Some, None, refl, inl, inr, Asked, Reply, AnswersLine, within_limit, Replies, AnswersEach, BreaksOff}

module _ {State : Type 0}
    (answers : State → Option (List ℕ) → List ℕ → State → Type 0)
    (IsSound : State → Type 0)
    (sound_before : (state next : State) (line : Option (List ℕ)) (reply : List ℕ)
    → answers state line reply next → IsSound next → IsSound state) where
  pub Replies-sound : (old new : State) (lines : List (List ℕ)) (text : List ℕ)
      → Replies answers old lines text new → IsSound new → IsSound old
  Replies-sound old new [] text script sound = rw (← script.1) sound
  Replies-sound old new (line ∷ lines) text script sound =
      let (reply, replies, next, is_text, acted, rest) = script in
      sound_before old next (within_limit line) reply acted (Replies-sound next new lines replies rest sound)

  pub AnswersEach-sound : (old new : State) (lines : List (List ℕ)) (w w' : List ℕ)
      → AnswersEach answers old new lines w w' → IsSound new → IsSound old
  AnswersEach-sound old new lines w w' (text, script, written) = Replies-sound old new lines text script

  pub BreaksOff-sound : (old new : State) (lines : List (List ℕ)) (w w' : List ℕ)
      → BreaksOff answers old new lines w w' → IsSound new → IsSound old
  BreaksOff-sound old new lines w w' broken sound =
      let (before, after, line, text, reply, next, are, script, acted, written) = broken in
      Replies-sound old next before text script (sound_before next new (within_limit line) reply acted sound)

module _ {State History : Type 0}
    (answers : State → Option (List ℕ) → List ℕ → State → Type 0)
    (IsSound : State → Type 0)
    (sound_before : (state next : State) (line : Option (List ℕ)) (reply : List ℕ)
    → answers state line reply next → IsSound next → IsSound state)
    (Represents : State → History → Type 0)
    (answers_there : History → Option (List ℕ) → List ℕ → History → Type 0)
    (each : (state next : State) (line : Option (List ℕ)) (reply : List ℕ) (history : History)
    → IsSound next → Represents state history → answers state line reply next
    → (later : History) × Represents next later × answers_there history line reply later) where
  pub Replies-along : (old new : State) (lines : List (List ℕ)) (text : List ℕ) (history : History)
      → IsSound new → Represents old history → Replies answers old lines text new
      → (later : History) × Represents new later × Replies answers_there history lines text later
  Replies-along old new [] text history sound represents script = (history, rw script.1 represents, (script.0, refl))
  Replies-along old new (line ∷ lines) text history sound represents script =
      let (reply, replies, next, is_text, acted, rest) = script in
      let sound_between = Replies-sound answers IsSound sound_before next new lines replies rest sound in
      let (between, represents_between, acted_there) = each old next (within_limit line) reply history sound_between represents acted in
      let (later, represents_later, rest_there) = Replies-along next new lines replies between sound represents_between rest in
      (later, represents_later, (reply, replies, between, is_text, acted_there, rest_there))

  pub AnswersEach-along : (old new : State) (lines : List (List ℕ)) (w w' : List ℕ) (history : History)
      → IsSound new → Represents old history → AnswersEach answers old new lines w w'
      → (later : History) × Represents new later × AnswersEach answers_there history later lines w w'
  AnswersEach-along old new lines w w' history sound represents (text, script, written) =
      let (later, represents_later, script_there) = Replies-along old new lines text history sound represents script in
      (later, represents_later, (text, script_there, written))

  pub BreaksOff-along : (old new : State) (lines : List (List ℕ)) (w w' : List ℕ) (history : History)
      → IsSound new → Represents old history → BreaksOff answers old new lines w w'
      → (later : History) × Represents new later × BreaksOff answers_there history later lines w w'
  BreaksOff-along old new lines w w' history sound represents broken =
      let (before, after, line, text, reply, next, are, script, acted, written) = broken in
      let sound_between = sound_before next new (within_limit line) reply acted sound in
      let (between, represents_between, script_there) = Replies-along old next before text history sound_between represents script in
      let (later, represents_later, acted_there) = each next new (within_limit line) reply between sound represents_between acted in (
        later,
        represents_later,
        (before, after, line, text, reply, between, are, script_there, acted_there, written),
      )

-- so is the answer to a line, where each reply is one there
module _ {State History : Type 0}
    (replies : State → Asked → Reply → State → Type 0)
    (IsSound : State → Type 0)
    (Represents : State → History → Type 0)
    (replies_there : History → Asked → Reply → History → Type 0)
    (each : (state next : State) (request : Asked) (reply : Reply) (history : History)
    → IsSound next → Represents state history → replies state request reply next
    → (later : History) × Represents next later × replies_there history request reply later) where
  pub AnswersLine-along : (state next : State) (line : Option (List ℕ)) (text : List ℕ) (history : History)
      → IsSound next → Represents state history → AnswersLine replies state line text next
      → (later : History) × Represents next later × AnswersLine replies_there history line text later
  AnswersLine-along state next None text history sound represents (is, same) = (history, rw same represents, (is, refl))
  AnswersLine-along state next (Some line) text history sound represents (inl (refused, same)) =
      (history, rw same represents, inl (refused, refl))
  AnswersLine-along state next (Some line) text history sound represents (inr (inr (is, same))) =
      (history, rw same represents, inr (inr (is, refl)))
  AnswersLine-along state next (Some line) text history sound represents (inr (inl (request, reply, reads, replied, is))) =
      let (later, represents_later, replied_there) = each state next request reply history sound represents replied in
      (later, represents_later, inr (inl (request, reply, reads, replied_there, is)))
