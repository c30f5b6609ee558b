-- Lines in and replies out. `answers state line reply next` says what may be replied to a line,
-- `None` where it is too long, and which state that leaves.
use Rattle.std.specs.Prelude.{◌≡◌, ℕ, List, [], ◌∷◌, ◌++◌, Option}
use Rattle.streams.specs.Streams.{AppendsBeginning}
use Rattle.web.specs.ScriptLines.{within_limit}

-- the text is the replies to the lines, each line answered on the state that the one before it left
abbrev pub Replies : {State : Type 0} → (State → Option (List ℕ) → List ℕ → State → Type 0)
    → State → List (List ℕ) → List ℕ → State → Type 0
Replies answers old [] text new = (text ≡ []) × (new ≡ old)
Replies {State} answers old (line ∷ lines) text new = (reply replies : List ℕ) × (next : State)
    × (text ≡ reply ++ replies)
    × answers old (within_limit line) reply next
    × Replies answers next lines replies new

-- the replies to all the lines were written
abbrev pub AnswersEach : {State : Type 0} → (State → Option (List ℕ) → List ℕ → State → Type 0)
    → State → State → List (List ℕ) → List ℕ → List ℕ → Type 0
AnswersEach answers old new lines written_old written_new = (text : List ℕ)
    × Replies answers old lines text new
    × (written_new ≡ written_old ++ text)

-- the replies to the lines before one line were written and a beginning of the reply to that one,
-- which was acted on. No later one was
abbrev pub BreaksOff : {State : Type 0} → (State → Option (List ℕ) → List ℕ → State → Type 0)
    → State → State → List (List ℕ) → List ℕ → List ℕ → Type 0
BreaksOff {State} answers old new lines written_old written_new =
    (before later : List (List ℕ)) × (line text reply : List ℕ) × (next : State)
    × (lines ≡ before ++ line ∷ later)
    × Replies answers old before text next
    × answers next (within_limit line) reply new
    × AppendsBeginning (written_old ++ text) written_new reply
