-- The words after the program's name, and the tasks that they name:
--   script --charter FILE
--   init --db FILE --charter FILE
--   serve --db FILE --listen ADDR --count N --day D
--   check PAYLOADS ROUTES
--   help
use Rattle.std.specs.Prelude.{◌≡◌, ℕ, List, [], ◌∷◌, Option, Some, IsSome, IsNone, Result, Ok, Err, codes}
use Rattle.addr.specs.Day.{day_in}
use Rattle.cli_texts.specs.CsvRows.{decimal_between}
use Rattle.cli_texts.specs.declared.words.Task.{Task}
use Rattle.cli_texts.specs.declared.words.Task.TheVariants.{Script, Init, Serve, Check, Help}
use Rattle.cli_texts.specs.declared.words.TheConstants.{CONNECTION_LIMIT}
use Rattle.cli_texts.specs.declared.words.WordsFault.{WordsFault}
use Rattle.cli_texts.specs.declared.words.WordsFault.TheVariants.{Words, Day}

-- the count of connections that a text writes
abbrev pub count_in : List ℕ → Option ℕ
count_in text = decimal_between 1 CONNECTION_LIMIT text

-- the words of `serve`, whose count and day are any texts
abbrev pub serve_words : (database address count day : List ℕ) → List (List ℕ)
serve_words database address count day =
    codes "serve" ∷ codes "--db" ∷ database ∷ codes "--listen" ∷ address
    ∷ codes "--count" ∷ count ∷ codes "--day" ∷ day ∷ []

-- the words are exactly those of the task; of `serve`, with texts n and d of its count and its day
abbrev pub AreOf : List (List ℕ) → Task → Type 0
AreOf words (Script charter) = words ≡ codes "script" ∷ codes "--charter" ∷ charter.now ∷ []
AreOf words (Init database charter) =
    words ≡ codes "init" ∷ codes "--db" ∷ database.now ∷ codes "--charter" ∷ charter.now ∷ []
AreOf words (Serve database address count day) = (n : List ℕ) × (d : List ℕ)
    × (words ≡ serve_words database.now address.now n d) × (count_in n ≡ Some count) × (day_in d ≡ Some day)
AreOf words (Check payloads routes) = words ≡ codes "check" ∷ payloads.now ∷ routes.now ∷ []
AreOf words Help = words ≡ codes "help" ∷ []

-- the words are those of `serve` with a good count, and d is no day
abbrev pub LackDay : List (List ℕ) → Type 0
LackDay words = (database : List ℕ) × (address : List ℕ) × (n : List ℕ) × (d : List ℕ)
    × (words ≡ serve_words database address n d) × IsSome (count_in n) × IsNone (day_in d)

-- what the words are read as: their task, or that they lack a day, or else that they are no task's
abbrev pub AreReadAs : List (List ℕ) → Result Task WordsFault → Type 0
AreReadAs words (Ok task) = AreOf words task
AreReadAs words (Err Day) = LackDay words
AreReadAs words (Err Words) = ((task : Task) → ¬ AreOf words task) × ¬ LackDay words
