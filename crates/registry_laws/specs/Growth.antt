-- The histories that requests leave, even requests of several parts: each is legal if the one
-- before it is, and its values are those of their types if those of the one before it and of the
-- request are.
use Rattle.std.specs.Prelude.{ℕ, List}
use Rattle.registry.specs.declared.charter.Charter.{Charter}
use Rattle.registry.specs.declared.command.Command.{Command}
use Rattle.registry.specs.declared.command.Proposed.{Proposed}
use Rattle.registry.specs.Answer.{Leaves}
use Rattle.registry.specs.History.{History}
use Rattle.registry.specs.HypotheticalHistory.{HypotheticalHistory}
use Rattle.registry.specs.Values.{EntryFits, HistoryFits}
use Rattle.registry.specs.Verdict.{IsLegal}

abbrev pub GrowthIsLegal : Type 0
GrowthIsLegal =
    (charter : Charter) (before : History) (day : ℕ) (caller : List ℕ) (command : Command)
    (after : History) → IsLegal charter before → Leaves charter before day caller command after
    → IsLegal charter after

abbrev pub GrowthFits : Type 0
GrowthFits =
    (charter : Charter) (before : History) (day : ℕ) (caller : List ℕ) (command : Command)
    (after : History)
    → EntryFits (record { day = day; caller = caller; command = command }) → HistoryFits before
    → Leaves charter before day caller command after → HistoryFits after

abbrev pub HypotheticalIsLegal : Type 0
HypotheticalIsLegal =
    (charter : Charter) (day : ℕ) (caller holder : List ℕ) (before : History)
    (changes : List Proposed) (after : History)
    → IsLegal charter before → HypotheticalHistory charter day caller holder before changes after
    → IsLegal charter after
