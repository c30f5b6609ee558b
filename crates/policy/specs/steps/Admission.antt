-- What the rules of a command say of the rows that it is judged on.
use Rattle.std.specs.Prelude.{ℕ, List, Some, None, Result, Ok, Err}
use Rattle.registry.specs.declared.charter.Charter.{Charter}
use Rattle.registry.specs.declared.command.Command.{Command}
use Rattle.registry.specs.declared.rule.Rule.{Rule}
use Rattle.registry.specs.History.{History}
use Rattle.registry.specs.Verdict.{Verdict}

-- all rules of the command hold, and the fact holds for what was found; or the rule is the first that fails
abbrev pub IsAdmitted :
    {X : Type 0} → Charter → History → ℕ → List ℕ → Command → (X → Type 0) → Result X Rule → Type 0
IsAdmitted charter history day caller command fact (Ok x) =
    Verdict charter history day caller command None × fact x
IsAdmitted charter history day caller command fact (Err rule) =
    Verdict charter history day caller command (Some rule)
