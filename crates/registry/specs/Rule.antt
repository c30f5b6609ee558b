-- The rules of admission by name.
use Rattle.std.specs.Prelude.{ℕ, List, codes}
use Rattle.registry.specs.declared.rule.Rule.{Rule}
use Rattle.registry.specs.declared.rule.Rule.TheVariants.{Operator, Steward, Grant, Holder, Fresh, Number, Scope, Dates, Length, Pool, Free, Distinct, Held, Same, Room, Overlap}

-- the word for the rule
abbrev pub rule_name : Rule → List ℕ
rule_name Operator = codes "operator"
rule_name Steward = codes "steward"
rule_name Grant = codes "grant"
rule_name Holder = codes "holder"
rule_name Fresh = codes "fresh"
rule_name Number = codes "number"
rule_name Scope = codes "scope"
rule_name Dates = codes "dates"
rule_name Length = codes "length"
rule_name Pool = codes "pool"
rule_name Free = codes "free"
rule_name Distinct = codes "distinct"
rule_name Held = codes "held"
rule_name Same = codes "same"
rule_name Room = codes "room"
rule_name Overlap = codes "overlap"
