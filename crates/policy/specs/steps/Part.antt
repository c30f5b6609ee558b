-- A part of a request of several parts, judged by itself.
use Rattle.std.specs.Prelude.{ℕ, Some, Result, Ok, Err}
use Rattle.registry.specs.declared.rule.Refusal.{Refusal}
use Rattle.registry.specs.declared.rule.Refusal.TheVariants.{Denied, Memory}
use Rattle.registry.specs.declared.rule.Rule.{Rule}

-- this holds for the rule that denies the part; if an allocation failed, nothing is said
abbrev pub IsRefusedBy : (Rule → Type 0) → Refusal → Type 0
IsRefusedBy denied (Denied rule place) = denied rule
IsRefusedBy denied Memory = Unit {0}

-- the part was done, and the one fact holds for its result; or the other holds for the rule that denies it
abbrev pub Judged : {X : Type 0} → (X → Type 0) → (Rule → Type 0) → Result X Refusal → Type 0
Judged done denied (Ok x) = done x
Judged done denied (Err refusal) = IsRefusedBy denied refusal

-- the refusal of the request for the part in this place
abbrev pub refusal_at : ℕ → Refusal → Refusal
refusal_at place (Denied rule _) = Denied rule (Some place)
refusal_at place Memory = Memory
