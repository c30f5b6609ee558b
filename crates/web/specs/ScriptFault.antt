-- How a script ends early.
use Rattle.std.specs.Prelude.{ℕ}
use Rattle.web.specs.declared.script.ScriptFault.{ScriptFault}
use Rattle.web.specs.declared.script.ScriptFault.TheVariants.{Read, Write, Memory}

-- 1 a read failed, 2 a write failed, 3 an allocation failed for the line
abbrev pub script_fault_number : ScriptFault → ℕ
script_fault_number Read = 1
script_fault_number Write = 2
script_fault_number Memory = 3
