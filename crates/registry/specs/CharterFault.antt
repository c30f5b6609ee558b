-- Why two lists make no charter.
use Rattle.std.specs.Prelude.{ℕ}
use Rattle.registry.specs.declared.charter.CharterFault.{CharterFault}
use Rattle.registry.specs.declared.charter.CharterFault.TheVariants.{Count, Repeated}

-- the number of a fault, from 1 in the order in which they are looked for
abbrev pub charter_fault_number : CharterFault → ℕ
charter_fault_number Count = 1
charter_fault_number Repeated = 2
