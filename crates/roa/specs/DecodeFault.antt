use Rattle.std.specs.Prelude.{ℕ}
use Rattle.roa.specs.declared.fault.DecodeFault.{DecodeFault}
use Rattle.roa.specs.declared.fault.DecodeFault.TheVariants.{NotContent, Memory}

-- the number of a reason, from 1
abbrev pub decode_fault_number : DecodeFault → ℕ
decode_fault_number NotContent = 1
decode_fault_number Memory = 2
