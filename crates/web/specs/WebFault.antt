-- How serving a connection ends early.
use Rattle.std.specs.Prelude.{ℕ}
use Rattle.web.specs.declared.http.WebFault.{WebFault}
use Rattle.web.specs.declared.http.WebFault.TheVariants.{Read, Write}

-- 1 no whole request came, 2 a write failed
abbrev pub web_fault_number : WebFault → ℕ
web_fault_number Read = 1
web_fault_number Write = 2
