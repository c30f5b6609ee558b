use Rattle.std.specs.Prelude.{ℕ}
use Rattle.store_transactions.specs.declared.fault.StoreFault.{StoreFault}
use Rattle.store_transactions.specs.declared.fault.StoreFault.TheVariants.{Database, Schema}

abbrev pub store_fault_number : StoreFault → ℕ
store_fault_number Database = 1
store_fault_number Schema = 2
