-- How the faults of a script, of the store, of an open and of serving become the program's.
use Rattle.cli_texts.specs.declared.fault.ProgramFault.{ProgramFault}
use Rattle.cli_texts.specs.declared.fault.ProgramFault.TheVariants.{Database, Memory, Schema, Socket, Stream}
use Rattle.sqlite_disk.specs.declared.Disk.{Ghosts}
use Rattle.store_transactions.specs.declared.fault.StoreFault.{StoreFault}
use Rattle.store_transactions.specs.declared.fault.StoreFault.TheVariants as store
use Rattle.web.specs.declared.script.ScriptFault.{ScriptFault}
use Rattle.web.specs.declared.script.ScriptFault.TheVariants as script
use Rattle.desk_files.specs.declared.file.OpenFault.{OpenFault}
use Rattle.desk_files.specs.declared.file.OpenFault.TheVariants as opening
use Rattle.cli_tasks.specs.declared.serve_desk.ServeFault.{ServeFault}
use Rattle.cli_tasks.specs.declared.serve_desk.ServeFault.TheVariants as serving

-- a stream failed, or an allocation
abbrev pub fault_of_script : ScriptFault → ProgramFault
fault_of_script script.Read = Stream
fault_of_script script.Write = Stream
fault_of_script script.Memory = Memory

abbrev pub fault_of_store : StoreFault → ProgramFault
fault_of_store store.Database = Database
fault_of_store store.Schema = Schema

abbrev pub fault_of_open : {D : Type 0} {g : Ghosts D} → OpenFault D g → ProgramFault
fault_of_open (opening.Path fault) = fault
fault_of_open (opening.File fault rest) = fault
fault_of_open (opening.Store fault files) = fault_of_store fault

abbrev pub fault_of_serve : {D : Type 0} {g : Ghosts D} → ServeFault D g → ProgramFault
fault_of_serve (serving.Open fault) = fault_of_open fault
fault_of_serve (serving.Bind fault closed) = fault
fault_of_serve (serving.Accept closed) = Socket
fault_of_serve (serving.Close fault) = Database
