-- The statuses and lines of the program's faults, and how the faults of files and words become the
-- program's.
use Rattle.std.specs.Prelude.{ℕ, List, ◌++◌, codes, decimal}
use Rattle.addr.specs.PrefixText.{prefix_fault_number}
use Rattle.cli_texts.specs.declared.fault.FileFault.{FileFault}
use Rattle.cli_texts.specs.declared.fault.FileFault.TheVariants as file
use Rattle.cli_texts.specs.declared.fault.InputFile.{InputFile}
use Rattle.cli_texts.specs.declared.fault.InputFile.TheVariants as input
use Rattle.cli_texts.specs.declared.fault.ProgramFault.{ProgramFault}
use Rattle.cli_texts.specs.declared.fault.RowFault.{RowFault}
use Rattle.cli_texts.specs.declared.fault.RowFault.TheVariants as row
use Rattle.cli_texts.specs.declared.fault.ProgramFault.TheVariants.{Words, Day, File, Database, Socket, Stream, Memory, Header, Row, CharterCount, Schema, Exists}
use Rattle.cli_texts.specs.declared.words.WordsFault.{WordsFault}
use Rattle.cli_texts.specs.declared.words.WordsFault.TheVariants as words

-- 2 other words or no day, 3 a file, the database, a socket or a stream failed, 4 an allocation failed, 5 what a
-- file holds is refused
abbrev pub status_of : ProgramFault → ℕ
status_of Words = 2
status_of Day = 2
status_of File = 3
status_of Database = 3
status_of Socket = 3
status_of Stream = 3
status_of Memory = 4
status_of (Header file) = 5
status_of (Row file row fault) = 5
status_of CharterCount = 5
status_of Schema = 5
status_of Exists = 5

abbrev pub input_name : InputFile → List ℕ
input_name input.Charter = codes "charter"
input_name input.Payloads = codes "payloads"
input_name input.Routes = codes "routes"

abbrev pub row_fault_text : RowFault → List ℕ
row_fault_text row.Fields = codes "fields"
row_fault_text row.Kind = codes "kind"
row_fault_text row.Name = codes "name"
row_fault_text row.Asn = codes "asn"
row_fault_text (row.Prefix fault) = codes "prefix " ++ decimal (prefix_fault_number fault)
row_fault_text row.Length = codes "length"
row_fault_text row.Origin = codes "origin"
row_fault_text row.Repeated = codes "repeated"

-- the line on standard error, without its line feed
abbrev pub program_fault_text : ProgramFault → List ℕ
program_fault_text Words = codes "roadesk: words"
program_fault_text Day = codes "roadesk: day"
program_fault_text File = codes "roadesk: file"
program_fault_text Database = codes "roadesk: database"
program_fault_text Socket = codes "roadesk: socket"
program_fault_text Stream = codes "roadesk: stream"
program_fault_text Memory = codes "roadesk: memory"
program_fault_text (Header file) = codes "roadesk: " ++ input_name file ++ codes " header"
program_fault_text (Row file number fault) =
    codes "roadesk: " ++ input_name file ++ codes " row " ++ decimal number
    ++ codes ": " ++ row_fault_text fault
program_fault_text CharterCount = codes "roadesk: charter count"
program_fault_text Schema = codes "roadesk: schema"
program_fault_text Exists = codes "roadesk: exists"

abbrev pub fault_of_words : WordsFault → ProgramFault
fault_of_words words.Words = Words
fault_of_words words.Day = Day

abbrev pub fault_of_file : InputFile → FileFault → ProgramFault
fault_of_file which file.Memory = Memory
fault_of_file which file.Header = Header which
fault_of_file which (file.Row row fault) = Row which row fault
