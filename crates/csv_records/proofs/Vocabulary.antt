-- The names of the logic, of other crates and of the definitions that the proofs use, in one place.
pub use Rattle.std.proofs.Common.{Bool, Err, List, None, Ok, Option, Result, Some, [], ap, append_assoc, arith, drop, false, get_or, if◌then◌else◌, inl, inr, is_some, length, map, refl, subst, suc, sym, take, true, zero, ℕ, ◌++◌, ◌+◌, ◌-◌, ◌<◌, ◌∙◌, ◌∷◌, ◌≡◌, ◌≤◌}
pub use Rattle.std.proofs.lemmas.Bool.{cases_Bool, not-false, not-true}
pub use Rattle.std.proofs.lemmas.List.{get_or-map, length-append, length-map, take-append-drop}
pub use Rattle.std.proofs.lemmas.Option.{none-some, same_Some}
pub use Rattle.std.specs.List.{AllZip, flat_map}
pub use Rattle.std.specs.Prelude.{IfOk, decimal, ◌&&◌}
pub use Rattle.csv.proofs.RecordFacts.{field-get, field-there}
pub use Rattle.csv.specs.Machine.{Read, ends_at_end, field_after, fields_after, is_end, next_record, step}
pub use Rattle.csv.specs.Records.{fields_of}
pub use Rattle.csv.specs.declared.parser.State.{State}
pub use Rattle.addr.specs.Day.{day_in, day_text}
pub use Rattle.json_values.specs.Parts.{and_then, each, mapped}
pub use Rattle.csv_records.specs.CsvRecords.{IsReading, csv_records, current, records_left, records_of_rest, unread}
pub use Rattle.csv_records.specs.Fields.{RecordFields, field_in, fields_eq, rows_after, texts_of, three_of, two_of}
pub use Rattle.csv_records.specs.Imports.{IsImportText, SaysRow, import_fault, import_fault_number, import_faults, import_header, is_row_count, max_in, named_asn, row_faults}
pub use Rattle.csv_records.specs.Lines.{csv_line, csv_text, entry_fields, list_header, list_rows, payload_header, payload_row, payload_rows, prefix_text}
pub use Rattle.csv_records.specs.steps.Importing.{counted, import_in, row_in_fields, row_of_parts, row_or_fault, rows_in_records}
