-- The names of the logic, of other crates and of the definitions that the proofs use, in one place.
pub use Rattle.std.proofs.Common.{Bool, List, None, Option, Some, [], ap, append_assoc, arith, codes, cond, drop, false, get_or, inl, inr, length, length-append, map, nat_eq, not, refl, rules, slice_index_or, subst, suc, sym, take, true, zero, ℕ, ◌++◌, ◌+◌, ◌-◌, ◌<◌, ◌∙◌, ◌∷◌, ◌≡◌, ◌≢◌, ◌≤◌}
pub use Rattle.std.proofs.lemmas.Bool.{cases_Bool, not-false, not-true, or_from, or_parts}
pub use Rattle.std.proofs.lemmas.List.{append-nil, drop_more, length-map, map-append, nil_from_length, take-append-drop, take_rest}
pub use Rattle.std.proofs.lemmas.Slice.Eq.{bytes_eq-Decides}
pub use Rattle.std.specs.Borrow.{Bor}
pub use Rattle.std.specs.Prelude.{Err, IfSome, MatchOption, slice_range, ◌||◌}
pub use Rattle.std.specs.Str.{bytes_eq}
pub use Rattle.csv.proofs.RecordFacts.{on_err-map}
pub use Rattle.addr.proofs.PrefixSpellingLemmas.{Spells_unique, faultless-Spells, loose-Spells}
pub use Rattle.addr.specs.OriginValidation.{ValidationState, state_text, validation_state}
pub use Rattle.addr.specs.PrefixText.{Spells}
pub use Rattle.addr.specs.declared.prefix.Prefix.{Prefix}
pub use Rattle.addr.specs.declared.route.Route.{Route}
pub use Rattle.csv_records.specs.CsvRecords.{IsReading, csv_records, current, records_left}
pub use Rattle.csv_records.specs.Fields.{RecordFields, fields_eq, rows_after, texts_of, two_of}
pub use Rattle.csv_records.specs.Lines.{payload_header, payload_row, prefix_text}
pub use Rattle.payload.specs.ValidityState.{state_of}
pub use Rattle.streams.proofs.StreamLemmas.{on-err}
pub use Rattle.cli_texts.specs.CharterFile.{HoldsRows, charter_fault, charter_row, fault_of_pair, first_charter_fault, is_noted, kind_and_value_fault, kind_of, operators_in, pool_in, pool_kind, same_row, value_of}
pub use Rattle.cli_texts.specs.Check.{check_fault, state_line, state_lines}
pub use Rattle.cli_texts.specs.CsvRows.{IsReported, at_row, file_fault, first_fault, header_fault, length_and_width, decimal_between, origin_fault, origin_text, payload_fault, payload_texts_fault, route_fault, route_header, route_row, route_texts_fault}
pub use Rattle.cli_texts.specs.declared.charter_file.CharterRow.{CharterRow}
pub use Rattle.cli_texts.specs.declared.fault.RowFault.{RowFault}
pub use Rattle.cli_texts.specs.steps.StateLines.{RowsLieIn, Stands, WritesBeginning, after_rows, lines_text, row_line, rows_kept, rows_text}
