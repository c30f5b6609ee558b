-- The names of the logic, of other crates and of the definitions that the proofs use, in one place.
pub use Rattle.std.proofs.Common.{Bool, Err, IsUtf8, List, None, Ok, Option, Ordering, Result, Some, [], add-one, ap, append_assoc, arith, codes, drop, drop-cons, false, find, fold, get_or, if◌then◌else◌, inl, inr, is_some, length, lit<, map, nat_le, nat_lt, not, option_and_then, refl, subst, suc, sym, take, true, zero, ℕ, ◌++◌, ◌+◌, ◌<◌, ◌==◌, ◌||◌, ◌∙◌, ◌∷◌, ◌≡◌, ◌≤◌, ◌⊎◌}
pub use Rattle.std.proofs.lemmas.Bool.{and_from, both_ways, false_from_ne_true, false≢true, le-leb, leb-true, or_parts}
pub use Rattle.std.proofs.lemmas.List.{length-map, length-take}
pub use Rattle.std.proofs.lemmas.List.Elements.{All-contains, All-from_recursion, Contains-append_right}
pub use Rattle.std.proofs.lemmas.List.Sorted.{All-permutation, Contains-permutation, IsPermutation-cons, IsPermutation-middle, IsPermutation-refl, IsPermutation-sym, IsPermutation-trans, length_permutation, list_any-IsPermutation}
pub use Rattle.std.proofs.lemmas.Map.Keys.{sorted_head, sorted_tail}
pub use Rattle.std.proofs.lemmas.Option.{none-some, same_Some}
pub use Rattle.std.specs.Cmp.{IsTotalOrder, on_total}
pub use Rattle.std.specs.Global.{Vec}
pub use Rattle.std.specs.List.{AllByRecursion, AllZip, Contains, flat_map, list_any}
pub use Rattle.std.specs.Option.{ok_or, option_copied, option_to_list}
pub use Rattle.std.specs.Ordering.{is_eq, is_lt, ordering_reverse}
pub use Rattle.std.specs.Prelude.{IfOk, IsPermutation}
pub use Rattle.std.specs.Result.{result_err, result_map_both}
pub use Rattle.std.specs.Str.{bytes_eq, is_utf8}
pub use Rattle.std.specs.declared.cmp.Ordering.TheVariants.{Equal, Greater, Less}
pub use Rattle.addr.specs.Address.{prefix_eq}
pub use Rattle.addr.specs.Order.{TestsEquality, prefix_cmp, same_vrp}
pub use Rattle.addr.specs.declared.prefix.Prefix.{Prefix}
pub use Rattle.registry.specs.Repeats.{has_repeat}
pub use Rattle.httparse.specs.Spans.{header_bytes, name_and_value}
pub use Rattle.json_values.proofs.FaultLemmas.{Pass, lowest-append, lowest-passes, pass-append, pass-flat_map, pass-required, pass-unless, reported-if, reported-ok_or, reported-only, reported-required}
pub use Rattle.json_values.proofs.PartsLemmas.{lower-first, mapped-unless}
pub use Rattle.json_values.proofs.ReadingLemmas.{Reads, lowest-none, reads-both, reads-each, reads-last, reads-mapped, reads-ok_or, reads-says, reads-unless, value-ok_or}
pub use Rattle.json_values.specs.Faults.{fault_unless, lower_of, lowest, name_faults, reading_faults, required_faults}
pub use Rattle.json_values.specs.Parts.{and_then, both, mapped}
pub use Rattle.json_values.specs.Tree.{list_of, required, tree_of}
pub use Rattle.json_values.specs.Values.{as_asn, as_day, as_name, as_prefix}
pub use Rattle.registry.specs.declared.asked.Asked.{Asked}
pub use Rattle.registry.specs.declared.asked.Request.{Request}
pub use Rattle.registry.specs.declared.authorization.ImportRow.{ImportRow}
pub use Rattle.registry.specs.declared.command.Command.TheVariants.{Amend, Import}
pub use Rattle.registry.specs.declared.command.Query.TheVariants.{Validity}
pub use Rattle.serde_json.specs.Data.{Data, Items, null}
pub use Rattle.serde_json.specs.Find.{as_array, as_str, get}
pub use Rattle.slurm.specs.SlurmFaults.{assertions_at, filters_at, slurm_fault}
pub use Rattle.slurm.specs.SlurmSets.{AreNamedOnce, RiseByName, name_cmp}
pub use Rattle.slurm.specs.declared.fault.SlurmFault.{SlurmFault}
pub use Rattle.slurm.specs.declared.set.NamedSlurm.{NamedSlurm}
pub use Rattle.slurm.specs.declared.set.TheConstants.{MOST_FILES}
pub use Rattle.requests.specs.HttpFaults.{body_bytes, body_faults, fault_of_import, head_caller, http_fault, http_faults, sent_import_faults, json_tree, object_body_faults, parsed_body_faults, path_faults}
pub use Rattle.requests.specs.Paths.{has_query, path_at, path_of, path_routes, with_path}
pub use Rattle.requests.specs.RequestFaults.{HolderName, Kind, Named, NumberGiven, action_faults, action_in, action_of, all_actions, any_value, as_malformed, body_members, body_names, caller_name, change_faults, changes, choice_faults, choices_of, chosen_faults, creation_members, day, entry_choice, entry_list, entry_members, fault_order, file, file_choice, sent_file_faults, file_list, file_members, form_of, has_some, is_count, is_word, line_names, list_faults, max_choice, member_faults, members_of, named_by, named_member, names_of, object_faults, members_and_choices_faults, part_names, repeat_faults, request_fault, request_faults, role_at, route_members, routes, row_members, rows, terms_members, tree_faults, values_in, withdrawal_members, word_of}
pub use Rattle.requests.specs.RequestHeads.{Head, SaysHead, head_as, head_at, head_of, head_view, head_with}
pub use Rattle.requests.specs.RequestText.{Does, HasDay, HasEntries, HasEntry, HasEntryList, HasFile, HasFileList, HasGrantTerms, HasItems, HasMainFile, HasMaxes, HasMember, HasName, HasEntryMembers, HasOneMax, HasRoutes, HasRow, HasTerms, Heading, NamesHolder, NamesNumber, ReadsLine, SaysChange, SaysRequest, SaysRoute, SaysRows, line_heading, main_alone}
pub use Rattle.requests.specs.RequestValues.{as_max, as_number, as_origin, as_role, as_scope}
pub use Rattle.requests.specs.Routes.{action_at, is_asked_by}
pub use Rattle.requests.specs.declared.action.Action.{Action}
pub use Rattle.requests.specs.declared.malformed.Malformed.{Malformed}
pub use Rattle.requests.specs.declared.path.Path.{Path}
pub use Rattle.requests.specs.declared.request.commands.Subject.{Subject}
pub use Rattle.requests.specs.declared.request.terms.AsnAndDays.{AsnAndDays}
pub use Rattle.requests.specs.declared.request.entries.TheConstants.{MOST_ENTRIES}
pub use Rattle.requests.specs.declared.request.fault.Fault.{Fault}
pub use Rattle.requests.specs.declared.request.fault.Fault.TheVariants.{Caller, Count, Day, File, FileName, Holder, Json, Max, Members, Number, Repeated, Role, TooLong}
pub use Rattle.requests.specs.steps.HttpReading.{asked_of, import_body, import_rows, object_body, path_subject, request_by, tree_request}
pub use Rattle.requests.specs.steps.RequestReading.{AskedTerms, RequestTerms, amend, arranged, as_file, asked_as, asked_by, asked_from, asked_in, asked_terms, asn_and_days_in, change_by, change_in, changes_in, chosen, entries_arranged, entries_in, entry_in, entry_members_in, file_in, file_list_in, file_members_in, file_of, files_arranged, files_in, grant_terms_in, import, in_order, items_of, line_subject, main_file_in, main_file_of, max_item_in, maxes_in, member_in, named_file_in, once_in_order, one_entry_in, one_max_in, repeats_name, request, request_in, request_terms, route_in, routes_in, row_in, row_list_in, slurm_request, terms_in, validity, what_if, with_item, with_only}
