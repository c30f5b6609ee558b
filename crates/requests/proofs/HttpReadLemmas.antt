-- What the code reads of an HTTP message is the request that the message is, and its fault the lowest.
use Rattle.requests.proofs.Vocabulary.{◌≡◌, ℕ, List, [], ◌∷◌, ◌++◌, map, Option, Some, None, is_some, Result, Ok, Err, codes, inl, refl, sym, ap, ◌∙◌, append_assoc, arith, same_Some, Vec, flat_map, option_to_list, IfOk, result_err, result_map_both, Data, null, ImportRow, fault_unless, lower_of, lowest, name_faults, required_faults, mapped, tree_of, Asked, Head, Action, body_bytes, body_faults, head_caller, fault_of_import, http_fault, http_faults, sent_import_faults, json_tree, object_body_faults, path_faults, parsed_body_faults, as_malformed, body_members, body_names, choices_of, sent_file_faults, file_list, fault_order, named_by, members_and_choices_faults, Fault, Json, Members, Holder, Caller, Number, File, asked_of, import_body, import_rows, object_body, path_subject, request_by, tree_request, AskedTerms, RequestTerms, asked_terms, file_list_in, main_file_of, request_in, slurm_request, lowest-none, reads-both, reads-last, reads-mapped, reads-ok_or, reads-says, get, HasFileList}
use Rattle.std.proofs.lemmas.Bool.Decides.{nat_tests}
use Rattle.addr.specs.Name.{name_in}
use Rattle.json_values.specs.Parts.{lower}
use Rattle.csv_records.proofs.ImportLemmas.{import-read, import_in-said, import_in-reported}
use Rattle.csv_records.specs.Imports.{import_fault, IsImportText}
use Rattle.csv_records.specs.declared.imports.ImportFault.{ImportFault}
use Rattle.csv_records.specs.steps.Importing.{import_in}
use Rattle.requests.specs.declared.action.Action.TheVariants.{Import, Slurm, Slurms}
use Rattle.requests.specs.HttpRequests.{body_tree, files_brought, http_heading, SaysAsked}
use Rattle.requests.proofs.FileReadLemmas.{reads-file_list}
use Rattle.requests.proofs.RequestFaultLemmas.{ReadsUnlessFaulty, reads-fault, reads-with_only}
use Rattle.requests.proofs.RequestReadLemmas.{SaysTerms, reads-request, terms-said}
use Rattle.requests.proofs.SlurmReadLemmas.{reads-main_file_of}

-- no fault is lower than this one
lower-json : (fault : Fault) → lower fault_order fault Json ≡ Json
unfolding lower
lower-json Json = refl
lower-json (File fault) = grind (arith, nat_tests)
lower-json fault = refl

lowest-json : (faults : List Fault) → Some Json ≡ lowest fault_order (faults ++ Json ∷ [])
lowest-json [] = refl
lowest-json (fault ∷ faults) =
    ap Some (sym (lower-json fault)) ∙ ap (lower_of fault_order (Some fault)) (lowest-json faults)

reads-day : (day : ℕ) → ReadsUnlessFaulty (Ok day) [] (λ asked_day. asked_day ≡ day)
reads-day day = record { reported = record { is = refl }; value = refl }

-- the rows of an import
reads-text : (text : List ℕ) → ReadsUnlessFaulty (import_rows text) (sent_import_faults text) (IsImportText text)
reads-text text =
    record {
      reported = record { is = reported (import_in text) (import_fault text) (import_in-reported text) };
      value = said (import_in text) (import_in-said text);
    }
  where
    reported : (read : Result (List ImportRow) ImportFault) (found : Option ImportFault) → result_err read ≡ found
        → result_err (result_map_both (λ rows. rows) fault_of_import read)
        ≡ lowest fault_order (map fault_of_import (option_to_list found))
    reported (Ok rows) found is = rw (← is) refl
    reported (Err fault) found is = rw (← is) refl

    said : (read : Result (List ImportRow) ImportFault) → IfOk read (IsImportText text)
        → IfOk (result_map_both (λ rows. rows) fault_of_import read) (IsImportText text)
    said (Ok rows) is = is
    said (Err fault) is = is

-- what says the rows of a text, or its fault, was read of it
pub import_rows-read : (text : List ℕ) (read : Result (Vec ImportRow) ImportFault)
    → IfOk read (λ rows. IsImportText text rows.items) → result_err read ≡ import_fault text
    → result_map_both (λ rows. rows.items) fault_of_import read ≡ import_rows text
import_rows-read text read says reported = as_fault read (import-read text read says reported)
  where
    as_fault : (r : Result (Vec ImportRow) ImportFault) → mapped (λ rows. rows.items) r ≡ import_in text
        → result_map_both (λ rows. rows.items) fault_of_import r ≡ import_rows text
    as_fault (Ok rows) is = ap (result_map_both (λ (xs : List ImportRow). xs) fault_of_import) is
    as_fault (Err fault) is = ap (result_map_both (λ (xs : List ImportRow). xs) fault_of_import) is

module _ (head : Head) (body : Option (List ℕ)) where
  -- the request that the body's value says
  abbrev SaysTree : Option Data → RequestTerms → Type 0
  SaysTree found terms = (d : Data) × (found ≡ Some d) × SaysTerms (http_heading head body d) d terms

  -- the files that a body brings as a list
  reads-list_brought : (d : Data) → head.action ≡ Slurms
      → ReadsUnlessFaulty (file_list_in d) (required_faults Members (file_list d) (get (codes "files") d)) (HasFileList (files_brought head.action d))
  reads-list_brought d is = rw is (reads-file_list d)

  -- a body that is to be an object, of a request that brings neither a file nor rows
  module _ (action : Action) (does : head.action ≡ action)
      (no_file : action ≡ Slurm → ⊥) (no_rows : action ≡ Import → ⊥) where
    abbrev in_path : List Fault
    in_path = flat_map (path_faults head) (named_by action)

    reads-members : (d : Data) → ReadsUnlessFaulty (request_in action (path_subject head) d)
        (in_path ++ members_and_choices_faults (body_members action) (choices_of action) d) (SaysTerms (http_heading head body d) d)
    reads-members d =
        reads-request (http_heading head body d) (path_subject head) (path_faults head)
        (reads-ok_or _ Holder) (reads-ok_or _ Number) action d (ap Some does)
        (λ file. absurd (no_file (sym does ∙ same_Some head.action Slurm file)))
        (λ list. reads-list_brought d (same_Some head.action Slurms list))
        (λ rows. absurd (no_rows (sym does ∙ same_Some head.action Import rows)))

    reads-tree : (found : Option Data)
        → ReadsUnlessFaulty (tree_request action (path_subject head) found) (in_path ++ parsed_body_faults action found) (SaysTree found)
    reads-tree None = record { reported = record { is = lowest-json in_path }; value = tt }
    reads-tree (Some d) =
        reads-says (λ terms says. (d, refl, says))
        (rw (← append_assoc in_path (members_and_choices_faults (body_members action) (choices_of action) d) (name_faults Members (body_names action) d))
        (reads-with_only (body_names action) d (reads-members d)))

    reads-object : (bytes : Option (List ℕ))
        → ReadsUnlessFaulty (object_body action (path_subject head) bytes) (in_path ++ object_body_faults action bytes)
        (SaysTree (json_tree bytes))
    reads-object None = reads-says (λ terms says. (null, refl, says)) (reads-members null)
    reads-object (Some bytes) = reads-tree (tree_of bytes)

  -- a body that is a file
  reads-slurm : head.action ≡ Slurm → (found : Option Data)
      → ReadsUnlessFaulty (slurm_request (main_file_of found)) (sent_file_faults found) (SaysTree found)
  reads-slurm does None = reads-fault
  reads-slurm does (Some d) = reads-mapped _ (λ p says. (d, refl, inl (ap Some does, says))) (reads-main_file_of (Some d))

  -- a body that is an import
  reads-import : head.action ≡ Import → ReadsUnlessFaulty (import_body (path_subject head) body)
      (flat_map (path_faults head) (named_by Import) ++ sent_import_faults (body_bytes body)) (SaysTree (Some null))
  reads-import does =
      reads-mapped _ (λ p (holder, rows). (null, refl, (ap Some does, holder, rows)))
      (reads-both (reads-last (reads-ok_or (name_in head.holder) Holder)) (reads-text (body_bytes body)))

  reads-body : (action : Action) → head.action ≡ action
      → ReadsUnlessFaulty (request_by action (path_subject head) body)
      (flat_map (path_faults head) (named_by action) ++ body_faults action body) (SaysTree (body_tree action body))
  reads-body Slurm does = reads-slurm does (json_tree body)
  reads-body Import does = reads-import does
  reads-body other does = reads-object other does (λ e. cc) (λ e. cc) body

  -- what is asked on the day, whatever the faults are
  abbrev AsksTerms : ℕ → AskedTerms → Type 0
  AsksTerms day asked =
      (asked.day ≡ day) × (head_caller head ≡ Some asked.caller) × SaysTree (body_tree head.action body) asked.terms

  reads-http : (day : ℕ) → ReadsUnlessFaulty (asked_of day head body) (http_faults head body) (AsksTerms day)
  reads-http day =
      rw (append_assoc (fault_unless (is_some (head_caller head)) Caller) (flat_map (path_faults head) (named_by head.action)) (body_faults head.action body))
      (reads-mapped _ (λ p (day, (caller, terms)). (day, caller, terms))
      (reads-both (reads-day day) (reads-both (reads-ok_or (head_caller head) Caller) (reads-body head.action refl))))

  -- what was read of a message is what the message says
  pub http-read : (day : ℕ) (asked : Asked) → mapped asked_terms (Ok asked) ≡ asked_of day head body → SaysAsked day head body asked
  http-read day asked read =
      let reads = reads-http day in
      let says = rw (← read) at reads.value in
      let fault = rw (← read) at reads.reported.is in record {
        tree = says.2.0;
        is_tree = says.2.1;
        on_day = says.0;
        caller = says.1;
        request = terms-said (http_heading head body says.2.0) says.2.0 asked.request says.2.2;
        faultless = lowest-none fault_order (http_faults head body) (sym fault);
      }

  -- what is reported of a message is its lowest fault
  pub http-refused : (day : ℕ) (fault : Fault) → mapped asked_terms (Err fault) ≡ asked_of day head body
      → http_fault head body ≡ Some (as_malformed fault)
  http-refused day fault read =
      let reported = rw (← read) at (reads-http day).reported.is in rw (← reported) refl
