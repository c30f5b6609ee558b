-- What the code reads of a line is the request that the line is, and its fault the lowest.
use Rattle.requests.proofs.Vocabulary.{◌≡◌, ◌⊎◌, ℕ, Bool, true, false, if◌then◌else◌, nat_lt, List, [], ◌∷◌, ◌++◌, map, length, codes, Option, Some, None, option_and_then, Ok, Err, refl, sym, ap, ◌∙◌, append_assoc, inl, inr, flat_map, Amend, Import, Validity, Data, get, as_str, NamedSlurm, required_faults, both, mapped, tree_of, Asked, Request, as_malformed, fault_order, role_at, terms_members, row_members, entry_members, creation_members, withdrawal_members, route_members, names_of, part_names, members_and_choices_faults, choice_faults, choices_of, entry_choice, line_names, object_faults, change_faults, rows, changes, routes, file_choice, file_list, action_in, action_of, body_members, member_faults, named_by, named_member, Named, HolderName, NumberGiven, Kind, any_value, caller_name, day, members_of, action_faults, tree_faults, request_faults, request_fault, HasName, HasDay, HasGrantTerms, HasFileList, HasMainFile, HasMaxes, HasMember, HasRow, HasTerms, SaysChange, SaysRoute, HasItems, HasRoutes, Heading, Does, NamesHolder, NamesNumber, SaysRequest, line_heading, ReadsLine, SaysRows, as_name, as_prefix, as_day, as_asn, as_origin, as_number, as_role, as_scope, Action, Fault, AsnAndDays, Subject, Members, Holder, Caller, Day, Role, Number, TooLong, RequestTerms, request, amend, import, validity, what_if, AskedTerms, request_terms, asked_terms, grant_terms_in, asn_and_days_in, terms_in, row_in, change_by, change_in, route_in, row_list_in, changes_in, routes_in, file_list_in, files_in, request_in, line_subject, asked_as, asked_by, asked_from, asked_in, reads-both, reads-mapped, reads-last, lowest-none}
use Rattle.std.proofs.lemmas.Grind.{flat_map-append}
use Rattle.registry.specs.declared.command.Proposed.TheVariants.{Create as CreateChange, Withdraw as WithdrawChange}
use Rattle.registry.specs.declared.asked.Request.TheVariants.{Command as CommandRequest, Query as QueryRequest}
use Rattle.requests.specs.declared.request.TheConstants.{LINE_LENGTH_LIMIT}
use Rattle.requests.specs.declared.action.Action.TheVariants.{Register as AskRegister, Delegate as AskDelegate, Transfer as AskTransfer, Reclaim as AskReclaim, Grant as AskGrant, Revoke as AskRevoke, Create as AskCreate, Amend as AskAmend, Withdraw as AskWithdraw, Slurm as AskSlurm, Slurms as AskSlurms, Show as AskShow, Content as AskContent, List as AskList, Export as AskExport, Import as AskImport, WhatIf as AskWhatIf, Payloads as AskPayloads, Validity as AskValidity}
use Rattle.requests.specs.declared.request.lists.TheConstants.{MOST_ITEMS, MOST_CHANGES}
use Rattle.requests.specs.declared.request.fault.Fault.TheVariants.{Prefix as PrefixFault, Asn}
use Rattle.requests.proofs.RequestFaultLemmas.{ReadsMember, ReadsUnlessFaulty, reads-fault, reads-list, reads-member, reads-with_only}
use Rattle.requests.proofs.EntryReadLemmas.{reads-entries, reads-entry_members, reads-maxes}
use Rattle.requests.proofs.FileReadLemmas.{reads-file_list, reads-files}

-- ---- members

holder : (d : Data) → ReadsMember as_name Holder (codes "holder") d
holder = reads-member as_name Holder (codes "holder")

prefix : (d : Data) → ReadsMember as_prefix PrefixFault (codes "prefix") d
prefix = reads-member as_prefix PrefixFault (codes "prefix")

number : (d : Data) → ReadsMember as_number Number (codes "number") d
number = reads-member as_number Number (codes "number")

until : (d : Data) → ReadsMember as_day Day (codes "until") d
until = reads-member as_day Day (codes "until")

-- what is known to be done is said by a member
do-faultless : (d : Data) (action : Action) (member : Option Data) →
    option_and_then action_of (option_and_then as_str member) ≡ Some action →
    required_faults Members (any_value d) member ≡ []
do-faultless d action None does = cc
do-faultless d action (Some value) does = refl

-- ---- rows, changes and routes

-- the AS number, the first and the last day
abbrev SaysAsnAndDays : Data → AsnAndDays → Type 0
SaysAsnAndDays d said =
    HasMember as_asn (codes "asn") d said.asn × HasDay (codes "from") d said.from × HasDay (codes "until") d said.until

reads-asn_and_days : (d : Data) → ReadsUnlessFaulty (asn_and_days_in d) (member_faults terms_members d) (SaysAsnAndDays d)
reads-asn_and_days d =
    reads-mapped _ (λ p (asn, (from, last)). (asn, from, last))
    (reads-both (reads-member as_asn Asn (codes "asn") d) (reads-both (reads-member as_day Day (codes "from") d) (reads-last (until d))))

reads-terms : (d : Data) → ReadsUnlessFaulty (terms_in d) (members_and_choices_faults terms_members (entry_choice ∷ []) d) (HasTerms d)
reads-terms d =
    reads-mapped _ (λ p ((asn, from, last), entries). (asn, entries, from, last))
    (reads-both (reads-asn_and_days d) (reads-last (reads-entries d)))

reads-grant_terms : (d : Data) → ReadsUnlessFaulty (grant_terms_in d) (member_faults (body_members AskGrant) d) (HasGrantTerms d)
reads-grant_terms d =
    reads-mapped _ (λ p (to, (role, (scope, last))). (to, role, scope, last))
    (reads-both (reads-member as_name Caller (codes "name") d)
    (reads-both (reads-member as_role Role (codes "role") d)
    (reads-both (reads-member (as_scope (role_at d)) Role (codes "scope") d) (reads-last (until d)))))

-- a row has one entry
row-split : (d : Data) → member_faults row_members d ≡ member_faults terms_members d ++ member_faults entry_members d
row-split d = flat_map-append (λ m. required_faults Members (m.1 d) (get m.0 d)) terms_members entry_members

reads-row : (d : Data) → ReadsUnlessFaulty (row_in d) (object_faults row_members d) (HasRow d)
reads-row d =
    rw (row-split d)
    (reads-with_only (names_of row_members) d
    (reads-mapped _ (λ p ((asn, from, last), (prefix, max)). (asn, prefix, max, from, last))
    (reads-both (reads-asn_and_days d) (reads-entry_members d))))

reads-change : (action : Option Action) (d : Data) → action_in d ≡ action →
    ReadsUnlessFaulty (change_by action d) (change_faults action d) (SaysChange d)
reads-change (Some AskCreate) d does =
    rw (do-faultless d AskCreate (get (codes "do") d) does)
    (reads-mapped CreateChange (λ terms says. (does, says))
    (reads-with_only (part_names creation_members (entry_choice ∷ [])) d (reads-terms d)))
reads-change (Some AskWithdraw) d does =
    rw (do-faultless d AskWithdraw (get (codes "do") d) does)
    (reads-mapped WithdrawChange (λ n says. (does, says))
    (reads-with_only (names_of withdrawal_members) d (reads-last (number d))))
reads-change other d does = reads-fault

reads-route : (d : Data) → ReadsUnlessFaulty (route_in d) (object_faults route_members d) (SaysRoute d)
reads-route d =
    reads-with_only (names_of route_members) d
    (reads-mapped _ (λ p says. says)
    (reads-both (prefix d) (reads-last (reads-member as_origin Asn (codes "origin") d))))

pub reads-rows : (d : Data) → ReadsUnlessFaulty (row_list_in d) (required_faults Members (rows d) (get (codes "rows") d))
    (HasItems HasRow (get (codes "rows") d))
reads-rows d = reads-list row_in (object_faults row_members) HasRow 1 MOST_ITEMS reads-row (get (codes "rows") d)

reads-changes : (d : Data) →
    ReadsUnlessFaulty (changes_in d) (required_faults Members (changes d) (get (codes "changes") d))
    (HasItems SaysChange (get (codes "changes") d))
reads-changes d =
    reads-list change_in (λ change. change_faults (action_in change) change) SaysChange 0 MOST_CHANGES
    (λ change. reads-change (action_in change) change refl) (get (codes "changes") d)

reads-routes : (d : Data) →
    ReadsUnlessFaulty (routes_in d) (required_faults Members (routes d) (get (codes "routes") d)) (HasRoutes d)
reads-routes d = reads-list route_in (object_faults route_members) SaysRoute 1 MOST_ITEMS reads-route (get (codes "routes") d)

-- ---- requests

abbrev pub SaysTerms : Heading → Data → RequestTerms → Type 0
SaysTerms h d (request r) = SaysRequest h d r
SaysTerms h d (amend holder number maxes last) =
    Does AskAmend h × NamesHolder h holder × NamesNumber h number × HasMaxes d maxes × HasDay (codes "until") d last
SaysTerms h d (import holder listed) = Does AskImport h × NamesHolder h holder × SaysRows h.rows listed
SaysTerms h d (validity listed) = Does AskValidity h × HasRoutes d listed
SaysTerms h d (what_if holder supposed listed) =
    Does AskWhatIf h × NamesHolder h holder × HasItems SaysChange (get (codes "changes") d) supposed × HasRoutes d listed

pub terms-said : (h : Heading) (d : Data) (r : Request) → SaysTerms h d (request_terms r) → SaysRequest h d r
terms-said h d (CommandRequest (Amend holder number maxes last)) says = says
terms-said h d (CommandRequest (Import holder listed)) says = says
terms-said h d (QueryRequest (Validity listed)) says = says
terms-said h d other says = says

-- of each of what a request names, and of its further members
abbrev pub said_faults : (Named → List Fault) → Action → Data → List Fault
said_faults named action d =
    flat_map named (named_by action) ++ members_and_choices_faults (body_members action) (choices_of action) d

module _ (h : Heading) (subject : Subject) (named : Named → List Fault)
    (holder : ReadsUnlessFaulty subject.holder (named HolderName) (NamesHolder h))
    (number : ReadsUnlessFaulty subject.number (named NumberGiven) (NamesNumber h)) where
  holder_and_number : ReadsUnlessFaulty (both fault_order subject.holder subject.number)
      (flat_map named (HolderName ∷ NumberGiven ∷ [])) (λ p. NamesHolder h p.0 × NamesNumber h p.1)
  holder_and_number = reads-both holder (reads-last number)

  -- the files of members are those that the heading has, where files are brought at all
  abbrev pub ReadsFiles : Data → Type 0
  ReadsFiles d = Does AskSlurm h
      → ReadsUnlessFaulty (files_in d) (choice_faults file_choice d) (λ files. HasMainFile h.file files ⊎ HasFileList h.files files)

  abbrev pub ReadsFileList : Data → Type 0
  ReadsFileList d = Does AskSlurms h
      → ReadsUnlessFaulty (file_list_in d) (required_faults Members (file_list d) (get (codes "files") d)) (HasFileList h.files)

  -- a set of files, as one or as a list
  says-files : Does AskSlurm h → (files : List NamedSlurm) → HasMainFile h.file files ⊎ HasFileList h.files files
      → (Does AskSlurm h × HasMainFile h.file files) ⊎ ((Does AskSlurm h ⊎ Does AskSlurms h) × HasFileList h.files files)
  says-files does files (inl one) = inl (does, one)
  says-files does files (inr list) = inr (inl does, list)

  abbrev pub ReadsRows : Data → Type 0
  ReadsRows d = Does AskImport h
      → ReadsUnlessFaulty (row_list_in d) (required_faults Members (rows d) (get (codes "rows") d)) (SaysRows h.rows)

  pub reads-request : (action : Action) (d : Data) → Does action h → ReadsFiles d → ReadsFileList d → ReadsRows d →
      ReadsUnlessFaulty (request_in action subject d) (said_faults named action d) (SaysTerms h d)
  reads-request AskRegister d does _ _ _ = reads-mapped _ (λ p says. (does, says)) (reads-last (reads-last holder))
  reads-request AskDelegate d does _ _ _ =
      reads-mapped _ (λ p (holder, prefix). (does, holder, prefix)) (reads-both (reads-last holder) (reads-last (reads-last (prefix d))))
  reads-request AskTransfer d does _ _ _ =
      reads-mapped _ (λ p (prefix, (giver, taker)). (does, prefix, giver, taker))
      (reads-last (reads-both (prefix d) (reads-both (reads-member as_name Holder (codes "giver") d)
      (reads-last (reads-member as_name Holder (codes "taker") d)))))
  reads-request AskReclaim d does _ _ _ =
      reads-mapped _ (λ p (holder, prefix). (does, holder, prefix)) (reads-both (reads-last holder) (reads-last (reads-last (prefix d))))
  reads-request AskGrant d does _ _ _ =
      reads-mapped _ (λ p (holder, terms). (does, holder, terms)) (reads-both (reads-last holder) (reads-last (reads-grant_terms d)))
  reads-request AskRevoke d does _ _ _ = reads-mapped _ (λ p (holder, number). (does, holder, number)) (reads-last holder_and_number)
  reads-request AskCreate d does _ _ _ = reads-mapped _ (λ p (holder, terms). (does, holder, terms)) (reads-both (reads-last holder) (reads-terms d))
  reads-request AskAmend d does _ _ _ =
      reads-mapped _ (λ p ((holder, number), (last, maxes)). (does, holder, number, maxes, last))
      (reads-both holder_and_number (reads-both (reads-last (until d)) (reads-last (reads-maxes d))))
  reads-request AskWithdraw d does _ _ _ = reads-mapped _ (λ p (holder, number). (does, holder, number)) (reads-last holder_and_number)
  reads-request AskSlurm d does files_brought _ _ = reads-mapped _ (says-files does) (reads-last (files_brought does))
  reads-request AskSlurms d does _ list_brought _ =
      reads-mapped _ (λ p says. inr (inr does, says)) (reads-last (reads-last (list_brought does)))
  reads-request AskShow d does _ _ _ = reads-mapped _ (λ p (holder, number). (does, holder, number)) (reads-last holder_and_number)
  reads-request AskContent d does _ _ _ = reads-mapped _ (λ p (holder, number). (does, holder, number)) (reads-last holder_and_number)
  reads-request AskList d does _ _ _ = reads-mapped _ (λ p says. (inl does, says)) (reads-last (reads-last holder))
  reads-request AskExport d does _ _ _ = reads-mapped _ (λ p says. (inr does, says)) (reads-last (reads-last holder))
  reads-request AskImport d does _ _ rows_brought =
      reads-mapped _ (λ p (holder, listed). (does, holder, listed)) (reads-both (reads-last holder) (reads-last (reads-last (rows_brought does))))
  reads-request AskWhatIf d does _ _ _ =
      reads-mapped _ (λ p (holder, (supposed, listed)). (does, holder, supposed, listed))
      (reads-both (reads-last holder) (reads-last (reads-both (reads-changes d) (reads-last (reads-routes d)))))
  reads-request AskPayloads d does _ _ _ = record { reported = record { is = refl }; value = does }
  reads-request AskValidity d does _ _ _ = reads-mapped validity (λ p says. (does, says)) (reads-last (reads-last (reads-routes d)))

-- ---- lines

-- what is asked, whatever the faults are
abbrev AsksTerms : Option Data → AskedTerms → Type 0
AsksTerms found asked = (d : Data) × (found ≡ Some d) × HasDay (codes "day") d asked.day
    × HasName (codes "caller") d asked.caller × SaysTerms (line_heading d) d asked.terms

-- of a member that names something
abbrev named_faults : Data → Named → List Fault
named_faults d named = required_faults Members ((named_member named).1 d) (get (named_member named).0 d)

-- the members that name something come first
members-split : (d : Data) (named : List Named) (rest : List (List ℕ × Kind)) →
    member_faults (map named_member named ++ rest) d ≡ flat_map (named_faults d) named ++ member_faults rest d
members-split d [] rest = refl
members-split d (n ∷ named) rest =
    ap (λ u. named_faults d n ++ u) (members-split d named rest)
    ∙ sym (append_assoc (named_faults d n) (flat_map (named_faults d) named) (member_faults rest d))

-- day and caller come before all that the request says
line-split : (action : Action) (d : Data) → Does action (line_heading d) →
    members_and_choices_faults (members_of action) (choices_of action) d
    ≡ required_faults Members (day d) (get (codes "day") d)
    ++ (required_faults Members (caller_name d) (get (codes "caller") d) ++ said_faults (named_faults d) action d)
line-split action d does =
    rw (do-faultless d action (get (codes "do") d) does, members-split d (named_by action) (body_members action))
    (append_assoc on_day (by_caller ++ (named ++ members)) chosen
    ∙ ap (λ faults. on_day ++ faults) (append_assoc by_caller (named ++ members) chosen
    ∙ ap (λ faults. by_caller ++ faults) (append_assoc named members chosen)))
  where
    on_day : List Fault
    on_day = required_faults Members (day d) (get (codes "day") d)

    by_caller : List Fault
    by_caller = required_faults Members (caller_name d) (get (codes "caller") d)

    named : List Fault
    named = flat_map (named_faults d) (named_by action)

    members : List Fault
    members = member_faults (body_members action) d

    chosen : List Fault
    chosen = flat_map (λ choice. choice_faults choice d) (choices_of action)

reads-asked : (action : Action) (d : Data) → Does action (line_heading d) →
    ReadsUnlessFaulty (asked_as action d) (action_faults (Some action) d) (AsksTerms (Some d))
reads-asked action d does =
    rw (line-split action d does)
    (reads-with_only (line_names action) d (reads-mapped _ (λ p (day, (caller, terms)). (d, refl, day, caller, terms))
    (reads-both (reads-member as_day Day (codes "day") d)
    (reads-both (reads-member as_name Caller (codes "caller") d)
    (reads-request (line_heading d) (line_subject d) (named_faults d) (holder d) (number d) action d does (λ _. reads-files d) (λ _. reads-file_list d) (λ _. reads-rows d))))))

reads-by : (action : Option Action) (d : Data) → action_in d ≡ action →
    ReadsUnlessFaulty (asked_by action d) (action_faults action d) (AsksTerms (Some d))
reads-by None d does = reads-fault
reads-by (Some action) d does = reads-asked action d does

reads-tree : (found : Option Data) → ReadsUnlessFaulty (asked_from found) (tree_faults found) (AsksTerms found)
reads-tree None = reads-fault
reads-tree (Some d) = reads-by (action_in d) d refl

reads-line : (line : List ℕ) →
    ReadsUnlessFaulty (asked_in line) (request_faults line) (AsksTerms (tree_of line))
reads-line line = by_length (nat_lt LINE_LENGTH_LIMIT (length line))
  where
    by_length : (is_long : Bool) →
        ReadsUnlessFaulty (if is_long then Err TooLong else asked_from (tree_of line))
        (if is_long then TooLong ∷ [] else tree_faults (tree_of line))
        (AsksTerms (tree_of line))
    by_length true = reads-fault
    by_length false = reads-tree (tree_of line)

-- what was read of a line is what the line says
pub line-read : (line : List ℕ) (asked : Asked) →
    mapped asked_terms (Ok asked) ≡ asked_in line → ReadsLine line asked
line-read line asked read =
    let reads = reads-line line in
    let says = rw (← read) at reads.value in
    let fault = rw (← read) at reads.reported.is in record {
      tree = says.0;
      is_json = says.1;
      day = says.2;
      caller = says.3;
      request = terms-said (line_heading says.0) says.0 asked.request says.4;
      faultless = lowest-none fault_order (request_faults line) (sym fault);
    }

-- what is reported of a line is its lowest fault
pub line-refused : (line : List ℕ) (fault : Fault) →
    mapped asked_terms (Err fault) ≡ asked_in line →
    request_fault line ≡ Some (as_malformed fault)
line-refused line fault read =
    let reported = rw (← read) at (reads-line line).reported.is in rw (← reported) refl
