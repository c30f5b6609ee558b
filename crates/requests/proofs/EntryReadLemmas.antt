-- What the code reads of the entries and the maxLengths that an object names: a value where there is no fault, and else
-- the lowest fault.
use Rattle.requests.proofs.Vocabulary.{◌≡◌, ◌⊎◌, true, false, Bool, List, [], ◌∷◌, codes, Option, Some, option_and_then, Result, inl, inr, refl, prefix_eq, Data, get, as_array, Pass, pass-append, pass-required, pass-unless, reads-both, reads-last, reads-mapped, reads-ok_or, reads-says, reading_faults, required_faults, and_then, as_prefix, choice_faults, chosen_faults, entry_choice, entry_list, entry_members, has_some, max_choice, member_faults, names_of, object_faults, HasEntries, HasEntry, HasEntryList, HasMaxes, HasEntryMembers, HasOneMax, as_max, MOST_ENTRIES, Fault, Members, Max, Repeated, chosen, entries_arranged, entries_in, entry_in, entry_members_in, items_of, max_item_in, maxes_in, one_entry_in, one_max_in}
use Rattle.requests.specs.declared.request.fault.Fault.TheVariants.{Prefix as PrefixFault}
use Rattle.requests.proofs.ArrangedReadLemmas.{is_up_to, reads-arranged_list}
use Rattle.requests.proofs.EntryOrder.{order, order_total, rise_from_sorted, tied-once}
use Rattle.requests.proofs.RequestFaultLemmas.{ReadsUnlessFaulty, reads-fault, reads-list, reads-member, reads-with_only}

-- ---- a choice

pub reads-chosen : {A : Type 0} (has_one has_other : Bool) {one other : Result A Fault} {xs ys : List Fault} {P Q : A → Type 0}
    → ReadsUnlessFaulty one xs P → ReadsUnlessFaulty other ys Q
    → ReadsUnlessFaulty (chosen has_one has_other one other) (chosen_faults has_one has_other xs ys) (λ a. P a ⊎ Q a)
reads-chosen true false one other = reads-says (λ a. inl) one
reads-chosen false true one other = reads-says (λ a. inr) other
reads-chosen true true one other = reads-fault
reads-chosen false false one other = reads-fault

-- ---- one entry

pub reads-entry_members : (d : Data) → ReadsUnlessFaulty (entry_members_in d) (member_faults entry_members d) (HasEntry d)
reads-entry_members d =
    reads-mapped _ (λ p says. says)
    (reads-both (reads-member as_prefix PrefixFault (codes "prefix") d) (reads-last (reads-member as_max Max (codes "max") d)))

reads-entry : (d : Data) → ReadsUnlessFaulty (entry_in d) (object_faults entry_members d) (HasEntry d)
reads-entry d = reads-with_only (names_of entry_members) d (reads-entry_members d)

reads-one_entry : (d : Data) → ReadsUnlessFaulty (one_entry_in d) (member_faults entry_members d) (HasEntryMembers d)
reads-one_entry d = reads-mapped (λ entry. entry ∷ []) (λ entry says. (entry, says, refl)) (reads-entry_members d)

-- ---- a list of entries

-- a repeated prefix has the highest number of an entry's faults
entry-up_to : (d : Data) → Pass (is_up_to Repeated) (object_faults entry_members d)
entry-up_to d =
    pass-append
    (pass-append (pass-required Members (reading_faults as_prefix PrefixFault) (get (codes "prefix") d) refl (λ value. pass-unless _ PrefixFault refl))
    (pass-append (pass-required Members (reading_faults as_max Max) (get (codes "max") d) refl (λ value. pass-unless _ Max refl)) (record { each = refl })))
    (pass-unless _ Members refl)

reads-entry_list : (d : Data) (member : Option Data) →
    ReadsUnlessFaulty (and_then entries_arranged (items_of entry_in 1 MOST_ENTRIES (option_and_then as_array member)))
    (required_faults Members (entry_list d) member) (HasEntryList member)
reads-entry_list d member =
    reads-says (λ es says. (says.0, says.1, says.2, rise_from_sorted es says.3))
    (reads-arranged_list entry_in (object_faults entry_members) HasEntry reads-entry order order_total
    (λ e. e.prefix) prefix_eq tied-once as_prefix (codes "prefix") (λ d e says. says.0)
    1 MOST_ENTRIES Repeated entry-up_to refl member)

-- ---- entries and maxLengths

pub reads-entries : (d : Data) → ReadsUnlessFaulty (entries_in d) (choice_faults entry_choice d) (HasEntries d)
reads-entries d =
    reads-chosen (has_some (names_of entry_members) d) (has_some (codes "entries" ∷ []) d) (reads-one_entry d)
    (reads-last (reads-entry_list d (get (codes "entries") d)))

reads-one_max : (d : Data) → ReadsUnlessFaulty (one_max_in d) (required_faults Members (reading_faults as_max Max) (get (codes "max") d)) (HasOneMax d)
reads-one_max d = reads-mapped (λ max. max ∷ []) (λ max says. (max, says, refl)) (reads-member as_max Max (codes "max") d)

pub reads-maxes : (d : Data) → ReadsUnlessFaulty (maxes_in d) (choice_faults max_choice d) (HasMaxes d)
reads-maxes d =
    reads-chosen (has_some (codes "max" ∷ []) d) (has_some (codes "maxes" ∷ []) d) (reads-last (reads-one_max d))
    (reads-last (reads-list max_item_in (reading_faults as_max Max) (λ value max. as_max value ≡ Some max) 1 MOST_ENTRIES
    (λ value. reads-ok_or (as_max value) Max) (get (codes "maxes") d)))
