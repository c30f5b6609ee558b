-- What the code reads of a list of which no two items have the same value of a member: its items in order where there is
-- no fault, and else the lowest fault.
use Rattle.requests.proofs.Vocabulary.{◌≡◌, ℕ, suc, nat_le, ◌≤◌, Bool, true, false, not, ◌||◌, List, [], ◌∷◌, ◌++◌, map, length, Option, Some, None, option_and_then, Result, Ok, Err, Ordering, refl, sym, ap, ◌∙◌, leb-true, IsPermutation, Equal, IsTotalOrder, AllZip, flat_map, list_any, option_to_list, has_repeat, Data, Items, as_array, Pass, lowest-append, lowest-passes, pass-append, pass-flat_map, pass-unless, reported-if, lower-first, reads-each, reads-says, reads-unless, lowest-none, fault_unless, lower_of, lowest, required_faults, and_then, list_of, fault_order, is_count, list_faults, repeat_faults, values_in, HasMember, Fault, Count, Members, arranged, items_of, once_in_order}
use Rattle.std.specs.List.Sorted.{IsStrictlySortedBy}
use Rattle.requests.proofs.InOrder.{in_order-moves, in_order-rises}
use Rattle.requests.proofs.RequestFaultLemmas.{ReadsUnlessFaulty, reads-fault}

-- not after this fault in the order of faults
abbrev pub is_up_to : Fault → Fault → Bool
is_up_to last fault = nat_le (fault_order fault) (fault_order last)

-- ---- values that are there twice

any-key : {A B : Type 0} (same : B → B → Bool) (key : A → B) (x : A) (xs : List A)
    → list_any (λ b. same (key x) b) (map key xs) ≡ list_any (λ y. same (key x) (key y)) xs
any-key same key x [] = refl
any-key same key x (y ∷ ys) = ap (λ b. same (key x) (key y) || b) (any-key same key x ys)

repeat-keys : {A B : Type 0} (same : B → B → Bool) (key : A → B) (xs : List A)
    → has_repeat same (map key xs) ≡ has_repeat (λ x y. same (key x) (key y)) xs
repeat-keys same key [] = refl
repeat-keys same key (x ∷ xs) =
    ap (λ b. b || has_repeat same (map key xs)) (any-key same key x xs)
    ∙ ap (λ b. list_any (λ y. same (key x) (key y)) xs || b) (repeat-keys same key xs)

-- where there are no faults, the test at their end passes
last-passes : (xs : List Fault) (b : Bool) (n : Fault) → xs ++ fault_unless b n ≡ [] → b ≡ true
last-passes [] true n none = refl
last-passes [] false n none = absurd cc
last-passes (x ∷ xs) b n none = absurd cc

hides : (fault last : Fault) (b : Bool) → fault_order fault ≤ fault_order last
    → lower_of fault_order (Some fault) (lowest fault_order (fault_unless b last)) ≡ Some fault
hides fault last true up_to = refl
hides fault last false up_to = ap Some (lower-first fault_order fault last up_to)

module _ {A B : Type 0} (reading : Data → Result A Fault) (faults : Data → List Fault) (Says : Data → A → Type 0)
    (reads : (d : Data) → ReadsUnlessFaulty (reading d) (faults d) (Says d))
    (order : A → A → Ordering) (total : IsTotalOrder order)
    (key : A → B) (same : B → B → Bool) (tied : (x y : A) → order x y ≡ Equal → same (key x) (key y) ≡ true)
    (value_of : Data → Option B) (name : List ℕ) (has : (d : Data) (x : A) → Says d x → HasMember value_of name d (key x))
    (least most : ℕ) (repeated : Fault)
    (are_up_to : (d : Data) → Pass (is_up_to repeated) (faults d)) (is_count_up_to : is_up_to repeated Count ≡ true) where
  abbrev alike : A → A → Bool
  alike x y = same (key x) (key y)

  abbrev arrange : List A → Result (List A) Fault
  arrange = arranged least most (has_repeat alike) repeated order

  read-length : (ds : List Data) (xs : List A) → AllZip Says ds xs → length xs ≡ length ds
  read-length [] [] says = refl
  read-length [] (x ∷ xs) says = absurd says
  read-length (d ∷ ds) [] says = absurd says
  read-length (d ∷ ds) (x ∷ xs) says = ap suc (read-length ds xs says.1)

  read-values : (ds : List Data) (xs : List A) → AllZip Says ds xs → values_in value_of name ds ≡ map key xs
  read-values [] [] says = refl
  read-values [] (x ∷ xs) says = absurd says
  read-values (d ∷ ds) [] says = absurd says
  read-values (d ∷ ds) (x ∷ xs) says =
      ap (λ found. option_to_list found ++ values_in value_of name ds) (has d x says.0)
      ∙ ap (λ bs. key x ∷ bs) (read-values ds xs says.1)

  module _ (items : Items) where
    abbrev Arranges : List A → Type 0
    Arranges xs = (listed : List A) × AllZip Says (list_of items) listed × IsPermutation listed xs × IsStrictlySortedBy order xs

    abbrev passes : Bool
    passes = is_count least most (length (list_of items))

    abbrev single : Bool
    single = not (has_repeat same (values_in value_of name (list_of items)))

    abbrev before : List Fault
    before = flat_map faults (list_of items) ++ fault_unless passes Count

    reads-once : (xs : List A) → AllZip Says (list_of items) xs → (b : Bool) → has_repeat alike xs ≡ b
        → ReadsUnlessFaulty (once_in_order b repeated order xs) (fault_unless (not b) repeated) Arranges
    reads-once xs says true is = reads-fault
    reads-once xs says false is =
        record { reported = record { is = refl }; value = (xs, says, in_order-moves order total xs, in_order-rises order total alike tied xs is) }

    reads-counted : (xs : List A) → AllZip Says (list_of items) xs → passes ≡ true
        → ReadsUnlessFaulty (arrange xs) (fault_unless single repeated) Arranges
    reads-counted xs says counted =
        rw (read-length (list_of items) xs says, counted, read-values (list_of items) xs says, repeat-keys same key xs)
        (reads-once xs says (has_repeat alike xs) refl)

    up_to : (fault : Fault) → lowest fault_order before ≡ Some fault → fault_order fault ≤ fault_order repeated
    up_to fault is =
        leb-true _ _ (lowest-passes fault_order (is_up_to repeated) before fault
        (pass-append (pass-flat_map faults (list_of items) are_up_to) (pass-unless passes Count is_count_up_to)) is)

    reads-arranged : (r : Result (List A) Fault) → ReadsUnlessFaulty r before (AllZip Says (list_of items))
        → ReadsUnlessFaulty (and_then arrange r) (before ++ fault_unless single repeated) Arranges
    reads-arranged (Err fault) read = record {
      reported = record {
        is = sym (lowest-append fault_order before (fault_unless single repeated)
            ∙ ap (λ o. lower_of fault_order o (lowest fault_order (fault_unless single repeated))) (sym read.reported.is)
            ∙ hides fault repeated single (up_to fault (sym read.reported.is)));
      };
      value = tt;
    }
    reads-arranged (Ok xs) read =
        let none = lowest-none fault_order before (sym read.reported.is) in
        rw none (reads-counted xs read.value (last-passes (flat_map faults (list_of items)) passes Count none))

  -- a list of these items, in any order
  abbrev pub HasArranged : Option Items → List A → Type 0
  HasArranged found xs = (listed : List A)
      × ((items : Items) × (found ≡ Some items) × AllZip Says (list_of items) listed)
      × IsPermutation listed xs × IsStrictlySortedBy order xs

  reads-items_arranged : (found : Option Items) →
      ReadsUnlessFaulty (and_then arrange (items_of reading least most found))
      (list_faults faults least most found ++ repeat_faults same value_of name repeated found) (HasArranged found)
  reads-items_arranged None = reads-fault
  reads-items_arranged (Some items) =
      reads-says (λ xs says. (says.0, (items, refl, says.1), says.2, says.3))
      (reads-arranged items (items_of reading least most (Some items))
      (reads-unless (reads-each reading faults Says (list_of items) reads)
      (reported-if fault_order (is_count least most (length (list_of items))) tt Count)))

  -- the items of a member in order
  pub reads-arranged_list : (member : Option Data) →
      ReadsUnlessFaulty (and_then arrange (items_of reading least most (option_and_then as_array member)))
      (required_faults Members (λ value. list_faults faults least most (as_array value) ++ repeat_faults same value_of name repeated (as_array value)) member)
      (HasArranged (option_and_then as_array member))
  reads-arranged_list None = reads-fault
  reads-arranged_list (Some value) = reads-items_arranged (as_array value)
