-- What the code reads of the members of a request: a value where they have no fault, and else the lowest of their
-- faults.
use Rattle.requests.proofs.Vocabulary.{◌≡◌, ℕ, [], ◌∷◌, ◌++◌, length, List, Option, Some, None, option_and_then, Result, Err, refl, AllZip, IfOk, ok_or, Data, Items, get, as_array, name_faults, reported-if, reported-ok_or, reported-only, reported-required, Reads, reads-each, reads-says, reads-unless, value-ok_or, reading_faults, required_faults, list_of, required, is_count, list_faults, fault_order, HasItems, HasMember, Fault, Count, Members, items_of, member_in, with_only}

abbrev pub ReadsUnlessFaulty : {A : Type 0} → Result A Fault → List Fault → (A → Type 0) → Type 0
ReadsUnlessFaulty = Reads fault_order

found-reads : {A : Type 0} (reading : Data → Option A) (n : Fault) (o : Option Data) →
    IfOk (required Members (λ found. ok_or (reading found) n) o)
    (λ a. option_and_then reading o ≡ Some a)
found-reads reading n None = tt
found-reads reading n (Some d) = value-ok_or (reading d) n

abbrev pub ReadsMember : {A : Type 0} → (Data → Option A) → Fault → List ℕ → Data → Type 0
ReadsMember reading n name d =
    ReadsUnlessFaulty (member_in reading n name d)
    (required_faults Members (reading_faults reading n) (get name d)) (HasMember reading name d)

pub reads-member : {A : Type 0} (reading : Data → Option A) (n : Fault) (name : List ℕ) (d : Data) →
    ReadsMember reading n name d
reads-member reading n name d = record {
  reported = reported-required fault_order Members _ (reading_faults reading n) (get name d)
      (λ e. reported-ok_or fault_order (reading e) n);
  value = found-reads reading n (get name d);
}

-- a fault alone
pub reads-fault : {A : Type 0} {fault : Fault} {Says : A → Type 0} → ReadsUnlessFaulty (Err fault) (fault ∷ []) Says
reads-fault = record { reported = record { is = refl }; value = tt }

-- an object that has members of these names alone
pub reads-with_only : {A : Type 0} {value : Result A Fault} {faults : List Fault} {Says : A → Type 0} (names : List (List ℕ)) (d : Data) →
    ReadsUnlessFaulty value faults Says → ReadsUnlessFaulty (with_only names d value) (faults ++ name_faults Members names d) Says
reads-with_only names d read = reads-unless read (reported-only fault_order Members names d)

module _ {A : Type 0} (reading : Data → Result A Fault) (faults : Data → List Fault) (Says : Data → A → Type 0)
    (least most : ℕ) (reads : (d : Data) → ReadsUnlessFaulty (reading d) (faults d) (Says d)) where
  reads-items : (found : Option Items) →
      ReadsUnlessFaulty (items_of reading least most found) (list_faults faults least most found)
      (λ values. (items : Items) × (found ≡ Some items) × AllZip Says (list_of items) values)
  reads-items None = reads-fault
  reads-items (Some items) =
      reads-unless (reads-says (λ values each. (items, refl, each)) (reads-each reading faults Says (list_of items) reads))
      (reported-if fault_order (is_count least most (length (list_of items))) tt Count)

  -- the items of a member
  pub reads-list : (member : Option Data) → ReadsUnlessFaulty (items_of reading least most (option_and_then as_array member))
      (required_faults Members (λ value. list_faults faults least most (as_array value)) member) (HasItems Says member)
  reads-list None = reads-fault
  reads-list (Some value) = reads-items (as_array value)
