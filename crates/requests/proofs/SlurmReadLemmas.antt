-- What is read of a SLURM file in a request: the exceptions that it says are those that one reading
-- of its tree gives, and its fault is that reading's.
use Rattle.requests.proofs.Vocabulary.{◌≡◌, List, [], ◌∷◌, Option, Some, None, Result, Ok, Err, refl, sym, ap, ◌∙◌, subst, map, codes, none-some, same_Some, All-from_recursion, lit<, All-permutation, length_permutation, AllZip, option_to_list, IfOk, IsPermutation, result_err, result_map_both, same_vrp, Prefix, Data, get, slurm_fault, filters_at, assertions_at, SlurmFault, lowest, required_faults, required, file, sent_file_faults, fault_order, File, Members, HasMainFile, main_alone, as_file, file_in, file_of, main_file_in, main_file_of, reads-mapped}
use Rattle.addr.proofs.PrefixSpellingLemmas.{Spells_unique}
use Rattle.addr.specs.PrefixText.{Spells}
use Rattle.addr.specs.declared.asn.Asn.{Asn}
use Rattle.addr.specs.declared.vrp.Vrp.{Vrp}
use Rattle.slurm.proofs.SlurmEntryLemmas.{answer-said}
use Rattle.slurm.proofs.SlurmFaultLemmas.{slurm_fault-reported}
use Rattle.slurm.specs.Exceptions.{Exceptions}
use Rattle.slurm.specs.SlurmEntries.{IsPrefixMember, IsAsnMember, IsMaxLengthMember, IsFilterOf, SaysFilter, SaysAssertion, SaysExceptions}
use Rattle.slurm.specs.declared.filter.Filter.{Filter}
use Rattle.slurm.specs.declared.filter.Filter.TheVariants.{Under, By, Both}
use Rattle.slurm.specs.steps.SlurmFile.{slurm_in}
use Rattle.requests.proofs.RequestFaultLemmas.{ReadsUnlessFaulty, reads-fault}

same_prefix_member : (member : Option Data) (p q : Prefix) → IsPrefixMember member p → IsPrefixMember member q → p ≡ q
same_prefix_member member p q (text, is, spells) (other, is_other, spells_other) =
    let same : text ≡ other = cc in
    Spells_unique p q text spells (subst (Spells q) (sym same) spells_other)

same_asn_member : (member : Option Data) (m n : Asn) → IsAsnMember member m → IsAsnMember member n → m ≡ n
same_asn_member member m n one other =
    let same : m.0 ≡ n.0 = cc in ap (λ k. record { 0 = k }) same

same_filter_of : (prefix asn : Option Data) (f g : Filter) → IsFilterOf prefix asn f → IsFilterOf prefix asn g → f ≡ g
same_filter_of prefix asn (Under p) (Under q) one other = ap Under (same_prefix_member prefix p q one.0 other.0)
same_filter_of prefix asn (Under p) (By n) one other = absurd (let a = one.0.1 in let b = other.0 in cc)
same_filter_of prefix asn (Under p) (Both q n) one other = absurd (let a = one.1 in let b = other.1 in cc)
same_filter_of prefix asn (By m) (Under q) one other = absurd (let a = one.0 in let b = other.0.1 in cc)
same_filter_of prefix asn (By m) (By n) one other = ap By (same_asn_member asn m n one.1 other.1)
same_filter_of prefix asn (By m) (Both q n) one other = absurd (let a = one.0 in let b = other.0.1 in cc)
same_filter_of prefix asn (Both p m) (Under q) one other = absurd (let a = one.1 in let b = other.1 in cc)
same_filter_of prefix asn (Both p m) (By n) one other = absurd (let a = one.0.1 in let b = other.0 in cc)
same_filter_of prefix asn (Both p m) (Both q n) one other =
    rw (same_prefix_member prefix p q one.0 other.0, same_asn_member asn m n one.1 other.1) refl

same_filter : (d : Data) (f g : Filter) → SaysFilter d f → SaysFilter d g → f ≡ g
same_filter d = same_filter_of (get (codes "prefix") d) (get (codes "asn") d)

same_max : (member : Option Data) (v w : Vrp) → v.prefix ≡ w.prefix → IsMaxLengthMember member v → IsMaxLengthMember member w → v.max ≡ w.max
same_max None v w prefix one other = one ∙ ap (λ (p : Prefix). p.length) prefix ∙ sym other
same_max (Some d) v w prefix one other = cc

same_assertion : (d : Data) (v w : Vrp) → SaysAssertion d v → SaysAssertion d w → v ≡ w
same_assertion d v w one other =
    let prefix = same_prefix_member (get (codes "prefix") d) v.prefix w.prefix one.0 other.0 in
    same_vrp v w prefix (same_max (get (codes "maxPrefixLength") d) v w prefix one.2 other.2)
    (same_asn_member (get (codes "asn") d) v.asn w.asn one.1 other.1)

same_each : {X : Type 0} (Says : Data → X → Type 0) → ((d : Data) (x y : X) → Says d x → Says d y → x ≡ y)
    → (ds : List Data) (xs ys : List X) → AllZip Says ds xs → AllZip Says ds ys → xs ≡ ys
same_each Says same [] [] [] one other = refl
same_each Says same [] [] (y ∷ ys) one other = absurd other
same_each Says same [] (x ∷ xs) ys one other = absurd one
same_each Says same (d ∷ ds) [] ys one other = absurd one
same_each Says same (d ∷ ds) (x ∷ xs) [] one other = absurd other
same_each Says same (d ∷ ds) (x ∷ xs) (y ∷ ys) one other =
    rw (same d x y one.0 other.0, same_each Says same ds xs ys one.1 other.1) refl

-- a file says one list of filters and one of assertions
same_exceptions : (d : Data) (one other : Exceptions) → SaysExceptions (Some d) one → SaysExceptions (Some d) other → one ≡ other
same_exceptions d one other says says_other =
    let filters = same_each SaysFilter same_filter (filters_at d) one.filters other.filters says.0 says_other.0 in
    let assertions = same_each SaysAssertion same_assertion (assertions_at d) one.assertions other.assertions says.1 says_other.1 in
    ap (λ (fs : List Filter). record { filters = fs; assertions = one.assertions }) filters
    ∙ ap (λ (vs : List Vrp). record { filters = other.filters; assertions = vs }) assertions

-- what says a file without faults was read of it
pub read_ok : (d : Data) (file : Exceptions) → SaysExceptions (Some d) file → slurm_fault (Some d) ≡ None → Ok file ≡ slurm_in d
read_ok d file says faultless = go (slurm_in d) refl
  where
    go : (read : Result Exceptions SlurmFault) → slurm_in d ≡ read → Ok file ≡ read
    go (Ok other) is = ap (λ (x : Exceptions). Ok x) (same_exceptions d file other says (answer-said d (Ok other) is))
    go (Err n) is = let reported : Some n ≡ None = sym (ap result_err is) ∙ slurm_fault-reported d ∙ faultless in absurd (none-some n (sym reported))

-- and so is the lowest fault of another
pub read_err : (d : Data) (fault : SlurmFault) → slurm_fault (Some d) ≡ Some fault → Err fault ≡ slurm_in d
read_err d fault reported = go (slurm_in d) refl
  where
    go : (read : Result Exceptions SlurmFault) → slurm_in d ≡ read → Err fault ≡ read
    go (Ok other) is = let none : None ≡ Some fault = sym (ap result_err is) ∙ slurm_fault-reported d ∙ reported in absurd (none-some fault none)
    go (Err n) is = ap (λ (x : SlurmFault). Err x) (same_Some fault n (sym (sym (ap result_err is) ∙ slurm_fault-reported d ∙ reported)))

reported-file : (read : Result Exceptions SlurmFault) → result_err (result_map_both (λ (x : Exceptions). x) File read) ≡ lowest fault_order (map File (option_to_list (result_err read)))
reported-file (Ok exceptions) = refl
reported-file (Err n) = refl

said-file : (value : Data) (read : Result Exceptions SlurmFault) → slurm_in value ≡ read → IfOk (result_map_both (λ x. x) File read) (SaysExceptions (Some value))
said-file value (Ok exceptions) is = answer-said value (Ok exceptions) is
said-file value (Err n) is = tt

-- what is read of a file is what it says, and its fault the lowest
reads-as_file : (value : Data) → ReadsUnlessFaulty (as_file value) (sent_file_faults (Some value)) (SaysExceptions (Some value))
reads-as_file value = record {
  reported = record { is = reported-file (slurm_in value) ∙ ap (λ (fault : Option SlurmFault). lowest fault_order (map File (option_to_list fault))) (slurm_fault-reported value) };
  value = said-file value (slurm_in value) refl;
}

pub reads-file : (d : Data) → ReadsUnlessFaulty (file_in d) (required_faults Members (file d) (get (codes "file") d)) (SaysExceptions (get (codes "file") d))
reads-file d = at (get (codes "file") d)
  where
    at : (member : Option Data) → ReadsUnlessFaulty (required Members as_file member) (required_faults Members (file d) member) (SaysExceptions member)
    at None = reads-fault
    at (Some value) = reads-as_file value

-- the same of a file that may be no JSON
reads-file_of : (found : Option Data) → ReadsUnlessFaulty (file_of found) (sent_file_faults found) (SaysExceptions found)
reads-file_of None = reads-fault
reads-file_of (Some value) = reads-as_file value

-- the set of one file
pub reads-main_file : (d : Data) → ReadsUnlessFaulty (main_file_in d) (required_faults Members (file d) (get (codes "file") d)) (HasMainFile (get (codes "file") d))
reads-main_file d = reads-mapped main_alone (λ file says. (file, says, refl)) (reads-file d)

pub reads-main_file_of : (found : Option Data) → ReadsUnlessFaulty (main_file_of found) (sent_file_faults found) (HasMainFile found)
reads-main_file_of found = reads-mapped main_alone (λ file says. (file, says, refl)) (reads-file_of found)

-- one file in another order
pub still_alone : {X : Type 0} (x : X) (ys : List X) → IsPermutation (x ∷ []) ys → ys ≡ x ∷ []
still_alone x [] moved = absurd (let long = length_permutation (x ∷ []) [] moved in cc)
still_alone x (y ∷ []) moved = ap (λ z. z ∷ []) (All-permutation (λ z. z ≡ x) (x ∷ []) (y ∷ []) moved (All-from_recursion (λ z. z ≡ x) (x ∷ []) (refl, tt)) 0 y (lit< tt))
still_alone x (y ∷ z ∷ ys) moved = absurd (let long = length_permutation (x ∷ []) (y ∷ z ∷ ys) moved in cc)
