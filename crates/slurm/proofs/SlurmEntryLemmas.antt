-- What was read of a file is what its entries say.
use Rattle.slurm.proofs.Vocabulary.{◌≡◌, ℕ, ◌≤◌, ◌^◌, Bool, true, false, if◌then◌else◌, nat_le, nat_lt, List, [], ◌∷◌, length, ◌+◌, codes, Option, Some, None, option_and_then, Result, Ok, Err, refl, ap, sym, ◌∙◌, subst, dec_le, IfOk, AllZip, ok_or, width, Asn, Prefix, Vrp, Data, null, boolean, number, string, array, object, unsigned, negative, float, Items, get, both, mapped, and_then, unless, each, required, optional, only, list_of, as_asn, asn_of, Exceptions, exceptions_of, slurm_fault_number, IsPrefixMember, IsAsnMember, IsFilterOf, SaysFilter, IsMaxLengthMember, SaysAssertion, SaysExceptions, array_at, assertions_at, filters_at, items_at, vrp_if, prefix_or_fault, asn_or_fault, length_in, filter_of, filter_in, max_or_length, assertion_of, assertion_in, entries_from, bgpsec_from, part_in, filters_in, assertions_in, lists_in, slurm_in, MOST_ENTRIES, SlurmFault, Filter, Under, By, Both}
use Rattle.addr.proofs.PrefixSpellingLemmas.{Spells-spelled_prefix}
use Rattle.addr.specs.PrefixText.{spelled_prefix}
use Rattle.slurm.specs.declared.fault.SlurmFault.TheVariants.{Members, Prefix as PrefixFault, Asn as AsnFault, MaxPrefixLength, TooMany}
use Rattle.slurm.specs.declared.members.MaxPrefixLength.{MaxPrefixLength as LengthRead}

-- ---- values that were read

beside-Ok : {A B : Type 0} (one : Result A SlurmFault) (other : Result B SlurmFault) (a : A) → unless slurm_fault_number one other ≡ Ok a → one ≡ Ok a
beside-Ok (Ok x) (Ok y) a e = e
beside-Ok (Ok x) (Err n) a e = cc
beside-Ok (Err m) (Ok y) a e = cc
beside-Ok (Err m) (Err n) a e = cc

ok_or-Ok : {A : Type 0} (o : Option A) (n : SlurmFault) (a : A) → ok_or o n ≡ Ok a → o ≡ Some a
ok_or-Ok None n a e = cc
ok_or-Ok (Some x) n a e = let same : x ≡ a = cc in ap Some same

each-said : {A : Type 0} (reading : Data → Result A SlurmFault) (Says : Data → A → Type 0) → ((d : Data) (a : A) → reading d ≡ Ok a → Says d a) →
    (ds : List Data) (xs : List A) → each slurm_fault_number reading ds ≡ Ok xs → AllZip Says ds xs
each-said reading Says said [] [] e = tt
each-said reading Says said [] (x ∷ xs) e = let same : [] ≡ x ∷ xs = cc in absurd (cc)
each-said {A} reading Says said (d ∷ ds) xs e = more (reading d) (each slurm_fault_number reading ds) refl (λ rest others. each-said reading Says said ds rest others) e
  where
    more : (one : Result A SlurmFault) (others : Result (List A) SlurmFault) → reading d ≡ one → ((rest : List A) → others ≡ Ok rest → AllZip Says ds rest) → mapped (λ p. p.0 ∷ p.1) (both slurm_fault_number one others) ≡ Ok xs → AllZip Says (d ∷ ds) xs
    more (Ok a) (Ok rest) one others e =
        let same : a ∷ rest ≡ xs = cc in
        subst (λ (all : List A). AllZip Says (d ∷ ds) all) same (said d a one, others rest refl)
    more (Ok a) (Err n) one others e = cc
    more (Err m) (Ok rest) one others e = cc
    more (Err m) (Err n) one others e = cc

-- ---- members

prefix-said : (d : Data) (p : Prefix) → prefix_or_fault d ≡ Ok p → IsPrefixMember (Some d) p
prefix-said null p e = cc
prefix-said (boolean b) p e = cc
prefix-said (number n) p e = cc
prefix-said (string text) p e = (text, refl, Spells-spelled_prefix p text (ok_or-Ok (spelled_prefix text) PrefixFault p e))
prefix-said (array ds) p e = cc
prefix-said (object ms) p e = cc

asn_of-said : (n : ℕ) (asn : Asn) → asn_of n ≡ Some asn → asn.0 ≡ n
asn_of-said n asn e = here (nat_lt n (2 ^ 32)) e
  where
    here : (b : Bool) → (if b then Some (record { 0 = n }) else None) ≡ Some asn → asn.0 ≡ n
    here true e = let same : record { 0 = n } ≡ asn = cc in sym (ap (λ (a : Asn). a.0) same)
    here false e = cc

as_asn-said : (d : Data) (asn : Asn) → as_asn d ≡ Some asn → IsAsnMember (Some d) asn
as_asn-said null asn e = cc
as_asn-said (boolean b) asn e = cc
as_asn-said (number (unsigned n)) asn e = ap (λ (m : ℕ). Some (number (unsigned m))) (sym (asn_of-said n asn e))
as_asn-said (number (negative z)) asn e = cc
as_asn-said (number (float x)) asn e = cc
as_asn-said (string s) asn e = cc
as_asn-said (array ds) asn e = cc
as_asn-said (object ms) asn e = cc

asn-said : (d : Data) (asn : Asn) → asn_or_fault d ≡ Ok asn → IsAsnMember (Some d) asn
asn-said d asn e = as_asn-said d asn (ok_or-Ok (as_asn d) AsnFault asn e)

length-said : (d : Data) (max : LengthRead) → length_in d ≡ Ok max → d ≡ number (unsigned max.0)
length-said null max e = cc
length-said (boolean b) max e = cc
length-said (number (unsigned n)) max e = let same : record { 0 = n } ≡ max = cc in ap (λ (m : LengthRead). number (unsigned m.0)) same
length-said (number (negative z)) max e = cc
length-said (number (float x)) max e = cc
length-said (string s) max e = cc
length-said (array ds) max e = cc
length-said (object ms) max e = cc

-- ---- filters

filter_of-said : (prefix asn : Option Data) (f : Filter) → and_then filter_of (both slurm_fault_number (optional prefix_or_fault prefix) (optional asn_or_fault asn)) ≡ Ok f → IsFilterOf prefix asn f
filter_of-said None None f e = cc
filter_of-said (Some d) None f e = here (prefix_or_fault d) refl e
  where
    here : (r : Result Prefix SlurmFault) → prefix_or_fault d ≡ r → and_then filter_of (both slurm_fault_number (mapped Some r) (Ok None)) ≡ Ok f → IsFilterOf (Some d) None f
    here (Ok p) read e = let same : Under p ≡ f = cc in subst (IsFilterOf (Some d) None) same (prefix-said d p read, refl)
    here (Err n) read e = cc
filter_of-said None (Some d) f e = here (asn_or_fault d) refl e
  where
    here : (r : Result Asn SlurmFault) → asn_or_fault d ≡ r → and_then filter_of (both slurm_fault_number (Ok None) (mapped Some r)) ≡ Ok f → IsFilterOf None (Some d) f
    here (Ok asn) read e = let same : By asn ≡ f = cc in subst (IsFilterOf None (Some d)) same (refl, asn-said d asn read)
    here (Err n) read e = cc
filter_of-said (Some d) (Some c) f e = here (prefix_or_fault d) (asn_or_fault c) refl refl e
  where
    here : (r : Result Prefix SlurmFault) (s : Result Asn SlurmFault) → prefix_or_fault d ≡ r → asn_or_fault c ≡ s → and_then filter_of (both slurm_fault_number (mapped Some r) (mapped Some s)) ≡ Ok f → IsFilterOf (Some d) (Some c) f
    here (Ok p) (Ok asn) read also e = let same : Both p asn ≡ f = cc in subst (IsFilterOf (Some d) (Some c)) same (prefix-said d p read, asn-said c asn also)
    here (Ok p) (Err n) read also e = cc
    here (Err m) (Ok asn) read also e = cc
    here (Err m) (Err n) read also e = cc

filter-said : (d : Data) (f : Filter) → filter_in d ≡ Ok f → SaysFilter d f
filter-said d f e =
    filter_of-said (get (codes "prefix") d) (get (codes "asn") d) f (beside-Ok _ _ f (beside-Ok _ _ f e))

-- ---- assertions

vrp_if-said : (p : Prefix) (max : ℕ) (asn : Asn) (low : Dec (p.length ≤ max)) (high : Dec (max ≤ width p.family)) (v : Vrp) → vrp_if p max asn low high ≡ Some v → (v.prefix ≡ p) × (v.max ≡ max) × (v.asn ≡ asn)
vrp_if-said p max asn (yes low) (yes high) v e =
    let made : Vrp = record { prefix = p; max = max; asn = asn; at_least_length = low; at_most_width = high } in
    let same : made ≡ v = cc in
    (sym (ap (λ (w : Vrp). w.prefix) same), sym (ap (λ (w : Vrp). w.max) same), sym (ap (λ (w : Vrp). w.asn) same))
vrp_if-said p max asn (yes low) (no high) v e = cc
vrp_if-said p max asn (no low) high v e = cc

abbrev IsRead : Option Data → Option LengthRead → Type 0
IsRead None max = max ≡ None
IsRead (Some d) max = (n : LengthRead) × (max ≡ Some n) × (d ≡ number (unsigned n.0))

max-said : (d : Option Data) (max : Option LengthRead) → optional length_in d ≡ Ok max → IsRead d max
max-said None max e = let same : None ≡ max = cc in sym same
max-said (Some d) max e = here (length_in d) refl e
  where
    here : (r : Result LengthRead SlurmFault) → length_in d ≡ r → mapped Some r ≡ Ok max → IsRead (Some d) max
    here (Ok n) read e = let same : Some n ≡ max = cc in (n, sym same, length-said d n read)
    here (Err n) read e = cc

max_length-said : (d : Option Data) (max : Option LengthRead) (v : Vrp) → IsRead d max → v.max ≡ max_or_length v.prefix max → IsMaxLengthMember d v
max_length-said None max v read is = rw read at is
max_length-said (Some d) max v read is =
    let own = rw read.1 at is in read.2 ∙ ap (λ (n : ℕ). number (unsigned n)) (sym own)

required-said : {A : Type 0} (reading : Data → Result A SlurmFault) (o : Option Data) (a : A) → required Members reading o ≡ Ok a → (d : Data) × (o ≡ Some d) × (reading d ≡ Ok a)
required-said reading None a e = cc
required-said reading (Some d) a e = (d, refl, e)

assertion_of-said : (prefix asn max : Option Data) (v : Vrp) → and_then assertion_of (both slurm_fault_number (required Members prefix_or_fault prefix) (both slurm_fault_number (required Members asn_or_fault asn) (optional length_in max))) ≡ Ok v →
    IsPrefixMember prefix v.prefix × IsAsnMember asn v.asn × IsMaxLengthMember max v
assertion_of-said prefix asn max v e = here (required Members prefix_or_fault prefix) (required Members asn_or_fault asn) (optional length_in max) refl refl refl e
  where
    here : (r : Result Prefix SlurmFault) (s : Result Asn SlurmFault) (t : Result (Option LengthRead) SlurmFault) → required Members prefix_or_fault prefix ≡ r → required Members asn_or_fault asn ≡ s → optional length_in max ≡ t →
        and_then assertion_of (both slurm_fault_number r (both slurm_fault_number s t)) ≡ Ok v → IsPrefixMember prefix v.prefix × IsAsnMember asn v.asn × IsMaxLengthMember max v
    here (Ok p) (Ok a) (Ok m) read also last e =
        let parts = vrp_if-said p (max_or_length p m) a (dec_le p.length (max_or_length p m)) (dec_le (max_or_length p m) (width p.family)) v (ok_or-Ok _ MaxPrefixLength v e) in
        let of = required-said prefix_or_fault prefix p read in
        let by = required-said asn_or_fault asn a also in (
          rw (of.1, parts.0) (prefix-said of.0 p of.2),
          rw (by.1, parts.2) (asn-said by.0 a by.2),
          max_length-said max m v (max-said max m last) (rw parts.0 parts.1),
        )
    here (Ok p) (Ok a) (Err n) read also last e = cc
    here (Ok p) (Err m) (Ok b) read also last e = cc
    here (Ok p) (Err m) (Err n) read also last e = cc
    here (Err l) (Ok a) (Ok m) read also last e = cc
    here (Err l) (Ok a) (Err n) read also last e = cc
    here (Err l) (Err m) (Ok b) read also last e = cc
    here (Err l) (Err m) (Err n) read also last e = cc

assertion-said : (d : Data) (v : Vrp) → assertion_in d ≡ Ok v → SaysAssertion d v
assertion-said d v e =
    assertion_of-said (get (codes "prefix") d) (get (codes "asn") d) (get (codes "maxPrefixLength") d) v (beside-Ok _ _ v (beside-Ok _ _ v e))

-- ---- the file

entries-said : {A : Type 0} (reading : Data → Result A SlurmFault) (Says : Data → A → Type 0) → ((d : Data) (a : A) → reading d ≡ Ok a → Says d a) →
    (items : Option Items) (xs : List A) → entries_from reading items ≡ Ok xs → AllZip Says (items_at items) xs
entries-said reading Says said None xs e = cc
entries-said reading Says said (Some items) xs e = each-said reading Says said (list_of items) xs e

part-said : {A : Type 0} (reading : Data → Result A SlurmFault) (Says : Data → A → Type 0) → ((d : Data) (a : A) → reading d ≡ Ok a → Says d a) →
    (entries bgpsec : List ℕ) (part : Option Data) (xs : List A) → required Members (part_in reading entries bgpsec) part ≡ Ok xs → AllZip Says (items_at (option_and_then (array_at entries) part)) xs
part-said reading Says said entries bgpsec None xs e = cc
part-said reading Says said entries bgpsec (Some d) xs e =
    entries-said reading Says said (array_at entries d) xs
    (beside-Ok (entries_from reading (array_at entries d)) (only Members (entries ∷ bgpsec ∷ []) d) xs
    (beside-Ok (unless slurm_fault_number (entries_from reading (array_at entries d)) (only Members (entries ∷ bgpsec ∷ []) d)) (bgpsec_from (array_at bgpsec d)) xs e))

both-said : (filters : Result (List Filter) SlurmFault) (assertions : Result (List Vrp) SlurmFault) (lists : List Filter × List Vrp) → both slurm_fault_number filters assertions ≡ Ok lists → (filters ≡ Ok lists.0) × (assertions ≡ Ok lists.1)
both-said (Ok f) (Ok a) lists e =
    let same : (f, a) ≡ lists = cc in (ap (λ (p : List Filter × List Vrp). Ok p.0) same, ap (λ (p : List Filter × List Vrp). Ok p.1) same)
both-said (Ok f) (Err n) lists e = cc
both-said (Err m) (Ok a) lists e = cc
both-said (Err m) (Err n) lists e = cc

-- the lists that were read of a file
pub lists-said : (d : Data) (lists : List Filter × List Vrp) → lists_in d ≡ Ok lists →
    AllZip SaysFilter (filters_at d) lists.0
    × AllZip SaysAssertion (assertions_at d) lists.1
lists-said d lists e =
    let filters = required Members filters_in (get (codes "validationOutputFilters") d) in
    let assertions = required Members assertions_in (get (codes "locallyAddedAssertions") d) in
    let parts = both-said filters assertions lists (beside-Ok _ _ lists (beside-Ok _ _ lists (beside-Ok _ _ lists e))) in (
      part-said filter_in SaysFilter filter-said (codes "prefixFilters") (codes "bgpsecFilters") (get (codes "validationOutputFilters") d) lists.0 parts.0,
      part-said assertion_in SaysAssertion assertion-said (codes "prefixAssertions") (codes "bgpsecAssertions") (get (codes "locallyAddedAssertions") d) lists.1 parts.1,
    )

slurm_in-said : (d : Data) (file : Exceptions) → slurm_in d ≡ Ok file → SaysExceptions (Some d) file
slurm_in-said d file e = here (lists_in d) refl e
  where
    kept : (lists : List Filter × List Vrp) (b : Bool) → (if b then Ok (record { filters = lists.0; assertions = lists.1 }) else Err TooMany) ≡ Ok file → (lists.0 ≡ file.filters) × (lists.1 ≡ file.assertions)
    kept lists true e =
        let same : record { filters = lists.0; assertions = lists.1 } ≡ file = cc in (ap (λ (x : Exceptions). x.filters) same, ap (λ (x : Exceptions). x.assertions) same)
    kept lists false e = cc

    here : (r : Result (List Filter × List Vrp) SlurmFault) → lists_in d ≡ r → and_then (λ p. exceptions_of p.0 p.1) r ≡ Ok file → SaysExceptions (Some d) file
    here (Ok lists) read e =
        let same = kept lists (nat_le (length lists.0 + length lists.1) MOST_ENTRIES) e in
        rw (← same.0, ← same.1) (lists-said d lists read)
    here (Err n) read e = cc

-- of what was answered
pub answer-said : (d : Data) (answer : Result Exceptions SlurmFault) → IfOk answer (λ file. slurm_in d ≡ Ok file) → IfOk answer (SaysExceptions (Some d))
answer-said d (Ok file) e = slurm_in-said d file e
answer-said d (Err n) e = tt
