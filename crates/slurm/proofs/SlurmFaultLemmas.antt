-- The readers report the lowest of all faults of the tree.
use Rattle.slurm.proofs.Vocabulary.{◌≡◌, ◌≢◌, ℕ, ◌+◌, ◌≤◌, inl, inr, Bool, true, false, ◌&&◌, ◌||◌, ◌==◌, nat_le, nat_lt, List, [], ◌∷◌, ◌++◌, length, codes, Option, Some, None, is_some, option_and_then, option_map, Result, Ok, Err, refl, ap, sym, subst, ◌∙◌, arith, lit≤, and_parts, le-leb, leb-true, leb_tells, append-nil, dec_le, IfOk, IfErr, OnOk, ok_or, fits_max_length, width, Asn, Prefix, Vrp, Data, Items, no_items, item, get, as_object, as_str, lower-first, both, mapped, and_then, required, optional, list_of, as_asn, as_prefix, whole_number, Exceptions, exceptions_of, slurm_fault_number, vrp_if, vrp_with, prefix_or_fault, asn_or_fault, comment_in, length_in, version_from, version_in, filter_of, filter_in, max_or_length, assertion_of, assertion_in, entries_from, bgpsec_from, part_in, filters_in, assertions_in, lists_in, slurm_in, SaysAssertion, SaysFilter, assertions_at, filters_at, assertion_names, file_names, filter_names, filters_faults, assertions_faults, prefix_member, prefix_faults, asn_faults, comment_faults, is_one, version_faults, is_max_length, max_length_faults, filter_faults, assertion_faults, array_at, entries_faults, bgpsec_faults, part_faults, entry_count, file_faults, slurm_fault, MOST_ENTRIES, SlurmFault, Filter}
use Rattle.std.proofs.lemmas.Slice.Zip.{AllZip-long}
use Rattle.std.specs.Result.{result_err}
use Rattle.json_values.proofs.FaultLemmas.{Pass, Reported, err-both, lowest-append, lowest-passes, pass-append, pass-flat_map, pass-optional, pass-required, pass-unless, reported-both, reported-each, reported-if, reported-mapped, reported-ok_or, reported-only, reported-optional, reported-required, reported-unless}
use Rattle.json_values.specs.Faults.{fault_unless, lower_of, lowest, name_faults, optional_faults, reading_faults, required_faults}
use Rattle.slurm.proofs.SlurmEntryLemmas.{lists-said}
use Rattle.slurm.specs.declared.fault.SlurmFault.TheVariants.{NotJson, NotObject, Members, Version, Prefix as PrefixFault, Asn as AsnFault, MaxPrefixLength, EmptyFilter, Comment, TooMany, Memory}
use Rattle.slurm.specs.declared.members.MaxPrefixLength.{MaxPrefixLength as LengthRead}

-- ---- single members

reported-prefix : (d : Data) → Reported slurm_fault_number (prefix_or_fault d) (prefix_faults d)
reported-prefix d = reported-ok_or slurm_fault_number (as_prefix d) PrefixFault

reported-asn : (d : Data) → Reported slurm_fault_number (asn_or_fault d) (asn_faults d)
reported-asn d = reported-ok_or slurm_fault_number (as_asn d) AsnFault

reported-comment : (d : Data) → Reported slurm_fault_number (comment_in d) (comment_faults d)
reported-comment d = reported-if slurm_fault_number (is_some (as_str d)) (record {}) Comment

reported-version_from : (n : Option ℕ) → Reported slurm_fault_number (version_from n) (fault_unless (is_one n) Version)
reported-version_from None = record { is = refl }
reported-version_from (Some n) = reported-if slurm_fault_number (n == 1) (record {}) Version

reported-version : (d : Data) → Reported slurm_fault_number (version_in d) (version_faults d)
reported-version d = reported-version_from (whole_number d)

-- ---- filters

err-filter_prefix : (p : Result Prefix SlurmFault) (asn : Result (Option Asn) SlurmFault) → result_err (and_then filter_of (both slurm_fault_number (mapped Some p) asn)) ≡ result_err (both slurm_fault_number (mapped {B = Option Prefix} Some p) asn)
err-filter_prefix (Ok p) (Ok (Some asn)) = refl
err-filter_prefix (Ok p) (Ok None) = refl
err-filter_prefix (Ok p) (Err n) = refl
err-filter_prefix (Err m) (Ok asn) = refl
err-filter_prefix (Err m) (Err n) = refl

err-filter_asn : (asn : Result Asn SlurmFault) → result_err (and_then filter_of (both slurm_fault_number (Ok None) (mapped Some asn))) ≡ result_err (both {A = Option Prefix} slurm_fault_number (Ok None) (mapped {B = Option Asn} Some asn))
err-filter_asn (Ok asn) = refl
err-filter_asn (Err n) = refl

reported-filter_of : (p asn : Option Data) →
    Reported slurm_fault_number (and_then filter_of (both slurm_fault_number (optional prefix_or_fault p) (optional asn_or_fault asn)))
    (optional_faults prefix_faults p ++ optional_faults asn_faults asn ++ fault_unless (is_some p || is_some asn) EmptyFilter)
reported-filter_of (Some p) asn = record {
  is =
      err-filter_prefix (prefix_or_fault p) (optional asn_or_fault asn)
      ∙ (reported-both (reported-mapped Some (reported-prefix p)) (reported-optional slurm_fault_number asn_or_fault asn_faults asn reported-asn)).is
      ∙ ap (lowest slurm_fault_number) (sym (append-nil (prefix_faults p ++ optional_faults asn_faults asn)));
}
reported-filter_of None (Some asn) = record {
  is =
      err-filter_asn (asn_or_fault asn)
      ∙ err-both {A = Option Prefix} slurm_fault_number (Ok None) (mapped Some (asn_or_fault asn))
      ∙ (reported-mapped {B = Option Asn} Some (reported-asn asn)).is
      ∙ ap (lowest slurm_fault_number) (sym (append-nil (asn_faults asn)));
}
reported-filter_of None None = record { is = refl }

reported-filter : (d : Data) → Reported slurm_fault_number (filter_in d) (filter_faults d)
reported-filter d =
    reported-unless (reported-unless (reported-filter_of (get (codes "prefix") d) (get (codes "asn") d))
    (reported-only slurm_fault_number Members filter_names d))
    (reported-optional slurm_fault_number comment_in comment_faults (get (codes "comment") d) reported-comment)

-- ---- assertions

le-no : (a b : ℕ) → (a ≤ b → ⊥) → nat_le a b ≡ false
le-no a b over = elim (leb_tells a b) [ inl there ↦ absurd (over there.1) | inr here ↦ here.0 ]

is_some-vrp_if : (p : Prefix) (max : ℕ) (asn : Asn) (low : Dec (p.length ≤ max)) (high : Dec (max ≤ width p.family)) → is_some (vrp_if p max asn low high) ≡ fits_max_length p max
is_some-vrp_if p max asn (yes low) (yes high) = rw (le-leb p.length max low, le-leb max (width p.family) high) refl
is_some-vrp_if p max asn (yes low) (no high) = rw (le-leb p.length max low, le-no max (width p.family) high) refl
is_some-vrp_if p max asn (no low) high = rw (le-no p.length max low) refl

is_some-vrp_with : (p : Prefix) (max : ℕ) (asn : Asn) → is_some (vrp_with p max asn) ≡ fits_max_length p max
is_some-vrp_with p max asn = is_some-vrp_if p max asn (dec_le p.length max) (dec_le max (width p.family))

-- an AS number's faults have lower numbers than a maxPrefixLength's
abbrev OfAsn : Result Asn SlurmFault → Type 0
OfAsn (Ok asn) = Unit {0}
OfAsn (Err n) = slurm_fault_number n ≤ 8

ok_or-low : (asn : Option Asn) → OfAsn (ok_or asn AsnFault)
ok_or-low None = lit≤ tt
ok_or-low (Some asn) = tt

asn-low : (asn : Option Data) → OfAsn (required Members asn_or_fault asn)
asn-low None = lit≤ tt
asn-low (Some d) = ok_or-low (as_asn d)

lower_of-low : (m : SlurmFault) (b : Bool) → slurm_fault_number m ≤ 8 → Some m ≡ lower_of slurm_fault_number (Some m) (lowest slurm_fault_number (fault_unless b MaxPrefixLength))
lower_of-low m true low = refl
lower_of-low m false low = ap Some (sym (lower-first slurm_fault_number m MaxPrefixLength low))

-- a prefix and a number: the VRP is there where the number is in its range
reported-in_range : (p : Prefix) (max : Option LengthRead) (asn : Result Asn SlurmFault) (xs : List SlurmFault) → Reported slurm_fault_number asn xs → OfAsn asn →
    Reported slurm_fault_number (and_then assertion_of (both slurm_fault_number (Ok p) (both slurm_fault_number asn (Ok max)))) (xs ++ fault_unless (fits_max_length p (max_or_length p max)) MaxPrefixLength)
reported-in_range p max (Ok asn) xs h low =
    let range = fits_max_length p (max_or_length p max) in
    record {
      is =
          (reported-ok_or slurm_fault_number (vrp_with p (max_or_length p max) asn) MaxPrefixLength).is
          ∙ ap (λ (b : Bool). lowest slurm_fault_number (fault_unless b MaxPrefixLength)) (is_some-vrp_with p (max_or_length p max) asn)
          ∙ ap (λ (o : Option SlurmFault). lower_of slurm_fault_number o (lowest slurm_fault_number (fault_unless range MaxPrefixLength))) h.is
          ∙ sym (lowest-append slurm_fault_number xs (fault_unless range MaxPrefixLength));
    }
reported-in_range p max (Err m) xs h low =
    let range = fits_max_length p (max_or_length p max) in
    record {
      is =
          lower_of-low m range low
          ∙ ap (λ (o : Option SlurmFault). lower_of slurm_fault_number o (lowest slurm_fault_number (fault_unless range MaxPrefixLength))) h.is
          ∙ sym (lowest-append slurm_fault_number xs (fault_unless range MaxPrefixLength));
    }

-- no number
err-no_number : (p : Prefix) (asn : Result Asn SlurmFault) → result_err (and_then assertion_of (both slurm_fault_number (Ok p) (both slurm_fault_number asn (Err MaxPrefixLength)))) ≡ result_err (both {B = Option LengthRead} slurm_fault_number asn (Err MaxPrefixLength))
err-no_number p (Ok asn) = refl
err-no_number p (Err m) = refl

own_length : (p : Prefix) → fits_max_length p p.length ≡ true
own_length p = rw (le-leb p.length p.length (omega arith), le-leb p.length (width p.family) p.length_fits) refl

reported-max : (p : Prefix) (asn : Result Asn SlurmFault) (xs : List SlurmFault) (number : Option ℕ) → Reported slurm_fault_number asn xs → OfAsn asn →
    Reported slurm_fault_number (and_then assertion_of (both slurm_fault_number (Ok p) (both slurm_fault_number asn (mapped {B = Option LengthRead} Some (ok_or (option_map (λ n. record { 0 = n }) number) MaxPrefixLength)))))
    (xs ++ fault_unless (is_max_length (Some p) number) MaxPrefixLength)
reported-max p asn xs None h low = record {
  is =
      err-no_number p asn ∙ err-both {B = Option LengthRead} slurm_fault_number asn (Err MaxPrefixLength)
      ∙ ap (λ (o : Option SlurmFault). lower_of slurm_fault_number o (Some MaxPrefixLength)) h.is ∙ sym (lowest-append slurm_fault_number xs (MaxPrefixLength ∷ []));
}
reported-max p asn xs (Some n) h low = reported-in_range p (Some (record { 0 = n })) asn xs h low

reported-with_prefix : (p : Prefix) (asn max : Option Data) →
    Reported slurm_fault_number (and_then assertion_of (both slurm_fault_number (Ok p) (both slurm_fault_number (required Members asn_or_fault asn) (optional length_in max))))
    (required_faults Members asn_faults asn ++ optional_faults (max_length_faults (Some p)) max)
reported-with_prefix p asn None =
    let own = reported-in_range p None (required Members asn_or_fault asn) (required_faults Members asn_faults asn) (reported-required slurm_fault_number Members asn_or_fault asn_faults asn reported-asn) (asn-low asn) in
    record { is = own.is ∙ ap (λ (b : Bool). lowest slurm_fault_number (required_faults Members asn_faults asn ++ fault_unless b MaxPrefixLength)) (own_length p) }
reported-with_prefix p asn (Some max) =
    reported-max p (required Members asn_or_fault asn) (required_faults Members asn_faults asn) (whole_number max) (reported-required slurm_fault_number Members asn_or_fault asn_faults asn reported-asn) (asn-low asn)

-- without a prefix
reported-length : (d : Data) → Reported slurm_fault_number (length_in d) (max_length_faults None d)
reported-length d = reported-number (whole_number d)
  where
    reported-number : (n : Option ℕ) → Reported {A = LengthRead} slurm_fault_number (ok_or (option_map (λ k. record { 0 = k }) n) MaxPrefixLength) (fault_unless (is_max_length None n) MaxPrefixLength)
    reported-number None = record { is = refl }
    reported-number (Some n) = record { is = refl }

err-no_prefix : (m : SlurmFault) (others : Result (Asn × Option LengthRead) SlurmFault) → result_err (and_then assertion_of (both slurm_fault_number (Err m) others)) ≡ lower_of slurm_fault_number (Some m) (result_err others)
err-no_prefix m (Ok others) = refl
err-no_prefix m (Err n) = refl

reported-no_prefix : (m : SlurmFault) (asn max : Option Data) →
    Reported slurm_fault_number (and_then assertion_of (both slurm_fault_number (Err m) (both slurm_fault_number (required Members asn_or_fault asn) (optional length_in max))))
    (m ∷ [] ++ required_faults Members asn_faults asn ++ optional_faults (max_length_faults None) max)
reported-no_prefix m asn max =
    let others = reported-both (reported-required slurm_fault_number Members asn_or_fault asn_faults asn reported-asn) (reported-optional slurm_fault_number length_in (max_length_faults None) max reported-length) in
    record { is = err-no_prefix m (both slurm_fault_number (required Members asn_or_fault asn) (optional length_in max)) ∙ ap (lower_of slurm_fault_number (Some m)) others.is }

reported-read_prefix : (p : Option Prefix) (asn max : Option Data) →
    Reported slurm_fault_number (and_then assertion_of (both slurm_fault_number (ok_or p PrefixFault) (both slurm_fault_number (required Members asn_or_fault asn) (optional length_in max))))
    (fault_unless (is_some p) PrefixFault ++ required_faults Members asn_faults asn ++ optional_faults (max_length_faults p) max)
reported-read_prefix None asn max = reported-no_prefix PrefixFault asn max
reported-read_prefix (Some p) asn max = reported-with_prefix p asn max

reported-assertion_of : (p asn max : Option Data) →
    Reported slurm_fault_number (and_then assertion_of (both slurm_fault_number (required Members prefix_or_fault p) (both slurm_fault_number (required Members asn_or_fault asn) (optional length_in max))))
    (required_faults Members prefix_faults p ++ required_faults Members asn_faults asn ++ optional_faults (max_length_faults (option_and_then as_prefix p)) max)
reported-assertion_of None asn max = reported-no_prefix Members asn max
reported-assertion_of (Some p) asn max = reported-read_prefix (as_prefix p) asn max

reported-assertion : (d : Data) → Reported slurm_fault_number (assertion_in d) (assertion_faults d)
reported-assertion d =
    reported-unless (reported-unless (reported-assertion_of (get (codes "prefix") d) (get (codes "asn") d) (get (codes "maxPrefixLength") d))
    (reported-only slurm_fault_number Members assertion_names d))
    (reported-optional slurm_fault_number comment_in comment_faults (get (codes "comment") d) reported-comment)

-- ---- the file

reported-entries : {A : Type 0} (reading : Data → Result A SlurmFault) (faults : Data → List SlurmFault) (items : Option Items) → ((d : Data) → Reported slurm_fault_number (reading d) (faults d)) → Reported slurm_fault_number (entries_from reading items) (entries_faults faults items)
reported-entries reading faults None h = record { is = refl }
reported-entries reading faults (Some items) h = reported-each slurm_fault_number reading faults (list_of items) h

reported-bgpsec : (items : Option Items) → Reported slurm_fault_number (bgpsec_from items) (bgpsec_faults items)
reported-bgpsec None = record { is = refl }
reported-bgpsec (Some no_items) = record { is = refl }
reported-bgpsec (Some (item d ds)) = record { is = refl }

reported-part : {A : Type 0} (reading : Data → Result A SlurmFault) (faults : Data → List SlurmFault) (entries bgpsec : List ℕ) → ((d : Data) → Reported slurm_fault_number (reading d) (faults d)) → (d : Data) → Reported slurm_fault_number (part_in reading entries bgpsec d) (part_faults faults entries bgpsec d)
reported-part reading faults entries bgpsec h d =
    reported-unless (reported-unless (reported-entries reading faults (array_at entries d) h) (reported-only slurm_fault_number Members (entries ∷ bgpsec ∷ []) d)) (reported-bgpsec (array_at bgpsec d))

abbrev lists_faults : Data → List SlurmFault
lists_faults d =
    required_faults Members filters_faults (get (codes "validationOutputFilters") d)
    ++ required_faults Members assertions_faults (get (codes "locallyAddedAssertions") d)
    ++ fault_unless (is_some (as_object d)) NotObject
    ++ name_faults Members file_names d
    ++ required_faults Members version_faults (get (codes "slurmVersion") d)

reported-lists : (d : Data) → Reported slurm_fault_number (lists_in d) (lists_faults d)
reported-lists d =
    reported-unless (reported-unless (reported-unless (reported-both
    (reported-required slurm_fault_number Members filters_in filters_faults (get (codes "validationOutputFilters") d)
    (reported-part filter_in filter_faults (codes "prefixFilters") (codes "bgpsecFilters") reported-filter))
    (reported-required slurm_fault_number Members assertions_in assertions_faults (get (codes "locallyAddedAssertions") d)
    (reported-part assertion_in assertion_faults (codes "prefixAssertions") (codes "bgpsecAssertions") reported-assertion)))
    (reported-if slurm_fault_number (is_some (as_object d)) tt NotObject))
    (reported-only slurm_fault_number Members file_names d))
    (reported-required slurm_fault_number Members version_in version_faults (get (codes "slurmVersion") d) reported-version)

-- ---- no fault of a tree is `NotJson` or over `TooMany`

abbrev is_tree_fault : SlurmFault → Bool
is_tree_fault n = nat_lt 1 (slurm_fault_number n) && nat_le (slurm_fault_number n) 11

pass-reading : {A : Type 0} (reading : Data → Option A) (n : SlurmFault) → is_tree_fault n ≡ true → (d : Data) → Pass is_tree_fault (reading_faults reading n d)
pass-reading reading n h d = pass-unless (is_some (reading d)) n h

pass-filter : (d : Data) → Pass is_tree_fault (filter_faults d)
pass-filter d =
    pass-append (pass-append (pass-append (pass-append
    (pass-optional prefix_faults (get (codes "prefix") d) (pass-reading as_prefix PrefixFault refl))
    (pass-optional asn_faults (get (codes "asn") d) (pass-reading as_asn AsnFault refl)))
    (pass-unless (is_some (get (codes "prefix") d) || is_some (get (codes "asn") d)) EmptyFilter refl))
    (pass-unless _ Members refl))
    (pass-optional comment_faults (get (codes "comment") d) (pass-reading as_str Comment refl))

pass-assertion : (d : Data) → Pass is_tree_fault (assertion_faults d)
pass-assertion d =
    let p = prefix_member d in
    pass-append (pass-append (pass-append (pass-append
    (pass-required Members prefix_faults (get (codes "prefix") d) refl (pass-reading as_prefix PrefixFault refl))
    (pass-required Members asn_faults (get (codes "asn") d) refl (pass-reading as_asn AsnFault refl)))
    (pass-optional (max_length_faults p) (get (codes "maxPrefixLength") d) (λ max. pass-unless (is_max_length p (whole_number max)) MaxPrefixLength refl)))
    (pass-unless _ Members refl))
    (pass-optional comment_faults (get (codes "comment") d) (pass-reading as_str Comment refl))

pass-entries : (faults : Data → List SlurmFault) (items : Option Items) → ((d : Data) → Pass is_tree_fault (faults d)) → Pass is_tree_fault (entries_faults faults items)
pass-entries faults None k = record { each = refl }
pass-entries faults (Some items) k = pass-flat_map faults (list_of items) k

pass-bgpsec : (items : Option Items) → Pass is_tree_fault (bgpsec_faults items)
pass-bgpsec None = record { each = refl }
pass-bgpsec (Some no_items) = record { each = refl }
pass-bgpsec (Some (item d ds)) = record { each = refl }

pass-part : (faults : Data → List SlurmFault) (entries bgpsec : List ℕ) → ((d : Data) → Pass is_tree_fault (faults d)) → (d : Data) → Pass is_tree_fault (part_faults faults entries bgpsec d)
pass-part faults entries bgpsec k d =
    pass-append (pass-append (pass-entries faults (array_at entries d) k) (pass-unless _ Members refl)) (pass-bgpsec (array_at bgpsec d))

pass-lists : (d : Data) → Pass is_tree_fault (lists_faults d)
pass-lists d =
    pass-append (pass-append (pass-append (pass-append
    (pass-required Members filters_faults (get (codes "validationOutputFilters") d) refl
    (pass-part filter_faults (codes "prefixFilters") (codes "bgpsecFilters") pass-filter))
    (pass-required Members assertions_faults (get (codes "locallyAddedAssertions") d) refl
    (pass-part assertion_faults (codes "prefixAssertions") (codes "bgpsecAssertions") pass-assertion)))
    (pass-unless (is_some (as_object d)) NotObject refl))
    (pass-unless _ Members refl))
    (pass-required Members version_faults (get (codes "slurmVersion") d) refl (λ version. pass-unless (is_one (whole_number version)) Version refl))

-- ---- the number of entries

abbrev Lists : Type 0
Lists = List Filter × List Vrp

abbrev Counts : Result Lists SlurmFault → ℕ → Type 0
Counts lists count = IfOk lists (λ l. length l.0 + length l.1 ≡ count)

counts-lists : (d : Data) (lists : Result Lists SlurmFault) → lists_in d ≡ lists → Counts lists (entry_count d)
counts-lists d (Ok lists) is =
    let said = lists-said d lists is in
    rw (AllZip-long SaysFilter (filters_at d) lists.0 said.0, AllZip-long SaysAssertion (assertions_at d) lists.1 said.1) refl
counts-lists d (Err n) is = tt

-- ---- the whole

err-exceptions_of : (lists : Result Lists SlurmFault) (faults : List SlurmFault) (count : ℕ) → Reported slurm_fault_number lists faults → Counts lists count → Pass is_tree_fault faults →
    result_err (and_then (λ p. exceptions_of p.0 p.1) lists) ≡ lowest slurm_fault_number (faults ++ fault_unless (nat_le count MOST_ENTRIES) TooMany)
err-exceptions_of (Ok lists) faults count h counts low =
    rw (counts, lowest-append slurm_fault_number faults (fault_unless (nat_le count MOST_ENTRIES) TooMany), ← h.is)
    (reported-if {A = Exceptions} slurm_fault_number (nat_le count MOST_ENTRIES) (record { filters = lists.0; assertions = lists.1 }) TooMany).is
err-exceptions_of (Err n) faults count h counts low =
    rw (lowest-append slurm_fault_number faults (fault_unless (nat_le count MOST_ENTRIES) TooMany), ← h.is) (last (nat_le count MOST_ENTRIES))
  where
    below : slurm_fault_number n ≤ 11
    below =
        leb-true (slurm_fault_number n) 11
        (and_parts (nat_lt 1 (slurm_fault_number n)) (nat_le (slurm_fault_number n) 11) (lowest-passes slurm_fault_number is_tree_fault faults n low (sym h.is))).1

    last : (b : Bool) → Some n ≡ lower_of slurm_fault_number (Some n) (lowest slurm_fault_number (fault_unless b TooMany))
    last true = refl
    last false = ap Some (sym (lower-first slurm_fault_number n TooMany below))

pub slurm_fault-reported : (d : Data) → result_err (slurm_in d) ≡ slurm_fault (Some d)
slurm_fault-reported d = err-exceptions_of (lists_in d) (lists_faults d) (entry_count d) (reported-lists d) (counts-lists d (lists_in d) refl) (pass-lists d)

-- a tree that was read as a file has no fault
pub slurm_fault-none : (d : Data) (answer : Result Exceptions SlurmFault) → IfOk answer (λ file. slurm_in d ≡ Ok file) → OnOk answer (slurm_fault (Some d) ≡ None)
slurm_fault-none d (Ok file) read = sym (slurm_fault-reported d) ∙ ap result_err read
slurm_fault-none d (Err n) read = tt

-- the fault of a tree is another than that there is none
pub tree_is_json : (d : Data) (answer : Result Exceptions SlurmFault) → IfErr answer (λ fault. fault ≢ Memory → slurm_fault (Some d) ≡ Some fault) → answer ≢ Err NotJson
tree_is_json d (Ok file) fault reported = cc
tree_is_json d (Err n) fault reported =
    let is : n ≡ NotJson = cc in
    let lowest_is = subst (λ (m : SlurmFault). m ≢ Memory → slurm_fault (Some d) ≡ Some m) is fault (λ same. cc) in
    let all = pass-append (pass-lists d) (pass-unless (nat_le (entry_count d) MOST_ENTRIES) TooMany refl) in
    let passes : is_tree_fault NotJson ≡ true = lowest-passes slurm_fault_number is_tree_fault (file_faults d) NotJson all lowest_is in
    cc
