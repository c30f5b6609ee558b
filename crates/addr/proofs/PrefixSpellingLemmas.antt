-- The law of prefix texts: each spelling is read back, so it has no fault where its parts are a prefix's.
use Rattle.addr.proofs.Vocabulary.{◌≡◌, ◌↔◌, ℕ, ◌+◌, ◌-◌, ◌%◌, ◌^◌, ◌<◌, ◌≤◌, sub-le, Bool, true, false, not, nat_lt, cond, List, [], ◌∷◌, ◌++◌, get_or, Option, Some, None, Result, Ok, Err, All, refl, sym, ap, ◌∙◌, subst, inl, inr, arith, lit≤, lit<, le-ltb, le-leb, ne_eqb, or_from, ltb-false, eqb-true, not-false, none-some, same_Some, decimal_is_IsNumeral, length-decimal-le, All-head, All-tail, MatchResult, result_ok, digit_value, bytes_eq, number_from_digits, number_lt, ipv4_text, hex_groups_text, dotted_text, longest_zero_run, width, same_prefix, Family, V4, V6, Prefix, octets_of, groups_of, address_text, short_number, octet, loose_groups, fault_of, is_aligned, Spells, IsFirstLongestRun, PrefixTextLaw, prefix_if, ℕ_set}
use Rattle.std.proofs.Common.{decimal}
use Rattle.std.proofs.lemmas.Slice.Eq.{bytes_eq-Decides}
use Rattle.std.proofs.NetLemmas.Arrays.{four_items}
use Rattle.std.proofs.NetLemmas.Texts.{IsZeroRun-longest_zero_run, longest_zero_run_first, AllSegments, IsColonHex-hex_groups_text}
use Rattle.std.proofs.NetLemmas.Alphabet.{IsHexOrColon, All-hex_groups_text}
use Rattle.addr.specs.declared.text.PrefixParts.{PrefixParts}
use Rattle.addr.specs.declared.text.PrefixFault.{PrefixFault}
use Rattle.addr.specs.declared.text.PrefixFault.TheVariants.{Shape, Spelling, Length, HostBits}
use Rattle.addr.specs.PrefixText.{spelling, dotted_address, loose_address, loose, prefix_text_fault, spelled_prefix}
use Rattle.addr.proofs.PrefixTextLemmas.{short_number_from, Lacks, Lacks-append, Lacks-digits, cut_at_here, cut_at_none, dotted_parts, length_digits_in, below-digits_in, number-digits_in, at_below, option_cases}
use Rattle.addr.proofs.AddressLemmas.{width_small, first_below, multiple-fits}
use Rattle.addr.proofs.PrefixGroupsLemmas.{loose_groups_from}
use Rattle.std.proofs.Math.Bridge.{le_prop}

-- ---- numbers

short_number-decimal : (n : ℕ) → n < 1000 → short_number 10 3 (decimal n) ≡ Some n
short_number-decimal n below =
    let (numeral, value) = decimal_is_IsNumeral n (omega arith) in
    let few = length-decimal-le 3 n (lit< tt) below (omega arith) in
    short_number_from 10 3 (decimal n) n (record { some = omega (arith, numeral.0); few = few; digits = numeral.1; value = value })

octet-decimal : (n : ℕ) → n < 256 → octet (decimal n) ≡ Some n
octet-decimal n below = rw (short_number-decimal n (omega arith), le-leb n 255 (omega arith))

decimal_lacks : (byte n : ℕ) → 10 ≤ digit_value byte → n < 1000 → Lacks byte (decimal n)
decimal_lacks byte n other below = Lacks-digits 10 byte (decimal n) other (decimal_is_IsNumeral n (omega arith)).0.1

-- ---- IPv4

dotted_address-text : (a b c d : ℕ) → a < 256 → b < 256 → c < 256 → d < 256 → dotted_address (dotted_text a b c d) ≡ Some (number_from_digits 0x100 (a ∷ b ∷ c ∷ d ∷ []))
unfolding dotted_address
dotted_address-text a b c d ha hb hc hd =
    rw (
      dotted_parts a b c d,
      cut_at_here 46 (decimal a) (decimal b ++ 46 ∷ (decimal c ++ 46 ∷ decimal d)) (decimal_lacks 46 a (lit≤ tt) (omega arith)),
      cut_at_here 46 (decimal b) (decimal c ++ 46 ∷ decimal d) (decimal_lacks 46 b (lit≤ tt) (omega arith)),
      cut_at_here 46 (decimal c) (decimal d) (decimal_lacks 46 c (lit≤ tt) (omega arith)),
      octet-decimal a ha,
      octet-decimal b hb,
      octet-decimal c hc,
      octet-decimal d hd,
    )

dotted_lacks_slash : (a b c d : ℕ) → a < 256 → b < 256 → c < 256 → d < 256 → Lacks 47 (dotted_text a b c d)
dotted_lacks_slash a b c d ha hb hc hd =
    let last = Lacks-append 47 (decimal c) (46 ∷ decimal d) (decimal_lacks 47 c (lit≤ tt) (omega arith)) (decimal_lacks 47 d (lit≤ tt) (omega arith)) in
    let middle = Lacks-append 47 (decimal b) (46 ∷ (decimal c ++ 46 ∷ decimal d)) (decimal_lacks 47 b (lit≤ tt) (omega arith)) last in
    rw (dotted_parts a b c d) (Lacks-append 47 (decimal a) (46 ∷ (decimal b ++ 46 ∷ (decimal c ++ 46 ∷ decimal d))) (decimal_lacks 47 a (lit≤ tt) (omega arith)) middle)

octet_below : (address k : ℕ) → get_or (octets_of address) k 0 < 256
octet_below address k = at_below 0x100 (octets_of address) k (lit< tt) (below-digits_in 0x100 4 address (lit< tt))

octets_back : (address : ℕ) → dotted_address (ipv4_text (octets_of address)) ≡ Some (number_from_digits 0x100 (octets_of address))
octets_back address =
    let read = dotted_address-text _ _ _ _ (octet_below address 0) (octet_below address 1) (octet_below address 2) (octet_below address 3) in
    let all = four_items (octets_of address) (length_digits_in 0x100 4 address) in
    read ∙ ap (λ octets. Some (number_from_digits 0x100 octets)) (sym all)

-- ---- IPv6

hex_lacks : (byte : ℕ) (text : List ℕ) → (IsHexOrColon byte → ⊥) → All IsHexOrColon text → Lacks byte text
hex_lacks byte [] other all = refl
hex_lacks byte (c ∷ text) other all =
    or_from _ _ (ne_eqb c byte λ same. other (subst IsHexOrColon same (All-head IsHexOrColon c text all))) (hex_lacks byte text other (All-tail IsHexOrColon c text all))

segments_fit : (address : ℕ) → AllSegments (groups_of address)
segments_fit address k = at_below 0x10000 (groups_of address) k (lit< tt) (below-digits_in 0x10000 8 address (lit< tt))

hex_text_lacks : (byte address : ℕ) → (IsHexOrColon byte → ⊥) → Lacks byte (hex_groups_text (groups_of address))
hex_text_lacks byte address other = hex_lacks byte (hex_groups_text (groups_of address)) other (All-hex_groups_text (groups_of address) (segments_fit address))

groups_back : (address : ℕ) → loose_groups (hex_groups_text (groups_of address)) ≡ Some (groups_of address)
groups_back address =
    loose_groups_from (hex_groups_text (groups_of address)) (groups_of address)
    (IsColonHex-hex_groups_text (groups_of address) (length_digits_in 0x10000 8 address) (segments_fit address))
    (hex_text_lacks 46 address (λ h. omega arith))

not_dotted : (address : ℕ) → dotted_address (hex_groups_text (groups_of address)) ≡ None
unfolding dotted_address
not_dotted address = rw (cut_at_none 46 (hex_groups_text (groups_of address)) (hex_text_lacks 46 address (λ h. omega arith)))

-- ---- both families

address_lacks_slash : (family : Family) (address : ℕ) → Lacks 47 (address_text family address)
address_lacks_slash V4 address = dotted_lacks_slash _ _ _ _ (octet_below address 0) (octet_below address 1) (octet_below address 2) (octet_below address 3)
address_lacks_slash V6 address = hex_text_lacks 47 address (λ h. omega arith)

-- the address that the text of a number reads as, which is the number if it is one of the family
abbrev address_read : Family → ℕ → ℕ
address_read V4 address = number_from_digits 0x100 (octets_of address)
address_read V6 address = number_from_digits 0x10000 (groups_of address)

address_read_is : (family : Family) (address : ℕ) → address < 2 ^ width family → address_read family address ≡ address
address_read_is V4 address fits = number-digits_in 0x100 4 address (lit< tt) fits
address_read_is V6 address fits = number-digits_in 0x10000 8 address (lit< tt) fits

address_read_fits : (family : Family) (address : ℕ) → address_read family address < 2 ^ width family
address_read_fits V4 address = rw (length_digits_in 0x100 4 address) at (number_lt 0x100 (octets_of address) (below-digits_in 0x100 4 address (lit< tt)))
address_read_fits V6 address = rw (length_digits_in 0x10000 8 address) at (number_lt 0x10000 (groups_of address) (below-digits_in 0x10000 8 address (lit< tt)))

address_back : (family : Family) (address : ℕ) → loose_address (address_text family address) ≡ Some (family, address_read family address)
unfolding loose_address
address_back V4 address = rw (octets_back address)
address_back V6 address = rw (not_dotted address, groups_back address)

loose-spelled : (family : Family) (address len : ℕ) → len < 1000 → loose (spelling family address len) ≡ Some (record { family = family; address = address_read family address; length = len })
unfolding loose spelling
loose-spelled family address len below =
    rw (cut_at_here 47 (address_text family address) (decimal len) (address_lacks_slash family address), address_back family address, short_number-decimal len below)

pub loose-spelling : (family : Family) (address len : ℕ) → address < 2 ^ width family → len < 1000 → loose (spelling family address len) ≡ Some (record { family = family; address = address; length = len })
loose-spelling family address len fits below =
    let read = loose-spelled family address len below in
    rw (address_read_is family address fits) at read

-- ---- faults

-- no fault: the text was read as parts that are a prefix's, and spells them
record IsFaultless (text : List ℕ) (parts : PrefixParts) : Type 0 where
  pub spelled : spelling parts.family parts.address parts.length ≡ text
  pub length_fits : parts.length ≤ width parts.family
  pub aligned : parts.address % 2 ^ (width parts.family - parts.length) ≡ 0

faultless_parts : (text : List ℕ) (parts : PrefixParts) → fault_of text (Some parts) ≡ None → IsFaultless text parts
faultless_parts text parts e =
    let same = bytes_eq (spelling parts.family parts.address parts.length) text in
    let over = nat_lt (width parts.family) parts.length in
    let (is_same, rest) = cond_is_none (not same) Spelling _ e in
    let (is_within, others) = cond_is_none over Length _ rest in
    let (has_no_bits, end) = cond_is_none (not (is_aligned parts)) HostBits _ others in
    record {
      spelled = (bytes_eq-Decides (spelling parts.family parts.address parts.length) text).0 (not-false same is_same);
      length_fits = ltb-false (width parts.family) parts.length is_within;
      aligned = eqb-true (parts.address % 2 ^ (width parts.family - parts.length)) 0 (not-false (is_aligned parts) has_no_bits);
    }
  where
    cond_is_none : (b : Bool) (fault : PrefixFault) (rest : Option PrefixFault) → cond b (Some fault) rest ≡ None → (b ≡ false) × (rest ≡ None)
    cond_is_none true fault rest e = absurd (none-some fault (sym e))
    cond_is_none false fault rest e = (refl, e)

-- what was read is an address of its family
faultless_fits : (text : List ℕ) (parts : PrefixParts) → loose text ≡ Some parts → IsFaultless text parts → parts.address < 2 ^ width parts.family
faultless_fits text parts read h =
    let short : parts.length < 1000 = omega (arith, width_small parts.family, h.length_fits) in
    let same = same_Some _ _ (sym (loose-spelled parts.family parts.address parts.length short) ∙ ap loose h.spelled ∙ read) in
    let back : address_read parts.family parts.address ≡ parts.address = ap (λ (p : PrefixParts). p.address) same in
    omega (arith, back, address_read_fits parts.family parts.address)

-- ---- prefixes

abbrev prefix_of : (family : Family) (first len : ℕ) → len ≤ width family → first % 2 ^ (width family - len) ≡ 0 → first + 2 ^ (width family - len) ≤ 2 ^ width family → Prefix
prefix_of family first len fits aligned inside = record { family = family; first = first; length = len; length_fits = fits; aligned = aligned; in_family = inside }

prefix_short : (p : Prefix) → p.length < 1000
prefix_short p = omega (arith, width_small p.family, p.length_fits)

abbrev pub parts_of : Prefix → PrefixParts
parts_of p = record { family = p.family; address = p.first; length = p.length }

pub loose-Spells : (p : Prefix) (text : List ℕ) → Spells p text → loose text ≡ Some (parts_of p)
loose-Spells p text spelled = rw spelled (loose-spelling p.family p.first p.length (first_below p) (prefix_short p))

pub Spells_unique : (p q : Prefix) (text : List ℕ) → Spells p text → Spells q text → p ≡ q
Spells_unique p q text hp hq =
    let same = same_Some _ _ (sym (loose-Spells p text hp) ∙ loose-Spells q text hq) in
    same_prefix p q (ap (λ (parts : PrefixParts). parts.family) same) (ap (λ (parts : PrefixParts). parts.address) same) (ap (λ (parts : PrefixParts). parts.length) same)

pub faultless-Spells : (p : Prefix) (text : List ℕ) → Spells p text → prefix_text_fault text ≡ None
unfolding prefix_text_fault
faultless-Spells p text spelled =
    rw (
      loose-Spells p text spelled,
      (bytes_eq-Decides (spelling p.family p.first p.length) text).1 (sym spelled),
      le-ltb (width p.family) p.length p.length_fits,
      p.aligned,
    )

prefix_from_parts : (text : List ℕ) (parts : PrefixParts) → loose text ≡ Some parts → IsFaultless text parts → (p : Prefix) × Spells p text
prefix_from_parts text parts read h =
    let below = faultless_fits text parts read h in
    let multiple = multiple-fits parts.address (width parts.family - parts.length) (width parts.family) (sub-le (width parts.family) parts.length) below h.aligned in
    (prefix_of parts.family parts.address parts.length h.length_fits h.aligned multiple, sym h.spelled)

prefix_from_faultless : (text : List ℕ) → prefix_text_fault text ≡ None → (p : Prefix) × Spells p text
unfolding prefix_text_fault
prefix_from_faultless text none =
    elim (option_cases (loose text)) [
      | inl shapeless ↦ absurd (none-some Shape (sym (rw shapeless at none)))
      | inr read ↦ prefix_from_parts text read.0 read.1 (faultless_parts text read.0 (rw read.1 at none))
    ]

-- ---- the run of zero groups that `::` replaces

first_longest_run : (groups : List ℕ) → IsFirstLongestRun groups (longest_zero_run groups).0 (longest_zero_run groups).1
first_longest_run groups =
    let run = IsZeroRun-longest_zero_run groups in
    record {
      run = record { within = run.0; zeros = run.1 };
      longest = λ from count h. (longest_zero_run_first groups from count (h.within, h.zeros)).0;
      first = λ from h. (longest_zero_run_first groups from (longest_zero_run groups).1 (h.within, h.zeros)).1 refl;
    }

pub prefix_text_law : PrefixTextLaw
prefix_text_law = record {
  read_back = loose-spelling;
  faultless = λ text. (prefix_from_faultless text, λ h. faultless-Spells h.0 text h.1);
  unique = Spells_unique;
  elided = first_longest_run;
}

-- ---- what reading answers

pub read_gives : (text : List ℕ) (read : Result Prefix PrefixFault) → MatchResult read (λ prefix. (prefix_text_fault text ≡ None) × Spells prefix text) (λ fault. prefix_text_fault text ≡ Some fault) → (prefix : Prefix) → (read ≡ Ok prefix) ↔ Spells prefix text
read_gives text (Ok read) h prefix = (
  λ same. let is : read ≡ prefix = cc in subst (λ p. Spells p text) is h.1,
  λ spelled. ap Ok (Spells_unique read prefix text h.1 spelled),
)
read_gives text (Err fault) h prefix = (
  λ same. cc,
  λ spelled. absurd (none-some fault (sym (faultless-Spells prefix text spelled) ∙ h)),
)

-- ---- the prefix that a text spells, where it spells one

-- the numbers of a prefix give it, whatever proves that they are a prefix's
prefix_if-numbers : (p : Prefix) (fits : Dec (p.length ≤ width p.family)) (aligned : Dec (p.first % 2 ^ (width p.family - p.length) ≡ 0)) (inside : Dec (p.first + 2 ^ (width p.family - p.length) ≤ 2 ^ width p.family)) → prefix_if p.family p.first p.length fits aligned inside ≡ Some p
prefix_if-numbers p (yes fits) (yes aligned) (yes inside) =
    λ i. Some (record {
      family = p.family;
      first = p.first;
      length = p.length;
      length_fits = le_prop fits p.length_fits i;
      aligned = ℕ_set _ _ aligned p.aligned i;
      in_family = le_prop inside p.in_family i;
    })
prefix_if-numbers p (yes fits) (yes aligned) (no outside) = absurd (outside p.in_family)
prefix_if-numbers p (yes fits) (no unaligned) inside = absurd (unaligned p.aligned)
prefix_if-numbers p (no long) aligned inside = absurd (long p.length_fits)

pub spelled_prefix-Spells : (p : Prefix) (text : List ℕ) → Spells p text → spelled_prefix text ≡ Some p
unfolding spelled_prefix
spelled_prefix-Spells p text spelled =
    rw ((prefix_text_law.faultless text).1 (p, spelled), loose-Spells p text spelled) (prefix_if-numbers p _ _ _)

pub spelled_prefix-fault : (text : List ℕ) (fault : PrefixFault) → prefix_text_fault text ≡ Some fault → spelled_prefix text ≡ None
unfolding spelled_prefix
spelled_prefix-fault text fault reported = rw reported refl

-- what `Prefix::read` answers, by its one clause that has both outcomes
pub spelled_prefix-gives : (text : List ℕ) (read : Result Prefix PrefixFault)
    → MatchResult read (λ prefix. (prefix_text_fault text ≡ None) × Spells prefix text) (λ fault. prefix_text_fault text ≡ Some fault)
    → result_ok read ≡ spelled_prefix text
spelled_prefix-gives text (Ok p) is = sym (spelled_prefix-Spells p text is.1)
spelled_prefix-gives text (Err fault) is = sym (spelled_prefix-fault text fault is)

fault-unless_spelled : (text : List ℕ) (fault : Option PrefixFault) → prefix_text_fault text ≡ fault → (p : Prefix) → spelled_prefix text ≡ Some p → Spells p text
fault-unless_spelled text None none p reported =
    let some = (prefix_text_law.faultless text).0 none in
    let same : some.0 ≡ p = same_Some _ _ (sym (spelled_prefix-Spells some.0 text some.1) ∙ reported) in
    subst (λ (q : Prefix). Spells q text) same some.1
fault-unless_spelled text (Some fault) is p reported = absurd (none-some p (sym (spelled_prefix-fault text fault is) ∙ reported))

pub Spells-spelled_prefix : (p : Prefix) (text : List ℕ) → spelled_prefix text ≡ Some p → Spells p text
Spells-spelled_prefix p text reported = fault-unless_spelled text (prefix_text_fault text) refl p reported
