-- The two laws of a content: its octets are read as it, and what is read has these octets.
use Rattle.roa.proofs.Vocabulary.{◌≡◌, ℕ, suc, ◌+◌, ◌<◌, ◌≤◌, Bool, true, cond, leb, List, [], ◌∷◌, ◌++◌, length, map, Some, None, refl, sym, ap, subst, ◌∙◌, inl, inr, ◌⊎◌, arith, Less, flat_map, list_all, AllByRecursion, leb-true, le-leb, and_parts, and_from, none-some, some_pair_parts, map-append, length-append, flat_map-cons, width, family_eq, Asn, Family, V4, V6, first_below, RouteOriginAttestation, IsContent, AreCanonical, Rises, entry_order, is_in_range, family_octets, of_family, AreOctetsOf, integer, sequence, octet_string, entry_octets, roa_ip_address_family, Numbers, numbers, element_at, content_of, AreOctets}
use Rattle.addr.specs.declared.roa_prefix.RoaPrefix.{RoaPrefix as Entry}
use Rattle.roa.specs.ContentOctets.{content_octets}
use Rattle.roa.proofs.Elements.{element_again}
use Rattle.roa.proofs.Entries.{IsEntry, numbers_octets}
use Rattle.roa.proofs.Blocks.{block_octets, AreBlocks, spelled, length-fields, content_again, content_only}
use Rattle.roa.proofs.Prefixes.{same_entry}

-- ---- families

cases_family : (f : Family) → (f ≡ V4) ⊎ (f ≡ V6)
cases_family V4 = inl refl
cases_family V6 = inr refl

-- ---- an entry with its facts

pub entry_is : (e : Entry) → is_in_range e ≡ true → IsEntry e.prefix.family (numbers e)
entry_is e h =
    let both = and_parts (leb e.prefix.length e.max) (leb e.max (width e.prefix.family)) h in
    record { same = refl; is_prefix = (e.prefix.length_fits, first_below e.prefix, e.prefix.aligned); long = leb-true e.prefix.length e.max both.0; fits = leb-true e.max (width e.prefix.family) both.1 }

range_is : (f : Family) (e : Entry) → IsEntry f (numbers e) → is_in_range e ≡ true
range_is f e h = and_from (leb e.prefix.length e.max) (leb e.max (width e.prefix.family)) (le-leb e.prefix.length e.max h.long) (rw h.same (le-leb e.max (width f) h.fits))

-- ---- the entries of each family

take_four : (e : Entry) (es : List Entry) → e.prefix.family ≡ V4 → (of_family V4 (e ∷ es) ≡ e ∷ of_family V4 es) × (of_family V6 (e ∷ es) ≡ of_family V6 es)
take_four e es h = (ap (λ (b : Bool). cond b (e ∷ of_family V4 es) (of_family V4 es)) (ap (λ (f : Family). family_eq V4 f) h), ap (λ (b : Bool). cond b (e ∷ of_family V6 es) (of_family V6 es)) (ap (λ (f : Family). family_eq V6 f) h))

take_six : (e : Entry) (es : List Entry) → e.prefix.family ≡ V6 → (of_family V4 (e ∷ es) ≡ of_family V4 es) × (of_family V6 (e ∷ es) ≡ e ∷ of_family V6 es)
take_six e es h = (ap (λ (b : Bool). cond b (e ∷ of_family V4 es) (of_family V4 es)) (ap (λ (f : Family). family_eq V4 f) h), ap (λ (b : Bool). cond b (e ∷ of_family V6 es) (of_family V6 es)) (ap (λ (f : Family). family_eq V6 f) h))

record AreSplit (es : List Entry) : Type 0 where
  four_are : AllByRecursion (IsEntry V4) (map numbers (of_family V4 es))
  six_are : AllByRecursion (IsEntry V6) (map numbers (of_family V6 es))
  count : length (map numbers (of_family V4 es)) + length (map numbers (of_family V6 es)) ≡ length es

are_split : (es : List Entry) → list_all is_in_range es ≡ true → AreSplit es
are_split [] all = record { four_are = tt; six_are = tt; count = refl }
are_split (e ∷ es) all =
    let both = and_parts (is_in_range e) (list_all is_in_range es) all in
    let rest = are_split es both.1 in
    let one = entry_is e both.0 in
    elim (cases_family e.prefix.family) [
      | inl four ↦
          let t = take_four e es four in
          let is : IsEntry V4 (numbers e) = subst (λ (f : Family). IsEntry f (numbers e)) four one in
          record { four_are = rw t.0 (is, rest.four_are); six_are = rw t.1 rest.six_are; count = rw (t.0, t.1) (omega (arith, rest.count)) }
      | inr six ↦
          let t = take_six e es six in
          let is : IsEntry V6 (numbers e) = subst (λ (f : Family). IsEntry f (numbers e)) six one in
          record { four_are = rw t.0 rest.four_are; six_are = rw t.1 (is, rest.six_are); count = rw (t.0, t.1) (omega (arith, rest.count)) }
    ]

pub are_blocks : (es : List Entry) → AreCanonical es → AreBlocks (map numbers (of_family V4 es)) (map numbers (of_family V6 es))
are_blocks es is =
    let split = are_split es is.in_range in
    record { four_are = split.four_are; six_are = split.six_are; few = omega (arith, split.count, is.count.few) }

Rises-tail : (e : Entry) (es : List Entry) → Rises (e ∷ es) → Rises es
Rises-tail e [] h = tt
Rises-tail e (f ∷ es) h = h.1

-- behind an entry of IPv6 there is none of IPv4
stays_six : (e f : Entry) → entry_order e f ≡ Less → e.prefix.family ≡ V6 → f.prefix.family ≡ V6
stays_six e f h six =
    elim (cases_family f.prefix.family) [
      | inr same ↦ same
      | inl four ↦ let h' = rw (six, four) at h in absurd cc
    ]

all_six : (e : Entry) (es : List Entry) → Rises (e ∷ es) → e.prefix.family ≡ V6 → (of_family V4 (e ∷ es) ≡ []) × (of_family V6 (e ∷ es) ≡ e ∷ es)
all_six e [] h six = take_six e [] six
all_six e (f ∷ es) h six =
    let rest = all_six f es h.1 (stays_six e f h.0 six) in
    let t = take_six e (f ∷ es) six in
    (t.0 ∙ rest.0, t.1 ∙ ap (λ (xs : List Entry). e ∷ xs) rest.1)

pub families_joined : (es : List Entry) → Rises es → of_family V4 es ++ of_family V6 es ≡ es
families_joined [] h = refl
families_joined (e ∷ es) h =
    elim (cases_family e.prefix.family) [
      | inl four ↦ let t = take_four e es four in rw (t.0, t.1) (ap (λ (xs : List Entry). e ∷ xs) (families_joined es (Rises-tail e es h)))
      | inr six ↦ let a = all_six e es h six in rw (a.0, a.1) refl
    ]

-- ---- the octets by the numbers alone

flat_map-numbers : (es : List Entry) → flat_map entry_octets es ≡ flat_map numbers_octets (map numbers es)
flat_map-numbers [] = refl
flat_map-numbers (e ∷ es) =
    flat_map-cons entry_octets e es ∙ ap (λ (x : List ℕ). entry_octets e ++ x) (flat_map-numbers es) ∙ sym (flat_map-cons numbers_octets (numbers e) (map numbers es))

block-numbers : (f : Family) (es : List Entry) → roa_ip_address_family f es ≡ block_octets f (map numbers es)
block-numbers f [] = refl
block-numbers f (e ∷ es) = ap (λ (x : List ℕ). sequence (octet_string (family_octets f) ++ sequence x)) (flat_map-numbers (e ∷ es))

pub content_octets-numbers : (content : RouteOriginAttestation) → content_octets content ≡ spelled content.asn.0 (map numbers (of_family V4 content.entries)) (map numbers (of_family V6 content.entries))
unfolding content_octets
content_octets-numbers content =
    ap (λ (x : List ℕ). sequence (integer content.asn.0 ++ sequence (x ++ roa_ip_address_family V6 (of_family V6 content.entries)))) (block-numbers V4 (of_family V4 content.entries))
    ∙ ap (λ (x : List ℕ). sequence (integer content.asn.0 ++ sequence (block_octets V4 (map numbers (of_family V4 content.entries)) ++ x))) (block-numbers V6 (of_family V6 content.entries))

-- ---- what is written is read

abbrev pub content_numbers : RouteOriginAttestation → ℕ × List Numbers
content_numbers content = (content.asn.0, map numbers content.entries)

pub is_read : (content : RouteOriginAttestation) → IsContent content → content_of (content_octets content) ≡ Some (content_numbers content)
is_read content is =
    let all_of : map numbers (of_family V4 content.entries) ++ map numbers (of_family V6 content.entries) ≡ map numbers content.entries =
    sym (map-append numbers (of_family V4 content.entries) (of_family V6 content.entries)) ∙ ap (λ (es : List Entry). map numbers es) (families_joined content.entries is.entries.rising) in
    ap content_of (content_octets-numbers content)
    ∙ content_again content.asn.0 (map numbers (of_family V4 content.entries)) (map numbers (of_family V6 content.entries)) is.asn (are_blocks content.entries is.entries)
    ∙ ap (λ (ns : List Numbers). Some (content.asn.0, ns)) all_of

-- ---- what is read is written

record Splits (es : List Entry) (four six : List Numbers) : Type 0 where
  four_is : map numbers (of_family V4 es) ≡ four
  six_is : map numbers (of_family V6 es) ≡ six
  in_range : list_all is_in_range es ≡ true

splits_six : (es : List Entry) (six : List Numbers) → map numbers es ≡ six → AllByRecursion (IsEntry V6) six → Splits es [] six
splits_six [] [] e all = record { four_is = refl; six_is = refl; in_range = refl }
splits_six [] (n ∷ ns) e all = absurd cc
splits_six (x ∷ es) [] e all = absurd cc
splits_six (x ∷ es) (n ∷ ns) e all =
    let first : numbers x ≡ n = cc in
    let rest_is : map numbers es ≡ ns = cc in
    let rest = splits_six es ns rest_is all.1 in
    let is : IsEntry V6 (numbers x) = subst (λ (m : Numbers). IsEntry V6 m) (sym first) all.0 in
    let t = take_six x es is.same in
    record { four_is = ap (λ (xs : List Entry). map numbers xs) t.0 ∙ rest.four_is; six_is = ap (λ (xs : List Entry). map numbers xs) t.1 ∙ rw (first, rest.six_is) refl; in_range = and_from (is_in_range x) (list_all is_in_range es) (range_is V6 x is) rest.in_range }

splits : (es : List Entry) (four six : List Numbers) → map numbers es ≡ four ++ six → AllByRecursion (IsEntry V4) four → AllByRecursion (IsEntry V6) six → Splits es four six
splits es [] six e all_four all_six = splits_six es six e all_six
splits [] (n ∷ ns) six e all_four all_six = absurd cc
splits (x ∷ es) (n ∷ ns) six e all_four all_six =
    let first : numbers x ≡ n = cc in
    let rest_is : map numbers es ≡ ns ++ six = cc in
    let rest = splits es ns six rest_is all_four.1 all_six in
    let is : IsEntry V4 (numbers x) = subst (λ (m : Numbers). IsEntry V4 m) (sym first) all_four.0 in
    let t = take_four x es is.same in
    record { four_is = ap (λ (xs : List Entry). map numbers xs) t.0 ∙ rw (first, rest.four_is) refl; six_is = ap (λ (xs : List Entry). map numbers xs) t.1 ∙ rest.six_is; in_range = and_from (is_in_range x) (list_all is_in_range es) (range_is V4 x is) rest.in_range }

-- what the octets of a content say, except the order of its entries
pub record WasRead (content : RouteOriginAttestation) (octets : List ℕ) : Type 0 where
  pub octets_are : AreOctetsOf content octets
  pub in_range : list_all is_in_range content.entries ≡ true
  pub few : length content.entries ≤ 64

length-numbers : (es : List Entry) → length (map numbers es) ≡ length es
length-numbers [] = refl
length-numbers (e ∷ es) = ap suc (length-numbers es)

pub was_read : (content : RouteOriginAttestation) (octets : List ℕ) → AreOctets octets → content_of octets ≡ Some (content_numbers content) → WasRead content octets
was_read content octets are e =
    let r = content_only octets (content_numbers content) are e in
    let s = splits content.entries r.four r.six r.all_of r.are.four_are r.are.six_are in
    let written : octets ≡ content_octets content = r.parts ∙ sym (content_octets-numbers content
    ∙ ap (λ (ns : List Numbers). spelled content.asn.0 ns (map numbers (of_family V6 content.entries))) s.four_is
    ∙ ap (λ (ns : List Numbers). spelled content.asn.0 r.four ns) s.six_is) in
    record { octets_are = written; in_range = s.in_range; few = omega (arith, length-numbers content.entries, ap length r.all_of, length-append r.four r.six, r.are.few) }

-- ---- contents with the same numbers

same_entries : (xs ys : List Entry) → map numbers xs ≡ map numbers ys → xs ≡ ys
same_entries [] [] e = refl
same_entries [] (y ∷ ys) e = absurd cc
same_entries (x ∷ xs) [] e = absurd cc
same_entries (x ∷ xs) (y ∷ ys) e =
    let first : numbers x ≡ numbers y = cc in
    let rest : map numbers xs ≡ map numbers ys = cc in
    let head : x ≡ y = same_entry x y first in
    let tail : xs ≡ ys = same_entries xs ys rest in
    cc

abbrev asn_made : ℕ → Asn
asn_made n = record { 0 = n }

abbrev pub content_made : Asn → List Entry → RouteOriginAttestation
content_made asn entries = record { asn = asn; entries = entries }

pub same_content : (a b : RouteOriginAttestation) → Some (content_numbers a) ≡ Some (content_numbers b) → a ≡ b
same_content a b e =
    let both = some_pair_parts a.asn.0 b.asn.0 (map numbers a.entries) (map numbers b.entries) e in
    ap (λ (n : ℕ). content_made (asn_made n) a.entries) both.0 ∙ ap (λ (es : List Entry). content_made b.asn es) (same_entries a.entries b.entries both.1)

-- the content that the octets are read as is the only one that they are the octets of
pub is_only : (a b : RouteOriginAttestation) (octets : List ℕ) → content_of octets ≡ Some (content_numbers a) → IsContent b → AreOctetsOf b octets → a ≡ b
is_only a b octets e is encodes = same_content a b (sym e ∙ ap content_of encodes ∙ is_read b is)

pub is_none : (content : RouteOriginAttestation) (octets : List ℕ) → content_of octets ≡ None → IsContent content → AreOctetsOf content octets → ⊥
is_none content octets e is encodes = none-some (content_numbers content) (sym e ∙ ap content_of encodes ∙ is_read content is)

-- ---- no spelling begins another

-- the contents of the outermost SEQUENCE
abbrev fields : RouteOriginAttestation → List ℕ
fields content = integer content.asn.0 ++ sequence (roa_ip_address_family V4 (of_family V4 content.entries) ++ roa_ip_address_family V6 (of_family V6 content.entries))

fields_short : (content : RouteOriginAttestation) → IsContent content → length (fields content) < 65536
fields_short content is =
    rw (block-numbers V4 (of_family V4 content.entries), block-numbers V6 (of_family V6 content.entries))
    (length-fields content.asn.0 (map numbers (of_family V4 content.entries)) (map numbers (of_family V6 content.entries)) (are_blocks content.entries is.entries))

pub is_prefix_free : (a b : RouteOriginAttestation) (s t x y : List ℕ) → IsContent a → IsContent b → AreOctetsOf a s → AreOctetsOf b t → s ++ x ≡ t ++ y → (a ≡ b) × (s ≡ t) × (x ≡ y)
unfolding content_octets
is_prefix_free a b s t x y is_a is_b of_a of_b e =
    let joined : content_octets a ++ x ≡ content_octets b ++ y = ap (λ (o : List ℕ). o ++ x) (sym of_a) ∙ e ∙ ap (λ (o : List ℕ). o ++ y) of_b in
    let read : Some (fields a, x) ≡ Some (fields b, y) = sym (element_again 48 (fields a) x (fields_short a is_a)) ∙ ap (element_at 48) joined ∙ element_again 48 (fields b) y (fields_short b is_b) in
    let both = some_pair_parts (fields a) (fields b) x y read in
    let octets : content_octets a ≡ content_octets b = ap sequence both.0 in
    let content : a ≡ b = same_content a b (sym (is_read a is_a) ∙ ap content_of octets ∙ is_read b is_b) in
    (content, of_a ∙ octets ∙ sym of_b, both.1)
