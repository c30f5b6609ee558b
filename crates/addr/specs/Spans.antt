-- Address space as closed runs of addresses. A list of runs is seen as the set of its addresses; it is
-- maximal where the runs rise and at least one address that is not in the set lies between any two.
use Rattle.std.specs.Prelude.{◌≡◌, ◌+◌, ◌^◌, ◌<◌, ◌≤◌, ◌==◌, Bool, true, ◌&&◌, ◌||◌, not, nat_lt, List, [], ◌∷◌, filter}
use Rattle.std.specs.Coded.{le_prop}
use Rattle.std.specs.List.{list_any, list_all}
use Rattle.std.specs.Ordering.{is_lt}
use mathlib.Core.HLevel.{is_prop→PathP}
use Rattle.addr.specs.Family.{width, family_eq}
use Rattle.addr.specs.Address.{Address, is_between, has_address, interval_contains, interval_overlaps}
use Rattle.addr.specs.Order.{family_cmp}
use Rattle.addr.specs.declared.family.Family.{Family}
use Rattle.addr.specs.declared.prefix.Prefix.{Prefix}
use Rattle.addr.specs.declared.span.Span.{Span}

-- the address lies in the run
abbrev pub span_has : Span → Address → Bool
span_has s a = is_between s.family s.lo s.hi a

-- the address lies in one of the runs
abbrev pub spans_have : List Span → Address → Bool
spans_have spans a = list_any (λ s. span_has s a) spans

-- the new runs have the addresses of the old ones and those added
abbrev pub AddsAddresses : List Span → List Span → (Address → Bool) → Type 0
AddsAddresses old new added = (a : Address) → spans_have new a ≡ (spans_have old a || added a)

-- the new runs have the addresses of the old ones, except those taken
abbrev pub TakesAddresses : List Span → List Span → (Address → Bool) → Type 0
TakesAddresses old new taken = (a : Address) → spans_have new a ≡ (spans_have old a && not (taken a))

-- the family comes before the other
abbrev pub family_lt : Family → Family → Bool
family_lt f g = is_lt (family_cmp f g)

-- s ends before t starts, and an address lies between them; or the family of s comes first
abbrev pub is_apart_below : Span → Span → Bool
is_apart_below s t = family_lt s.family t.family || (family_eq s.family t.family && nat_lt (s.hi + 1) t.lo)

-- s ends before the prefix starts, or the family of s comes first
abbrev pub is_before : Span → Prefix → Bool
is_before s p = family_lt s.family p.family || (family_eq s.family p.family && nat_lt s.hi p.first)

-- each run is apart below every later one
abbrev pub AreMaximal : List Span → Type 0
AreMaximal [] = Unit {0}
AreMaximal (s ∷ rest) = (list_all (λ t. is_apart_below s t) rest ≡ true) × AreMaximal rest

-- one of the two runs is apart below the other
abbrev pub is_apart : Span → Span → Bool
is_apart s t = is_apart_below s t || is_apart_below t s

-- any two of the runs are apart, in whatever order they are
abbrev pub AreApart : List Span → Type 0
AreApart [] = Unit {0}
AreApart (s ∷ rest) = (list_all (is_apart s) rest ≡ true) × AreApart rest

-- one family, one first and one last address
abbrev pub span_eq : Span → Span → Bool
span_eq s t = family_eq s.family t.family && ((s.lo == t.lo) && (s.hi == t.hi))

-- the run is one of these
abbrev pub is_one_of : List Span → Span → Bool
is_one_of runs s = list_any (span_eq s) runs

-- the runs that are none of the others
abbrev pub without_runs : List Span → List Span → List Span
without_runs others runs = filter (λ s. not (is_one_of others s)) runs

-- the prefix lies in the run
abbrev pub span_covers : Span → Prefix → Bool
span_covers s p = interval_contains s.family s.lo s.hi p

-- the prefix shares an address with the run
abbrev pub span_meets : Span → Prefix → Bool
span_meets s p = interval_overlaps s.family s.lo s.hi p

-- every address of the prefix lies in one of the runs
abbrev pub HaveAll : List Span → Prefix → Type 0
HaveAll spans p = (a : Address) → has_address p a ≡ true → spans_have spans a ≡ true

-- some address of the prefix lies in one of the runs
abbrev pub HaveSome : List Span → Prefix → Type 0
HaveSome spans p = (a : Address) × (has_address p a ≡ true) × (spans_have spans a ≡ true)

-- runs of one family, first and last address are equal
pub same_span : (s t : Span) → s.family ≡ t.family → s.lo ≡ t.lo → s.hi ≡ t.hi → s ≡ t
same_span s t family lo hi = λ i. record {
  family = family i;
  lo = lo i;
  hi = hi i;
  ordered = is_prop→PathP (λ j. lo j ≤ hi j) (λ j. le_prop) s.ordered t.ordered i;
  in_family = is_prop→PathP (λ j. hi j < 2 ^ width (family j)) (λ j. le_prop) s.in_family t.in_family i;
}
