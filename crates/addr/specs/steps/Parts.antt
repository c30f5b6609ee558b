-- What is left of a run where another is taken out of it.
use Rattle.std.specs.Prelude.{◌≡◌, ◌≤◌, ◌<◌, Bool, true, false, ◌&&◌, not, nat_lt, List, ◌++◌, Option, Some, None}
use Rattle.std.specs.List.{list_all}
use Rattle.addr.specs.Family.{family_eq}
use Rattle.addr.specs.Address.{Address}
use Rattle.addr.specs.Spans.{span_has, spans_have, is_apart_below, AreMaximal}
use Rattle.addr.specs.declared.span.Span.{Span}

-- the run lies within another
pub record IsWithin (part whole : Span) : Type 0 where
  pub family : part.family ≡ whole.family
  pub starts : whole.lo ≤ part.lo
  pub ends : part.hi ≤ whole.hi

-- the address lies in the part, if there is one
abbrev pub part_has : Option Span → Address → Bool
part_has None a = false
part_has (Some part) a = span_has part a

-- the address lies after the run, in its family
abbrev pub is_after : Address → Span → Bool
is_after a s = family_eq a.family s.family && nat_lt s.hi a.number

-- the part lies within the whole, and ends before the other run of its family
abbrev pub EndsBefore : Span → Span → Span → Type 0
EndsBefore whole other part = IsWithin part whole × (family_eq whole.family other.family ≡ true → part.hi < other.lo)

-- the part lies within the whole, and starts after the other run of its family
abbrev pub StartsAfter : Span → Span → Span → Type 0
StartsAfter whole other part = IsWithin part whole × (family_eq whole.family other.family ≡ true) × (other.hi < part.lo)

-- the parts are maximal runs within the whole, and have its addresses that the other has not
pub record AreParts (whole other : Span) (parts : List Span) : Type 0 where
  pub above : (s : Span) → is_apart_below s whole ≡ true → list_all (λ part. is_apart_below s part) parts ≡ true
  pub below : (s : Span) → is_apart_below whole s ≡ true → list_all (λ part. is_apart_below part s) parts ≡ true
  pub maximal : AreMaximal parts
  pub same : (a : Address) → spans_have parts a ≡ (span_has whole a && not (span_has other a))

-- the parts are appended to the list
abbrev pub AppendsParts : Span → Span → List Span → List Span → Type 0
AppendsParts whole other old new = (parts : List Span) × (new ≡ old ++ parts) × AreParts whole other parts
