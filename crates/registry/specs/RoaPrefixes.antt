-- Lists of entries of an authorization, each a prefix with its maxLength (RFC 9582 section 4.3.2).
-- An authorization has each of its prefixes in one entry, in the order of prefixes.
use Rattle.std.specs.Prelude.{◌≡◌, ℕ, ◌≤◌, Bool, List, [], ◌∷◌, length}
use Rattle.std.specs.declared.cmp.Ordering.TheVariants.{Less}
use Rattle.addr.specs.Address.{prefix_eq}
use Rattle.addr.specs.Order.{prefix_cmp}
use Rattle.registry.specs.Repeats.{has_repeat}
use Rattle.addr.specs.declared.roa_prefix.RoaPrefix.{RoaPrefix}
use Rattle.registry.specs.declared.roa_prefixes.TheConstants.{MOST_ENTRIES}

-- at least one, and no more than an authorization may have
abbrev pub AreInNumber : List RoaPrefix → Type 0
AreInNumber es = (1 ≤ length es) × (length es ≤ MOST_ENTRIES)

-- both entries have one prefix, whatever their maxLengths are
abbrev pub have_one_prefix : RoaPrefix → RoaPrefix → Bool
have_one_prefix d e = prefix_eq d.prefix e.prefix

-- some prefix is that of two entries
abbrev pub repeats_prefix : List RoaPrefix → Bool
repeats_prefix es = has_repeat have_one_prefix es

-- the prefix of each entry is before that of the next one, by family, first address and length
abbrev pub Rise : List RoaPrefix → Type 0
Rise [] = Unit {0}
Rise (d ∷ []) = Unit {0}
Rise (d ∷ e ∷ es) = (prefix_cmp d.prefix e.prefix ≡ Less) × Rise (e ∷ es)

-- the entries of an authorization
pub record AreEntries (es : List RoaPrefix) : Type 0 where
  pub number : AreInNumber es
  pub rising : Rise es

-- the entries with these maxLengths, one an entry in order; where one list ends, the entries stay
abbrev pub with_maxes : List ℕ → List RoaPrefix → List RoaPrefix
with_maxes ms [] = []
with_maxes [] (e ∷ es) = e ∷ es
with_maxes (m ∷ ms) (e ∷ es) = record e { max = m } ∷ with_maxes ms es
